use Rattle.std.proofs.Common.{List, ℕ, [], ◌∷◌, sym, ap, ◌∙◌, ◌++◌, map, string_bytes, encode_utf8_all, append_assoc}
use Rattle.std.proofs.lemmas.Iterator.{YieldsList-from_chars, YieldsList-from_take}
use Rattle.std.proofs.lemmas.Iterator.Adapters.{YieldsList-from_skip}
use Rattle.std.proofs.lemmas.Iterator.Consumers.{YieldsList-end}
use Rattle.std.proofs.lemmas.List.{map-id}
use Rattle.tql_prompt.specs.Carets.{plain}
use Rattle.tql_prompt.proofs.Characters.{one_more}
use Rattle.tql_prompt.proofs.caret.push_characters.Goals as goal

pub loop-character-preserved : goal.loop-character-preserved
loop-character-preserved c =
    one_more (string_bytes c.args.lines.now) (string_bytes c.loop-character.lines) _ c.loop-character.yielded
    c.in-Some.character c.plain_character.result c.loop-character.invariant c.in_ok-push.ensures.bytes
    c.plain_character.ensures

pub returns : goal.returns
returns c =
    let t = YieldsList-end
    (YieldsList-from_take c.args.count
    (YieldsList-from_skip c.args.start (YieldsList-from_chars c.args.row.now c.utf8.row cc) cc) cc)
    c.loop-character.yielded _ c.loop-character.yielded_by _ _ c.in-None.is c.next.ensures.steps in
    c.loop-character.invariant
    ∙ ap (λ (l : List ℕ). string_bytes c.args.lines.now ++ encode_utf8_all (map plain l))
    (sym (map-id c.loop-character.yielded) ∙ t.0)
