use Rattle.std.proofs.Common.{List, ℕ, sym, ap, ◌∙◌}
use Rattle.std.proofs.lemmas.Iterator.{YieldsList-from_chars, YieldsList-from_take}
use Rattle.std.proofs.lemmas.Iterator.Adapters.{YieldsList-from_skip}
use Rattle.std.proofs.lemmas.Iterator.Consumers.{YieldsList-end}
use Rattle.std.proofs.lemmas.List.{map-id}
use Rattle.tql_prompt.specs.Carets.{width_in}
use Rattle.tql_prompt.proofs.caret.columns_in.Goals as goal

pub returns : goal.returns
returns c =
    let t = YieldsList-end
    (YieldsList-from_take c.args.count
    (YieldsList-from_skip c.args.start (YieldsList-from_chars c.args.row.now c.utf8.row cc) cc) cc)
    c.loop-character.yielded _ c.loop-character.yielded_by _ _ c.in-None.is c.next.ensures.steps in
    c.loop-character.invariant ∙ ap (λ (l : List ℕ). width_in l) (sym (map-id c.loop-character.yielded) ∙ t.0)
