use Rattle.std.proofs.Common.{ℕ, ◌++◌, length, refl, sym, ap, ◌∙◌, drop, List, arith}
use Rattle.std.proofs.lemmas.Iterator.{YieldsList-from_chars}
use Rattle.std.proofs.lemmas.Iterator.Consumers.{YieldsList-turn, YieldsList-end}
use Rattle.std.proofs.lemmas.List.{drop_all, length_push}
use Rattle.std.specs.List.{flat_map}
use Rattle.std.specs.Str.{chars}
use Rattle.tql_result.proofs.Joining.{flat_map_next}
use Rattle.tql_result.proofs.Pushing.{step, stop, pushed_whole, sent_all}
use Rattle.tql_result_box.specs.Box.{shown_character}
use Rattle.tql_result_box.proofs.shown.push_text.Goals as goal

pub returns-in_err-push_character : goal.returns-in_err-push_character
returns-in_err-push_character g c =
    let t = YieldsList-turn (YieldsList-from_chars c.args.text.now c.utf8.text cc) c.loop-character.yielded _
    c.loop-character.yielded_by _ _ c.in-Some.character c.in-Some.is c.next.ensures.steps in
    stop _ _ c.from_residual.ensures.0 c.loop-character.invariant
    (flat_map_next shown_character (chars c.args.text.now) (length c.loop-character.yielded) c.in-Some.character _ t.0
    t.1 refl)
    c.in_err-push_character.ensures

pub loop-character-preserved : goal.loop-character-preserved
loop-character-preserved g c =
    let t = YieldsList-turn (YieldsList-from_chars c.args.text.now c.utf8.text cc) c.loop-character.yielded _
    c.loop-character.yielded_by _ _ c.in-Some.character c.in-Some.is c.next.ensures.steps in
    step _ c.loop-character.invariant
    (flat_map_next shown_character (chars c.args.text.now) (length c.loop-character.yielded) c.in-Some.character
    (shown_character c.in-Some.character) t.0 t.1 refl
    ∙ ap (λ (k : ℕ). shown_character c.in-Some.character ++ flat_map shown_character (drop k (chars c.args.text.now)))
    (sym (length_push c.loop-character.yielded c.in-Some.character)))
    c.in_ok-push_character.ensures

pub returns : goal.returns
returns g c =
    let t = YieldsList-end (YieldsList-from_chars c.args.text.now c.utf8.text cc) c.loop-character.yielded _
    c.loop-character.yielded_by _ _ c.in-None.is c.next.ensures.steps in
    let all = drop_all (length c.loop-character.yielded) (chars c.args.text.now) (omega (arith, t.1)) in
    pushed_whole _ refl
    (sent_all _ (ap (λ (l : List ℕ). length (flat_map shown_character l)) all) c.loop-character.invariant)
