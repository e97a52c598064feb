use Rattle.std.proofs.Common.{◌-◌, ◌^◌, List, ℕ, sym, ap, ◌∙◌}
use Rattle.std.proofs.lemmas.Iterator.{YieldsList-from_chars}
use Rattle.std.proofs.lemmas.Iterator.Consumers.{YieldsList-end}
use Rattle.std.proofs.lemmas.List.{map-id}
use Rattle.std.specs.List.{sum_by}
use Rattle.std.specs.Prelude.{min}
use Rattle.tql_result_box.specs.Box.{character_width}
use Rattle.tql_result_box.proofs.shown.text_width.Goals as goal

pub returns : goal.returns
returns c =
    let t = YieldsList-end (YieldsList-from_chars c.args.text.now c.utf8.text cc) c.loop-character.yielded _
    c.loop-character.yielded_by _ _ c.in-None.is c.next.ensures.steps in
    c.loop-character.invariant
    ∙ ap (λ (l : List ℕ). min (sum_by character_width l) (2 ^ 64 - 1)) (sym (map-id c.loop-character.yielded) ∙ t.0)
