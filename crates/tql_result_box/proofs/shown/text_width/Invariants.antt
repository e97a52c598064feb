use Rattle.std.proofs.Common.{◌≡◌, ◌-◌, ◌^◌}
use Rattle.std.specs.Prelude.{min}
use Rattle.std.specs.List.{sum_by}
use Rattle.tql_result_box.specs.Box.{character_width}
use Rattle.tql_result_box.proofs.shown.text_width.Given as goal

abbrev pub invariant-loop-character : goal.invariant-loop-character
invariant-loop-character l = l.width ≡ min (sum_by character_width l.yielded) (2 ^ 64 - 1)
