use Rattle.std.proofs.Common.{arith}
use Rattle.std.proofs.lemmas.Int.{ints, clamps}
use Rattle.tql_spec.specs.Period.{before, inside, after}
use Rattle.tql_period.specs.Points.{points_of}
use Rattle.tql_period.proofs.Parts.{IsPiece, piece_of, piece_is, before_is, inside_is, after_is}
use Rattle.tql_period.proofs.pieces.split.Goals as goal

the_before : (c : goal.After-new-3) → IsPiece c.new.result (before c.args.portion.start (points_of c.args.period))
the_before c = piece_of _ _ _ _ c.new.ensures.rising c.new.ensures.ends (omega (arith, ints))
    (omega (arith, ints, clamps, c.min.ensures.value))

the_inside : (c : goal.After-new-3)
    → IsPiece c.new-2.result (inside (points_of c.args.portion) (points_of c.args.period))
the_inside c = piece_of _ _ _ _ c.new-2.ensures.rising c.new-2.ensures.ends
    (omega (arith, ints, clamps, c.max.ensures.value)) (omega (arith, ints, clamps, c.min-2.ensures.value))

the_after : (c : goal.After-new-3) → IsPiece c.new-3.result (after c.args.portion.end (points_of c.args.period))
the_after c = piece_of _ _ _ _ c.new-3.ensures.rising c.new-3.ensures.ends
    (omega (arith, ints, clamps, c.max-2.ensures.value)) (omega (arith, ints))

pub returns-clause-before : goal.returns-clause-before
returns-clause-before c = before_is _ (points_of c.args.period) (points_of c.args.portion) (the_before c)

pub returns-clause-inside : goal.returns-clause-inside
returns-clause-inside c = inside_is _ (points_of c.args.period) (points_of c.args.portion) (the_inside c)

pub returns-clause-after : goal.returns-clause-after
returns-clause-after c = after_is _ (points_of c.args.period) (points_of c.args.portion) (the_after c)

pub returns-clause-before_ends : goal.returns-clause-before_ends
returns-clause-before_ends c = piece_is _ _ (the_before c)

pub returns-clause-inside_ends : goal.returns-clause-inside_ends
returns-clause-inside_ends c = piece_is _ _ (the_inside c)

pub returns-clause-after_ends : goal.returns-clause-after_ends
returns-clause-after_ends c = piece_is _ _ (the_after c)
