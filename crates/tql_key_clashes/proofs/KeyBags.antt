-- A key depends only on the bag of a table's rows.
use Rattle.std.proofs.Common.{◌≡◌, ap, ◌∙◌, List, arith}
use Rattle.std.specs.Prelude.{◌&&◌, ◌||◌, not}
use Rattle.std.proofs.lemmas.Int.{ints, clamps}
use Rattle.tql_spec.specs.Bag.{SameBag}
use Rattle.tql_spec.specs.Constraint.{key_holds, clash, match_on}
use Rattle.tql_spec.specs.Datum.{Row}
use Rattle.tql_spec.specs.Definition.{TableDef, Key, period_of}
use Rattle.tql_spec.specs.Period.{Period, share_a_point}
use Rattle.tql_spec.proofs.Bags.{same-sym}
use Rattle.tql_points.proofs.Pairs.{pairs_by_bag}
use Rattle.tql_key_rows.proofs.Bools.{same_bool}
use Rattle.tql_key_rows.proofs.Tuples.{match_sym}

share_turned : (x y : Period) → share_a_point x y ≡ share_a_point y x
share_turned x y = grind (arith, ints, clamps)

-- clashing is symmetric
pub clash_turned : (d : TableDef) (k : Key) (r s : Row) → clash d k r s ≡ clash d k s r
clash_turned d k r s =
    ap (λ b. b && (not k.by_period || share_a_point (period_of d r) (period_of d s)))
    (match_sym k.columns r k.columns s)
    ∙ ap (λ b. match_on k.columns s k.columns r && (not k.by_period || b))
    (share_turned (period_of d r) (period_of d s))

-- whether a key holds depends only on the bag of the rows
pub key_by_bag : (d : TableDef) {xs ys : List Row} → SameBag xs ys → (k : Key) → key_holds d xs k ≡ key_holds d ys k
key_by_bag d {xs} {ys} h k =
    same_bool (key_holds d xs k) (key_holds d ys k) (pairs_by_bag (clash d k) (clash_turned d k) xs ys h)
    (pairs_by_bag (clash d k) (clash_turned d k) ys xs (same-sym h))
