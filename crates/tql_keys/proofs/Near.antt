-- Only the parents of a child row that share a point with it decide whether it is met.
use Rattle.std.proofs.Common.{◌≡◌, refl, sym, ap, ◌∙◌, Bool, true, false, List, [], ◌++◌, filter, arith}
use Rattle.std.specs.Prelude.{◌&&◌, ◌||◌, not, ℤ}
use Rattle.std.specs.List.{list_any}
use Rattle.std.proofs.lemmas.Int.{ints, clamps}
use Rattle.std.proofs.lemmas.List.{append-nil}
use Rattle.std.proofs.lemmas.List.Folds.{list_any-append}
use Rattle.tql_spec.specs.Constraint.{ReferenceTestIsRight, covered, held_at, is_met_by}
use Rattle.tql_spec.specs.Datum.{Row}
use Rattle.tql_spec.specs.Definition.{TableDef, period_of}
use Rattle.tql_spec.specs.Period.{Period, Holds, holds, share_a_point}
use Rattle.tql_key_rows.specs.Touched.{is_touched}
use Rattle.tql_key_rows.proofs.Bools.{and_yes, same_bool}
use Rattle.tql_keys.proofs.Covering.{covered_if, covered_says}
use Rattle.tql_keys.proofs.Passing.{any_kept}

-- two periods that hold a common point share it
pub share_if : (x y : Period) (p : ℤ) → holds y p ≡ true → Holds x p → share_a_point y x ≡ true
share_if x y p e h = grind (arith, ints, clamps, e, h.0, h.1)

-- in either order
share_turned : (x y : Period) → share_a_point x y ≡ share_a_point y x
share_turned x y = grind (arith, ints, clamps)

pub touched_turned : (c d : TableDef) (b : Bool) (r s : Row)
    → is_touched c b (period_of d s) r ≡ is_touched d b (period_of c r) s
touched_turned c d b r s = ap (λ q. not b || q) (share_turned (period_of c r) (period_of d s))

-- if only elements of a kind can pass a test, it can be restricted to these
any_near : {A : Type 0} (h s q : A → Bool) (xs : List A) → ((x : A) → q x ≡ true → s x ≡ true)
    → list_any q (filter (λ x. h x && s x) xs) ≡ list_any q (filter h xs)
any_near h s q xs k =
    sym (any_kept (λ x. h x && s x) q xs)
    ∙ ap (λ (p : _ → Bool). list_any p xs) (λ i x. (turned (h x) (s x) (q x) (k x)) i)
    ∙ any_kept h q xs
  where
    and_no : (a : Bool) → a && false ≡ false
    and_no true = refl
    and_no false = refl

    turned : (a b c : Bool) → (c ≡ true → b ≡ true) → (a && b) && c ≡ a && c
    turned false b c w = refl
    turned true b true w = ap (λ z. z && true) (w refl)
    turned true b false w = and_no b

-- a period is covered exactly if it is covered by the rows that share a point with it, and others
covered_near : ReferenceTestIsRight → (d : TableDef) (h : Row → Bool) (xs ys : List Row) (x : Period)
    → covered d (filter (λ s. h s && share_a_point (period_of d s) x) xs ++ ys) x ≡ covered d (filter h xs ++ ys) x
covered_near law d h xs ys x =
    same_bool (covered d near x) (covered d (filter h xs ++ ys) x)
    (λ e. covered_if law d (filter h xs ++ ys) x (λ p k. sym (held p k) ∙ covered_says law d near x e p k))
    (λ e. covered_if law d near x (λ p k. held p k ∙ covered_says law d (filter h xs ++ ys) x e p k))
  where
    near : List Row
    near = filter (λ s. h s && share_a_point (period_of d s) x) xs ++ ys

    held : (p : ℤ) → Holds x p → held_at d near p ≡ held_at d (filter h xs ++ ys) p
    held p k =
        list_any-append (λ s. holds (period_of d s) p) (filter (λ s. h s && share_a_point (period_of d s) x) xs) ys
        ∙ ap (λ b. b || list_any (λ s. holds (period_of d s) p) ys)
        (any_near h (λ s. share_a_point (period_of d s) x) (λ s. holds (period_of d s) p) xs
        (λ s e. share_if x (period_of d s) p e k))
        ∙ sym (list_any-append (λ s. holds (period_of d s) p) (filter h xs) ys)

-- a child row is met exactly if it is met by the rows that share a point with it, and others
pub met_near : ReferenceTestIsRight → (c d : TableDef) (h : Row → Bool) (xs ys : List Row) (r : Row) (b : Bool)
    → is_met_by c d b (filter (λ s. h s && is_touched d b (period_of c r) s) xs ++ ys) r
    ≡ is_met_by c d b (filter h xs ++ ys) r
met_near law c d h xs ys r true = covered_near law d h xs ys (period_of c r)
met_near law c d h xs ys r false =
    ap (λ (p : Row → Bool). list_any (λ s. true) (filter p xs ++ ys)) (λ i s. and_yes (h s) i)

pub met_near_all : ReferenceTestIsRight → (c d : TableDef) (h : Row → Bool) (xs : List Row) (r : Row) (b : Bool)
    → is_met_by c d b (filter (λ s. h s && is_touched d b (period_of c r) s) xs) r ≡ is_met_by c d b (filter h xs) r
met_near_all law c d h xs r b =
    ap (λ (ps : List Row). is_met_by c d b ps r)
    (sym (append-nil (filter (λ s. h s && is_touched d b (period_of c r) s) xs)))
    ∙ met_near law c d h xs [] r b
    ∙ ap (λ (ps : List Row). is_met_by c d b ps r) (append-nil (filter h xs))
