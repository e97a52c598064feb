-- How a portion cuts a row's application period.
use Rattle.std.specs.Prelude.{◌≡◌, refl, Bool, true, false, is_some, List, [], ◌∷◌, ◌++◌, map, Option, option_map}
use Rattle.std.specs.Prelude.{Some, None, if◌then◌else◌}
use Rattle.std.proofs.Common.{sym, ap, ◌∙◌, append-nil}
use Rattle.tql_spec.specs.Datum.{Row}
use Rattle.tql_spec.specs.Definition.{TableDef, period_of}
use Rattle.tql_spec.specs.Period.{Period, rises, share_a_point, before, inside, after, if_any, where_rising}
use Rattle.tql_period.specs.Points.{points_of, points_of_piece}
use Rattle.tql_period.specs.declared.period.Period as code
use Rattle.tql_period.specs.declared.pieces.Pieces.{Pieces}
use Rattle.tql_dml.specs.Cutting.{reaches, within, left, IsCut, Cuts}

-- ---- no portion

map_whole : (d : TableDef) (rows : List Row) → map (within d None) rows ≡ rows
map_whole d [] = refl
map_whole d (row ∷ rows) = ap {B = List Row} (λ rs. row ∷ rs) (map_whole d rows)

-- the row is not cut
pub whole_cut : (d : TableDef) (row : Row)
    → Cuts d None row (Some (record { before = None; inside = None; after = None }))
whole_cut d row = record {
  reached = refl;
  replaced = λ made. sym (append-nil (map (within d None) made) ∙ map_whole d made);
}

-- ---- a portion

-- a period that rises is itself
rising_is : (x p : Period) → Some p ≡ where_rising x → p ≡ x
rising_is x p e = by_rises (rises x) e
  where
    by_rises : (b : Bool) → Some p ≡ (if b then Some x else None) → p ≡ x
    by_rises true e = cc
    by_rises false e = absurd (cc)

-- a missing part does not rise, and a part that is there does
none_of : (x : Period) → [] ≡ if_any x → rises x ≡ false
none_of x e = by_rises (rises x) refl e
  where
    by_rises : (b : Bool) → rises x ≡ b → [] ≡ (if b then x ∷ [] else []) → rises x ≡ false
    by_rises true r e = absurd (cc)
    by_rises false r e = r

one_of : (x y : Period) → y ∷ [] ≡ if_any x → (rises x ≡ true) × (y ≡ x)
one_of x y e = by_rises (rises x) refl e
  where
    by_rises : (b : Bool) → rises x ≡ b → y ∷ [] ≡ (if b then x ∷ [] else []) → (rises x ≡ true) × (y ≡ x)
    by_rises true r e = (r, cc)
    by_rises false r e = absurd (cc)

-- the period of a row as the code computes it
period_is : (d : TableDef) (row : Row) (o : Option code.Period) (p : code.Period) → o ≡ Some p
    → option_map points_of o ≡ where_rising (period_of d row) → points_of p ≡ period_of d row
period_is d row o p is e = rising_is (period_of d row) (points_of p) (sym (ap (option_map points_of) is) ∙ e)

-- no part lies within the portion
pub none_inside : (d : TableDef) (portion : Period) (row : Row) (o : Option code.Period) (p : code.Period)
    (part : Option code.Period) → o ≡ Some p
    → option_map points_of o ≡ where_rising (period_of d row)
    → points_of_piece part ≡ if_any (inside portion (points_of p)) → is_some part ≡ false
    → reaches d (Some portion) row ≡ false
none_inside d portion row o p (Some q) is e i none = absurd (cc)
none_inside d portion row o p None is e i none =
    ap (λ (x : Period). share_a_point x portion) (sym (period_is d row o p is e))
    ∙ none_of (inside portion (points_of p)) i

-- the parts of a row that is touched
pub some_inside : (d : TableDef) (portion : Period) (row : Row) (o : Option code.Period) (p : code.Period)
    (cut : Pieces) → o ≡ Some p
    → option_map points_of o ≡ where_rising (period_of d row)
    → points_of_piece cut.before ≡ if_any (before portion.start (points_of p))
    → points_of_piece cut.inside ≡ if_any (inside portion (points_of p))
    → points_of_piece cut.after ≡ if_any (after portion.end (points_of p)) → is_some cut.inside ≡ true
    → IsCut d (Some portion) row cut
some_inside d portion row o p cut is e b i a there = by_part cut.inside refl i there
  where
    x : Period
    x = period_of d row

    same : points_of p ≡ x
    same = period_is d row o p is e

    by_part : (part : Option code.Period) → cut.inside ≡ part
        → points_of_piece part ≡ if_any (inside portion (points_of p)) → is_some part ≡ true
        → IsCut d (Some portion) row cut
    by_part None k i there = absurd (cc)
    by_part (Some q) k i there =
        let one = one_of (inside portion (points_of p)) (points_of q) i in
        let within_is : option_map points_of cut.inside ≡ Some (inside portion x) =
        ap (option_map points_of) k ∙ ap {B = Option Period} (λ y. Some y) (one.1 ∙ ap (inside portion) same) in
        let before_is : points_of_piece cut.before ≡ if_any (before portion.start x) = b
        ∙ ap (λ y. if_any (before portion.start y)) same in
        let after_is : points_of_piece cut.after ≡ if_any (after portion.end x) = a
        ∙ ap (λ y. if_any (after portion.end y)) same in
        record {
          reached = ap (λ (y : Period). share_a_point y portion) (sym same) ∙ one.0;
          replaced = λ made. λ j.
              (left d row (sym before_is j) ++ map (within d (sym within_is j)) made) ++ left d row (sym after_is j);
        }
