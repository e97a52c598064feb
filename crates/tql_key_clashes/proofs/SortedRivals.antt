-- The rows that can clash in a key, sorted.
use Rattle.std.proofs.Common.{◌≡◌, refl, sym, ap, ◌∙◌, Bool, true, false, cond, List, [], ◌∷◌, map, filter}
use Rattle.std.specs.Prelude.{not, ◌||◌, Option, Some, None, option_map, is_some}
use Rattle.std.specs.List.{list_all}
use Rattle.std.specs.List.Sorted.{IsSorted}
use Rattle.tql_spec.specs.Bag.{SameBag}
use Rattle.tql_spec.specs.Datum.{Row}
use Rattle.tql_spec.specs.Definition.{TableDef, Key}
use Rattle.tql_spec.specs.Period.{Period, rises, where_rising}
use Rattle.tql_spec.specs.Constraint.{key_holds, clash}
use Rattle.tql_spec.specs.Query.{by_columns}
use Rattle.tql_spec.proofs.Members.{by_bool}
use Rattle.tql_spec.proofs.Orders.{by_columns-total, sorted_ascends}
use Rattle.tql_period.specs.Points.{points_of}
use Rattle.tql_period.specs.declared.period.Period as code
use Rattle.tql_key_rows.specs.Ranks.{rank}
use Rattle.tql_key_clashes.specs.Rivals.{can_clash, all_neighbours}
use Rattle.tql_key_rows.proofs.Sharing.{not_risen}
use Rattle.tql_key_rows.proofs.Wheres.{all_bag}
use Rattle.tql_key_clashes.proofs.Neighbours.{neighbours_decide, rivals_decide, all_filtered}
use Rattle.tql_key_clashes.proofs.KeyBags.{key_by_bag}

-- a period is Some exactly if it is not empty
pub rises_where_some : (x : Period) (o : Option code.Period) (b r : Bool) → option_map points_of o ≡ where_rising x
    → r ≡ is_some o → b ≡ true → r ≡ not b || rises x
rises_where_some x o b r e f g = f ∙ there o e ∙ sym (ap (λ c. not c || rises x) g)
  where
    there : (p : Option code.Period) → option_map points_of p ≡ where_rising x → is_some p ≡ rises x
    there None h = sym (not_risen x h)
    there (Some y) h = by_bool (rises x) (λ i. sym i)
        (λ i. let n : where_rising x ≡ None = rw i refl in absurd (cc))

-- filtering a mapped list
pub map_where : {A B : Type 0} (s : A → B) (q : B → Bool) (xs : List A)
    → map s (filter (λ x. q (s x)) xs) ≡ filter q (map s xs)
map_where s q [] = refl
map_where s q (x ∷ xs) = kept (q (s x)) x (filter (λ y. q (s y)) xs)
    ∙ ap (λ ys. cond (q (s x)) (s x ∷ ys) ys) (map_where s q xs)
  where
    kept : (b : Bool) (y : _) (ys : List _) → map s (cond b (y ∷ ys) ys) ≡ cond b (s y ∷ map s ys) (map s ys)
    kept true y ys = refl
    kept false y ys = refl

-- the sorted rows that can clash decide by their neighbours whether the key holds
pub sorted_decide : (d : TableDef) (k : Key) (all rivals sorted : List Row)
    → IsSorted by_columns (map (rank d k.columns) sorted) → SameBag sorted rivals → rivals ≡ filter (can_clash d k) all
    → all_neighbours (λ r s. not (clash d k r s)) sorted ≡ key_holds d all k
sorted_decide d k all rivals sorted s b e =
    neighbours_decide d k sorted (sorted_ascends by_columns by_columns-total (map (rank d k.columns) sorted) s)
    (all_bag (can_clash d k) b ∙ ap (list_all (can_clash d k)) e ∙ all_filtered (can_clash d k) all)
    ∙ key_by_bag d b k ∙ ap (λ rs. key_holds d rs k) e ∙ rivals_decide d k all
