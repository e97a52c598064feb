-- The keys and references of a table, and the new rows, by their index.
use Rattle.std.proofs.Common.{◌≡◌, ℕ, ℤ, Bool, true, List, map, sym, ap, subst, ◌∙◌}
use Rattle.std.specs.Prelude.{Option, Some, None, option_map, slice_get, IfSome}
use Rattle.std.specs.List.{list_all}
use Rattle.std.proofs.lemmas.Option.{slice_get-map, slice_get_within, get_or_from_slice_get}
use Rattle.tql_spec.specs.Datum.{Row}
use Rattle.tql_spec.specs.Definition.{TableDef, shown}
use Rattle.tql_store.specs.Changes.{starting}
use Rattle.tql_key_rows.specs.Asked.{new_rows}
use Rattle.tql_key_rows.proofs.Stepping.{new_row}
use Rattle.tql_key_clashes.proofs.Positions.{part_in}
use Rattle.tql_key_failures.specs.declared.failures.ReferenceFailure.{ReferenceFailure}

-- a test of all is a test of the one at an index
pub part_at : {A B : Type 0} (f : A → B) (P : B → Bool) (all : List B) (items : List A) → map f items ≡ all
    → (n : ℕ) (x : A) → slice_get items n ≡ Some x → list_all P all ≡ true → P (f x) ≡ true
part_at f P all items parts n x e h =
    part_in f P all items parts n x (slice_get_within items n x e) (sym (get_or_from_slice_get items n x x e)) h

-- the one at an index is one of all
pub named_at : {A B : Type 0} (f : A → B) (all : List B) (items : List A) → map f items ≡ all → (n : ℕ) (x : A)
    → slice_get items n ≡ Some x → slice_get all n ≡ Some (f x)
named_at f all items parts n x e =
    ap (λ xs. slice_get xs n) (sym parts) ∙ slice_get-map f items n ∙ ap (option_map f) e

-- an index has only one element
pub same_part : {A : Type 0} {o : Option A} {x y : A} → o ≡ Some x → o ≡ Some y → x ≡ y
same_part e k = cc

-- the new row at an index
pub new_at : (d : TableDef) (m : ℤ) (rows : List Row) (n : ℕ) (v : Row) → slice_get rows n ≡ Some v
    → slice_get (new_rows d m rows) n ≡ Some (new_row d m v)
new_at d m rows n v e =
    slice_get-map (shown d) (map (starting m) rows) n
    ∙ ap (option_map (shown d)) (slice_get-map (starting m) rows n ∙ ap (option_map (starting m)) e)

-- a property of two indexes is a property of a failure that has them
pub failure_is : (r : Option ReferenceFailure) (u n : ℕ) (P : ℕ → ℕ → Type 0) → IfSome r (λ f. f.child ≡ u)
    → IfSome r (λ f. f.reference ≡ n) → P u n → IfSome r (λ f. P f.child f.reference)
failure_is None u n P h k p = tt
failure_is (Some f) u n P h k p = subst (λ x. P x f.reference) (sym h) (subst (λ y. P u y) (sym k) p)
