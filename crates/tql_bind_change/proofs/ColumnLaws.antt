-- The columns that an INSERT without a list fills, and faults that change nothing.
use Rattle.std.specs.Prelude.{◌≡◌, refl, ℕ, Bool, true, false, ◌==◌, nat_lt, ◌≤◌, List, [], ◌∷◌, map, length, Option}
use Rattle.std.specs.Prelude.{Some}
use Rattle.std.proofs.Common.{sym, arith, eqb-true}
use Rattle.std.proofs.lemmas.Bool.Decides.{nat_tests}
use Rattle.tql_spec.specs.Binding.{all_assignable, insert_columns}
use Rattle.tql_spec.specs.Definition as definition
use Rattle.tql_spec.specs.Refusal.{Refusal, place, fault_if}
use Rattle.tql_syntax_tree.specs.Expressions.{name_of}
use Rattle.tql_syntax_tree.specs.declared.expression.Name.{Name}
use Rattle.tql_bind_expr.specs.Gathered.{after, Gathers}
use Rattle.tql_bind_expr.proofs.Gathering.{after_nil}

pub all_filled : (d : definition.TableDef) (names : List Name) (numbers : List ℕ) (old : Option Refusal)
    → (length names == 0) ≡ true → numbers ≡ all_assignable d
    → Gathers (insert_columns d (map name_of names)) old old numbers
all_filled d [] numbers old none all = record { value = all; least = sym (after_nil old) }
all_filled d (n ∷ ns) numbers old none all = absurd (omega (arith, eqb-true (length (n ∷ ns)) 0 none))

-- a fault changes nothing if it is of the same kind as the first so far, or is reported after it
pub no_more : (x e : Refusal) (b : Bool) → place x ≤ place e → after (Some x) (fault_if b e) ≡ Some x
unfolding after
no_more x e false h = refl
no_more x e true h = rw (not_before (place x) (place e) h) refl
  where
    not_before : (m n : ℕ) → m ≤ n → nat_lt n m ≡ false
    not_before m n k = grind (arith, nat_tests)
