-- The faults of a period of two columns, collected part by part, and faults that change nothing.
use Rattle.std.specs.Prelude.{◌≡◌, refl, ℕ, Bool, true, false, nat_lt, ◌≤◌, List, Some, Option}
use Rattle.std.proofs.Common.{arith}
use Rattle.std.proofs.lemmas.Bool.Decides.{nat_tests}
use Rattle.tql_spec.specs.Refusal as spec
use Rattle.tql_spec.specs.Refusal.{TypesDoNotFit, FormNotAllowedHere, place, fault_if}
use Rattle.tql_spec.specs.Definition.{Name}
use Rattle.tql_spec.specs.Names.{Checked, ◌>>=◌, sound, refuse_if}
use Rattle.tql_spec.specs.Creation.{column_number}
use Rattle.tql_bind_expr.specs.Gathered.{after, Gathers}
use Rattle.tql_bind_expr.proofs.Gathering.{bound, sound_here, unless_asked}

-- the value of two columns, by their numbers, with the faults of their kinds and of their form
abbrev pub of_columns : {B : Type 0} → List Name → Name → Name → (ℕ → ℕ → Bool) → (ℕ → ℕ → Bool) → (ℕ → ℕ → B)
    → Checked B
of_columns names n m misfit wrong value = do
  s ← column_number names n
  e ← column_number names m
  u ← refuse_if (misfit s e) TypesDoNotFit
  v ← refuse_if (wrong s e) FormNotAllowedHere
  sound (value s e)

pub columns_gathered : {B : Type 0} (names : List Name) (n m : Name) (misfit wrong : ℕ → ℕ → Bool) (value : ℕ → ℕ
    → B) (old m1 m2 m3 new : Option spec.Refusal) (s e : ℕ) (a b : Bool)
    → Gathers (column_number names n) old m1 s → Gathers (column_number names m) m1 m2 e
    → a ≡ misfit s e → Gathers (refuse_if a TypesDoNotFit) m2 m3 tt → b ≡ wrong s e
    → Gathers (refuse_if b FormNotAllowedHere) m3 new tt
    → Gathers (of_columns names n m misfit wrong value) old new (value s e)
columns_gathered {B} names n m misfit wrong value old m1 m2 m3 new s e a b start end is_misfit misfits is_wrong wrongs =
    let last : Checked B = sound (value s e) in
    let formed : Checked B = refuse_if (wrong s e) FormNotAllowedHere >>= λ v. last in
    let fourth : Gathers formed m3 new (value s e) =
    bound (refuse_if (wrong s e) FormNotAllowedHere) (λ v. last) m3 new new tt (value s e)
    (unless_asked b (wrong s e) FormNotAllowedHere tt m3 new is_wrong wrongs) (sound_here (value s e) new) in
    let third = bound (refuse_if (misfit s e) TypesDoNotFit) (λ u. formed) m2 m3 new tt (value s e)
    (unless_asked a (misfit s e) TypesDoNotFit tt m2 m3 is_misfit misfits) fourth in
    let second = bound (column_number names m)
    (λ j. refuse_if (misfit s j) TypesDoNotFit >>= λ u. refuse_if (wrong s j) FormNotAllowedHere >>= λ v. sound
    (value s j))
    m1 m2 new e (value s e) end third in
    bound (column_number names n)
    (λ i. column_number names m >>= λ j. refuse_if (misfit i j) TypesDoNotFit >>= λ u. refuse_if (wrong i j)
    FormNotAllowedHere >>= λ v. sound (value i j))
    old m1 new s (value s e) start second

-- a fault changes nothing if it is of the same kind as the first so far, or is reported after it
pub no_more : (x e : spec.Refusal) (b : Bool) → place x ≤ place e → after (Some x) (fault_if b e) ≡ Some x
unfolding after
no_more x e false h = refl
no_more x e true h = rw (not_before (place x) (place e) h) refl
  where
    not_before : (m n : ℕ) → m ≤ n → nat_lt n m ≡ false
    not_before m n k = grind (arith, nat_tests)
