-- The numbers of names in a list.
use Rattle.std.specs.Prelude.{◌≡◌, refl, ℕ, suc, Bool, true, false, ◌||◌, ◌==◌, nat_lt, List, [], ◌∷◌, map, length}
use Rattle.std.specs.Prelude.{Option, Some, None, slice_index_or, if◌then◌else◌, ◌<◌}
use Rattle.std.proofs.Common.{ap, ◌∙◌, sym, arith, eqb-true}
use Rattle.std.proofs.lemmas.Bool.Decides.{nat_tests}
use Rattle.tql_spec.specs.Words.{same_text}
use Rattle.tql_spec.specs.Definition as definition
use Rattle.tql_spec.specs.Definition.{Name, next_place}
use Rattle.tql_spec.specs.Syntax.{ColumnTree}
use Rattle.tql_spec.specs.Creation.{number_in, has_name, has_number, column}
use Rattle.tql_spec.proofs.Constraints.{same_text-self, same_text-is}
use Rattle.tql_bind_draft.specs.Drafts.{names_in}

-- ---- a name that is found

next_some : (o : Option ℕ) (i : ℕ) → next_place o ≡ Some i → (j : ℕ) × ((o ≡ Some j) × (i ≡ suc j))
next_some None i e = cc
next_some (Some j) i e = (j, (refl, the_same j i e))
  where
    the_same : (j i : ℕ) → Some (suc j) ≡ Some i → i ≡ suc j
    the_same j i e = cc

first_place : (i : ℕ) → Some 0 ≡ Some i → i ≡ 0
first_place i e = cc

-- its number is within the list
pub within : (n : Name) (ms : List Name) (i : ℕ) → number_in n ms ≡ Some i → i < length ms
within n [] i e = cc
within n (m ∷ ms) i e = at (λ j. within n ms j) (same_text n m) e
  where
    at : ((j : ℕ) → number_in n ms ≡ Some j → j < length ms) → (b : Bool)
        → (if b then Some 0 else next_place (number_in n ms)) ≡ Some i → i < suc (length ms)
    at later true f = let k = first_place i f in omega (arith, k)
    at later false f =
        let k = next_some (number_in n ms) i f in
        let l = later k.0 k.1.0 in
        let e : i ≡ suc k.0 = k.1.1 in
        omega (arith, l, e)

-- the name is at its number
pub name_at : (n : Name) (ms : List Name) (i : ℕ) → number_in n ms ≡ Some i → n ≡ slice_index_or ms i []
name_at n [] i e = cc
name_at n (m ∷ ms) i e = at (λ j. name_at n ms j) (same_text n m) refl e
  where
    at : ((j : ℕ) → number_in n ms ≡ Some j → n ≡ slice_index_or ms j []) → (b : Bool) → same_text n m ≡ b
        → (if b then Some 0 else next_place (number_in n ms)) ≡ Some i → n ≡ slice_index_or (m ∷ ms) i []
    at later true p f = same_text-is n m p ∙ sym (ap (λ j. slice_index_or (m ∷ ms) j []) (first_place i f))
    at later false p f =
        let k = next_some (number_in n ms) i f in
        later k.0 k.1.0 ∙ sym (ap (λ j. slice_index_or (m ∷ ms) j []) k.1.1)

never : true ≡ false → ⊥
never e = cc

-- two names that differ have two numbers
pub apart : (n m : Name) (ms : List Name) (i j : ℕ) → number_in n ms ≡ Some i → number_in m ms ≡ Some j
    → same_text n m ≡ false → (i == j) ≡ false
apart n m ms i j e f h = cases (i == j) refl
  where
    cases : (b : Bool) → (i == j) ≡ b → (i == j) ≡ false
    cases true p =
        let same : n ≡ m = name_at n ms i e ∙ ap (λ k. slice_index_or ms k []) (eqb-true i j p)
        ∙ sym (name_at m ms j f) in
        absurd (never (sym (same_text-self n) ∙ ap (same_text n) same ∙ h))
    cases false p = p

-- two numbers differ if only one is in the list
pub other_number : (i k : ℕ) (is : List ℕ) → has_number i is ≡ false → has_number k is ≡ true → (i == k) ≡ false
other_number i k is out inside = cases (i == k) refl
  where
    cases : (b : Bool) → (i == k) ≡ b → (i == k) ≡ false
    cases true p = absurd (never (sym inside ∙ ap (λ j. has_number j is) (sym (eqb-true i k p)) ∙ out))
    cases false p = p

-- ---- the column of a name

or_true : (b : Bool) → b || true ≡ true
or_true true = refl
or_true false = refl

-- the column takes no null if its name is among the implied ones
pub required_at : (implied : List Name) (n : Name) (cs : List ColumnTree) (i : ℕ)
    → number_in n (names_in cs) ≡ Some i → has_name n implied ≡ true
    → slice_index_or (map (λ (c : definition.Column). c.required) (map (column implied) cs)) i false ≡ true
required_at implied n [] i e h = cc
required_at implied n (c ∷ cs) i e h = at (λ j f. required_at implied n cs j f h) (same_text n c.name) refl e
  where
    all : List Bool
    all = map (λ (k : definition.Column). k.required) (map (column implied) (c ∷ cs))

    at : ((j : ℕ) → number_in n (names_in cs) ≡ Some j
        → slice_index_or (map (λ (k : definition.Column). k.required) (map (column implied) cs)) j false ≡ true)
        → (b : Bool) → same_text n c.name ≡ b
        → (if b then Some 0 else next_place (number_in n (names_in cs))) ≡ Some i → slice_index_or all i false ≡ true
    at later true p f =
        ap (λ j. slice_index_or all j false) (first_place i f)
        ∙ ap (λ (b : Bool). c.required || b) (ap (λ (m : Name). has_name m implied) (sym (same_text-is n c.name p))
        ∙ h) ∙ or_true c.required
    at later false p f =
        let k = next_some (number_in n (names_in cs)) i f in
        ap (λ j. slice_index_or all j false) k.1.1 ∙ later k.0 k.1.0

pub there : (n width count : ℕ) → n < count → width ≡ count → nat_lt n width ≡ true
there n width count h e = grind (arith, nat_tests)
