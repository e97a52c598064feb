-- The first fault depends only on the bag of faults.
use Rattle.std.proofs.Common.{◌≡◌, ◌≤◌, ◌<◌, ℕ, Bool, true, false, cond, List, [], ◌∷◌, refl, sym, ap, subst, ◌∙◌}
use Rattle.std.proofs.Common.{arith, inl, inr}
use Rattle.std.specs.Prelude.{nat_lt, Option, Some, None, slice_get, if◌then◌else◌}
use Rattle.std.specs.List.{sum_by}
use Rattle.std.proofs.lemmas.Bool.Decides.{nat_tests}
use Rattle.tql_spec.specs.Bag.{SameBag, In}
use Rattle.tql_spec.specs.Refusal.{Refusal, StatementTooLong, NotUtf8, UnfinishedStatement, NestedTooDeep}
use Rattle.tql_spec.specs.Refusal.{NotAStatement, TooManyColumnsOrTables, NotInThisTransactionState, MomentNotAllowed}
use Rattle.tql_spec.specs.Refusal.{ReadersAreOpen, TableUnknownOrAlreadyThere, NameUnknownAmbiguousOrRepeated}
use Rattle.tql_spec.specs.Refusal.{TypesDoNotFit, FormNotAllowedHere, TableIsReferenced, TooManyTablesOrReaders}
use Rattle.tql_spec.specs.Refusal.{BeforeTheHorizon, ReaderNotUsable, ValueOutOfRange, PortionNotRising, NullNotAllowed}
use Rattle.tql_spec.specs.Refusal.{PeriodNotRising, CheckFailed, DuplicateKey, ReferenceNotMet, OutOfMemory, place}
use Rattle.tql_spec.specs.Refusal.{first}
use Rattle.tql_spec.proofs.Members.{by_bool, sum-zero, sum-least}
use Rattle.tql_spec.proofs.FirstFaults.{none_first}

-- ---- refusals and their positions

-- the refusals in the order of report
abbrev reports : List Refusal
reports =
    StatementTooLong ∷ NotUtf8 ∷ UnfinishedStatement ∷ NestedTooDeep ∷ NotAStatement ∷ TooManyColumnsOrTables
    ∷ NotInThisTransactionState ∷ MomentNotAllowed ∷ ReadersAreOpen ∷ TableUnknownOrAlreadyThere
    ∷ NameUnknownAmbiguousOrRepeated ∷ TypesDoNotFit ∷ FormNotAllowedHere ∷ TableIsReferenced ∷ TooManyTablesOrReaders
    ∷ BeforeTheHorizon ∷ ReaderNotUsable ∷ ValueOutOfRange ∷ PortionNotRising ∷ NullNotAllowed ∷ PeriodNotRising
    ∷ CheckFailed ∷ DuplicateKey ∷ ReferenceNotMet ∷ OutOfMemory ∷ []

by_place : (a : Refusal) → slice_get reports (place a) ≡ Some a
by_place StatementTooLong = refl
by_place NotUtf8 = refl
by_place UnfinishedStatement = refl
by_place NestedTooDeep = refl
by_place NotAStatement = refl
by_place TooManyColumnsOrTables = refl
by_place NotInThisTransactionState = refl
by_place MomentNotAllowed = refl
by_place ReadersAreOpen = refl
by_place TableUnknownOrAlreadyThere = refl
by_place NameUnknownAmbiguousOrRepeated = refl
by_place TypesDoNotFit = refl
by_place FormNotAllowedHere = refl
by_place TableIsReferenced = refl
by_place TooManyTablesOrReaders = refl
by_place BeforeTheHorizon = refl
by_place ReaderNotUsable = refl
by_place ValueOutOfRange = refl
by_place PortionNotRising = refl
by_place NullNotAllowed = refl
by_place PeriodNotRising = refl
by_place CheckFailed = refl
by_place DuplicateKey = refl
by_place ReferenceNotMet = refl
by_place OutOfMemory = refl

-- refusals with the same position are equal
pub one_place : (a b : Refusal) → place a ≡ place b → Some a ≡ Some b
one_place a b e = sym (by_place a) ∙ ap (slice_get reports) e ∙ by_place b

-- ---- the first fault

-- a is in the list, and no fault of the list comes before it in the order of report
pub record IsFirst (a : Refusal) (xs : List Refusal) : Type 0 where
  pub there : In a xs
  pub least : (x : Refusal) → In x xs → place a ≤ place x

-- the first fault of a list with one more fault in front
first_of_two : (x y : Refusal) (ys : List Refusal) (b : Bool) → nat_lt (place y) (place x) ≡ b → IsFirst y ys
    → IsFirst (if b then y else x) (x ∷ ys)
first_of_two x y ys true e h = record {
  there = inr h.there;
  least = λ z m. elim m [ inl q ↦ grind (arith, nat_tests, e, ap place q) | inr n ↦ h.least z n ];
}
first_of_two x y ys false e h = record {
  there = inl refl;
  least = λ z m. elim m [
    | inl q ↦ omega (arith, ap place q)
    | inr n ↦ let l = h.least z n in grind (arith, nat_tests, e, l)
  ];
}

-- a fault alone is the first one
alone : (x : Refusal) (ys : List Refusal) → ys ≡ [] → IsFirst x (x ∷ ys)
alone x ys n = record {
  there = inl refl;
  least = λ z m. elim m [
    | inl w ↦ omega (arith, ap place w)
    | inr i ↦ absurd (subst (In z) n i)
  ];
}

-- a fault in front of a list, by cases of the first fault of the list
by_rest : (x : Refusal) (ys : List Refusal) (a : Refusal) (o : Option Refusal) → first ys ≡ o
    → ((y : Refusal) → first ys ≡ Some y → IsFirst y ys)
    → first (x ∷ ys) ≡ Some a → IsFirst a (x ∷ ys)
by_rest x ys a None k later e =
    let q : x ≡ a = cc in
    subst (λ r. IsFirst r (x ∷ ys)) q (alone x ys (none_first ys k))
by_rest x ys a (Some y) k later e =
    let q : (if nat_lt (place y) (place x) then y else x) ≡ a = cc in
    subst (λ r. IsFirst r (x ∷ ys)) q (first_of_two x y ys (nat_lt (place y) (place x)) refl (later y k))

-- `first` gives a first fault in this sense
pub first_is : (xs : List Refusal) (a : Refusal) → first xs ≡ Some a → IsFirst a xs
first_is [] a e = absurd (cc)
first_is (x ∷ ys) a e = by_rest x ys a (first ys) refl (λ y k. first_is ys y k) e

-- ---- the first of a bag

-- 1 for a fault before position n in the order of report, else 0
abbrev ahead : ℕ → Refusal → ℕ
ahead n x = cond (nat_lt (place x) n) 1 0

-- no fault comes before the first
none_ahead : (xs : List Refusal) (a : Refusal) → IsFirst a xs → sum_by (ahead (place a)) xs ≡ 0
none_ahead xs a h = sum-zero (ahead (place a)) xs (λ x m. nothing x (nat_lt (place x) (place a)) refl (h.least x m))
  where
    nothing : (x : Refusal) (b : Bool) → nat_lt (place x) (place a) ≡ b → place a ≤ place x → cond {A = ℕ} b 1 0 ≡ 0
    nothing x true e l = absurd (grind (arith, nat_tests, e, l))
    nothing x false e l = refl

-- the first fault comes before each later position
some_ahead : (xs : List Refusal) (a : Refusal) (n : ℕ) → IsFirst a xs → place a < n → 0 < sum_by (ahead n) xs
some_ahead xs a n h l = grind (arith, nat_tests, l, sum-least (ahead n) a xs h.there)

-- the first fault of one list does not come after that of another with the same bag
not_behind : (xs ys : List Refusal) (a b : Refusal) → SameBag xs ys → IsFirst a xs → IsFirst b ys → place b ≤ place a
not_behind xs ys a b h k l = by_bool (nat_lt (place a) (place b))
    (λ e. absurd (differ (grind (arith, nat_tests, e))))
    (λ e. grind (arith, nat_tests, e))
  where
    differ : place a < place b → ⊥
    differ n = omega (arith, some_ahead xs a (place b) k n, h.totals (ahead (place b)), none_ahead ys b l)

-- a list with a member does not have the bag of the empty list
not_none : (ys : List Refusal) (b : Refusal) → SameBag [] ys → In b ys → ⊥
not_none ys b h m = let l = sum-least (λ x. 1) b ys m in let t = h.totals (λ x. 1) in omega (arith, l, t)

-- lists with the same bag have the same first fault
pub first_by_bag : (xs ys : List Refusal) → SameBag xs ys → first xs ≡ first ys
first_by_bag xs ys h = by_firsts (first xs) (first ys) refl refl
  where
    by_firsts : (o p : Option Refusal) → first xs ≡ o → first ys ≡ p → o ≡ p
    by_firsts None None e f = refl
    by_firsts None (Some b) e f =
        absurd (not_none ys b (subst (λ zs. SameBag zs ys) (none_first xs e) h) (first_is ys b f).there)
    by_firsts (Some a) None e f =
        absurd (not_none xs a
        (subst (λ zs. SameBag zs xs) (none_first ys f) (record { totals = λ w. sym (h.totals w) }))
        (first_is xs a e).there)
    by_firsts (Some a) (Some b) e f =
        let k = first_is xs a e in
        let l = first_is ys b f in
        let less = not_behind xs ys a b h k l in
        let more = not_behind ys xs b a (record { totals = λ w. sym (h.totals w) }) l k in
        one_place a b (omega (arith, less, more))
