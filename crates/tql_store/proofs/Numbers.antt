-- The tables of a store by their numbers: one is replaced or changed, and the others are not.
use Rattle.std.proofs.Common.{◌≡◌, ◌≢◌, ℕ, zero, suc, ◌<◌, ◌≤◌, true, false, List, [], ◌∷◌, ◌++◌, map}
use Rattle.std.proofs.Common.{length, refl, sym, ap, subst, ◌∙◌, arith, inl, inr}
use Rattle.std.specs.Prelude.{nat_eq, slice_index_or, slice_set, Contains, ◌⊎◌}
use Rattle.std.proofs.lemmas.Bool.Decides.{nat_tests}
use Rattle.std.proofs.lemmas.List.{get_or_default}
use Rattle.tql_spec.proofs.Members.{by_bool}
use Rattle.tql_store_rows.specs.TableModel.{TableModel, versions}
use Rattle.tql_store.specs.Orderly.{empty, table_at, touch_at, IsUntouched, IsNoted}
use Rattle.tql_store.specs.TableSlots.{slot_at, is_taken, is_kept}
use Rattle.tql_store.specs.declared.tables.TableSlot.{TableSlot}
use Rattle.tql_store.specs.declared.tables.TableSlot.TheVariants.{Free, Versioned, Unversioned}

pub one_number : (i j : ℕ) → nat_eq i j ≡ true → i ≡ j
one_number i j e = grind (arith, nat_tests)

pub self_number : (i : ℕ) → nat_eq i i ≡ true
self_number i = grind (arith, nat_tests)

pub two_numbers : (i j : ℕ) → nat_eq i j ≡ false → i ≢ j
two_numbers i j e = λ same. grind (arith, nat_tests)

-- ---- replacing a table

pub put-here : (ts : List TableModel) (n : ℕ) (x : TableModel) → n < length ts → table_at (slice_set ts n x) n ≡ x
put-here [] n x l = absurd (omega (arith, l))
put-here (t ∷ ts) zero x l = refl
put-here (t ∷ ts) (suc n) x l = put-here ts n x (omega (arith, l))

pub put-other : (ts : List TableModel) (n t : ℕ) (x : TableModel) → nat_eq t n ≡ false
    → table_at (slice_set ts n x) t ≡ table_at ts t
put-other [] n t x e = refl
put-other (s ∷ ts) zero zero x e = absurd (grind (arith, nat_tests))
put-other (s ∷ ts) zero (suc t) x e = refl
put-other (s ∷ ts) (suc n) zero x e = refl
put-other (s ∷ ts) (suc n) (suc t) x e = put-other ts n t x (grind (arith, nat_tests))

pub put-length : (ts : List TableModel) (n : ℕ) (x : TableModel) → length (slice_set ts n x) ≡ length ts
put-length [] n x = refl
put-length (t ∷ ts) zero x = refl
put-length (t ∷ ts) (suc n) x = ap suc (put-length ts n x)

pub put-versions : (ts : List TableModel) (n : ℕ) (x : TableModel) → versions x ≡ versions (table_at ts n)
    → map versions (slice_set ts n x) ≡ map versions ts
put-versions [] n x e = refl
put-versions (t ∷ ts) zero x e = ap (λ v. v ∷ map versions ts) e
put-versions (t ∷ ts) (suc n) x e = ap (λ vs. versions t ∷ vs) (put-versions ts n x e)

-- the versions of the table with a number
pub versions-at : (ts : List TableModel) (t : ℕ) → slice_index_or (map versions ts) t [] ≡ versions (table_at ts t)
versions-at [] t = refl
versions-at (s ∷ ts) zero = refl
versions-at (s ∷ ts) (suc t) = versions-at ts t

-- ---- numbers in use

within_places : (ps : List TableSlot) (t : ℕ) → is_taken (slot_at ps t) ≡ true → t < length ps
within_places [] t e = absurd (let f : false ≡ true = e in cc)
within_places (p ∷ ps) zero e = omega arith
within_places (p ∷ ps) (suc t) e = let l = within_places ps t e in omega (arith, l)

pub taken-within : (ps : List TableSlot) (ts : List TableModel) (t : ℕ) → length ts ≡ length ps
    → is_taken (slot_at ps t) ≡ true → t < length ts
taken-within ps ts t even e = let l = within_places ps t e in omega (arith, l, even)

pub kept_taken : (p : TableSlot) → is_kept p ≡ true → is_taken p ≡ true
kept_taken Free e = e
kept_taken Versioned e = refl
kept_taken Unversioned e = refl

pub taken_not_free : (p : TableSlot) → is_taken p ≡ true → p ≡ Free → ⊥
taken_not_free p e f = let g : false ≡ true = ap is_taken (sym f) ∙ e in cc

-- ---- touched numbers

pub record IsTouched (touched : List ℕ) (t : ℕ) : Type 0 where
  pub place : ℕ
  pub within : place < length touched
  pub is : touch_at touched place ≡ t

pub touched-or : (touched : List ℕ) (t : ℕ) → IsTouched touched t ⊎ IsUntouched touched t
touched-or [] t = inr (λ k l. absurd (omega (arith, l)))
touched-or (n ∷ ns) t = by_bool (nat_eq n t)
    (λ e. inl (record { place = 0; within = omega arith; is = one_number n t e }))
    (λ e. elim (touched-or ns t) [
      | inl s ↦ inl (record { place = suc s.place; within = let l = s.within in omega (arith, l); is = s.is })
      | inr away ↦ inr (later e away)
    ])
  where
    later : nat_eq n t ≡ false → IsUntouched ns t → IsUntouched (n ∷ ns) t
    later e away zero l = two_numbers n t e
    later e away (suc k) l = away k (omega (arith, l))

-- each is listed once
abbrev pub AreApart : List ℕ → Type 0
AreApart touched = (j k : ℕ) → j < k → k < length touched → touch_at touched j ≢ touch_at touched k

-- the touched numbers after one is added
pub record Noted (n : ℕ) (old new : List ℕ) : Type 0 where
  pub has : IsTouched new n
  pub fewer : (t : ℕ) → IsUntouched new t → IsUntouched old t
  pub within : (b : ℕ) → ((k : ℕ) → k < length old → touch_at old k < b) → n < b → (k : ℕ) → k < length new
      → touch_at new k < b
  pub apart : AreApart old → AreApart new

length-more : (xs : List ℕ) (n : ℕ) → length (xs ++ n ∷ []) ≡ suc (length xs)
length-more [] n = refl
length-more (x ∷ xs) n = ap suc (length-more xs n)

at-front : (xs : List ℕ) (n k : ℕ) → k < length xs → touch_at (xs ++ n ∷ []) k ≡ touch_at xs k
at-front [] n k l = absurd (omega (arith, l))
at-front (x ∷ xs) n zero l = refl
at-front (x ∷ xs) n (suc k) l = at-front xs n k (omega (arith, l))

at-end : (xs : List ℕ) (n k : ℕ) → k ≡ length xs → touch_at (xs ++ n ∷ []) k ≡ n
at-end [] n k e = ap (touch_at (n ∷ [])) e
at-end (x ∷ xs) n zero e = absurd (omega (arith, e))
at-end (x ∷ xs) n (suc k) e = at-end xs n k (omega (arith, e))

at_default : (xs : List ℕ) (k d : ℕ) → k < length xs → slice_index_or xs k d ≡ touch_at xs k
at_default [] k d l = absurd (omega (arith, l))
at_default (x ∷ xs) zero d l = refl
at_default (x ∷ xs) (suc k) d l = at_default xs k d (omega (arith, l))

noted_same : (n : ℕ) (xs : List ℕ) → Contains xs n → Noted n xs xs
noted_same n xs (k, l, e) = record {
  has = record { place = k; within = l; is = sym (at_default xs k n l) ∙ e };
  fewer = λ t u. u;
  within = λ b h less. h;
  apart = λ h. h;
}

noted_more : (n : ℕ) (xs : List ℕ) → (Contains xs n → ⊥) → Noted n xs (xs ++ n ∷ [])
noted_more n xs none = record {
  has = record {
    place = length xs;
    within = let e = length-more xs n in omega (arith, e);
    is = at-end xs n (length xs) refl;
  };
  fewer = λ t u k l e. u k (let m = length-more xs n in omega (arith, m, l)) (at-front xs n k l ∙ e);
  within = λ b h less k l. elim (front_or k l) [
    | inl s ↦ subst (λ (i : ℕ). i < b) (sym (at-front xs n k s)) (h k s)
    | inr e ↦ subst (λ (i : ℕ). i < b) (sym (at-end xs n k e)) less
  ];
  apart = λ h j k o l. elim (front_or k l) [
    | inl s ↦ λ same. h j k o s (sym (at-front xs n j (omega (arith, o, s))) ∙ same ∙ at-front xs n k s)
    | inr e ↦ λ same. none (
      j,
      omega (arith, o, e),
      at_default xs j n (omega (arith, o, e))
          ∙ sym (at-front xs n j (omega (arith, o, e))) ∙ same ∙ at-end xs n k e,
    )
  ];
}
  where
    strict : (i j : ℕ) → i ≤ j → i ≢ j → i < j
    strict i j l d = grind (arith, l, d)

    front_or : (k : ℕ) → k < length (xs ++ n ∷ []) → (k < length xs) ⊎ (k ≡ length xs)
    front_or k l = let m = length-more xs n in by_bool (nat_eq k (length xs))
        (λ e. inr (one_number k (length xs) e))
        (λ e. inl (let d = two_numbers k (length xs) e in let r : k ≤ length xs = omega (arith, m, l) in strict k
        (length xs) r d))

pub noted : (n : ℕ) (old new : List ℕ) → IsNoted n old new → Noted n old new
noted n old new (inl s) = subst (λ (xs : List ℕ). Noted n old xs) (sym s.0) (noted_same n old s.1)
noted n old new (inr s) = subst (λ (xs : List ℕ). Noted n old xs) (sym s.0) (noted_more n old s.1)

-- an element that the code reads is the table with its number
pub element-at : (ts : List TableModel) (i n : ℕ) (x : TableModel) → x ≡ slice_index_or ts i x → i ≡ n → n < length ts
    → x ≡ table_at ts n
element-at ts i n x e q l = e ∙ ap (λ (j : ℕ). slice_index_or ts j x) q ∙ get_or_default ts n x (empty false) l
