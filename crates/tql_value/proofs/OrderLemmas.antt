-- The order of values is total on each kind, with null first.
use Rattle.std.proofs.Common.{◌≡◌, ◌⊎◌, inl, inr, ℕ, ◌<◌, ℤ, ◌<ℤ◌, true, false, IsTrue, List, [], ◌∷◌, Option, Some}
use Rattle.std.proofs.Common.{None, refl, sym, ap, ◌∙◌, Ordering}
use Rattle.std.proofs.lemmas.Cmp.{int_cmp_total, nat_list_cmp_total, int_ranked, ranked, by_ranked, tied_itself}
use Rattle.std.proofs.lemmas.Cmp.{upto as upto_is}
use Rattle.std.specs.Cmp.{IsTotalOrder}
use Rattle.std.specs.Cmp.Lexicographic.{slice_cmp}
use Rattle.std.specs.Ordering.{is_le, is_gt, is_eq, nat_cmp, int_cmp, ordering_reverse, ordering_then}
use Rattle.std.specs.declared.cmp.Ordering.TheVariants.{Less, Equal, Greater}
use Rattle.tql_spec.specs.Datum.{Datum, Kind, Ints, Texts, Days, Moments, Null, Int, Text, Day, Moment, order, same}
use Rattle.tql_value.specs.Laws.{is_of, IsTotallyOrdered, KindsAreOrdered, TextsLieByCharacters, SameIsEqual}
use Rattle.tql_value.proofs.TextLemmas.{chars-order}

-- ---- values that compare as equal are equal

int_level : (x y : ℤ) → int_cmp x y ≡ Equal → x ≡ y
int_level x y e =
    by_ranked (x <ℤ y) (x ≡ y) (y <ℤ x) (int_cmp x y) (int_ranked x y (int_cmp x y) refl) (λ o h. cc) (λ o h. h)
    (λ o h. cc)

nat_level : (x y : ℕ) → nat_cmp x y ≡ Equal → x ≡ y
nat_level x y e =
    by_ranked (x < y) (x ≡ y) (y < x) (nat_cmp x y) (ranked x y (nat_cmp x y) refl) (λ o h. cc) (λ o h. h) (λ o h. cc)

texts_level_at : (o : Ordering) (x y : ℕ) (xs ys : List ℕ) → nat_cmp x y ≡ o
    → ordering_then o (slice_cmp nat_cmp xs ys) ≡ Equal → (slice_cmp nat_cmp xs ys ≡ Equal → xs ≡ ys) → x ∷ xs ≡ y ∷ ys
texts_level_at Less x y xs ys h e rest = cc
texts_level_at Equal x y xs ys h e rest = let same = nat_level x y h in let more = rest e in cc
texts_level_at Greater x y xs ys h e rest = cc

texts_level : (xs ys : List ℕ) → slice_cmp nat_cmp xs ys ≡ Equal → xs ≡ ys
texts_level [] [] e = refl
texts_level [] (y ∷ ys) e = cc
texts_level (x ∷ xs) [] e = cc
texts_level (x ∷ xs) (y ∷ ys) e = texts_level_at (nat_cmp x y) x y xs ys refl e (texts_level xs ys)

-- ---- the values of a kind, and null

-- the values of a kind are ordered like the elements that they are made from, and null comes before them
record Embeds {K : Type 0} (C : K → K → Ordering) (f : K → Datum) : Type 0 where
  pub ordered : IsTotalOrder C
  pub level : (x y : K) → C x y ≡ Equal → x ≡ y
  pub both : (x y : K) → order (f x) (f y) ≡ C x y
  pub before : (y : K) → order Null (f y) ≡ Less
  pub after : (x : K) → order (f x) Null ≡ Greater

-- a value made from one of them, or null
abbrev pick : {K : Type 0} → (K → Datum) → Option K → Datum
pick f None = Null
pick f (Some x) = f x

is_le-reverse : (o : Ordering) → is_le o ≡ true → is_le (ordering_reverse o) ≡ true → o ≡ Equal
is_le-reverse Less h k = cc
is_le-reverse Equal h k = refl
is_le-reverse Greater h k = cc

is_le-total : (o : Ordering) → (is_le o ≡ true) ⊎ (is_le (ordering_reverse o) ≡ true)
is_le-total Less = inl refl
is_le-total Equal = inl refl
is_le-total Greater = inr refl

is_le-not_gt : (o : Ordering) → is_le o ≡ true → is_gt o ≡ false
is_le-not_gt Less h = refl
is_le-not_gt Equal h = refl
is_le-not_gt Greater h = cc

not_gt-is_le : (o : Ordering) → is_gt o ≡ false → is_le o ≡ true
not_gt-is_le Less h = refl
not_gt-is_le Equal h = refl
not_gt-is_le Greater h = cc

module _ {K : Type 0} {C : K → K → Ordering} {f : K → Datum} (e : Embeds C f) where
  opposite : (a b : Option K) → order (pick f a) (pick f b) ≡ ordering_reverse (order (pick f b) (pick f a))
  opposite None None = refl
  opposite None (Some y) = e.before y ∙ sym (ap ordering_reverse (e.after y))
  opposite (Some x) None = e.after x ∙ sym (ap ordering_reverse (e.before x))
  opposite (Some x) (Some y) = e.both x y ∙ e.ordered.antisymm x y ∙ ap ordering_reverse (sym (e.both y x))

  level_same : (a b : Option K) → order (pick f a) (pick f b) ≡ Equal → a ≡ b
  level_same None None h = refl
  level_same None (Some y) h = let less = e.before y in cc
  level_same (Some x) None h = let more = e.after x in cc
  level_same (Some x) (Some y) h = ap Some (e.level x y (sym (e.both x y) ∙ h))

  itself : (a : Option K) → order (pick f a) (pick f a) ≡ Equal
  itself None = refl
  itself (Some x) = e.both x x ∙ tied_itself e.ordered x

  through : (a b c : Option K) → is_le (order (pick f a) (pick f b)) ≡ true
      → is_le (order (pick f b) (pick f c)) ≡ true → is_le (order (pick f a) (pick f c)) ≡ true
  through None b None h k = refl
  through None b (Some z) h k = ap is_le (e.before z)
  through (Some x) None c h k = let no = ap is_le (e.after x) in cc
  through (Some x) (Some y) None h k = let no = ap is_le (e.after y) in cc
  through (Some x) (Some y) (Some z) h k =
      ap is_le (e.both x z) ∙ not_gt-is_le (C x z) (upto_is e.ordered x y z
      (is_le-not_gt (C x y) (ap is_le (sym (e.both x y)) ∙ h)) (is_le-not_gt (C y z) (ap is_le (sym (e.both y z)) ∙ k)))

  null_at_most : (a : Option K) → is_le (order Null (pick f a)) ≡ true
  null_at_most None = refl
  null_at_most (Some y) = ap is_le (e.before y)

-- ---- each kind

ordered_kind : {K : Type 0} {C : K → K → Ordering} {f : K → Datum} (k : Kind) → Embeds C f
    → ((d : Datum) → IsTrue (is_of k d) → (o : Option K) × (d ≡ pick f o)) → IsTotallyOrdered k
ordered_kind {K} {C} {f} k e shown = record {
  reflexive = λ a u. let s = shown a u in rw s.1 (ap is_le (itself e s.0));
  antisymmetric = λ a b u v h l.
      let s = shown a u in let t = shown b v in
      let h' = rw (s.1, t.1) at h in let l' = rw (s.1, t.1) at l in
      let level = is_le-reverse (order (pick f s.0) (pick f t.0)) h' (ap is_le (sym (opposite e t.0 s.0)) ∙ l') in
      s.1 ∙ ap (pick f) (level_same e s.0 t.0 level) ∙ sym t.1;
  transitive = λ a b c u v w h l.
      let s = shown a u in let t = shown b v in let r = shown c w in
      let h' = rw (s.1, t.1) at h in let l' = rw (t.1, r.1) at l in
      rw (s.1, r.1) (through e s.0 t.0 r.0 h' l');
  total = λ a b u v.
      let s = shown a u in let t = shown b v in
      let either = is_le-total (order (pick f s.0) (pick f t.0)) in
      rw (s.1, t.1) (elim either [ inl h ↦ inl h | inr h ↦ inr (ap is_le (opposite e t.0 s.0) ∙ h) ]);
  level = λ a b u v.
      let s = shown a u in let t = shown b v in (
        λ h. s.1 ∙ ap (pick f) (level_same e s.0 t.0 (rw (s.1, t.1) at h))
            ∙ sym t.1,
        λ same. rw (← same, s.1) (itself e s.0),
      );
  opposite = λ a b u v. let s = shown a u in let t = shown b v in rw (s.1, t.1) (opposite e s.0 t.0);
  null_first = λ a u. let s = shown a u in rw s.1 (null_at_most e s.0);
}

shown_int : (d : Datum) → IsTrue (is_of Ints d) → (o : Option ℤ) × (d ≡ pick Int o)
shown_int Null u = (None, refl)
shown_int (Int n) u = (Some n, refl)
shown_int (Text t) u = cc
shown_int (Day d) u = cc
shown_int (Moment m) u = cc

shown_day : (d : Datum) → IsTrue (is_of Days d) → (o : Option ℤ) × (d ≡ pick Day o)
shown_day Null u = (None, refl)
shown_day (Int n) u = cc
shown_day (Text t) u = cc
shown_day (Day d) u = (Some d, refl)
shown_day (Moment m) u = cc

shown_moment : (d : Datum) → IsTrue (is_of Moments d) → (o : Option ℤ) × (d ≡ pick Moment o)
shown_moment Null u = (None, refl)
shown_moment (Int n) u = cc
shown_moment (Text t) u = cc
shown_moment (Day d) u = cc
shown_moment (Moment m) u = (Some m, refl)

shown_text : (d : Datum) → IsTrue (is_of Texts d) → (o : Option (List ℕ)) × (d ≡ pick Text o)
shown_text Null u = (None, refl)
shown_text (Int n) u = cc
shown_text (Text t) u = (Some t, refl)
shown_text (Day d) u = cc
shown_text (Moment m) u = cc

pub kinds_are_ordered : KindsAreOrdered
kinds_are_ordered Ints = ordered_kind Ints (record {
  ordered = int_cmp_total;
  level = int_level;
  both = λ x y. refl;
  before = λ y. refl;
  after = λ x. refl;
}) shown_int
kinds_are_ordered Texts = ordered_kind Texts (record {
  ordered = nat_list_cmp_total;
  level = texts_level;
  both = λ x y. refl;
  before = λ y. refl;
  after = λ x. refl;
}) shown_text
kinds_are_ordered Days = ordered_kind Days (record {
  ordered = int_cmp_total;
  level = int_level;
  both = λ x y. refl;
  before = λ y. refl;
  after = λ x. refl;
}) shown_day
kinds_are_ordered Moments = ordered_kind Moments (record {
  ordered = int_cmp_total;
  level = int_level;
  both = λ x y. refl;
  before = λ y. refl;
  after = λ x. refl;
}) shown_moment

pub texts_lie_by_characters : TextsLieByCharacters
texts_lie_by_characters a b u v = chars-order a b u v

is_eq-Equal : (o : Ordering) → is_eq o ≡ true → o ≡ Equal
is_eq-Equal Less h = cc
is_eq-Equal Equal h = refl
is_eq-Equal Greater h = cc

same_itself : (a : Datum) → same a a ≡ true
same_itself Null = refl
same_itself (Int n) = ap is_eq (tied_itself int_cmp_total n)
same_itself (Text t) = ap is_eq (tied_itself nat_list_cmp_total t)
same_itself (Day d) = ap is_eq (tied_itself int_cmp_total d)
same_itself (Moment m) = ap is_eq (tied_itself int_cmp_total m)

same_one : (a b : Datum) → same a b ≡ true → a ≡ b
same_one Null Null h = refl
same_one (Int a) (Int b) h = ap Int (int_level a b (is_eq-Equal (int_cmp a b) h))
same_one (Text a) (Text b) h = ap Text (texts_level a b (is_eq-Equal (slice_cmp nat_cmp a b) h))
same_one (Day a) (Day b) h = ap Day (int_level a b (is_eq-Equal (int_cmp a b) h))
same_one (Moment a) (Moment b) h = ap Moment (int_level a b (is_eq-Equal (int_cmp a b) h))
same_one _ _ h = cc

pub same_is_equal : SameIsEqual
same_is_equal a b = (same_one a b, λ e. rw (← e) (same_itself a))
