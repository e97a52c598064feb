-- Where rows are steady, any copy met that has a row gives the row's multiplicity in a range, and its end.
use Rattle.std.proofs.Common.{◌≡◌, ℕ, List, [], ◌∷◌, ◌++◌, refl, sym, ap, ◌∙◌, inl, inr, subst, append_assoc}
use Rattle.std.proofs.Common.{append-nil}
use Rattle.std.specs.Prelude.{◌⊎◌, ℤ}
use Rattle.tql_spec.specs.Bag.{In}
use Rattle.tql_spec.specs.Definition.{Stamped, Version}
use Rattle.tql_spec.specs.History.{Entry, FromTo, Between, rows_in, table_history, found}
use Rattle.tql_spec.specs.Spans.{InEach, EndsAt, IsFromTo, IsBetween, MetWith, AreOfCopiesMet, IsSteady}
use Rattle.tql_spec.specs.Spans.{AreOfAnyCopyMet, SteadyRangesAgree}
use Rattle.tql_spec.proofs.MemberLists.{in_left, in_right}
use Rattle.tql_spec.proofs.SpanLaws.{ends_later, ranges_are_copies_met}

-- ---- one list split in two ways

-- the element is in the first part
record InFirst {X : Type 0} (xs ys before after : List X) (x : X) : Type 0 where
  between : List X
  first : xs ≡ before ++ x ∷ between
  rest : after ≡ between ++ ys

-- the element is in the second part
record InSecond {X : Type 0} (xs ys before after : List X) (x : X) : Type 0 where
  between : List X
  second : ys ≡ between ++ x ∷ after
  rest : before ≡ xs ++ between

-- an element of a list of two parts is in the first or in the second
part_of : {X : Type 0} (xs ys before : List X) (x : X) (after : List X) → xs ++ ys ≡ before ++ x ∷ after
    → InFirst xs ys before after x ⊎ InSecond xs ys before after x
part_of [] ys before x after q = inr (record { between = before; second = q; rest = refl })
part_of {X} (y ∷ xs) ys [] x after q =
    let e : y ≡ x = cc in inl (record { between = xs; first = ap {B = List X} (λ z. z ∷ xs) e; rest = cc })
part_of (y ∷ xs) ys (z ∷ before) x after q = elim (part_of xs ys before x after (cc)) [
  | inl f ↦ inl (record { between = f.between; first = let e = f.first in cc; rest = f.rest })
  | inr s ↦ inr (record { between = s.between; second = s.second; rest = let e = s.rest in cc })
]

-- ---- ends over copies that all have the row

-- the end of a row does not change with more copies that all have it
ends_further : (t : ℕ) (newer more : List Entry) (r : Stamped) (end : ℤ) → EndsAt t newer r end → InEach t more r
    → EndsAt t (newer ++ more) r end
ends_further t newer [] r end h k = subst (λ ls. EndsAt t ls r end) (sym (append-nil newer)) h
ends_further t newer (e ∷ more) r end h k =
    subst (λ ls. EndsAt t ls r end) (append_assoc newer (e ∷ []) more)
    (ends_further t (newer ++ e ∷ []) more r end (ends_later t newer e r end h (k e (inl refl))) (λ c m. k c (inr m)))

-- the end of a row does not change with fewer copies that all have it
ends_sooner : (t : ℕ) (newer more : List Entry) (r : Stamped) (end : ℤ) → EndsAt t (newer ++ more) r end
    → InEach t more r → EndsAt t newer r end
ends_sooner t newer more r end (inl h) k = inl ((λ c m. h.0 c (in_left c newer more m)), h.1)
ends_sooner t newer more r end (inr i) k = elim (part_of newer more i.newer i.lacking i.between i.parts) [
  | inl f ↦ inr (record {
    newer = i.newer;
    lacking = i.lacking;
    between = f.between;
    parts = f.first;
    kept = λ c m. i.kept c (subst (λ (xs : List Entry). In c xs) (sym f.rest) (in_left c f.between more m));
    lacks = i.lacks;
    ends = i.ends;
  })
  | inr s ↦ absurd (i.lacks
      (k i.lacking (subst (λ (xs : List Entry). In i.lacking xs) (sym s.second)
      (in_right i.lacking s.between (i.lacking ∷ i.between) (inl refl)))))
]

-- ---- two copies of a history that have a row

-- a row has the same end in two copies of a history
ends_in_each : (t : ℕ) (entries : List Entry) → IsSteady t entries
    → (r : Stamped) (end : ℤ) (l : List Entry) (c : Entry) (o l' : List Entry) (c' : Entry) (o' : List Entry)
    → entries ≡ l ++ c ∷ o → entries ≡ l' ++ c' ∷ o' → In r (rows_in c.copy t) → In r (rows_in c'.copy t)
    → EndsAt t l r end → EndsAt t l' r end
ends_in_each t entries s r end l c o l' c' o' p q m m' h = elim (part_of l (c ∷ o) l' c' o' (sym p ∙ q)) [
  | inl f ↦
      ends_sooner t l' (c' ∷ f.between) r end (subst (λ ls. EndsAt t ls r end) f.first h)
      (with_both c' m' f.between (s.no_return r l' f.between o c' c (q ∙ ap (λ xs. l' ++ c' ∷ xs) f.rest) m' m))
  | inr g ↦ same_or_newer g.between g.second g.rest
]
  where
    with_both : (d : Entry) → In r (rows_in d.copy t) → (between : List Entry) → InEach t between r
        → InEach t (d ∷ between) r
    with_both d n between k x (inl e) = subst (λ (y : Entry). In r (rows_in y.copy t)) (sym e) n
    with_both d n between k x (inr i) = k x i

    same_or_newer : (between : List Entry) → c ∷ o ≡ between ++ c' ∷ o' → l' ≡ l ++ between → EndsAt t l' r end
    same_or_newer [] e z = subst (λ ls. EndsAt t ls r end) (sym (z ∙ append-nil l)) h
    same_or_newer (x ∷ between) e z =
        let here : x ≡ c = cc in
        let rest : o ≡ between ++ c' ∷ o' = cc in
        let kept = s.no_return r l between o' c c' (p ∙ ap (λ xs. l ++ c ∷ xs) rest) m m' in
        subst (λ ls. EndsAt t ls r end) (sym (z ∙ ap (λ (y : Entry). l ++ y ∷ between) here))
        (ends_further t l (c ∷ between) r end h (with_both c m between kept))

-- a copy met is among the entries
among : (t : ℕ) (Asked : ℤ → Type 0) (entries : List Entry) (r : Stamped) (c : MetWith t Asked entries r)
    → In c.copy entries
among t Asked entries r c =
    subst (λ (xs : List Entry). In c.copy xs) (sym c.whole) (in_right c.copy c.later (c.copy ∷ c.older) (inl refl))

-- if one copy met gives the multiplicity and the end of a row, any copy met that has it does
any_copy : (t : ℕ) (Asked : ℤ → Type 0) (entries : List Entry) (vs : List Version) → IsSteady t entries
    → AreOfCopiesMet t Asked entries vs → AreOfAnyCopyMet t Asked entries vs
any_copy t Asked entries vs s h = record {
  as_often = λ r c.
      let d = h.each r c in
      d.1 ∙ s.one_multiplicity r d.0.copy c.copy (among t Asked entries r d.0)
      (among t Asked entries r c) d.0.there c.there;
  ends = λ v m c.
      let d = h.only v m in
      ends_in_each t entries s v.row v.end d.0.later d.0.copy d.0.older c.later c.copy c.older d.0.whole c.whole
      d.0.there c.there d.1;
}

-- the law: where rows are steady, it does not matter which of the copies met is used
pub steady_ranges_agree : SteadyRangesAgree
steady_ranges_agree t a b entries f s =
    let h = ranges_are_copies_met t a b entries f in
    record {
      from_to = any_copy t (IsFromTo a b) entries (found (FromTo a b) (table_history t entries)) s h.from_to;
      between = any_copy t (IsBetween a b) entries (found (Between a b) (table_history t entries)) s h.between;
    }
