-- Each step keeps the readers: the history still answers what they set aside.
use Rattle.std.proofs.Common.{◌≡◌, refl, sym, ap, subst, ◌∙◌, ℕ, Bool, true, false, cond, List, [], ◌∷◌, ◌++◌, map}
use Rattle.std.proofs.Common.{filter, Option, Some, None, inl, inr, arith}
use Rattle.std.specs.Prelude.{ℤ, ◌≤ℤ◌, ◌<ℤ◌, ◌⊎◌, ◌||◌, not, int_le, int_lt, if◌then◌else◌}
use Rattle.std.specs.List.{list_any}
use Rattle.std.proofs.lemmas.Int.{ints}
use Rattle.std.proofs.lemmas.List.{map-append}
use Rattle.tql_spec.specs.Bag.{In}
use Rattle.tql_spec.specs.Calendar.{high}
use Rattle.tql_spec.specs.Definition.{Name}
use Rattle.tql_spec.specs.History.{Entry, When, Now, AsOf, FromTo, Between, FallingFrom, Falling, found, table_history}
use Rattle.tql_spec.specs.Horizon.{is_before, pruned}
use Rattle.tql_spec.specs.Machine.{State}
use Rattle.tql_spec.specs.Readers.{Reader, is_any_open, is_live, passes, passes_some, pinned_of}
use Rattle.tql_spec.specs.ReaderLaws.{ReadsTheHistory, pin, not_after, until_pin}
use Rattle.tql_spec.specs.Words.{same_text}
use Rattle.tql_spec.proofs.Horizons.{not_before, pruned_answers_stay}
use Rattle.tql_spec.proofs.MemberLists.{in_either, in_kept}
use Rattle.tql_spec.proofs.Members.{le_tells}
use Rattle.tql_engine_state.specs.Readers.{KeptReader, AreReaders, told, pin_of, is_passed}

-- ---- if the history and the horizon stay

-- some copy has the moment
abbrev pub HasMoment : List Entry → ℤ → Type 0
HasMoment es p = (e : Entry) × In e es × (e.moment ≡ p)

reads_stay : (s t : State) (r : Reader) → t.history ≡ s.history → t.horizon ≡ s.horizon → ReadsTheHistory s r
    → ReadsTheHistory t r
reads_stay s t r es n k = record {
  kept = λ p q. subst (λ (xs : List Entry). HasMoment xs p) (sym es) (k.kept p q);
  questions = λ i w b.
      ap (λ (xs : List Entry). found w (table_history i (until_pin (pin r.pinned) xs))) es
      ∙ k.questions i w (ap (λ (m : ℤ). is_before m w) (sym n) ∙ b);
}

pub readers_stay : (kept : List KeptReader) (s t : State) → t.readers ≡ s.readers → t.history ≡ s.history
    → t.horizon ≡ s.horizon → AreReaders kept s → AreReaders kept t
readers_stay kept s t rs es n k = record {
  same = k.same ∙ ap (map told) (sym rs);
  read = λ r i. reads_stay s t r es n (k.read r (subst (λ (xs : List Reader). In r xs) rs i));
}

-- without open readers, there is nothing to keep
pub readers_none : (kept : List KeptReader) (s t : State) → kept ≡ [] → t.readers ≡ s.readers → AreReaders kept s
    → AreReaders kept t
readers_none kept s t none rs k = record {
  same = k.same ∙ ap (map told) (sym rs);
  read = λ r i. absurd (nobody s.readers (sym k.same ∙ none) r (subst (λ (xs : List Reader). In r xs) rs i));
}
  where
    nobody : (xs : List Reader) → map told xs ≡ [] → (r : Reader) → In r xs → ⊥
    nobody [] e r i = absurd i
    nobody (x ∷ xs) e r i = absurd (cc)

-- ---- one more commit

below_all : (until : ℤ) (es : List Entry) → FallingFrom until es → (e : Entry) → In e es → e.moment <ℤ until
below_all until [] f e i = absurd i
below_all until (x ∷ es) f e (inl q) =
    let a = f.0 in let b : e.moment ≡ x.moment = ap (λ (y : Entry). y.moment) q in omega (arith, ints)
below_all until (x ∷ es) f e (inr i) = let a = f.0 in let b = below_all x.moment es f.1 e i in omega (arith, ints)

later : (m p : ℤ) → p <ℤ m → int_le m p ≡ false
later m p l = elim (le_tells m p) [ inl s ↦ absurd (let a = s.1 in omega (arith, ints)) | inr s ↦ s.0 ]

later_pin : (o : Option ℤ) (e : Entry) (es : List Entry) → FallingFrom e.moment es
    → ((p : ℤ) → o ≡ Some p → HasMoment es p) → until_pin o (e ∷ es) ≡ until_pin o es
later_pin None e es f k = refl
later_pin (Some p) e es f k =
    let x = k p refl in
    let below = below_all e.moment es f x.0 x.1 in
    ap (λ b. if b then e ∷ es else not_after p es) (later e.moment p (subst (λ m. m <ℤ e.moment) x.2 below))

pub readers_more : (kept : List KeptReader) (s t : State) (e : Entry) → t.readers ≡ s.readers
    → t.history ≡ e ∷ s.history → t.horizon ≡ s.horizon → FallingFrom e.moment s.history → AreReaders kept s
    → AreReaders kept t
readers_more kept s t e rs es n f k = record {
  same = k.same ∙ ap (map told) (sym rs);
  read = λ r i. let g = k.read r (subst (λ (xs : List Reader). In r xs) rs i) in record {
    kept = λ p q.
        let x = g.kept p q in subst (λ (xs : List Entry). HasMoment xs p) (sym es) (x.0, inr x.1, x.2);
    questions = λ j w b.
        ap (λ (xs : List Entry). found w (table_history j (until_pin (pin r.pinned) xs))) es
        ∙ ap (λ (xs : List Entry). found w (table_history j xs)) (later_pin (pin r.pinned) e s.history f g.kept)
        ∙ g.questions j w (ap (λ (m : ℤ). is_before m w) (sym n) ∙ b);
  };
}

-- ---- pruning

-- pruning up to a horizon that is not after a pin keeps the copies up to the pin
cut : (m p : ℤ) → m ≤ℤ p → (es : List Entry) → not_after p (pruned m es) ≡ pruned m (not_after p es)
cut m p l [] = refl
cut m p l (e ∷ es) = either (le_tells e.moment p) (cut m p l es)
  where
    either : ((int_le e.moment p ≡ true) × (e.moment ≤ℤ p)) ⊎ ((int_le e.moment p ≡ false) × (p <ℤ e.moment))
        → not_after p (pruned m es) ≡ pruned m (not_after p es)
        → not_after p (pruned m (e ∷ es)) ≡ pruned m (not_after p (e ∷ es))
    either (inl k) g =
        ap (λ b. if b then pruned m (e ∷ es) else not_after p (if int_le e.moment m then [] else pruned m es)) k.0
        ∙ ap (λ b. pruned m (if b then e ∷ es else not_after p es)) (sym k.0)
    either (inr k) g =
        ap (λ b. if b then pruned m (e ∷ es) else not_after p (if int_le e.moment m then [] else pruned m es)) k.0
        ∙ ap (λ b. not_after p (if b then [] else pruned m es))
        (later e.moment m (let a = k.1 in omega (arith, ints)))
        ∙ g ∙ ap (λ b. pruned m (if b then e ∷ es else not_after p es)) (sym k.0)

-- it keeps the copy at the pin
stays : (m p : ℤ) → m ≤ℤ p → (n : ℤ) (es : List Entry) → FallingFrom n es → (x : Entry) → In x es → x.moment ≡ p
    → In x (pruned m es)
stays m p l n [] f x i e = absurd i
stays m p l n (y ∷ es) f x (inl q) e = inl q
stays m p l n (y ∷ es) f x (inr i) e =
    let a = below_all y.moment es f.1 x i in
    inr (subst (λ b. In x (if b then [] else pruned m es)) (sym (later y.moment m (omega (arith, ints))))
    (stays m p l y.moment es f.1 x i e))

falls_lower : (n m : ℤ) (es : List Entry) → n ≤ℤ m → FallingFrom n es → FallingFrom m es
falls_lower n m [] l f = tt
falls_lower n m (e ∷ es) l f = let a = f.0 in (omega (arith, ints), f.1)

pub falls_until : (o : Option ℤ) (n : ℤ) (es : List Entry) → FallingFrom n es → FallingFrom n (until_pin o es)
falls_until None n es f = tt
falls_until (Some p) n [] f = tt
falls_until (Some p) n (e ∷ es) f = either (int_le e.moment p) (falls_until (Some p) e.moment es f.1)
  where
    either : (b : Bool) → FallingFrom e.moment (not_after p es)
        → FallingFrom n (if b then e ∷ es else not_after p es)
    either true g = f
    either false g = let a = f.0 in falls_lower e.moment n (not_after p es) (omega (arith, ints)) g

-- a query that reads nothing before a horizon reads nothing before an earlier one
earlier : (g h : ℤ) → g ≤ℤ h → (w : When) → is_before h w ≡ false → is_before g w ≡ false
earlier g h l Now e = refl
earlier g h l (AsOf m) e = grind (arith, ints)
earlier g h l (FromTo a b) e = grind (arith, ints)
earlier g h l (Between a b) e = grind (arith, ints)

-- the pin decides whether a horizon passes a reader
passed_by : (m : ℤ) (es : List Entry) → passes m es ≡ is_passed m (pin es)
passed_by m [] = refl
passed_by m (e ∷ es) = refl

pub some_passed : (m : ℤ) (rs : List Reader)
    → passes_some m rs ≡ list_any (λ (k : KeptReader). is_passed m k.pin) (map told rs)
some_passed m [] = refl
some_passed m (r ∷ rs) = λ i. passed_by m r.pinned i || some_passed m rs i

none_passed : (m : ℤ) (rs : List Reader) → passes_some m rs ≡ false → (r : Reader) → In r rs
    → is_passed m (pin r.pinned) ≡ false
none_passed m [] e r i = absurd i
none_passed m (x ∷ rs) e r (inl q) =
    sym (passed_by m r.pinned) ∙ ap (λ (y : Reader). passes m y.pinned) q
    ∙ first (passes m x.pinned) (passes_some m rs) e
  where
    first : (a b : Bool) → a || b ≡ false → a ≡ false
    first true b k = absurd (cc)
    first false b k = refl
none_passed m (x ∷ rs) e r (inr i) = none_passed m rs (second (passes m x.pinned) (passes_some m rs) e) r i
  where
    second : (a b : Bool) → a || b ≡ false → b ≡ false
    second true b k = absurd (cc)
    second false b k = k

module _ (s : State) (m : ℤ) (back : s.horizon ≤ℤ m) (until : ℤ) (top : until ≤ℤ high)
    (falls : FallingFrom until s.history) where
  pruned_reads : (o : Option ℤ) (r : Reader) → pin r.pinned ≡ o → is_passed m o ≡ false → ReadsTheHistory s r
      → ReadsTheHistory (record s { history = pruned m s.history; horizon = m }) r
  pruned_reads None r is e k = absurd (cc)
  pruned_reads (Some p) r is e k = record {
    kept = λ q f.
        let x = k.kept q f in
        let same : p ≡ q = inside p q (sym is ∙ f) in
        (x.0, stays m q (subst (λ y. m ≤ℤ y) same before) until s.history falls x.0 x.1 x.2, x.2);
    questions = λ t w b.
        ap (λ (o : Option ℤ). found w (table_history t (until_pin o (pruned m s.history)))) is
        ∙ ap (λ (es : List Entry). found w (table_history t es)) (cut m p before s.history)
        ∙ pruned_answers_stay t m (not_after p s.history) w
        (falls_lower until high (not_after p s.history) top (falls_until (Some p) until s.history falls)) b
        ∙ ap (λ (o : Option ℤ). found w (table_history t (until_pin o s.history))) (sym is)
        ∙ k.questions t w (earlier s.horizon m back w b);
  }
    where
      inside : (a b : ℤ) → Some a ≡ Some b → a ≡ b
      inside a b q = cc

      before : m ≤ℤ p
      before = not_before p m e

  pub readers_pruned : (kept : List KeptReader) → list_any (λ (k : KeptReader). is_passed m k.pin) kept ≡ false
      → AreReaders kept s → AreReaders kept (record s { history = pruned m s.history; horizon = m })
  readers_pruned kept e k = record {
    same = k.same;
    read = λ r i. pruned_reads (pin r.pinned) r refl
        (none_passed m s.readers (some_passed m s.readers
        ∙ ap (list_any (λ (x : KeptReader). is_passed m x.pin)) (sym k.same) ∙ e) r i) (k.read r i);
  }

-- ---- opening and closing

-- the copies up to the newest one are all copies
until_newest : (es : List Entry) → until_pin (pin es) es ≡ es
until_newest [] = refl
until_newest (e ∷ es) = ap (λ b. if b then e ∷ es else not_after e.moment es) (itself e.moment)
  where
    itself : (x : ℤ) → int_le x x ≡ true
    itself x = elim (le_tells x x) [ inl s ↦ s.0 | inr s ↦ absurd (let a = s.1 in omega (arith, ints)) ]

newest_there : (es : List Entry) (p : ℤ) → pin es ≡ Some p → HasMoment es p
newest_there [] p q = absurd (cc)
newest_there (e ∷ es) p q = (e, inl refl, cc)

pub readers_opened : (kept : List KeptReader) (s : State) (n : Name) (o : Option ℤ) → o ≡ pin s.history
    → AreReaders kept s
    → AreReaders (kept ++ record { name = n; pin = o } ∷ [])
    (record s { readers = s.readers ++ record { name = n; pinned = s.history } ∷ [] })
readers_opened kept s n o is k = record {
  same =
      (λ i. k.same i ++ record { name = n; pin = is i } ∷ [])
      ∙ sym (map-append told s.readers (record { name = n; pinned = s.history } ∷ []));
  read = λ r i. elim (in_either r s.readers (record { name = n; pinned = s.history } ∷ []) i) [
    | inl j ↦ reads_stay s _ r refl refl (k.read r j)
    | inr j ↦ elim j [
      | inl q ↦ subst (λ (x : Reader). ReadsTheHistory opened x) (sym q) (record {
        kept = newest_there s.history;
        questions = λ t w b. ap (λ (es : List Entry). found w (table_history t es)) (until_newest s.history);
      })
      | inr z ↦ absurd z
    ]
  ];
}
  where
    opened : State
    opened = record s { readers = s.readers ++ record { name = n; pinned = s.history } ∷ [] }

told_kept : (n : Name) (rs : List Reader)
    → map told (filter (λ (r : Reader). not (same_text n r.name)) rs)
    ≡ filter (λ (k : KeptReader). not (same_text n k.name)) (map told rs)
told_kept n [] = refl
told_kept n (r ∷ rs) = either (not (same_text n r.name)) _ _ (told_kept n rs)
  where
    either : (b : Bool) (xs : List Reader) (ys : List KeptReader) → map told xs ≡ ys
        → map told (cond b (r ∷ xs) xs) ≡ cond b (told r ∷ ys) ys
    either true xs ys e = ap {B = List KeptReader} (λ zs. told r ∷ zs) e
    either false xs ys e = e

pub readers_closed : (kept : List KeptReader) (s : State) (n : Name) → AreReaders kept s
    → AreReaders (filter (λ (k : KeptReader). not (same_text n k.name)) kept)
    (record s { readers = filter (λ (r : Reader). not (same_text n r.name)) s.readers })
readers_closed kept s n k = record {
  same = ap (filter (λ (x : KeptReader). not (same_text n x.name))) k.same ∙ sym (told_kept n s.readers);
  read = λ r i. reads_stay s _ r refl refl
      (k.read r (in_kept (λ (x : Reader). not (same_text n x.name)) r s.readers i).0);
}

-- ---- readers by name

-- an open reader is found by its name
pub the_reader : (n : Name) (rs : List Reader) → is_live n rs ≡ true
    → (r : Reader) × In r rs × (pinned_of n rs ≡ r.pinned)
the_reader n [] e = absurd (cc)
the_reader n (x ∷ rs) e = either (same_text n x.name) e (the_reader n rs)
  where
    either : (b : Bool) → (b || is_live n rs) ≡ true
        → (is_live n rs ≡ true → (r : Reader) × In r rs × (pinned_of n rs ≡ r.pinned))
        → (r : Reader) × In r (x ∷ rs) × ((if b then x.pinned else pinned_of n rs) ≡ r.pinned)
    either true f k = (x, inl refl, refl)
    either false f k = let y = k f in (y.0, inr y.1, y.2)

pub pin_named : (n : Name) (rs : List Reader) → pin_of n (map told rs) ≡ pin (pinned_of n rs)
pin_named n [] = refl
pin_named n (r ∷ rs) = either (same_text n r.name) (pin_named n rs)
  where
    either : (b : Bool) → pin_of n (map told rs) ≡ pin (pinned_of n rs)
        → (if b then pin r.pinned else pin_of n (map told rs)) ≡ pin (if b then r.pinned else pinned_of n rs)
    either true e = refl
    either false e = e

-- the names are those of the model's readers
pub names_told : (rs : List Reader) → map (λ (k : KeptReader). k.name) (map told rs) ≡ map (λ (r : Reader). r.name) rs
names_told [] = refl
names_told (r ∷ rs) = ap {B = List Name} (λ ns. r.name ∷ ns) (names_told rs)

-- if the model has no open reader, the engine keeps none
pub none_open : (rs : List Reader) → is_any_open rs ≡ false → map told rs ≡ []
none_open [] e = refl
none_open (r ∷ rs) e = absurd (cc)
