-- One statement more is found.
use Rattle.std.proofs.Common.{◌≡◌, ◌≤◌, refl, sym, ap, subst, ◌∙◌, ℕ, ◌+◌, ◌==◌, Bool, true, false, cond, List, [], ◌∷◌}
use Rattle.std.proofs.Common.{◌++◌, length, take, drop, append_assoc, append-nil, inl, inr, arith}
use Rattle.std.specs.Prelude.{◌⊎◌, ◌&&◌, not, Some}
use Rattle.std.specs.List.{list_all}
use Rattle.std.proofs.Math.Seq.{take-append_seam, drop-append_seam}
use Rattle.std.proofs.lemmas.List.{length-append, length-take-le, take-append-drop}
use Rattle.std.proofs.lemmas.List.Sums.{sum_by-append, sum_by-cons, count_by-le-length}
use Rattle.tql_spec.specs.Bag.{In}
use Rattle.tql_journal_laws.specs.Bytes.{IsStatementText, journal_bytes, with_text, with_statement, line_after}
use Rattle.tql_journal.specs.Seals.{head, hash_words, HoldsBytes}
use Rattle.tql_journal.specs.Fronts.{IsFront, IsEntry, FitsIn, entry}
use Rattle.tql_journal.specs.Windows.{Seen}
use Rattle.tql_journal.specs.Reading.{IsOf, Counts, digits_of, last_of, line_feeds}
use Rattle.tql_journal.specs.Entries.{Adds, MayFollow, TakesAll}
use Rattle.tql_journal.specs.declared.front.Entry.{Entry}
use Rattle.tql_journal.specs.declared.front.Front as code
use Rattle.tql_journal.specs.declared.front.Front.TheVariants as v
use Rattle.tql_journal.specs.declared.found.Found.{Found}
use Rattle.tql_journal.specs.declared.seal.Seal.{Seal}
use Rattle.tql_journal.proofs.LongestLemmas.{one_lines, one_more}
use Rattle.tql_journal.proofs.FrontLemmas.{statement_there, entry_text}

-- some statements were added, and `front` is the next one
pub record TakesSome (sought : List ℕ) (window window' : Seen) (old new : Found) (front : code.Front) : Type 0 where
  pub taken : List ℕ
  pub bytes : window.bytes ≡ taken ++ window'.bytes
  pub total : window'.total ≡ window.total
  pub end : new.end ≡ old.end + length taken
  pub statements : new.statements ≤ new.end
  pub lines : new.lines ≤ new.end
  pub fits : FitsIn window'.bytes front
  pub is : (before : List ℕ) → IsOf sought before old → (texts : List (List ℕ))
      × Counts sought (before ++ taken) texts new × IsFront (before ++ taken) window'.bytes (HoldsBytes new.seal) front

-- ---- lists

feeds_more : (xs ys : List ℕ) → line_feeds (xs ++ ys) ≡ line_feeds xs + line_feeds ys
feeds_more xs ys = sum_by-append (λ (x : ℕ). cond (x == 10) 1 0) xs ys

-- a line has no line feed inside
feeds_none : (xs : List ℕ) → list_all (λ b. not (b == 10)) xs ≡ true → line_feeds xs ≡ 0
feeds_none [] e = refl
feeds_none (x ∷ xs) e = sum_by-cons (λ (y : ℕ). cond (y == 10) 1 0) x xs ∙ by (x == 10) e (feeds_none xs)
  where
    by : (t : Bool) → not t && list_all (λ b. not (b == 10)) xs ≡ true
        → (list_all (λ b. not (b == 10)) xs ≡ true → line_feeds xs ≡ 0) → cond t 1 0 + line_feeds xs ≡ 0
    by true f k = absurd (cc)
    by false f k = let a = k f in omega (arith, a)

-- a statement with its line has two line feeds besides those in its text
feeds_of_entry : (before text : List ℕ) → line_feeds (entry before text) ≡ line_feeds text + 2
feeds_of_entry before text =
    let words : List ℕ = hash_words (with_text before text) in
    let a = feeds_more (text ++ 59 ∷ 10 ∷ []) (line_after hash_words (with_text before text)) in
    let b = feeds_more text (59 ∷ 10 ∷ []) in
    let one : line_feeds (59 ∷ 10 ∷ []) ≡ 1 = refl in
    let last : line_feeds (10 ∷ []) ≡ 1 = refl in
    let line : line_feeds (line_after hash_words (with_text before text)) ≡ line_feeds (words ++ 10 ∷ []) = refl in
    let c = feeds_more words (10 ∷ []) in
    let d = feeds_none words (one_lines (with_text before text)) in
    omega (arith, a, b, c, d, one, last, line)

digits_more : (start : List ℕ) (xs : List (List ℕ)) (t : List ℕ)
    → digits_of start (xs ++ t ∷ [])
    ≡ digits_of start xs ++ hash_words (with_text (journal_bytes hash_words start xs) t) ∷ []
digits_more start [] t = refl
digits_more start (x ∷ xs) t =
    ap {B = List (List ℕ)} (λ z. hash_words (with_text start x) ∷ z)
    (digits_more (with_statement hash_words start x) xs t)

last_more : (xs : List (List ℕ)) (x : List ℕ) → last_of (xs ++ x ∷ []) ≡ Some x
last_more [] x = refl
last_more (y ∷ []) x = refl
last_more (y ∷ z ∷ xs) x = last_more (z ∷ xs) x

in_more : {A : Type 0} (a : A) (xs : List A) (x : A) → In a (xs ++ x ∷ []) → In a xs ⊎ (a ≡ x)
in_more a [] x (inl e) = inr e
in_more a [] x (inr k) = absurd k
in_more a (y ∷ ys) x (inl e) = inl (inl e)
in_more a (y ∷ ys) x (inr k) = elim (in_more a ys x k) [
  | inl i ↦ inl (inr i)
  | inr e ↦ inr e
]

in_first : {A : Type 0} (a : A) (xs ys : List A) → In a xs → In a (xs ++ ys)
in_first a [] ys k = absurd k
in_first a (x ∷ xs) ys (inl e) = inl e
in_first a (x ∷ xs) ys (inr k) = inr (in_first a xs ys k)

in_last : {A : Type 0} (a : A) (xs : List A) → In a (xs ++ a ∷ [])
in_last a [] = inl refl
in_last a (x ∷ xs) = inr (in_last a xs)

-- ---- one more statement

counts_more : (sought front text : List ℕ) (texts : List (List ℕ)) (e : Entry) (old new : Found)
    → Counts sought front texts old → IsStatementText text → e.count ≡ length (entry front text)
    → e.digits ≡ hash_words (with_text front text) → Adds sought text e old new
    → Counts sought (front ++ entry front text) (texts ++ text ∷ []) new
counts_more sought front text texts e old new k t count digits a = record {
  journal = one_more front texts text k.journal t;
  end =
      let l = length-append front (entry front text) in
      let f = a.end in
      let g = k.end in
      omega (arith, l, f, g, count);
  statements =
      let l = length-append texts (text ∷ []) in
      let f = a.statements in
      let g = k.statements in
      omega (arith, l, f, g);
  lines =
      let l = feeds_more front (entry front text) in
      let f = a.lines in
      let g = k.lines in
      let h = feeds_of_entry front text in
      omega (arith, l, f, g, h);
  last = a.last ∙ ap Some digits_are ∙ sym (ap last_of all_digits ∙ last_more (digits_of head texts) line);
  there = λ h. elim (a.has_line h) [
    | inl o ↦ subst (In sought) (sym all_digits) (in_first sought (digits_of head texts) (line ∷ []) (k.there o))
    | inr q ↦ subst (In sought) (sym all_digits) (subst (λ (z : List ℕ). In sought (digits_of head texts ++ z ∷ []))
        (sym q ∙ digits_are) (in_last sought (digits_of head texts)))
  ];
  all = λ i. elim (in_more sought (digits_of head texts) line (subst (In sought) all_digits i)) [
    | inl o ↦ a.still (k.all o)
    | inr q ↦ a.this (digits_are ∙ sym q)
  ];
}
  where
    line : List ℕ
    line = hash_words (with_text (journal_bytes hash_words head texts) text)

    digits_are : e.digits ≡ line
    digits_are = digits ∙ ap (λ (z : List ℕ). hash_words (with_text z text)) k.journal.is

    all_digits : digits_of head (texts ++ text ∷ []) ≡ digits_of head texts ++ line ∷ []
    all_digits = digits_more head texts text

-- the seal and what is not counted may change
recount : (sought front : List ℕ) (texts : List (List ℕ)) (old new : Found) → Counts sought front texts old
    → new.end ≡ old.end → new.statements ≡ old.statements → new.lines ≡ old.lines → new.last ≡ old.last
    → new.has_line ≡ old.has_line → Counts sought front texts new
recount sought front texts old new k end statements lines last line = record {
  journal = k.journal;
  end = end ∙ k.end;
  statements = statements ∙ k.statements;
  lines = lines ∙ k.lines;
  last = last ∙ k.last;
  there = λ h. k.there (sym line ∙ h);
  all = λ i. line ∙ k.all i;
}

-- before the first statement
pub takes_none : (sought : List ℕ) (window : Seen) (found : Found) (front : code.Front) (seal : Seal)
    → found.statements ≤ found.end → found.lines ≤ found.end → FitsIn window.bytes front
    → ((before : List ℕ) → HoldsBytes found.seal before → IsFront before window.bytes (HoldsBytes seal) front)
    → TakesSome sought window window found (record found { seal = seal }) front
takes_none sought window found front seal s l f k = record {
  taken = [];
  bytes = refl;
  total = refl;
  end = omega arith;
  statements = s;
  lines = l;
  fits = f;
  is = λ before i. (
    i.texts,
    recount sought (before ++ []) i.texts found (record found { seal = seal })
        (subst (λ (z : List ℕ). Counts sought z i.texts found) (sym (append-nil before)) i.counts) refl refl refl refl
        refl,
    subst (λ (z : List ℕ). IsFront z window.bytes (HoldsBytes seal) front) (sym (append-nil before)) (k before i.seal),
  );
}

-- the parts of bytes that begin with a statement and its line
entry_parts : (before bytes : List ℕ) (e : Entry) (holds : List ℕ → Type 0) → (i : IsEntry before bytes e holds)
    → (take e.text bytes ≡ i.text) × (take e.count bytes ≡ entry before i.text) × (drop e.count bytes ≡ i.rest)
entry_parts before bytes e holds i = (
  ap (λ n. take n bytes) i.text_length ∙ ap (λ (z : List ℕ). take (length i.text) z) texts
      ∙ take-append_seam i.text _,
  ap (λ n. take n bytes) i.count ∙ ap (λ (z : List ℕ). take (length (entry before i.text)) z) i.parts
      ∙ take-append_seam (entry before i.text) i.rest,
  ap (λ n. drop n bytes) i.count ∙ ap (λ (z : List ℕ). drop (length (entry before i.text)) z) i.parts
      ∙ drop-append_seam (entry before i.text) i.rest,
)
  where
    texts : bytes ≡ i.text ++ 59 ∷ (10 ∷ line_after hash_words (with_text before i.text) ++ i.rest)
    texts = i.parts ∙ entry_text before i.text i.rest

-- one statement more
pub takes_more : (sought : List ℕ) (first window window' : Seen) (old found new : Found) (e : Entry)
    (front' : code.Front) (seal' : Seal) → TakesSome sought first window old found (v.Entry e)
    → Adds sought (take e.text window.bytes) e found new → window'.bytes ≡ drop e.count window.bytes
    → window'.total ≡ window.total → FitsIn window'.bytes front'
    → ((before : List ℕ) → HoldsBytes new.seal before → IsFront before window'.bytes (HoldsBytes seal') front')
    → TakesSome sought first window' old (record new { seal = seal' }) front'
takes_more sought first window window' old found new e front' seal' t a b total f k = record {
  taken = t.taken ++ take e.count window.bytes;
  bytes = t.bytes ∙ ap (λ (z : List ℕ). t.taken ++ z) (sym (take-append-drop e.count window.bytes)
      ∙ ap (λ (z : List ℕ). take e.count window.bytes ++ z) (sym b))
      ∙ sym (append_assoc t.taken (take e.count window.bytes) window'.bytes);
  total = total ∙ t.total;
  end =
      let x = a.end in
      let y = t.end in
      let z = length-append t.taken (take e.count window.bytes) in
      let w = length-take-le e.count window.bytes t.fits.1 in
      omega (arith, x, y, z, w);
  statements =
      let x = a.end in
      let y = a.statements in
      let z = t.statements in
      let w = t.fits.0 in
      omega (arith, x, y, z, w);
  lines =
      let x = a.end in
      let y = a.lines in
      let z = t.lines in
      let w = t.fits in
      let n = count_by-le-length (λ (x : ℕ). x == 10) (take e.text window.bytes) in
      let m = length-take-le e.text window.bytes (omega (arith, w)) in
      omega (arith, x, y, z, w, n, m);
  fits = f;
  is = λ before i. one before i;
}
  where
    one : (before : List ℕ) → IsOf sought before old → (texts : List (List ℕ))
        × Counts sought (before ++ (t.taken ++ take e.count window.bytes)) texts (record new { seal = seal' })
        × IsFront (before ++ (t.taken ++ take e.count window.bytes)) window'.bytes (HoldsBytes seal') front'
    one before i =
        let p = t.is before i in
        let front : List ℕ = before ++ t.taken in
        let n = p.2 in
        let parts = entry_parts front window.bytes e (HoldsBytes found.seal) n in
        let all : before ++ (t.taken ++ take e.count window.bytes) ≡ front ++ entry front n.text =
        sym (append_assoc before t.taken (take e.count window.bytes))
        ∙ ap (λ (z : List ℕ). front ++ z) parts.1 in (
          p.0 ++ n.text ∷ [],
          subst (λ (z : List ℕ). Counts sought z (p.0 ++ n.text ∷ []) (record new { seal = seal' })) (sym all)
              (recount sought (front ++ entry front n.text) (p.0 ++ n.text ∷ []) new (record new { seal = seal' })
              (counts_more sought front n.text p.0 e found new p.1 n.is_text n.count n.digits
              (subst (λ (z : List ℕ). Adds sought z e found new) parts.0 a)) refl refl refl refl refl),
          subst (λ (z : List ℕ). IsFront z window'.bytes (HoldsBytes seal') front') (sym all)
              (k (front ++ entry front n.text)
              (subst (λ (z : Seal). HoldsBytes z (front ++ entry front n.text)) (sym a.seal)
              (subst (HoldsBytes found.seal) (statement_there front n.text) n.seal))),
        )

-- after the last one
takes_all : (sought : List ℕ) (first window : Seen) (old found : Found) (front : code.Front) (is_torn : Bool)
    → (t : TakesSome sought first window old found front)
    → ((before : List ℕ) → IsFront before window.bytes (HoldsBytes found.seal) front
    → MayFollow before window.bytes is_torn × HoldsBytes found.seal before)
    → TakesAll sought first window old found is_torn
takes_all sought first window old found front is_torn t k = record {
  taken = t.taken;
  bytes = t.bytes;
  total = t.total;
  end = t.end;
  statements = t.statements;
  lines = t.lines;
  is = λ before i.
      let p = t.is before i in
      let f = k (before ++ t.taken) p.2 in
      (record { texts = p.0; counts = p.1; seal = f.1 }, f.0);
}

pub takes_torn : (sought : List ℕ) (first window : Seen) (old found : Found) (front : code.Front)
    → TakesSome sought first window old found front → front ≡ v.Torn → TakesAll sought first window old found true
takes_torn sought first window old found front t e = takes_all sought first window old found front true t (λ before f.
    let g = subst (λ z. IsFront before window.bytes (HoldsBytes found.seal) z) e f in ((g.0, g.1), g.2))

pub takes_damaged : (sought : List ℕ) (first window : Seen) (old found : Found) (front : code.Front)
    → TakesSome sought first window old found front → ((e : Entry) → front ≡ v.Entry e → ⊥) → (front ≡ v.Torn → ⊥)
    → TakesAll sought first window old found false
takes_damaged sought first window old found (v.Entry e) t f g = absurd (f e refl)
takes_damaged sought first window old found v.Torn t f g = absurd (g refl)
takes_damaged sought first window old found v.Damaged t f g =
    takes_all sought first window old found v.Damaged false t (λ before k. k)
