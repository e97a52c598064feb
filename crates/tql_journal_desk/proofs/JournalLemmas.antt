-- What is added to a journal.
use Rattle.std.proofs.Common.{◌≡◌, refl, sym, ap, ◌∙◌, ℕ, Bool, true, false, List, [], ◌∷◌, ◌++◌, append_assoc}
use Rattle.std.proofs.Common.{append-nil}
use Rattle.std.specs.Prelude.{Option, Some, None, IsTrue, IsFalse}
use Rattle.tql_journal_laws.specs.Bytes.{with_text, with_statement}
use Rattle.tql_journal.specs.Seals.{hash_words}
use Rattle.tql_journal_desk.specs.Order.{Content, Steps, Keeps, Notes, Appended, HasNotAppended}
use Rattle.tql_journal_desk.specs.Journals.{Puts, KeepsOne}

not_failed : (failed failed' : Bool) → (IsTrue failed → IsTrue failed') → IsFalse failed' → IsFalse failed
not_failed true failed' f e = absurd (let q = sym (f refl) ∙ e in cc)
not_failed false failed' f e = refl

-- nothing is added
pub puts_none : (a : Option Content) (failed : Bool) (lines : List ℕ) → Steps (Puts [] failed lines lines) a a
puts_none None failed lines = tt
puts_none (Some c) failed lines =
    record { events = refl; durable = refl; adds = λ e. sym (append-nil (c.written ++ lines)) }

-- a failed journal says nothing of its bytes
pub puts_failed : (bytes : List ℕ) (a b : Option Content) (lines lines' : List ℕ) → Steps HasNotAppended a b
    → Steps (Puts bytes true lines lines') a b
puts_failed bytes None None lines lines' k = tt
puts_failed bytes None (Some d) lines lines' k = absurd k
puts_failed bytes (Some c) None lines lines' k = absurd k
puts_failed bytes (Some c) (Some d) lines lines' k =
    record { events = k.events; durable = k.durable; adds = λ e. absurd (cc) }

pub same_content : (a : Option Content) → Steps HasNotAppended a a
same_content None = tt
same_content (Some c) = record { events = refl; durable = refl }

-- bytes are appended, with those that were buffered before them
pub puts_appended : (bytes lines : List ℕ) (a b : Option Content) (failed : Bool)
    → Steps (Appended (lines ++ bytes)) a b
    → Steps (Puts bytes failed lines []) a b
puts_appended bytes lines None None failed k = tt
puts_appended bytes lines None (Some d) failed k = absurd k
puts_appended bytes lines (Some c) None failed k = absurd k
puts_appended bytes lines (Some c) (Some d) failed k = record {
  events = ap (λ (x : Content). x.events) k;
  durable = ap (λ (x : Content). x.durable) k;
  adds = λ e. append-nil d.written ∙ ap (λ (x : Content). x.written) k ∙ sym (append_assoc c.written lines bytes);
}

-- bytes are buffered
pub puts_buffered : (bytes lines lines' : List ℕ) (a : Option Content) (failed : Bool) → lines' ≡ lines ++ bytes
    → Steps (Puts bytes failed lines lines') a a
puts_buffered bytes lines lines' None failed e = tt
puts_buffered bytes lines lines' (Some c) failed e = record {
  events = refl;
  durable = refl;
  adds = λ f. ap (λ (z : List ℕ). c.written ++ z) e ∙ sym (append_assoc c.written lines bytes);
}

-- some are, and then others
pub puts_both : (xs ys : List ℕ) (a b c : Option Content) (failed failed' : Bool) (lines mid lines' : List ℕ)
    → Steps (Puts xs failed lines mid) a b → Steps (Puts ys failed' mid lines') b c → (IsTrue failed → IsTrue failed')
    → Steps (Puts (xs ++ ys) failed' lines lines') a c
puts_both xs ys None None None failed failed' lines mid lines' p q f = tt
puts_both xs ys None None (Some z) failed failed' lines mid lines' p q f = absurd q
puts_both xs ys None (Some y) c failed failed' lines mid lines' p q f = absurd p
puts_both xs ys (Some x) None c failed failed' lines mid lines' p q f = absurd p
puts_both xs ys (Some x) (Some y) None failed failed' lines mid lines' p q f = absurd q
puts_both xs ys (Some x) (Some y) (Some z) failed failed' lines mid lines' p q f = record {
  events = q.events ∙ p.events;
  durable = q.durable ∙ p.durable;
  adds = λ e. q.adds e ∙ ap (λ (w : List ℕ). w ++ ys) (p.adds (not_failed failed failed' f e))
      ∙ append_assoc (x.written ++ lines) xs ys;
}

-- a statement was noted, and its bytes were added
pub keeps_one : (text digits : List ℕ) (a b c : Option Content) (failed : Bool) (lines lines' : List ℕ)
    (seals seals' : List ℕ → Type 0) → Steps (Notes (Keeps text)) a b
    → Steps (Puts (text ++ (59 ∷ 10 ∷ 45 ∷ 45 ∷ 32 ∷ []) ++ digits ++ 10 ∷ []) failed lines lines') b c
    → ((before : List ℕ) → seals before
    → seals' (with_statement hash_words before text) × (digits ≡ hash_words (with_text before text)))
    → Steps (KeepsOne text failed seals seals' lines lines') a c
keeps_one text digits None None None failed lines lines' seals seals' n p k = tt
keeps_one text digits None None (Some z) failed lines lines' seals seals' n p k = absurd p
keeps_one text digits None (Some y) c failed lines lines' seals seals' n p k = absurd n
keeps_one text digits (Some x) None c failed lines lines' seals seals' n p k = absurd n
keeps_one text digits (Some x) (Some y) None failed lines lines' seals seals' n p k = absurd p
keeps_one text digits (Some x) (Some y) (Some z) failed lines lines' seals seals' n p k = record {
  events = p.events ∙ ap (λ (w : Content). w.events) n;
  durable = p.durable ∙ ap (λ (w : Content). w.durable) n;
  bytes = λ e before h is.
      let s = k before h in (
        s.0,
        p.adds e ∙ ap (λ (w : List ℕ). w ++ (text ++ (59 ∷ 10 ∷ 45 ∷ 45 ∷ 32 ∷ []) ++ digits ++ 10 ∷ []))
            (ap (λ (w : Content). w.written ++ lines) n ∙ is)
            ∙ whole before s.1,
      );
}
  where
    whole : (before : List ℕ) → digits ≡ hash_words (with_text before text)
        → before ++ (text ++ (59 ∷ 10 ∷ 45 ∷ 45 ∷ 32 ∷ []) ++ digits ++ 10 ∷ []) ≡ with_statement hash_words before text
    whole before d =
        let marks : List ℕ = 45 ∷ 45 ∷ 32 ∷ digits ++ 10 ∷ [] in
        ap (λ (w : List ℕ). before ++ w) (append_assoc (text ++ (59 ∷ 10 ∷ 45 ∷ 45 ∷ 32 ∷ [])) digits (10 ∷ [])
        ∙ append_assoc text (59 ∷ 10 ∷ 45 ∷ 45 ∷ 32 ∷ []) (digits ++ 10 ∷ []))
        ∙ sym (append_assoc before text (59 ∷ 10 ∷ marks))
        ∙ sym (append_assoc (before ++ text) (59 ∷ 10 ∷ []) marks)
        ∙ ap (λ (w : List ℕ). with_text before text ++ (45 ∷ 45 ∷ 32 ∷ w ++ 10 ∷ [])) d
