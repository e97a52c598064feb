-- Which texts end a transaction, by their words.
use Rattle.std.proofs.Common.{◌≡◌, refl, sym, ap, ◌∙◌, subst, ℕ, ◌≤◌, Bool, true, false, List, [], ◌∷◌, length}
use Rattle.std.proofs.Common.{Option, Some, None, IsUtf8, arith, inl, inr}
use Rattle.std.specs.Prelude.{◌⊎◌, ◌↔◌, map, codes}
use Rattle.std.proofs.lemmas.Slice.Eq.{bytes_eq-Decides}
use Rattle.tql_spec.specs.Words.{same_text}
use Rattle.tql_spec.specs.Token.{Token, Word, AreTokens, upper}
use Rattle.tql_spec.specs.Grammar.{IsStatement}
use Rattle.tql_spec.specs.Run.{IsTextOf, HasSense, Says, IsWhole, finished}
use Rattle.tql_spec.proofs.TokenLaws.{one_list}
use Rattle.tql_lex.specs.SoleWords.{word_tokens}
use Rattle.tql_lex.proofs.WordLemmas.{same_bytes}
use Rattle.tql_syntax.specs.declared.ending.TransactionEnd as code
use Rattle.tql_syntax.specs.declared.ending.TransactionEnd.TheVariants.{Commit, Rollback}
use Rattle.tql_syntax.specs.Endings.{end_statement, EndsText, end_of_word, is_work}

text_is : (xs ys : List ℕ) → same_text xs ys ≡ true → xs ≡ ys
text_is xs ys e = (bytes_eq-Decides xs ys).0 (sym (same_bytes xs ys) ∙ e)

text_self : (xs : List ℕ) → same_text xs xs ≡ true
text_self xs = same_bytes xs xs ∙ (bytes_eq-Decides xs xs).1 refl

-- the word that such a statement begins with
abbrev word_of : code.TransactionEnd → List ℕ
word_of Commit = codes "COMMIT"
word_of Rollback = codes "ROLLBACK"

-- the tokens of such a statement
abbrev AreEnding : code.TransactionEnd → List Token → Type 0
AreEnding e ts = (ts ≡ Word (word_of e) ∷ []) ⊎ (ts ≡ Word (word_of e) ∷ Word (codes "WORK") ∷ [])

spelled_so : (e : code.TransactionEnd) (ts : List Token) → IsStatement (end_statement e) ts → AreEnding e ts
spelled_so Commit ts (mid, begins, inl none) = inl (begins ∙ ap (λ (us : List Token). Word (codes "COMMIT") ∷ us) none)
spelled_so Commit ts (mid, begins, inr work) = inr (begins ∙ ap (λ (us : List Token). Word (codes "COMMIT") ∷ us) work)
spelled_so Rollback ts (mid, begins, inl none) =
    inl (begins ∙ ap (λ (us : List Token). Word (codes "ROLLBACK") ∷ us) none)
spelled_so Rollback ts (mid, begins, inr work) =
    inr (begins ∙ ap (λ (us : List Token). Word (codes "ROLLBACK") ∷ us) work)

-- the words of a text that ends a transaction
record HasWords (e : code.TransactionEnd) (first : List ℕ) (second : Option (List ℕ)) : Type 0 where
  begins : map upper first ≡ word_of e
  work : is_work second ≡ true

first_is : (v w : List ℕ) (ts us : List Token) → Word v ∷ ts ≡ Word w ∷ us → v ≡ w
first_is v w ts us e = cc

second_is : (t u : Token) (v w : List ℕ) → t ∷ Word v ∷ [] ≡ u ∷ Word w ∷ [] → v ≡ w
second_is t u v w e = cc

words_of : (e : code.TransactionEnd) (first : List ℕ) (second : Option (List ℕ))
    → AreEnding e (word_tokens first second)
    → HasWords e first second
words_of e first None (inl one) = record {
  begins = first_is (map upper first) (word_of e) [] [] one;
  work = refl;
}
words_of e first None (inr two) = absurd cc
words_of e first (Some w) (inl one) = absurd cc
words_of e first (Some w) (inr two) = record {
  begins = first_is (map upper first) (word_of e) (Word (map upper w) ∷ []) (Word (codes "WORK") ∷ []) two;
  work = ap (λ (v : List ℕ). same_text v (codes "WORK"))
      (second_is (Word (map upper first)) (Word (word_of e)) (map upper w) (codes "WORK") two)
      ∙ text_self (codes "WORK");
}

has_words : (text first : List ℕ) (second : Option (List ℕ)) (e : code.TransactionEnd)
    → AreTokens (word_tokens first second) text → IsTextOf text (end_statement e)
    → HasWords e first second
has_words text first second e are (ts, tokens, spelled) =
    words_of e first second
    (subst (AreEnding e) (one_list text ts (word_tokens first second) tokens.0 are) (spelled_so e ts spelled))

-- a text whose second word is not WORK does not end a transaction
pub not_work : (text first : List ℕ) (second : Option (List ℕ)) → AreTokens (word_tokens first second) text
    → is_work second ≡ false → EndsText text None
not_work text first second are other e is =
    let w = has_words text first second e are is in
    let no_so : true ≡ false = sym w.work ∙ other in absurd cc

-- the tokens of the words, where they are those of an end
spells : (e : code.TransactionEnd) (first : List ℕ) (second : Option (List ℕ)) → HasWords e first second
    → AreEnding e (word_tokens first second)
spells e first None h = inl (ap (λ (v : List ℕ). Word v ∷ []) h.begins)
spells e first (Some w) h =
    inr (ap (λ (v : List ℕ). Word v ∷ Word (map upper w) ∷ []) h.begins
    ∙ ap (λ (v : List ℕ). Word (word_of e) ∷ Word v ∷ []) (text_is (map upper w) (codes "WORK") h.work))

ends_so : (e : code.TransactionEnd) (text : List ℕ) (ts : List Token) → AreEnding e ts → AreTokens ts text
    → IsTextOf text (end_statement e)
ends_so Commit text ts (inl one) are =
    (ts, (are, rw one (omega arith)), ([], one, inl refl))
ends_so Commit text ts (inr two) are =
    (ts, (are, rw two (omega arith)), (Word (codes "WORK") ∷ [], two, inr refl))
ends_so Rollback text ts (inl one) are =
    (ts, (are, rw one (omega arith)), ([], one, inl refl))
ends_so Rollback text ts (inr two) are =
    (ts, (are, rw two (omega arith)), (Word (codes "WORK") ∷ [], two, inr refl))

-- if there is no second word other than WORK, the first word decides
pub word_decides : (text first : List ℕ) (second : Option (List ℕ)) → AreTokens (word_tokens first second) text
    → is_work second ≡ true → EndsText text (end_of_word (map upper first))
word_decides text first second are work =
    by (same_text (map upper first) (codes "COMMIT")) refl (same_text (map upper first) (codes "ROLLBACK")) refl
  where
    so : (e : code.TransactionEnd) → same_text (map upper first) (word_of e) ≡ true
        → IsTextOf text (end_statement e)
    so e is = ends_so e text (word_tokens first second)
        (spells e first second (record { begins = text_is (map upper first) (word_of e) is; work = work })) are

    other : (e : code.TransactionEnd) → same_text (map upper first) (word_of e) ≡ false
        → IsTextOf text (end_statement e) → ⊥
    other e f is =
        let w = has_words text first second e are is in
        let no_so : true ≡ false = sym (text_self (word_of e))
        ∙ ap (λ (v : List ℕ). same_text v (word_of e)) (sym w.begins) ∙ f in
        absurd cc

    none : (e : code.TransactionEnd) → same_text (map upper first) (codes "COMMIT") ≡ false
        → same_text (map upper first) (codes "ROLLBACK") ≡ false → IsTextOf text (end_statement e) → ⊥
    none Commit f g = other Commit f
    none Rollback f g = other Rollback g

    by : (c : Bool) → same_text (map upper first) (codes "COMMIT") ≡ c
        → (r : Bool) → same_text (map upper first) (codes "ROLLBACK") ≡ r
        → EndsText text (end_of_word (map upper first))
    by true p r q = rw p (so Commit p)
    by false p true q = rw (p, q) (so Rollback q)
    by false p false q = rw (p, q) (λ e. none e p q)

-- ---- the same for bytes

-- one text does not end a transaction in two ways
one_end : (text : List ℕ) (e f : code.TransactionEnd) → IsTextOf text (end_statement e)
    → IsTextOf text (end_statement f) → e ≡ f
one_end text e f (ts, tokens, spelled) (us, others, spelled_too) =
    by e f (spelled_so e ts spelled)
    (subst (AreEnding f) (one_list text us ts others.0 tokens.0) (spelled_so f us spelled_too))
  where
    by : (e f : code.TransactionEnd) → AreEnding e ts → AreEnding f ts → e ≡ f
    by Commit Commit a b = refl
    by Rollback Rollback a b = refl
    by Commit Rollback (inl a) (inl b) = absurd (let z = sym a ∙ b in cc)
    by Commit Rollback (inl a) (inr b) = absurd (let z = sym a ∙ b in cc)
    by Commit Rollback (inr a) (inl b) = absurd (let z = sym a ∙ b in cc)
    by Commit Rollback (inr a) (inr b) = absurd (let z = sym a ∙ b in cc)
    by Rollback Commit (inl a) (inl b) = absurd (let z = sym a ∙ b in cc)
    by Rollback Commit (inl a) (inr b) = absurd (let z = sym a ∙ b in cc)
    by Rollback Commit (inr a) (inl b) = absurd (let z = sym a ∙ b in cc)
    by Rollback Commit (inr a) (inr b) = absurd (let z = sym a ∙ b in cc)

-- the result is this end exactly where the text says the statement of this end
abbrev pub Tells : List ℕ → Option code.TransactionEnd → code.TransactionEnd → Type 0
Tells text result e = (result ≡ Some e) ↔ HasSense (finished text) (Says (end_statement e))

whole_sense : (text : List ℕ) (e : code.TransactionEnd) → IsWhole (finished text)
    → IsTextOf text (end_statement e) → HasSense (finished text) (Says (end_statement e))
whole_sense text Commit whole is = (whole, is, refl)
whole_sense text Rollback whole is = (whole, is, refl)

sense_text : (text : List ℕ) (e : code.TransactionEnd) → HasSense (finished text) (Says (end_statement e))
    → IsWhole (finished text) × IsTextOf text (end_statement e)
sense_text text Commit h = (h.0, h.1)
sense_text text Rollback h = (h.0, h.1)

pub text_tells : (text : List ℕ) (result : Option code.TransactionEnd) (e : code.TransactionEnd)
    → length text ≤ 1_048_576 → IsUtf8 text → EndsText text result → Tells text result e
text_tells text None e short utf8 ends = (λ is. absurd cc, λ h. absurd (ends e (sense_text text e h).1))
text_tells text (Some f) e short utf8 ends = (
  λ is. whole_sense text e (record { short = short; utf8 = utf8; finished = refl })
      (subst (λ (g : code.TransactionEnd). IsTextOf text (end_statement g)) (same f e is) ends),
  λ h. ap Some (one_end text f e ends (sense_text text e h).1),
)
  where
    same : (f e : code.TransactionEnd) → Option.Some f ≡ Option.Some e → f ≡ e
    same f e is = cc
