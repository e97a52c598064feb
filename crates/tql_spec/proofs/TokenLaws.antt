-- The first token of a text; a text has at most one list of tokens.
use Rattle.std.proofs.Common.{◌≡◌, ℕ, suc, ◌+◌, ◌<◌, ◌==◌, Bool, true, false, cond, List, [], ◌∷◌, ◌++◌, length, take}
use Rattle.std.proofs.Common.{drop, Option, Some, None, refl, sym, ap, ◌∙◌, subst, arith, append-nil, append_assoc}
use Rattle.std.proofs.Common.{take-append-drop, length-append, inl, inr}
use Rattle.std.specs.Prelude.{◌||◌, not, nat_le}
use Rattle.std.specs.List.{list_all, prefix_len}
use Rattle.std.proofs.lemmas.Bool.{eqb-true, eqb-false, eq-eqb, ne_eqb, leb-true, lt-leb, and_parts, or_cases, and_from}
use Rattle.std.proofs.lemmas.List.{drop_at, take_at}
use Rattle.tql_spec.specs.Calendar.{is_digit}
use Rattle.tql_spec.specs.Script.{is_blank, begins_comment, without_lead, starts_with_dash}
use Rattle.tql_spec.specs.Text.{doubled}
use Rattle.tql_spec.specs.Token.{Symbol, Open, Close, Comma, Dot, PlusSign, MinusSign, Star, EqualSign, UnequalSign}
use Rattle.tql_spec.specs.Token.{LessSign, AtMostSign, MoreSign, AtLeastSign, symbol_text, Token, Word, QuotedName}
use Rattle.tql_spec.specs.Token.{Number, Quote, Sign, is_letter, is_word_byte, Spells, lengthens, IsLongest, IsOneLine}
use Rattle.tql_spec.specs.Token.{IsGap, nothing, blank, comment, IsEnd, AreTokens}
use Rattle.tql_spec.specs.FirstToken.{Sort, WordSort, NameSort, NumberSort, QuoteSort, SignSort, content_from}
use Rattle.tql_spec.specs.FirstToken.{token_with, Start, LetterStart, DigitStart, QuoteStart, NameStart, LessStart}
use Rattle.tql_spec.specs.FirstToken.{MoreStart, MinusStart, SymbolStart, NoStart, symbol_start, start_of, begins}
use Rattle.tql_spec.specs.FirstToken.{one_more, quote_end, read_quote, read_name, read_less, read_from, first_token}
use Rattle.tql_spec.specs.FirstToken.{Reading}

-- ---- tests and options

or_false : (x y : Bool) → (x || y) ≡ false → (x ≡ false) × (y ≡ false)
or_false true y e = absurd cc
or_false false y e = (refl, e)

some_is : {X : Type 0} (x y : X) → Option.Some x ≡ Option.Some y → x ≡ y
some_is x y e = cc

more_is : (o : Option ℕ) (n : ℕ) → one_more o ≡ Some n → (m : ℕ) × (o ≡ Some m) × (n ≡ suc m)
more_is None n e = absurd cc
more_is (Some m) n e = (m, refl, cc)

same_self : (b : ℕ) → (b == b) ≡ true
same_self b = eq-eqb b b refl

-- ---- longest tokens

pub stops : (t : Token) (rest : List ℕ) → IsLongest t rest → begins (lengthens t) rest ≡ false
stops t [] h = refl
stops t (b ∷ bs) h = h

pub longest : (t : Token) (rest : List ℕ) → begins (lengthens t) rest ≡ false → IsLongest t rest
longest t [] h = tt
longest t (b ∷ bs) h = h

-- ---- runs

run_of : (p : ℕ → Bool) (xs rest : List ℕ) → list_all p xs ≡ true → begins p rest ≡ false
    → prefix_len p (xs ++ rest) ≡ length xs
run_of p [] [] all other = refl
run_of p [] (b ∷ rest) all other = rw other refl
run_of p (x ∷ xs) rest all other = let h = and_parts (p x) (list_all p xs) all in
    rw (h.0, run_of p xs rest h.1 other) (omega arith)

run_all : (p : ℕ → Bool) (bs : List ℕ) → list_all p (take (prefix_len p bs) bs) ≡ true
run_all p [] = refl
run_all p (b ∷ bs) = by (p b) refl (run_all p bs) where
  by : (t : Bool) → p b ≡ t → list_all p (take (prefix_len p bs) bs) ≡ true
      → list_all p (take (cond (p b) (1 + prefix_len p bs) 0) (b ∷ bs)) ≡ true
  by true q h = let n : 1 + prefix_len p bs ≡ suc (prefix_len p bs) = omega arith in rw (q, n, q) h
  by false q h = rw q refl

run_ends : (p : ℕ → Bool) (bs : List ℕ) → begins p (drop (prefix_len p bs) bs) ≡ false
run_ends p [] = refl
run_ends p (b ∷ bs) = by (p b) refl (run_ends p bs) where
  by : (t : Bool) → p b ≡ t → begins p (drop (prefix_len p bs) bs) ≡ false
      → begins p (drop (cond (p b) (1 + prefix_len p bs) 0) (b ∷ bs)) ≡ false
  by true q h = let n : 1 + prefix_len p bs ≡ suc (prefix_len p bs) = omega arith in rw (q, n) h
  by false q h = rw q q

run_within : (p : ℕ → Bool) (bs : List ℕ) → length (take (prefix_len p bs) bs) ≡ prefix_len p bs
run_within p [] = refl
run_within p (b ∷ bs) = by (p b) refl (run_within p bs) where
  by : (t : Bool) → p b ≡ t → length (take (prefix_len p bs) bs) ≡ prefix_len p bs
      → length (take (cond (p b) (1 + prefix_len p bs) 0) (b ∷ bs)) ≡ cond (p b) (1 + prefix_len p bs) 0
  by true q h = let n : 1 + prefix_len p bs ≡ suc (prefix_len p bs) = omega arith in rw (q, n, h) refl
  by false q h = rw q refl

-- ---- quotes

quote_reads : (q : ℕ) (t rest : List ℕ) → begins (λ b. b == q) rest ≡ false
    → quote_end q false (doubled q t ++ q ∷ rest) ≡ Some (suc (length (doubled q t)))
quote_reads q [] [] other = rw (same_self q) refl
quote_reads q [] (b ∷ rest) other = rw (same_self q, other) refl
quote_reads q (b ∷ t) rest other = by (b == q) refl (quote_reads q t rest other) where
  by : (s : Bool) → (b == q) ≡ s → quote_end q false (doubled q t ++ q ∷ rest) ≡ Some (suc (length (doubled q t)))
      → quote_end q false (doubled q (b ∷ t) ++ q ∷ rest) ≡ Some (suc (length (doubled q (b ∷ t))))
  by true e h = rw (e, e, h, e) refl
  by false e h = rw (e, e, h) refl

content_reads : (q : ℕ) (t : List ℕ) → content_from q false (doubled q t ++ q ∷ []) ≡ t
content_reads q [] = rw (same_self q) refl
content_reads q (b ∷ t) = by (b == q) refl (content_reads q t) where
  by : (s : Bool) → (b == q) ≡ s → content_from q false (doubled q t ++ q ∷ []) ≡ t
      → content_from q false (doubled q (b ∷ t) ++ q ∷ []) ≡ b ∷ t
  by true e h = rw (e, e, h) refl
  by false e h = rw (e, e, h) refl

abbrev behind : Bool → ℕ → List ℕ → List ℕ
behind true q bs = q ∷ bs
behind false q bs = bs

-- the quoted text ends after n bytes
record QuoteEnds (q : ℕ) (again : Bool) (bs : List ℕ) (n : ℕ) : Type 0 where
  text : List ℕ
  rest : List ℕ
  parts : bs ≡ text ++ rest
  size : length text ≡ n
  closed : behind again q text ≡ doubled q (content_from q again text) ++ q ∷ []
  other : begins (λ b. b == q) rest ≡ false

quote_sound : (q : ℕ) (again : Bool) (bs : List ℕ) (n : ℕ) → quote_end q again bs ≡ Some n → QuoteEnds q again bs n
quote_sound q false [] n e = absurd cc
quote_sound q true [] n e =
    record { text = []; rest = []; parts = refl; size = some_is 0 n e; closed = refl; other = refl }
quote_sound q false (b ∷ bs) n e = let k = more_is (quote_end q (b == q) bs) n e in
    by k.0 k.2 (b == q) refl (quote_sound q (b == q) bs k.0 k.1) where
      by : (m : ℕ) → n ≡ suc m → (s : Bool) → (b == q) ≡ s → QuoteEnds q (b == q) bs m → QuoteEnds q false (b ∷ bs) n
      by m size true e r0 = let r : QuoteEnds q true bs m = rw e at r0 in record {
        text = b ∷ r.text;
        rest = r.rest;
        parts = ap (λ (z : List ℕ). b ∷ z) r.parts;
        size = ap suc r.size ∙ sym size;
        closed = rw e (ap (λ (z : ℕ). z ∷ r.text) (eqb-true b q e) ∙ r.closed);
        other = r.other;
      }
      by m size false e r0 = let r : QuoteEnds q false bs m = rw e at r0 in record {
        text = b ∷ r.text;
        rest = r.rest;
        parts = ap (λ (z : List ℕ). b ∷ z) r.parts;
        size = ap suc r.size ∙ sym size;
        closed = rw (e, e) (ap (λ (z : List ℕ). b ∷ z) r.closed);
        other = r.other;
      }
quote_sound q true (b ∷ bs) n e = by (b == q) refl e (quote_sound q false bs) where
  by : (s : Bool) → (b == q) ≡ s → cond (b == q) (one_more (quote_end q false bs)) (Some 0) ≡ Some n
      → ((m : ℕ) → quote_end q false bs ≡ Some m → QuoteEnds q false bs m) → QuoteEnds q true (b ∷ bs) n
  by true t e h =
      let k = more_is (quote_end q false bs) n (rw t at e) in
      let r = h k.0 k.1 in
      record {
        text = b ∷ r.text;
        rest = r.rest;
        parts = ap (λ (z : List ℕ). b ∷ z) r.parts;
        size = ap suc r.size ∙ sym k.2;
        closed = rw t (ap (λ (z : ℕ). z ∷ b ∷ r.text) (sym (eqb-true b q t)) ∙ ap (λ (z : List ℕ). b ∷ b ∷ z) r.closed);
        other = r.other;
      }
  by false t e h = record {
    text = [];
    rest = b ∷ bs;
    parts = refl;
    size = some_is 0 n (rw t at e);
    closed =
        refl;
    other = t;
  }

-- ---- the first byte

abbrev Means : Start → ℕ → Type 0
Means LetterStart b = is_letter b ≡ true
Means DigitStart b = is_digit b ≡ true
Means QuoteStart b = b ≡ 39
Means NameStart b = b ≡ 34
Means LessStart b = b ≡ 60
Means MoreStart b = b ≡ 62
Means MinusStart b = b ≡ 45
Means (SymbolStart s) b = (symbol_text s ≡ b ∷ []) × ((c : ℕ) → lengthens (Sign s) c ≡ false)
Means NoStart b = Unit {0}

means_if : (t : Bool) (x y : Start) (b : ℕ) → (t ≡ true → Means x b) → Means y b → Means (cond t x y) b
means_if true x y b h k = h refl
means_if false x y b h k = k

single_byte : (b n : ℕ) → (b == n) ≡ true → n ∷ [] ≡ b ∷ []
single_byte b n e = ap (λ (z : ℕ). z ∷ []) (sym (eqb-true b n e))

means_symbol : (b : ℕ) → Means (symbol_start b) b
means_symbol b =
    means_if (b == 40) (SymbolStart Open) _ b (λ e. (single_byte b 40 e, λ c. refl))
    (means_if (b == 41) (SymbolStart Close) _ b (λ e. (single_byte b 41 e, λ c. refl))
    (means_if (b == 44) (SymbolStart Comma) _ b (λ e. (single_byte b 44 e, λ c. refl))
    (means_if (b == 46) (SymbolStart Dot) _ b (λ e. (single_byte b 46 e, λ c. refl))
    (means_if (b == 43) (SymbolStart PlusSign) _ b (λ e. (single_byte b 43 e, λ c. refl))
    (means_if (b == 42) (SymbolStart Star) _ b (λ e. (single_byte b 42 e, λ c. refl))
    (means_if (b == 61) (SymbolStart EqualSign) NoStart b (λ e. (single_byte b 61 e, λ c. refl)) tt))))))

means : (b : ℕ) → Means (start_of b) b
means b =
    means_if (is_letter b) LetterStart _ b (λ e. e)
    (means_if (is_digit b) DigitStart _ b (λ e. e)
    (means_if (b == 39) QuoteStart _ b (eqb-true b 39)
    (means_if (b == 34) NameStart _ b (eqb-true b 34)
    (means_if (b == 60) LessStart _ b (eqb-true b 60)
    (means_if (b == 62) MoreStart _ b (eqb-true b 62)
    (means_if (b == 45) MinusStart _ b (eqb-true b 45) (means_symbol b)))))))

-- ---- reading the first token

-- the bytes begin with a token of this sort and length
pub record Reads (bytes : List ℕ) (s : Sort) (n : ℕ) : Type 0 where
  pub text : List ℕ
  pub rest : List ℕ
  pub parts : bytes ≡ text ++ rest
  pub size : length text ≡ n
  pub spelled : Spells (token_with s text) text
  pub longest : IsLongest (token_with s text) rest

abbrev pub read : Sort → ℕ → Reading
read s n = Some (s, n)

as_read : (bytes : List ℕ) (x s : Sort) (k n : ℕ) → read x k ≡ read s n → Reads bytes x k → Reads bytes s n
as_read bytes x s k n e r = let p = some_is {X = Sort × ℕ} (x, k) (s, n) e in
    subst (λ (q : Sort × ℕ). Reads bytes q.0 q.1) p r

no_word_byte : (bs : List ℕ) → begins is_letter bs ≡ false → begins is_digit bs ≡ false → begins is_word_byte bs ≡ false
no_word_byte [] e f = refl
no_word_byte (b ∷ bs) e f = rw (e, f) refl

word_read : (b : ℕ) (bs : List ℕ) → is_letter b ≡ true → Reads (b ∷ bs) WordSort (suc (prefix_len is_word_byte bs))
word_read b bs e =
    let n = prefix_len is_word_byte bs in
    record {
      text = b ∷ take n bs;
      rest = drop n bs;
      parts = ap (λ (z : List ℕ). b ∷ z) (sym (take-append-drop n bs));
      size = ap suc (run_within is_word_byte bs);
      spelled = (and_from (is_letter b) (list_all is_word_byte (take n bs)) e (run_all is_word_byte bs), refl);
      longest = longest (Word []) (drop n bs) (run_ends is_word_byte bs);
    }

number_read : (b : ℕ) (bs : List ℕ) → is_digit b ≡ true → begins is_letter (drop (prefix_len is_digit bs) bs) ≡ false
    → Reads (b ∷ bs) NumberSort (suc (prefix_len is_digit bs))
number_read b bs e f =
    let n = prefix_len is_digit bs in
    record {
      text = b ∷ take n bs;
      rest = drop n bs;
      parts = ap (λ (z : List ℕ). b ∷ z) (sym (take-append-drop n bs));
      size = ap suc (run_within is_digit bs);
      spelled = (and_from (is_digit b) (list_all is_digit (take n bs)) e (run_all is_digit bs), refl);
      longest = longest (Number []) (drop n bs) (no_word_byte (drop n bs) f (run_ends is_digit bs));
    }

number_reads : (b : ℕ) (bs : List ℕ) (s : Sort) (n : ℕ) → is_digit b ≡ true → (t : Bool)
    → begins is_letter (drop (prefix_len is_digit bs) bs) ≡ t
    → cond t None (read NumberSort (suc (prefix_len is_digit bs))) ≡ read s n → Reads (b ∷ bs) s n
number_reads b bs s n e true f r = absurd cc
number_reads b bs s n e false f r =
    as_read (b ∷ bs) NumberSort s (suc (prefix_len is_digit bs)) n r (number_read b bs e f)

quote_read : (bs : List ℕ) (m : ℕ) → QuoteEnds 39 false bs m → Reads (39 ∷ bs) QuoteSort (suc m)
quote_read bs m r = record {
  text = 39 ∷ r.text;
  rest = r.rest;
  parts = ap (λ (z : List ℕ). 39 ∷ z) r.parts;
  size = ap suc r.size;
  spelled = ap (λ (z : List ℕ). 39 ∷ z) r.closed;
  longest = longest (Quote []) r.rest r.other;
}

quote_sorts : (bs : List ℕ) (s : Sort) (n : ℕ) (o : Option ℕ) → quote_end 39 false bs ≡ o → read_quote o ≡ read s n
    → Reads (39 ∷ bs) s n
quote_sorts bs s n None e r = absurd cc
quote_sorts bs s n (Some m) e r =
    as_read (39 ∷ bs) QuoteSort s (suc m) n r (quote_read bs m (quote_sound 39 false bs m e))

some_content : (q : ℕ) (bs : List ℕ) (m : ℕ) (r : QuoteEnds q false bs m) → (m == 1) ≡ false
    → content_from q false r.text ≡ [] → ⊥
some_content q bs m r e none =
    let one : r.text ≡ q ∷ [] = r.closed ∙ ap (λ (z : List ℕ). doubled q z ++ q ∷ []) none in
    eqb-false m 1 e (sym r.size ∙ ap length one)

name_read : (bs : List ℕ) (m : ℕ) → (m == 1) ≡ false → QuoteEnds 34 false bs m → Reads (34 ∷ bs) NameSort (suc m)
name_read bs m some r = record {
  text = 34 ∷ r.text;
  rest = r.rest;
  parts = ap (λ (z : List ℕ). 34 ∷ z) r.parts;
  size = ap suc r.size;
  spelled = (some_content 34 bs m r some, ap (λ (z : List ℕ). 34 ∷ z) r.closed);
  longest = longest (QuotedName []) r.rest r.other;
}

name_sorts : (bs : List ℕ) (s : Sort) (n : ℕ) (o : Option ℕ) → quote_end 34 false bs ≡ o → read_name o ≡ read s n
    → Reads (34 ∷ bs) s n
name_sorts bs s n None e r = absurd cc
name_sorts bs s n (Some m) e r = by (m == 1) refl r where
  by : (t : Bool) → (m == 1) ≡ t → cond t None (read NameSort (suc m)) ≡ read s n → Reads (34 ∷ bs) s n
  by true f r = absurd cc
  by false f r = as_read (34 ∷ bs) NameSort s (suc m) n r (name_read bs m f (quote_sound 34 false bs m e))

sign_read : (x : Symbol) (text rest : List ℕ) → symbol_text x ≡ text → begins (lengthens (Sign x)) rest ≡ false
    → Reads (text ++ rest) (SignSort x) (length text)
sign_read x text rest e f =
    record { text = text; rest = rest; parts = refl; size = refl; spelled = sym e; longest = longest (Sign x) rest f }

never : (rest : List ℕ) → begins (λ (b : ℕ). false) rest ≡ false
never [] = refl
never (b ∷ rest) = refl

never_by : (p : ℕ → Bool) → ((c : ℕ) → p c ≡ false) → (rest : List ℕ) → begins p rest ≡ false
never_by p h [] = refl
never_by p h (b ∷ rest) = h b

begins_with : (c : ℕ) (bs : List ℕ) → begins (λ b. b == c) bs ≡ true → (rest : List ℕ) × (bs ≡ c ∷ rest)
begins_with c [] e = absurd cc
begins_with c (b ∷ bs) e = (bs, ap (λ (z : ℕ). z ∷ bs) (eqb-true b c e))

neither : (bs : List ℕ) → begins (λ b. b == 61) bs ≡ false → begins (λ b. b == 62) bs ≡ false
    → begins (lengthens (Sign LessSign)) bs ≡ false
neither [] e f = refl
neither (b ∷ bs) e f = rw (e, f) refl

less_reads : (bs : List ℕ) (s : Sort) (n : ℕ) (t u : Bool) → begins (λ b. b == 61) bs ≡ t → begins (λ b. b == 62) bs ≡ u
    → cond t (read (SignSort AtMostSign) 2) (cond u (read (SignSort UnequalSign) 2) (read (SignSort LessSign) 1))
    ≡ read s n → Reads (60 ∷ bs) s n
less_reads bs s n true u e f r = let k = begins_with 61 bs e in
    as_read (60 ∷ bs) (SignSort AtMostSign) s 2 n r (rw k.1 (sign_read AtMostSign (60 ∷ 61 ∷ []) k.0 refl (never k.0)))
less_reads bs s n false true e f r = let k = begins_with 62 bs f in
    as_read (60 ∷ bs) (SignSort UnequalSign) s 2 n r
    (rw k.1 (sign_read UnequalSign (60 ∷ 62 ∷ []) k.0 refl (never k.0)))
less_reads bs s n false false e f r =
    as_read (60 ∷ bs) (SignSort LessSign) s 1 n r (sign_read LessSign (60 ∷ []) bs refl (neither bs e f))

more_reads : (bs : List ℕ) (s : Sort) (n : ℕ) (t : Bool) → begins (λ b. b == 61) bs ≡ t
    → cond t (read (SignSort AtLeastSign) 2) (read (SignSort MoreSign) 1) ≡ read s n → Reads (62 ∷ bs) s n
more_reads bs s n true e r = let k = begins_with 61 bs e in
    as_read (62 ∷ bs) (SignSort AtLeastSign) s 2 n r
    (rw k.1 (sign_read AtLeastSign (62 ∷ 61 ∷ []) k.0 refl (never k.0)))
more_reads bs s n false e r = as_read (62 ∷ bs) (SignSort MoreSign) s 1 n r (sign_read MoreSign (62 ∷ []) bs refl e)

minus_reads : (bs : List ℕ) (s : Sort) (n : ℕ) (t : Bool) → begins (λ b. b == 45) bs ≡ t
    → cond t None (read (SignSort MinusSign) 1) ≡ read s n → Reads (45 ∷ bs) s n
minus_reads bs s n true e r = absurd cc
minus_reads bs s n false e r = as_read (45 ∷ bs) (SignSort MinusSign) s 1 n r (sign_read MinusSign (45 ∷ []) bs refl e)

sound_from : (st : Start) (b : ℕ) (bs : List ℕ) (s : Sort) (n : ℕ) → Means st b → read_from st bs ≡ read s n
    → Reads (b ∷ bs) s n
sound_from LetterStart b bs s n m e =
    as_read (b ∷ bs) WordSort s (suc (prefix_len is_word_byte bs)) n e (word_read b bs m)
sound_from DigitStart b bs s n m e = number_reads b bs s n m _ refl e
sound_from QuoteStart b bs s n m e = rw m (quote_sorts bs s n _ refl e)
sound_from NameStart b bs s n m e = rw m (name_sorts bs s n _ refl e)
sound_from LessStart b bs s n m e = rw m (less_reads bs s n _ _ refl refl e)
sound_from MoreStart b bs s n m e = rw m (more_reads bs s n _ refl e)
sound_from MinusStart b bs s n m e = rw m (minus_reads bs s n _ refl e)
sound_from (SymbolStart x) b bs s n m e =
    as_read (b ∷ bs) (SignSort x) s 1 n e (sign_read x (b ∷ []) bs m.0 (never_by (lengthens (Sign x)) m.1 bs))
sound_from NoStart b bs s n m e = absurd cc

pub first_token_sound : (bytes : List ℕ) (s : Sort) (n : ℕ) → first_token bytes ≡ read s n → Reads bytes s n
first_token_sound [] s n e = absurd cc
first_token_sound (b ∷ bs) s n e = sound_from (start_of b) b bs s n (means b) e

-- ---- reading a token that is spelled

-- the bytes are read as this token, followed by the rest
pub record IsRead (t : Token) (text rest : List ℕ) : Type 0 where
  pub sort : Sort
  pub read_again : first_token (text ++ rest) ≡ read sort (length text)
  pub is : token_with sort text ≡ t

digit_no_letter : (b : ℕ) → is_digit b ≡ true → is_letter b ≡ false
digit_no_letter b e =
    let h = and_parts (nat_le 48 b) (nat_le b 57) e in
    let up = leb-true b 57 h.1 in
    rw (lt-leb 65 b (omega arith), lt-leb 97 b (omega arith), ne_eqb b 95 (λ q. omega arith)) refl

word_again : (w text rest : List ℕ) → Spells (Word w) text → IsLongest (Word w) rest → IsRead (Word w) text rest
word_again w [] rest h l = absurd (let no : false ≡ true = h.0 in cc)
word_again w (b ∷ bs) rest h l =
    let k = and_parts (is_letter b) (list_all is_word_byte bs) h.0 in
    record {
      sort = WordSort;
      read_again = rw (k.0, run_of is_word_byte bs rest k.1 (stops (Word w) rest l)) refl;
      is =
          ap Word (sym h.1);
    }

later_digit : (rest : List ℕ) → begins is_word_byte rest ≡ false
    → (begins is_letter rest ≡ false) × (begins is_digit rest ≡ false)
later_digit [] e = (refl, refl)
later_digit (b ∷ rest) e = or_false (is_letter b) (is_digit b) e

number_again : (ds text rest : List ℕ) → Spells (Number ds) text → IsLongest (Number ds) rest
    → IsRead (Number ds) text rest
number_again ds [] rest h l = absurd (let no : false ≡ true = h.0 in cc)
number_again ds (b ∷ bs) rest h l =
    let k = and_parts (is_digit b) (list_all is_digit bs) h.0 in
    let other = later_digit rest (stops (Number ds) rest l) in
    record {
      sort = NumberSort;
      read_again = rw (
        digit_no_letter b k.0,
        k.0,
        run_of is_digit bs rest k.1 other.1,
        drop_at bs rest (length bs) refl,
        other.0,
      ) refl;
      is = ap Number (sym h.1);
    }

closed_again : (q : ℕ) (t rest : List ℕ) → begins (λ b. b == q) rest ≡ false
    → quote_end q false ((doubled q t ++ q ∷ []) ++ rest) ≡ Some (length (doubled q t ++ q ∷ []))
closed_again q t rest other =
    let n : suc (length (doubled q t)) ≡ length (doubled q t ++ q ∷ []) =
    omega (arith, length-append (doubled q t) (q ∷ [])) in
    ap (quote_end q false) (append_assoc (doubled q t) (q ∷ []) rest) ∙ quote_reads q t rest other ∙ ap Some n

quote_again : (t text rest : List ℕ) → Spells (Quote t) text → IsLongest (Quote t) rest → IsRead (Quote t) text rest
quote_again t text rest h l = rw h (record {
  sort = QuoteSort;
  read_again = rw (closed_again 39 t rest (stops (Quote t) rest l)) refl;
  is = ap Quote (content_reads 39 t);
})

doubled_some : (q b : ℕ) (t : List ℕ) → 0 < length (doubled q (b ∷ t))
doubled_some q b t = by (b == q) where
  by : (s : Bool) → 0 < length (cond s (b ∷ b ∷ []) (b ∷ []) ++ doubled q t)
  by true = omega arith
  by false = omega arith

name_again : (t text rest : List ℕ) → Spells (QuotedName t) text → IsLongest (QuotedName t) rest
    → IsRead (QuotedName t) text rest
name_again [] text rest h l = absurd (h.0 refl)
name_again (b ∷ t) text rest h l =
    let n : (length (doubled 34 (b ∷ t) ++ 34 ∷ []) == 1) ≡ false =
    ne_eqb _ 1 (λ e. omega (arith, e, doubled_some 34 b t, length-append (doubled 34 (b ∷ t)) (34 ∷ []))) in
    rw h.1 (record {
      sort = NameSort;
      read_again = rw (closed_again 34 (b ∷ t) rest (stops (QuotedName (b ∷ t)) rest l), n) refl;
      is = ap QuotedName (content_reads 34 (b ∷ t));
    })

less_again : (rest : List ℕ) → begins (lengthens (Sign LessSign)) rest ≡ false
    → read_less rest ≡ read (SignSort LessSign) 1
less_again [] e = refl
less_again (b ∷ rest) e = let h = or_false (b == 61) (b == 62) e in rw (h.0, h.1) refl

sign_again : (s : Symbol) (text rest : List ℕ) → Spells (Sign s) text → IsLongest (Sign s) rest
    → IsRead (Sign s) text rest
sign_again Open text rest h l = rw h (record { sort = SignSort Open; read_again = refl; is = refl })
sign_again Close text rest h l = rw h (record { sort = SignSort Close; read_again = refl; is = refl })
sign_again Comma text rest h l = rw h (record { sort = SignSort Comma; read_again = refl; is = refl })
sign_again Dot text rest h l = rw h (record { sort = SignSort Dot; read_again = refl; is = refl })
sign_again PlusSign text rest h l = rw h (record { sort = SignSort PlusSign; read_again = refl; is = refl })
sign_again Star text rest h l = rw h (record { sort = SignSort Star; read_again = refl; is = refl })
sign_again EqualSign text rest h l = rw h (record { sort = SignSort EqualSign; read_again = refl; is = refl })
sign_again UnequalSign text rest h l = rw h (record { sort = SignSort UnequalSign; read_again = refl; is = refl })
sign_again AtMostSign text rest h l = rw h (record { sort = SignSort AtMostSign; read_again = refl; is = refl })
sign_again AtLeastSign text rest h l = rw h (record { sort = SignSort AtLeastSign; read_again = refl; is = refl })
sign_again LessSign text rest h l =
    rw h (record { sort = SignSort LessSign; read_again = less_again rest (stops (Sign LessSign) rest l); is = refl })
sign_again MoreSign text rest h l =
    rw h (record { sort = SignSort MoreSign; read_again = rw (stops (Sign MoreSign) rest l) refl; is = refl })
sign_again MinusSign text rest h l =
    rw h (record { sort = SignSort MinusSign; read_again = rw (stops (Sign MinusSign) rest l) refl; is = refl })

pub first_token_complete : (t : Token) (text rest : List ℕ) → Spells t text → IsLongest t rest → IsRead t text rest
first_token_complete (Word w) text rest = word_again w text rest
first_token_complete (QuotedName n) text rest = name_again n text rest
first_token_complete (Number ds) text rest = number_again ds text rest
first_token_complete (Quote t) text rest = quote_again t text rest
first_token_complete (Sign s) text rest = sign_again s text rest

-- ---- blanks and comments

blank_is : (b : ℕ) (P : ℕ → Type 0) → P 32 → P 9 → P 10 → P 13 → is_blank b ≡ true → P b
blank_is b P space tab feed back e =
    let at : (c : ℕ) → P c → (b == c) ≡ true → P b = λ c h s. subst P (sym (eqb-true b c s)) h in
    elim (or_cases ((b == 32) || (b == 9) || (b == 10)) (b == 13) e) [
      | inr d ↦ at 13 back d
      | inl x ↦ elim (or_cases ((b == 32) || (b == 9)) (b == 10) x) [
        | inr c ↦ at 10 feed c
        | inl y ↦ elim (or_cases (b == 32) (b == 9) y) [ inl a ↦ at 32 space a | inr z ↦ at 9 tab z ]
      ]
    ]

blank_starts : (b : ℕ) → is_blank b ≡ true → start_of b ≡ NoStart
blank_starts b e = let P : ℕ → Type 0 = λ (c : ℕ). start_of c ≡ NoStart in blank_is b P refl refl refl refl e

blank_no_dash : (b : ℕ) → is_blank b ≡ true → (b == 45) ≡ false
blank_no_dash b e = let P : ℕ → Type 0 = λ (c : ℕ). (c == 45) ≡ false in blank_is b P refl refl refl refl e

pub blank_no_comment : (b : ℕ) (bs : List ℕ) → is_blank b ≡ true → begins_comment b bs ≡ false
blank_no_comment b bs e = rw (blank_no_dash b e) refl

dash_begins : (bs : List ℕ) → starts_with_dash bs ≡ true → begins (λ b. b == 45) bs ≡ true
dash_begins [] e = absurd cc
dash_begins (b ∷ bs) e = e

comment_unread : (b : ℕ) (bs : List ℕ) → begins_comment b bs ≡ true → first_token (b ∷ bs) ≡ None
comment_unread b bs e =
    let h = and_parts (b == 45) (starts_with_dash bs) e in
    rw (eqb-true b 45 h.0, dash_begins bs h.1) refl

pub none_some : {X : Type 0} (x : X) → Option.None ≡ Option.Some x → ⊥
none_some x e = cc

-- a token that is read does not begin with a blank or a comment
pub no_lead : (bytes : List ℕ) (s : Sort) (n : ℕ) → first_token bytes ≡ read s n → without_lead false bytes ≡ bytes
no_lead [] s n e = refl
no_lead (b ∷ bs) s n e = by (is_blank b) refl (begins_comment b bs) refl where
  by : (t : Bool) → is_blank b ≡ t → (u : Bool) → begins_comment b bs ≡ u → without_lead false (b ∷ bs) ≡ b ∷ bs
  by true p u q = let unread : first_token (b ∷ bs) ≡ None = ap (λ (st : Start). read_from st bs) (blank_starts b p) in
      absurd (none_some {X = Sort × ℕ} (s, n) (sym unread ∙ e))
  by false p true q = absurd (none_some {X = Sort × ℕ} (s, n) (sym (comment_unread b bs q) ∙ e))
  by false p false q = rw (p, q) refl

line_skipped : (words more : List ℕ) → IsOneLine words
    → without_lead true (words ++ 10 ∷ more) ≡ without_lead false more
line_skipped [] more one = refl
line_skipped (b ∷ words) more one = let h = and_parts (not (b == 10)) (list_all (λ c. not (c == 10)) words) one in
    ap (λ (t : Bool). without_lead t (words ++ 10 ∷ more)) h.0 ∙ line_skipped words more h.1

line_end : (words : List ℕ) → IsOneLine words → without_lead true words ≡ []
line_end [] one = refl
line_end (b ∷ words) one = let h = and_parts (not (b == 10)) (list_all (λ c. not (c == 10)) words) one in
    ap (λ (t : Bool). without_lead t words) h.0 ∙ line_end words h.1

gap_skipped : (gap more : List ℕ) → IsGap gap → without_lead false (gap ++ more) ≡ without_lead false more
gap_skipped gap more nothing = refl
gap_skipped gap more (blank {b} {bs} e g) = rw (e, blank_no_comment b (bs ++ more) e) (gap_skipped bs more g)
gap_skipped gap more (comment words {bs} one g parts) =
    rw parts (ap (without_lead true) (append_assoc words (10 ∷ bs) more) ∙ line_skipped words (bs ++ more) one
    ∙ gap_skipped bs more g)

pub end_skipped : (bytes : List ℕ) → IsEnd bytes → without_lead false bytes ≡ []
end_skipped bytes (inl g) = ap (without_lead false) (sym (append-nil bytes)) ∙ gap_skipped bytes [] g
end_skipped bytes (inr h) = ap (without_lead false) h.4 ∙ gap_skipped h.0 (45 ∷ 45 ∷ h.1) h.2 ∙ line_end h.1 h.3

-- ---- one list of tokens

pub record Split (text other rest left : List ℕ) : Type 0 where
  pub same_text : text ≡ other
  pub same_rest : rest ≡ left

same_split : (text other rest left : List ℕ) → text ++ rest ≡ other ++ left → length text ≡ length other
    → Split text other rest left
same_split text other rest left e n = record {
  same_text = sym (take_at text rest (length text) refl) ∙ ap (take (length text)) e
      ∙ take_at other left (length text) (sym n);
  same_rest = sym (drop_at text rest (length text) refl) ∙ ap (drop (length text)) e
      ∙ drop_at other left (length text) (sym n);
}

-- the first token is after the blanks and comments
pub token_stands : (t : Token) (bytes gap text rest : List ℕ) → bytes ≡ gap ++ text ++ rest → IsGap gap → Spells t text
    → IsLongest t rest → without_lead false bytes ≡ text ++ rest
token_stands t bytes gap text rest parts g spelled longest =
    let r = first_token_complete t text rest spelled longest in
    ap (without_lead false) (parts ∙ append_assoc gap text rest) ∙ gap_skipped gap (text ++ rest) g
    ∙ no_lead (text ++ rest) r.sort (length text) r.read_again

pub record SameFirst (t u : Token) (rest left : List ℕ) : Type 0 where
  pub token : t ≡ u
  pub left_same : left ≡ rest

pub same_first : (t u : Token) (text rest other left : List ℕ) → IsRead t text rest → IsRead u other left
    → text ++ rest ≡ other ++ left → SameFirst t u rest left
same_first t u text rest other left r q e =
    let pair = some_is {X = Sort × ℕ} (r.sort, length text) (q.sort, length other) (sym r.read_again ∙ ap first_token e
    ∙ q.read_again) in
    let sorts : r.sort ≡ q.sort = ap (λ (z : Sort × ℕ). z.0) pair in
    let both = same_split text other rest left e (ap (λ (z : Sort × ℕ). z.1) pair) in
    record {
      token = sym r.is ∙ ap (λ (z : Sort). token_with z text) sorts ∙ ap (token_with q.sort) both.same_text ∙ q.is;
      left_same = sym both.same_rest;
    }

some_read : (t : Token) (text rest : List ℕ) → IsRead t text rest → text ++ rest ≡ [] → ⊥
some_read t text rest r e = none_some {X = Sort × ℕ} (r.sort, length text) (sym (ap first_token e) ∙ r.read_again)

pub one_list : (text : List ℕ) (ts us : List Token) → AreTokens ts text → AreTokens us text → ts ≡ us
one_list text [] [] a b = refl
one_list text [] (u ∷ us) a b =
    absurd (some_read u b.1 b.2 (first_token_complete u b.1 b.2 b.5 b.6)
    (sym (token_stands u text b.0 b.1 b.2 b.3 b.4 b.5 b.6) ∙ end_skipped text a))
one_list text (t ∷ ts) [] a b =
    absurd (some_read t a.1 a.2 (first_token_complete t a.1 a.2 a.5 a.6)
    (sym (token_stands t text a.0 a.1 a.2 a.3 a.4 a.5 a.6) ∙ end_skipped text b))
one_list text (t ∷ ts) (u ∷ us) a b =
    let whole = sym (token_stands t text a.0 a.1 a.2 a.3 a.4 a.5 a.6)
    ∙ token_stands u text b.0 b.1 b.2 b.3 b.4 b.5 b.6 in
    let same = same_first t u a.1 a.2 b.1 b.2 (first_token_complete t a.1 a.2 a.5 a.6)
    (first_token_complete u b.1 b.2 b.5 b.6) whole in
    rw (same.token, one_list a.2 ts us a.7 (subst (AreTokens us) same.left_same b.7)) refl
