-- Texts of one or two words, and all other texts.
use Rattle.std.proofs.Common.{◌≡◌, ℕ, ◌+◌, Bool, true, false, List, [], ◌∷◌, ◌++◌, length, drop}
use Rattle.std.proofs.Common.{Some, None, refl, sym, ap, ◌∙◌, subst, arith, length-drop}
use Rattle.std.specs.Prelude.{map, ◌&&◌}
use Rattle.tql_spec.specs.Script.{without_lead}
use Rattle.tql_spec.specs.Token.{Token, AreTokens, Word, upper}
use Rattle.tql_spec.specs.FirstToken.{Sort, WordSort, NameSort, NumberSort, QuoteSort, SignSort, token_with}
use Rattle.tql_spec.specs.FirstToken.{first_token}
use Rattle.tql_spec.proofs.TokenLaws.{IsRead, first_token_complete, token_stands, end_skipped, one_list}
use Rattle.tql_lex.specs.declared.token.Token as code
use Rattle.tql_lex.specs.Tokens.{token_of, sort_of}
use Rattle.tql_lex.specs.Reading.{IsNextStart}
use Rattle.tql_lex.specs.SoleWords.{IsWordAt, is_any_word, are_words, word_tokens}
use Rattle.tql_lex.proofs.TokensLemmas.{SoFar, begin_tokens, end_tokens}
use Rattle.tql_lex.proofs.PlaceLemmas.{found_more}

-- whether the first token is a word
abbrev starts_with_word : List Token → Bool
starts_with_word [] = false
starts_with_word (t ∷ ts) = is_any_word t

-- the tokens are those that were found, followed by the tokens of the rest
record GoesOn (found : List Token) (rest : List ℕ) (ts : List Token) : Type 0 where
  more : List Token
  are : AreTokens more rest
  whole : ts ≡ found ++ more

goes_on : (text rest : List ℕ) (found ts : List Token) → SoFar text found rest → AreTokens ts text
    → GoesOn found rest ts
goes_on text rest found ts p a =
    let k = p.complete ts a in
    record { more = k.0; are = k.1; whole = one_list text ts (found ++ k.0) a (p.sound k.0 k.1) }

-- a token that is not read as a word is not a word
no_word_read : (u : Token) (text rest : List ℕ) (r : IsRead u text rest) → (r.sort ≡ WordSort → ⊥)
    → is_any_word u ≡ false
no_word_read u text rest r none = by r.sort refl r.is where
  by : (s : Sort) → r.sort ≡ s → token_with s text ≡ u → is_any_word u ≡ false
  by WordSort e is = absurd (none e)
  by NameSort e is = ap is_any_word (sym is)
  by NumberSort e is = ap is_any_word (sym is)
  by QuoteSort e is = ap is_any_word (sym is)
  by (SignSort s) e is = ap is_any_word (sym is)

-- where no word is at the front, the tokens do not begin with one
no_word : (rest bytes : List ℕ) (us : List Token) → without_lead false rest ≡ bytes
    → ((n : ℕ) → first_token bytes ≡ Some (WordSort, n) → ⊥) → AreTokens us rest → starts_with_word us ≡ false
no_word rest bytes [] at none a = refl
no_word rest bytes (u ∷ us) at none a =
    let r = first_token_complete u a.1 a.2 a.5 a.6 in
    let read : first_token bytes ≡ Some (r.sort, length a.1) = ap first_token (sym at
    ∙ token_stands u rest a.0 a.1 a.2 a.3 a.4 a.5 a.6) ∙ r.read_again in
    no_word_read u a.1 a.2 r (λ e. none (length a.1) (read ∙ ap (λ (s : Sort). Some (s, length a.1)) e))

-- where bytes are left, tokens are left
no_end : (text : List ℕ) (from start : ℕ) (us : List Token) → IsNextStart text from (Some start)
    → AreTokens us (drop from text) → us ≡ [] → ⊥
no_end text from start us next a none =
    let end = end_skipped (drop from text) (subst (λ (ts : List Token). AreTokens ts (drop from text)) none a) in
    let gone : length (drop start text) ≡ 0 = ap length (sym next.2 ∙ end) in
    absurd (omega (arith, gone, length-drop start text, next.1))

-- the token of a word that was found is that word in upper case
word_is : (t : code.Token) → sort_of t.kind ≡ WordSort → token_of t ≡ Word (map upper t.text.now)
word_is t e = ap (λ (s : Sort). token_with s t.text.now) e

-- the offset after a token
abbrev pub behind : code.Token → ℕ
behind t = t.start + length t.text.now

first_found : (text : List ℕ) (start : ℕ) (t : code.Token) → IsNextStart text 0 (Some start)
    → IsWordAt text start (Some t) → SoFar text (token_of t ∷ []) (drop (behind t) text)
first_found text start t next at =
    subst (λ (k : ℕ). SoFar text (token_of t ∷ []) (drop (k + length t.text.now) text)) (sym at.0.0)
    (found_more [] text 0 start t (begin_tokens text) next at.0)

-- ---- texts of words

pub one_word : (text : List ℕ) (start : ℕ) (t : code.Token) → IsNextStart text 0 (Some start)
    → IsWordAt text start (Some t) → IsNextStart text (behind t) None → AreTokens (word_tokens t.text.now None) text
one_word text start t next word none =
    subst (λ (w : Token). AreTokens (w ∷ []) text) (word_is t word.1)
    (end_tokens text (drop (behind t) text) (token_of t ∷ []) (first_found text start t next word) none)

-- where two words were found
pub record TwoFound (text : List ℕ) (t u : code.Token) : Type 0 where
  pub found : SoFar text (token_of t ∷ token_of u ∷ []) (drop (behind u) text)
  pub first : token_of t ≡ Word (map upper t.text.now)
  pub second : token_of u ≡ Word (map upper u.text.now)

pub two_found : (text : List ℕ) (start next : ℕ) (t u : code.Token) → IsNextStart text 0 (Some start)
    → IsWordAt text start (Some t) → IsNextStart text (behind t) (Some next) → IsWordAt text next (Some u)
    → TwoFound text t u
two_found text start next t u at word at_next word_next = record {
  found = subst (λ (k : ℕ). SoFar text (token_of t ∷ token_of u ∷ []) (drop (k + length u.text.now) text))
      (sym word_next.0.0)
      (found_more (t ∷ []) text (behind t) next u (first_found text start t at word) at_next word_next.0);
  first = word_is t word.1;
  second = word_is u word_next.1;
}

pub both_words : (text : List ℕ) (t u : code.Token) → TwoFound text t u → IsNextStart text (behind u) None
    → AreTokens (word_tokens t.text.now (Some u.text.now)) text
both_words text t u f none =
    subst (λ (w : Token). AreTokens (Word (map upper t.text.now) ∷ w ∷ []) text) f.second
    (subst (λ (w : Token). AreTokens (w ∷ token_of u ∷ []) text) f.first
    (end_tokens text (drop (behind u) text) (token_of t ∷ token_of u ∷ []) f.found none))

-- ---- other texts

pub no_tokens_at_all : (text : List ℕ) → IsNextStart text 0 None → (ts : List Token) → AreTokens ts text
    → are_words ts ≡ false
no_tokens_at_all text none ts a =
    rw (one_list text ts [] a (end_tokens text text [] (begin_tokens text) none)) refl

not_first : (ts : List Token) → starts_with_word ts ≡ false → are_words ts ≡ false
not_first [] e = refl
not_first (t ∷ []) e = e
not_first (t ∷ u ∷ []) e = ap (λ (b : Bool). b && is_any_word u) e
not_first (t ∷ u ∷ v ∷ ts) e = refl

pub first_is_none : (text : List ℕ) (start : ℕ) → IsNextStart text 0 (Some start) → IsWordAt text start None
    → (ts : List Token) → AreTokens ts text → are_words ts ≡ false
first_is_none text start next none ts a = not_first ts (no_word text (drop start text) ts next.2 none a)

not_second : (t : Token) (us : List Token) → (us ≡ [] → ⊥) → starts_with_word us ≡ false
    → are_words (t ∷ us) ≡ false
not_second t [] some e = absurd (some refl)
not_second t (u ∷ []) some e = ap (λ (b : Bool). is_any_word t && b) e ∙ by (is_any_word t) where
  by : (b : Bool) → (b && false) ≡ false
  by true = refl
  by false = refl
not_second t (u ∷ v ∷ ts) some e = refl

pub second_is_none : (text : List ℕ) (start next : ℕ) (t : code.Token) → IsNextStart text 0 (Some start)
    → IsWordAt text start (Some t) → IsNextStart text (behind t) (Some next) → IsWordAt text next None
    → (ts : List Token) → AreTokens ts text → are_words ts ≡ false
second_is_none text start next t at word at_next none ts a =
    let g = goes_on text (drop (behind t) text) (token_of t ∷ []) ts (first_found text start t at word) a in
    ap are_words g.whole ∙ not_second (token_of t) g.more (no_end text (behind t) next g.more at_next g.are)
    (no_word (drop (behind t) text) (drop next text) g.more at_next.2 none g.are)

not_third : (t u : Token) (us : List Token) → (us ≡ [] → ⊥) → are_words (t ∷ u ∷ us) ≡ false
not_third t u [] some = absurd (some refl)
not_third t u (v ∷ vs) some = refl

pub third_is_there : (text : List ℕ) (next : ℕ) (t u : code.Token) → TwoFound text t u
    → IsNextStart text (behind u) (Some next) → (ts : List Token) → AreTokens ts text → are_words ts ≡ false
third_is_there text next t u f at ts a =
    let g = goes_on text (drop (behind u) text) (token_of t ∷ token_of u ∷ []) ts f.found a in
    ap are_words g.whole ∙ not_third (token_of t) (token_of u) g.more
    (no_end text (behind u) next g.more at g.are)
