-- The reading functions return the tokens of a text, and the sense of a piece of a script.
use Rattle.std.proofs.Common.{◌≡◌, ◌<◌, ◌≤◌, refl, sym, ap, subst, ◌∙◌, ℕ, zero, suc, Bool, true, false, List, []}
use Rattle.std.proofs.Common.{◌∷◌, length, drop, arith, length-drop}
use Rattle.std.specs.Prelude.{Option, Some, None, nat_lt, not, IsUtf8, if◌then◌else◌}
use Rattle.std.specs.Str.{is_utf8}
use Rattle.std.proofs.lemmas.Bool.Decides.{nat_tests}
use Rattle.std.proofs.lemmas.Str.{IsUtf8-from_is_utf8, is_utf8-from_IsUtf8}
use Rattle.tql_spec.specs.Words.{with_front}
use Rattle.tql_spec.specs.Refusal.{NotAStatement, NotUtf8, UnfinishedStatement, StatementTooLong, NestedTooDeep}
use Rattle.tql_spec.specs.Refusal.{TooManyColumnsOrTables}
use Rattle.tql_spec.specs.Script.{Piece, without_lead}
use Rattle.tql_spec.specs.Token.{Token, Word, QuotedName, Number, Quote, Sign, Symbol, Open, Close, Comma, Dot}
use Rattle.tql_spec.specs.Token.{PlusSign, MinusSign, Star, EqualSign, UnequalSign, LessSign, AtMostSign, MoreSign}
use Rattle.tql_spec.specs.Token.{AtLeastSign, symbol_text, Spells, AreTokens, depth}
use Rattle.tql_spec.specs.FirstToken.{Reading, first_token}
use Rattle.tql_spec.specs.Syntax.{Statement, is_too_wide}
use Rattle.tql_spec.specs.Grammar.{IsStatement}
use Rattle.tql_spec.specs.Run.{Says, Faulty, HasSense, IsWhole}
use Rattle.tql_spec.proofs.TokenLaws.{first_token_sound, one_list}
use Rattle.tql_lex.proofs.TokensLemmas.{begin_tokens, one_more_token, end_tokens, no_tokens, next_place}
use Rattle.tql_syntax_grammar.specs.ReadingStatements.{read_statement}
use Rattle.tql_syntax_grammar.specs.ReadingTexts.{with_token, tokens_here, tokens_within, read_tokens}
use Rattle.tql_syntax_grammar.specs.ReadingTexts.{sense_of_tree}
use Rattle.tql_syntax_grammar.specs.ReadingTexts.{sense_of_tokens, read_sense}
use Rattle.tql_syntax_grammar.proofs.StatementLaws.{reads_statement, statement_is_read}
use Rattle.tql_syntax_grammar.proofs.TextLaws.{not_deep}

-- ---- tokens have bytes

-- a symbol has at least one byte
symbol_some : (s : Symbol) → 0 < length (symbol_text s)
symbol_some Open = omega arith
symbol_some Close = omega arith
symbol_some Comma = omega arith
symbol_some Dot = omega arith
symbol_some PlusSign = omega arith
symbol_some MinusSign = omega arith
symbol_some Star = omega arith
symbol_some EqualSign = omega arith
symbol_some UnequalSign = omega arith
symbol_some LessSign = omega arith
symbol_some AtMostSign = omega arith
symbol_some MoreSign = omega arith
symbol_some AtLeastSign = omega arith

-- a token has at least one byte
spelled_some : (t : Token) (text : List ℕ) → Spells t text → 0 < length text
spelled_some t (b ∷ bs) p = omega arith
spelled_some (Word w) [] p = absurd (let e : false ≡ true = p.0 in cc)
spelled_some (QuotedName n) [] p = absurd (let e = p.1 in cc)
spelled_some (Number ds) [] p = absurd (let e : false ≡ true = p.0 in cc)
spelled_some (Quote t) [] p = absurd (let e = p in cc)
spelled_some (Sign s) [] p = omega (arith, symbol_some s, ap length p)

-- ---- one token, and the tokens after it

-- the rest of a list after its first element
record Behind {A : Type 0} (x : A) (o : Option (List A)) (all : List A) : Type 0 where
  rest : List A
  more : o ≡ Some rest
  whole : x ∷ rest ≡ all

behind_front : {A : Type 0} (x : A) (o : Option (List A)) (all : List A) → with_front (Some x) o ≡ Some all
    → Behind x o all
behind_front x None all e = absurd (cc)
behind_front x (Some xs) all e = record { rest = xs; more = refl; whole = cc }

module _ (bytes : List ℕ) (more : List ℕ → Option (List Token)) where
  -- the tokens that are read are those of the text, if this holds for the remaining bytes
  step_sound : (left : List ℕ) → without_lead false bytes ≡ left
      → ((r : List ℕ) (us : List Token) → more r ≡ Some us → AreTokens us r) → (ts : List Token)
      → tokens_here more left ≡ Some ts → AreTokens ts bytes
  step_sound [] e k ts h =
      let same : [] ≡ ts = cc in
      subst (λ (us : List Token). AreTokens us bytes) same (end_tokens bytes bytes [] (begin_tokens bytes) e)
  step_sound (b ∷ bs) e k ts h = by_reading (first_token (b ∷ bs)) refl h
    where
      by_reading : (r : Reading) → first_token (b ∷ bs) ≡ r → with_token (b ∷ bs) r more ≡ Some ts → AreTokens ts bytes
      by_reading None q g = absurd (cc)
      by_reading (Some (s, n)) q g =
          let f = behind_front _ (more (drop n (b ∷ bs))) ts g in
          let p = one_more_token bytes bytes (b ∷ bs) [] s n (begin_tokens bytes) (record { at = e; token = q }) in
          subst (λ (us : List Token). AreTokens us bytes) f.whole (p.sound f.rest (k (drop n (b ∷ bs)) f.rest f.more))

  -- the tokens of the text are read, if those of the remaining bytes are
  step_complete : (left : List ℕ) → without_lead false bytes ≡ left
      → ((r : List ℕ) (us : List Token) → length r < length bytes → AreTokens us r → more r ≡ Some us)
      → (ts : List Token) → AreTokens ts bytes → tokens_here more left ≡ Some ts
  step_complete [] e k ts a =
      ap (λ (us : List Token). Some us) (one_list bytes [] ts (end_tokens bytes bytes [] (begin_tokens bytes) e) a)
  step_complete (b ∷ bs) e k ts a = by_reading (first_token (b ∷ bs)) refl
    where
      some : 0 < length (without_lead false bytes)
      some = subst (λ (l : List ℕ). 0 < length l) (sym e) (omega arith)

      shorter : length (b ∷ bs) ≤ length bytes
      shorter = subst (λ (l : List ℕ). length l ≤ length bytes) e
          (next_place bytes bytes bytes (without_lead false bytes) 0 refl refl refl (omega arith)).shorter

      by_reading : (r : Reading) → first_token (b ∷ bs) ≡ r → with_token (b ∷ bs) r more ≡ Some ts
      by_reading None q =
          absurd (no_tokens bytes bytes [] (begin_tokens bytes) some (ap first_token e ∙ q) ts a)
      by_reading (Some (s, n)) q =
          let p = one_more_token bytes bytes (b ∷ bs) [] s n (begin_tokens bytes) (record { at = e; token = q }) in
          let c = p.complete ts a in
          let r = first_token_sound (b ∷ bs) s n q in
          let less : length (drop n (b ∷ bs)) < length bytes =
          omega (arith, length-drop n (b ∷ bs), spelled_some _ r.text r.spelled, r.size, shorter) in
          let m : more (drop n (b ∷ bs)) ≡ Some c.0 = k (drop n (b ∷ bs)) c.0 less c.1 in
          ap (with_front (Some _)) m ∙ ap (λ (us : List Token). Some us) (one_list bytes _ ts (p.sound c.0 c.1) a)

tokens_sound : (n : ℕ) (bytes : List ℕ) (ts : List Token) → tokens_within n bytes ≡ Some ts → AreTokens ts bytes
tokens_sound zero bytes ts h = step_sound bytes (λ r. None) (without_lead false bytes) refl (λ r us e. absurd (cc)) ts h
tokens_sound (suc n) bytes ts h =
    step_sound bytes (tokens_within n) (without_lead false bytes) refl (λ r us e. tokens_sound n r us e) ts h

tokens_complete : (n : ℕ) (bytes : List ℕ) (ts : List Token) → length bytes ≤ n → AreTokens ts bytes
    → tokens_within n bytes ≡ Some ts
tokens_complete zero bytes ts l a =
    step_complete bytes (λ r. None) (without_lead false bytes) refl (λ r us e b. absurd (omega (arith, e, l))) ts a
tokens_complete (suc n) bytes ts l a =
    step_complete bytes (tokens_within n) (without_lead false bytes) refl
    (λ r us e b. tokens_complete n r us (omega (arith, e, l)) b) ts a

-- the tokens that are read are those of the text
pub tokens_are_read : (text : List ℕ) (ts : List Token) → read_tokens text ≡ Some ts → AreTokens ts text
tokens_are_read text ts e = tokens_sound (length text) text ts e

-- the tokens of the text are read
pub reads_tokens : (text : List ℕ) (ts : List Token) → AreTokens ts text → read_tokens text ≡ Some ts
reads_tokens text ts a = tokens_complete (length text) text ts (omega arith) a

-- ---- senses

module _ (p : Piece) where
  -- the sense of a text with these tokens, which spell a statement or none
  module _ (w : IsWhole p) (ts : List Token) (a : AreTokens ts p.text) (flat : depth ts ≤ 64) where
    none_spelled : ((s : Statement) → IsStatement s ts → ⊥) → HasSense p (Faulty NotAStatement)
    none_spelled h =
        (w, not_deep p.text ts a flat, λ s t. h s (subst (IsStatement s) (one_list p.text t.0 ts t.1.0 a) t.2))

    spelled : (s : Statement) → IsStatement s ts
        → HasSense p (if is_too_wide s then Faulty TooManyColumnsOrTables else Says s)
    spelled s h = by_width (is_too_wide s) refl
      where
        by_width : (b : Bool) → is_too_wide s ≡ b → HasSense p (if b then Faulty TooManyColumnsOrTables else Says s)
        by_width true e = (w, (s, (ts, (a, flat), h), e))
        by_width false e = (w, (ts, (a, flat), h), e)

    tree_sense : (o : Option Statement) → read_statement ts ≡ o → HasSense p (sense_of_tree o)
    tree_sense None e = none_spelled (λ s h. let r = statement_is_read ts s h in absurd (cc))
    tree_sense (Some s) e = spelled s (reads_statement ts s e)

  token_sense : IsWhole p → (o : Option (List Token)) → read_tokens p.text ≡ o
      → HasSense p (sense_of_tokens o)
  token_sense w None e = (
    w,
    (λ deep. let r = reads_tokens p.text deep.0 deep.1 in absurd (cc)),
    λ s t. let r = reads_tokens p.text t.0 t.1.0 in absurd (cc),
  )
  token_sense w (Some ts) e = by_depth (nat_lt 64 (depth ts)) refl
    where
      a : AreTokens ts p.text
      a = tokens_are_read p.text ts e

      by_depth : (b : Bool) → nat_lt 64 (depth ts) ≡ b
          → HasSense p (if b then Faulty NestedTooDeep else sense_of_tree (read_statement ts))
      by_depth true q = (w, (ts, a, grind (arith, nat_tests)))
      by_depth false q = tree_sense w ts a (grind (arith, nat_tests)) (read_statement ts) refl

  -- a sense of the piece is read
  pub sense_is_read : HasSense p (read_sense p)
  sense_is_read = by_length (nat_lt 1_048_576 (length p.text)) refl
    where
      by_end : (b : Bool) → p.finished ≡ b → (length p.text ≤ 1_048_576) → IsUtf8 p.text
          → HasSense p (if not b then Faulty UnfinishedStatement else sense_of_tokens (read_tokens p.text))
      by_end true e l u = token_sense (record { short = l; utf8 = u; finished = e }) (read_tokens p.text) refl
      by_end false e l u = (l, u, e)

      by_bytes : (b : Bool) → is_utf8 p.text ≡ b → (length p.text ≤ 1_048_576)
          → HasSense p (if not b then Faulty NotUtf8 else
          (if not p.finished then Faulty UnfinishedStatement else sense_of_tokens (read_tokens p.text)))
      by_bytes true e l = by_end p.finished refl l (IsUtf8-from_is_utf8 p.text e)
      by_bytes false e l = (l, λ u. let r = is_utf8-from_IsUtf8 p.text u in absurd (cc))

      by_length : (b : Bool) → nat_lt 1_048_576 (length p.text) ≡ b
          → HasSense p (if b then Faulty StatementTooLong else (if not (is_utf8 p.text) then Faulty NotUtf8
          else (if not p.finished then Faulty UnfinishedStatement else sense_of_tokens (read_tokens p.text))))
      by_length true e = grind (arith, nat_tests)
      by_length false e = by_bytes (is_utf8 p.text) refl (grind (arith, nat_tests))
