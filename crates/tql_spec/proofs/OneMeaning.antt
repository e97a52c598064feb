-- If a token list spells at most one statement, a piece has one sense, and runs agree.
use Rattle.std.proofs.Common.{◌≡◌, ◌<◌, ◌≤◌, refl, sym, ap, subst, ◌∙◌, Bool, true, false, List, [], ◌∷◌, length, inl}
use Rattle.std.proofs.Common.{inr, arith}
use Rattle.std.specs.Prelude.{◌⊎◌, IsTrue, IsFalse, IsUtf8}
use Rattle.tql_spec.specs.Refusal.{OutOfMemory, NotAStatement, NotUtf8, UnfinishedStatement, StatementTooLong}
use Rattle.tql_spec.specs.Refusal.{NestedTooDeep, TooManyColumnsOrTables}
use Rattle.tql_spec.specs.Machine.{State, Reply, Refused}
use Rattle.tql_spec.specs.Script.{Piece}
use Rattle.tql_spec.specs.Token.{depth}
use Rattle.tql_spec.specs.Syntax.{Statement, is_too_wide}
use Rattle.tql_spec.specs.Grammar.{SpellsOnce, IsStatement}
use Rattle.tql_spec.specs.Run.{Sense, Says, Faulty, HasSense, IsWhole, IsDeep, IsTextOf, Answers, Run}
use Rattle.tql_spec.specs.Run.{respond_to}
use Rattle.tql_spec.specs.Meaning.{SensesAreOne, RunsAgree}
use Rattle.tql_spec.proofs.TokenLaws.{one_list}

-- two values are equal if both satisfy the same of two exclusive cases, and each case determines the value
either_once : {S A B : Type 0} (x : S) (R : S → Type 0) → (A → B → ⊥) → ((s t : S) → R s → R t → s ≡ t) → (s t : S)
    → (A × (s ≡ x)) ⊎ (B × R s) → (A × (t ≡ x)) ⊎ (B × R t) → s ≡ t
either_once x R apart once s t (inl h) (inl k) = h.1 ∙ sym k.1
either_once x R apart once s t (inl h) (inr k) = absurd (apart h.0 k.0)
either_once x R apart once s t (inr h) (inl k) = absurd (apart k.0 h.0)
either_once x R apart once s t (inr h) (inr k) = once s t h.1 k.1

-- a test is not both false and true
never_both : (b : Bool) → IsFalse b → IsTrue b → ⊥
never_both true e f = cc
never_both false e f = cc

module _ (once : SpellsOnce) (p : Piece) where
  -- the senses of a piece that spells a statement, by its width; then the faults of a piece, from the last to the first
  abbrev Wide : Statement → Sense → Type 0
  Wide s a = (IsFalse (is_too_wide s) × (a ≡ Says s)) ⊎ (IsTrue (is_too_wide s) × (a ≡ Faulty TooManyColumnsOrTables))

  abbrev Spells : Sense → Type 0
  Spells a = (s : Statement) × IsTextOf p.text s × Wide s a

  abbrev NoText : Type 0
  NoText = (s : Statement) → IsTextOf p.text s → ⊥

  abbrev Shallow : Sense → Type 0
  Shallow a = (NoText × (a ≡ Faulty NotAStatement)) ⊎ (¬ NoText × Spells a)

  abbrev Ended : Sense → Type 0
  Ended a = (IsDeep p.text × (a ≡ Faulty NestedTooDeep)) ⊎ (¬ IsDeep p.text × Shallow a)

  abbrev Read : Sense → Type 0
  Read a = (IsFalse p.finished × (a ≡ Faulty UnfinishedStatement)) ⊎ (IsTrue p.finished × Ended a)

  abbrev Short : Sense → Type 0
  Short a = (¬ IsUtf8 p.text × (a ≡ Faulty NotUtf8)) ⊎ (IsUtf8 p.text × Read a)

  abbrev Graded : Sense → Type 0
  Graded a = ((1_048_576 < length p.text) × (a ≡ Faulty StatementTooLong)) ⊎ ((length p.text ≤ 1_048_576) × Short a)

  whole : (a : Sense) → IsWhole p → Ended a → Graded a
  whole a w e = inr (w.short, inr (w.utf8, inr (w.finished, e)))

  not_deep : (s : Statement) → IsTextOf p.text s → ¬ IsDeep p.text
  not_deep s (ts, shallow, spells) (us, tokens, deep) =
      let same : depth us ≡ depth ts = ap depth (one_list p.text us ts tokens shallow.0) in
      let l = shallow.1 in
      omega (arith, same, l, deep)

  graded : (a : Sense) → HasSense p a → Graded a
  graded (Says s) (w, t, narrow) =
      whole (Says s) w (inr (not_deep s t, inr ((λ none. none s t), (s, t, inl (narrow, refl)))))
  graded (Faulty StatementTooLong) h = inl (h, refl)
  graded (Faulty NotUtf8) (short, u) = inr (short, inl (u, refl))
  graded (Faulty UnfinishedStatement) (short, u, f) = inr (short, inr (u, inl (f, refl)))
  graded (Faulty NestedTooDeep) (w, deep) = whole (Faulty NestedTooDeep) w (inl (deep, refl))
  graded (Faulty NotAStatement) (w, shallow, none) = whole (Faulty NotAStatement) w (inr (shallow, inl (none, refl)))
  graded (Faulty TooManyColumnsOrTables) (w, (s, t, wide)) =
      whole (Faulty TooManyColumnsOrTables) w (inr (not_deep s t, inr ((λ none. none s t), (s, t, inr (wide, refl)))))
  graded (Faulty _) h = absurd h

  one_statement : (s t : Statement) → IsTextOf p.text s → IsTextOf p.text t → s ≡ t
  one_statement s t (ts, a, x) (us, b, y) = once us s t (subst (IsStatement s) (one_list p.text ts us a.0 b.0) x) y

  one_width : (s : Statement) (a b : Sense) → Wide s a → Wide s b → a ≡ b
  one_width s a b (inl h) (inl k) = h.1 ∙ sym k.1
  one_width s a b (inl h) (inr k) = absurd (never_both (is_too_wide s) h.0 k.0)
  one_width s a b (inr h) (inl k) = absurd (never_both (is_too_wide s) k.0 h.0)
  one_width s a b (inr h) (inr k) = h.1 ∙ sym k.1

  one_spelling : (a b : Sense) → Spells a → Spells b → a ≡ b
  one_spelling a b (s, t, w) (s', t', w') = one_width s' a b (subst (λ x. Wide x a) (one_statement s s' t t') w) w'

  one_sense : (a b : Sense) → HasSense p a → HasSense p b → a ≡ b
  one_sense a b h k =
      either_once (Faulty StatementTooLong) Short (λ l m. omega arith)
      (either_once (Faulty NotUtf8) Read (λ n u. n u)
      (either_once (Faulty UnfinishedStatement) Ended (never_both p.finished)
      (either_once (Faulty NestedTooDeep) Shallow (λ d n. n d)
      (either_once (Faulty NotAStatement) Spells (λ n m. m n) one_spelling))))
      a b (graded a h) (graded b k)

-- a piece has one sense, if a token list spells at most one statement
pub senses_are_one : SpellsOnce → SensesAreOne
senses_are_one once = one_sense once

-- two answers to a piece that are not out of memory are the same
answers_agree : SpellsOnce → (old : State) (p : Piece) (r r' : Reply) (new new' : State) → Answers old p r new
    → Answers old p r' new' → (r ≡ Refused OutOfMemory → ⊥) → (r' ≡ Refused OutOfMemory → ⊥)
    → ◌≡◌ {A = Reply × State} (r, new) (r', new')
answers_agree once old p r r' new new' (inl (a, h, e)) (inl (b, k, f)) n m =
    e ∙ ap (respond_to old) (senses_are_one once p a b h k) ∙ sym f
answers_agree once old p r r' new new' (inl h) (inr k) n m = absurd (m k.0)
answers_agree once old p r r' new new' (inr h) k n m = absurd (n h.0)

-- two runs agree, if a token list spells at most one statement
pub runs_agree : SpellsOnce → RunsAgree
runs_agree once old new new' [] [] [] r r' n m = (refl, r ∙ sym r')
runs_agree once old new new' (p ∷ ps) (x ∷ xs) (y ∷ ys) (mid, a, rest) (mid', a', rest') n m =
    let same = answers_agree once old p x y mid mid' a a' (n x (inl refl)) (m y (inl refl)) in
    let states : mid ≡ mid' = ap (λ (z : Reply × State). z.1) same in
    let moved : Run mid' ps xs new = subst (λ s. Run s ps xs new) states rest in
    let later = runs_agree once mid' new new' ps xs ys moved rest' (λ r i. n r (inr i)) (λ r i. m r (inr i)) in
    let first : x ≡ y = ap (λ (z : Reply × State). z.0) same in
    (ap {B = List Reply} (λ z. z ∷ xs) first ∙ ap {B = List Reply} (λ zs. y ∷ zs) later.0, later.1)
runs_agree once old new new' [] (x ∷ xs) replies' r r' n m = absurd r
runs_agree once old new new' [] [] (y ∷ ys) r r' n m = absurd r'
runs_agree once old new new' (p ∷ ps) [] replies' r r' n m = absurd r
runs_agree once old new new' (p ∷ ps) (x ∷ xs) [] r r' n m = absurd r'
