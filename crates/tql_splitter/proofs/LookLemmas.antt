-- Scanning a piece byte by byte.
use Rattle.std.proofs.Common.{◌≡◌, ℕ, suc, ◌<◌, ◌==◌, Bool, true, false, cond, List, [], ◌∷◌, ◌++◌, length}
use Rattle.std.proofs.Common.{Some, None, refl, sym, subst, ap, ◌∙◌, arith, append_assoc, append-nil, length-append}
use Rattle.std.proofs.Common.{inl, inr}
use Rattle.std.specs.Prelude.{◌||◌, ◌⊎◌, not, MatchBool, if◌then◌else◌}
use Rattle.std.proofs.lemmas.Bool.{eqb-true, and_parts}
use Rattle.tql_spec.specs.Script.{ScanState, Outside, InComment, state_after}
use Rattle.tql_spec.specs.Script.{is_blank, begins_comment, without_lead}
use Rattle.tql_spec.proofs.TokenLaws.{blank_no_comment}
use Rattle.tql_splitter.specs.Cutting.{state_behind, end_from, is_comment}
use Rattle.tql_splitter.specs.Stream.{Kept, Nothing, Dash, Whole, Overlong, Lost, is_begun}
use Rattle.tql_splitter.specs.Pending.{Keeps, Looks}
use Rattle.tql_splitter.specs.Holding.{HasBegun, Shows}
use Rattle.tql_splitter.proofs.CuttingLemmas.{ends, none_is, some_none}
use Rattle.tql_lex.proofs.GapLemmas.{dash_first, dash_next}

-- ---- states and ends

pub state_more : (p : ScanState) (xs : List ℕ) (b : ℕ)
    → state_behind p (xs ++ b ∷ []) ≡ state_after (state_behind p xs) b
state_more p [] b = refl
state_more p (x ∷ xs) b = state_more (state_after p x) xs b

pub none_more : (p : ScanState) (xs : List ℕ) (b : ℕ) → end_from p xs ≡ None → ends (state_behind p xs) b ≡ false
    → end_from p (xs ++ b ∷ []) ≡ None
none_more p [] b e f = rw f refl
none_more p (x ∷ xs) b e f = by (ends p x) refl (none_more (state_after p x) xs b) where
  by : (t : Bool) → ends p x ≡ t
      → (end_from (state_after p x) xs ≡ None → ends (state_behind (state_after p x) xs) b ≡ false
      → end_from (state_after p x) (xs ++ b ∷ []) ≡ None)
      → end_from p (x ∷ xs ++ b ∷ []) ≡ None
  by true q rest = absurd (some_none 0 (rw q at e))
  by false q rest = rw (q, rest (none_is (end_from (state_after p x) xs) (rw q at e)) f) refl

pub ends_at : (p : ScanState) (xs : List ℕ) (b : ℕ) → end_from p xs ≡ None → ends (state_behind p xs) b ≡ true
    → end_from p (xs ++ b ∷ []) ≡ Some (length xs)
ends_at p [] b e f = rw f refl
ends_at p (x ∷ xs) b e f = by (ends p x) refl (ends_at (state_after p x) xs b) where
  by : (t : Bool) → ends p x ≡ t
      → (end_from (state_after p x) xs ≡ None → ends (state_behind (state_after p x) xs) b ≡ true
      → end_from (state_after p x) (xs ++ b ∷ []) ≡ Some (length xs))
      → end_from p (x ∷ xs ++ b ∷ []) ≡ Some (suc (length xs))
  by true q rest = absurd (some_none 0 (rw q at e))
  by false q rest = rw (q, rest (none_is (end_from (state_after p x) xs) (rw q at e)) f) refl

-- ---- before a text

-- bytes that follow do not change where a text begins
pub text_more : (c : Bool) (xs more : List ℕ) → 0 < length (without_lead c xs)
    → without_lead c (xs ++ more) ≡ without_lead false (without_lead c xs ++ more)
text_more true [] more h = absurd (omega (arith, h))
text_more false [] more h = absurd (omega (arith, h))
text_more true (x ∷ xs) more h = text_more (not (x == 10)) xs more h
text_more false (x ∷ []) more h = by (is_blank x || begins_comment x []) refl where
  by : (t : Bool) → (is_blank x || begins_comment x []) ≡ t
      → without_lead false (x ∷ more) ≡ without_lead false (without_lead false (x ∷ []) ++ more)
  by true q = let none : 0 < length (cond true (without_lead (begins_comment x []) []) (x ∷ [])) = rw q at h in
      absurd (nothing (begins_comment x []) none)
    where
      nothing : (c : Bool) → 0 < length (without_lead c []) → ⊥
      nothing true l = omega (arith, l)
      nothing false l = omega (arith, l)
  by false q = rw q refl
text_more false (x ∷ y ∷ ys) more h =
    by (is_blank x || begins_comment x (y ∷ ys)) refl (text_more (begins_comment x (y ∷ ys)) (y ∷ ys) more) where
      by : (t : Bool) → (is_blank x || begins_comment x (y ∷ ys)) ≡ t
          → (0 < length (without_lead (begins_comment x (y ∷ ys)) (y ∷ ys))
          → without_lead (begins_comment x (y ∷ ys)) (y ∷ ys ++ more)
          ≡ without_lead false (without_lead (begins_comment x (y ∷ ys)) (y ∷ ys) ++ more))
          → without_lead false (x ∷ y ∷ ys ++ more) ≡ without_lead false (without_lead false (x ∷ y ∷ ys) ++ more)
      by true q rest = rw q (rest (rw q at h))
      by false q rest = rw (q, q) refl

-- the state in which blanks and comments begin
abbrev begin_in : Bool → ScanState
begin_in true = InComment
begin_in false = Outside

-- bytes that are only blanks and comments; they end outside a comment, or in one
abbrev AreBlank : Bool → List ℕ → Type 0
AreBlank c xs =
    ((state_behind (begin_in c) xs ≡ Outside) × ((more : List ℕ)
    → without_lead c (xs ++ more) ≡ without_lead false more))
    ⊎ ((state_behind (begin_in c) xs ≡ InComment) × ((more : List ℕ)
    → without_lead c (xs ++ more) ≡ without_lead true more))

-- a blank opens nothing
blank_outside : (b : ℕ) → is_blank b ≡ true → state_after Outside b ≡ Outside
blank_outside b e = by (b == 45) refl (b == 39) refl (b == 34) refl where
  by : (t : Bool) → (b == 45) ≡ t → (u : Bool) → (b == 39) ≡ u → (v : Bool) → (b == 34) ≡ v
      → state_after Outside b ≡ Outside
  by true p u q v r = let no : is_blank 45 ≡ true = subst (λ (x : ℕ). is_blank x ≡ true) (eqb-true b 45 p) e in absurd
      cc
  by false p true q v r =
      let no : is_blank 39 ≡ true = subst (λ (x : ℕ). is_blank x ≡ true) (eqb-true b 39 q) e in absurd cc
  by false p false q true r =
      let no : is_blank 34 ≡ true = subst (λ (x : ℕ). is_blank x ≡ true) (eqb-true b 34 r) e in absurd cc
  by false p false q false r = rw (p, q, r) refl

something_left : (b : ℕ) (bs : List ℕ) → b ∷ bs ≡ [] → ⊥
something_left b bs e = cc

blank_first : (b : ℕ) (more : List ℕ) → is_blank b ≡ true → without_lead false (b ∷ more) ≡ without_lead false more
blank_first b more p = rw (p, blank_no_comment b more p) refl

blank_on : (b : ℕ) (xs : List ℕ) → is_blank b ≡ true → AreBlank false xs → AreBlank false (b ∷ xs)
blank_on b xs p (inl h) =
    inl (
      ap (λ (s : ScanState). state_behind s xs) (blank_outside b p) ∙ h.0,
      λ more. blank_first b (xs ++ more) p
          ∙ h.1 more,
    )
blank_on b xs p (inr h) =
    inr (
      ap (λ (s : ScanState). state_behind s xs) (blank_outside b p) ∙ h.0,
      λ more. blank_first b (xs ++ more) p
          ∙ h.1 more,
    )

line_state : (b : ℕ) (xs : List ℕ) (t : Bool) → (b == 10) ≡ t
    → state_behind InComment (b ∷ xs) ≡ state_behind (begin_in (not t)) xs
line_state b xs true q = ap (λ (u : Bool). state_behind (if u then Outside else InComment) xs) q
line_state b xs false q = ap (λ (u : Bool). state_behind (if u then Outside else InComment) xs) q

line_lead : (b : ℕ) (bs : List ℕ) (t : Bool) → (b == 10) ≡ t → without_lead true (b ∷ bs) ≡ without_lead (not t) bs
line_lead b bs t q = ap (λ (u : Bool). without_lead (not u) bs) q

line_on : (b : ℕ) (xs : List ℕ) (t : Bool) → (b == 10) ≡ t → AreBlank (not t) xs → AreBlank true (b ∷ xs)
line_on b xs t q (inl h) = inl (line_state b xs t q ∙ h.0, λ more. line_lead b (xs ++ more) t q ∙ h.1 more)
line_on b xs t q (inr h) = inr (line_state b xs t q ∙ h.0, λ more. line_lead b (xs ++ more) t q ∙ h.1 more)

comment_on : (a b : ℕ) (xs : List ℕ) → begins_comment a (b ∷ xs) ≡ true → AreBlank true xs → AreBlank false (a ∷ b ∷ xs)
comment_on a b xs e h =
    subst (λ (x : ℕ). AreBlank false (x ∷ b ∷ xs)) (sym (dash_first a (b ∷ xs) e))
    (subst (λ (x : ℕ). AreBlank false (45 ∷ x ∷ xs)) (sym (dash_next a b xs e)) h)

pub are_blank : (c : Bool) (xs : List ℕ) → without_lead c xs ≡ [] → AreBlank c xs
are_blank true [] e = inr (refl, λ more. refl)
are_blank false [] e = inl (refl, λ more. refl)
are_blank true (x ∷ xs) e = line_on x xs (x == 10) refl (are_blank (not (x == 10)) xs e)
are_blank false (x ∷ []) e = by (is_blank x) refl (begins_comment x []) refl e where
  by : (t : Bool) → is_blank x ≡ t → (u : Bool) → begins_comment x [] ≡ u → without_lead false (x ∷ []) ≡ []
      → AreBlank false (x ∷ [])
  by true p u q e = blank_on x [] p (inl (refl, λ more. refl))
  by false p true q e = let no = and_parts (x == 45) false q in absurd (let bad : false ≡ true = no.1 in cc)
  by false p false q e = absurd (something_left x [] (rw (p, q) at e))
are_blank false (x ∷ y ∷ ys) e =
    by (is_blank x) refl (begins_comment x (y ∷ ys)) refl e (are_blank false (y ∷ ys)) (are_blank true ys) where
      by : (t : Bool) → is_blank x ≡ t → (u : Bool) → begins_comment x (y ∷ ys) ≡ u
          → without_lead false (x ∷ y ∷ ys) ≡ [] → (without_lead false (y ∷ ys) ≡ [] → AreBlank false (y ∷ ys))
          → (without_lead true ys ≡ [] → AreBlank true ys) → AreBlank false (x ∷ y ∷ ys)
      by true p u q e next line = blank_on x (y ∷ ys) p (next (rw (p, blank_no_comment x (y ∷ ys) p) at e))
      by false p true q e next line =
          let at_y : without_lead (not (y == 10)) ys ≡ [] = rw (p, q) at e in
          comment_on x y ys q (line (rw (dash_next x y ys q) at at_y))
      by false p false q e next line = absurd (something_left x (y ∷ ys) (rw (p, q) at e))

-- ---- texts that have begun

not_dash : (b : ℕ) (more : List ℕ) → (b == 45) ≡ false → begins_comment b more ≡ false
not_dash b more e = rw e refl

begun_one : (b : ℕ) → is_blank b ≡ false → (b == 45) ≡ false → HasBegun (b ∷ [])
begun_one b p q = record { filled = omega arith; stays = λ more. rw (p, not_dash b more q) refl }

begun_dash : (b : ℕ) → (b == 45) ≡ false → HasBegun (45 ∷ b ∷ [])
begun_dash b q = record { filled = omega arith; stays = λ more. rw q refl }

begun_more : (text : List ℕ) (b : ℕ) → HasBegun text → HasBegun (text ++ b ∷ [])
begun_more text b h = record {
  filled = omega (arith, h.filled, length-append text (b ∷ []));
  stays = λ more. ap (without_lead false) (append_assoc text (b ∷ []) more) ∙ h.stays (b ∷ more)
      ∙ sym (append_assoc text (b ∷ []) more);
}

-- ---- one more byte

-- the scanned bytes with one more byte, split into the bytes before the text and the text
pub record LookedMore (b : ℕ) (looked ahead text : List ℕ) (was new : Kept) : Type 0 where
  pub ahead_now : List ℕ
  pub text_now : List ℕ
  pub parts : looked ++ b ∷ [] ≡ ahead_now ++ text_now
  pub is_text : without_lead false (looked ++ b ∷ []) ≡ text_now
  pub kept : Shows new text_now
  pub at : 0 < length text_now
      → ((is_begun was ≡ true) × (ahead_now ≡ ahead) × (0 < length text)) ⊎
      ((is_begun was ≡ false) × (ahead_now ≡ looked))

-- a text is kept as it has begun
pub shows_kept : (text : List ℕ) (new : Kept) → HasBegun text → Keeps text new → Shows new text
shows_kept text Nothing h k = absurd k
shows_kept text Dash h k = absurd k
shows_kept text (Whole t) h k = (k.0, h, k.1)
shows_kept text Overlong h k = (k, h)
shows_kept text Lost h k = (k, h)

-- a text that has begun continues
goes_on : (b : ℕ) (looked ahead text : List ℕ) (was new : Kept) → is_begun was ≡ true → looked ≡ ahead ++ text
    → without_lead false looked ≡ text → HasBegun text → Shows new (text ++ b ∷ [])
    → LookedMore b looked ahead text was new
goes_on b looked ahead text was new begun parts is h shows = record {
  ahead_now = ahead;
  text_now = text ++ b ∷ [];
  parts = ap (λ (z : List ℕ). z ++ b ∷ []) parts ∙ append_assoc ahead text (b ∷ []);
  is_text = text_more false looked (b ∷ []) (subst (λ (z : List ℕ). 0 < length z) (sym is) h.filled)
      ∙ ap (λ (z : List ℕ). without_lead false (z ++ b ∷ [])) is ∙ h.stays (b ∷ []);
  kept = shows;
  at = λ _. inl (begun, refl, h.filled);
}

-- nothing has begun yet
no_text_yet : (b : ℕ) (looked ahead text : List ℕ) (was new : Kept) → without_lead false (looked ++ b ∷ []) ≡ []
    → Shows new [] → LookedMore b looked ahead text was new
no_text_yet b looked ahead text was new is shows = record {
  ahead_now = looked ++ b ∷ [];
  text_now = [];
  parts = sym (append-nil (looked ++ b ∷ []));
  is_text = is;
  kept = shows;
  at = λ some. absurd (omega (arith, some));
}

-- a text begins
begins_now : (b : ℕ) (looked ahead text : List ℕ) (was new : Kept) → is_begun was ≡ false
    → without_lead false (looked ++ b ∷ []) ≡ b ∷ [] → Shows new (b ∷ []) → LookedMore b looked ahead text was new
begins_now b looked ahead text was new none is shows = record {
  ahead_now = looked;
  text_now = b ∷ [];
  parts = refl;
  is_text = is;
  kept = shows;
  at = λ _. inr (none, refl);
}

-- outside a comment, a byte that is neither a blank nor a `-` begins a text
first_byte : (b : ℕ) (looked ahead : List ℕ) (new : Kept) → (m : Bool) → is_blank b ≡ m → (d : Bool) → (b == 45) ≡ d
    → without_lead false (looked ++ b ∷ []) ≡ without_lead false (b ∷ [])
    → MatchBool m (new ≡ Nothing) (MatchBool d (new ≡ Dash) (Keeps (b ∷ []) new))
    → LookedMore b looked ahead [] Nothing new
first_byte b looked ahead new true p d q on looks =
    no_text_yet b looked ahead [] Nothing new (on ∙ blank_first b [] p)
    (subst (λ (k : Kept). Shows k []) (sym looks) refl)
first_byte b looked ahead new false p true q on looks =
    let dash : b ≡ 45 = eqb-true b 45 q in
    begins_now b looked ahead [] Nothing new refl (on ∙ ap (λ (x : ℕ). without_lead false (x ∷ [])) dash
    ∙ ap (λ (x : ℕ). x ∷ []) (sym dash))
    (subst (λ (k : Kept). Shows k (b ∷ [])) (sym looks) (ap (λ (x : ℕ). x ∷ []) dash))
first_byte b looked ahead new false p false q on looks =
    let h = begun_one b p q in
    begins_now b looked ahead [] Nothing new refl (on ∙ h.stays []) (shows_kept (b ∷ []) new h looks)

-- after blanks and comments
look_nothing : (b : ℕ) (c : Bool) (looked ahead text : List ℕ) (new : Kept) → without_lead false looked ≡ text
    → text ≡ []
    → is_comment (state_behind Outside looked) ≡ c → Looks c b Nothing new → LookedMore b looked ahead text Nothing new
look_nothing b c looked ahead text new is none comment looks =
    subst (λ (t : List ℕ). LookedMore b looked ahead t Nothing new) (sym none)
    (by (are_blank false looked (is ∙ none)) c comment looks) where
      by : AreBlank false looked → (c : Bool) → is_comment (state_behind Outside looked) ≡ c → Looks c b Nothing new
          → LookedMore b looked ahead [] Nothing new
      by (inl h) true e looks = let no : false ≡ true = ap is_comment (sym h.0) ∙ e in absurd cc
      by (inl h) false e looks = first_byte b looked ahead new (is_blank b) refl (b == 45) refl (h.1 (b ∷ [])) looks
      by (inr h) true e looks = no_text_yet b looked ahead [] Nothing new (h.1 (b ∷ []) ∙ in_comment b)
          (subst (λ (k : Kept). Shows k []) (sym looks) refl)
        where
          empty : (c : Bool) → without_lead c [] ≡ []
          empty true = refl
          empty false = refl

          in_comment : (b : ℕ) → without_lead true (b ∷ []) ≡ []
          in_comment b = empty (not (b == 10))
      by (inr h) false e looks = let no : true ≡ false = ap is_comment (sym h.0) ∙ e in absurd cc

-- after a `-`
look_dash : (b : ℕ) (looked ahead text : List ℕ) (new : Kept) → looked ≡ ahead ++ text
    → without_lead false looked ≡ text
    → text ≡ 45 ∷ [] → (d : Bool) → (b == 45) ≡ d → MatchBool d (new ≡ Nothing) (Keeps (45 ∷ b ∷ []) new)
    → LookedMore b looked ahead text Dash new
look_dash b looked ahead text new parts is dash d q looks =
    by d q looks (text_more false looked (b ∷ []) (subst (λ (z : List ℕ). 0 < length z) (sym (is ∙ dash)) (omega arith))
    ∙ ap (λ (z : List ℕ). without_lead false (z ++ b ∷ [])) (is ∙ dash)) where
      by : (d : Bool) → (b == 45) ≡ d → MatchBool d (new ≡ Nothing) (Keeps (45 ∷ b ∷ []) new)
          → without_lead false (looked ++ b ∷ []) ≡ without_lead false (45 ∷ b ∷ [])
          → LookedMore b looked ahead text Dash new
      by true q looks on = no_text_yet b looked ahead text Dash new
          (on ∙ ap (λ (x : ℕ). without_lead false (45 ∷ x ∷ [])) (eqb-true b 45 q))
          (subst (λ (k : Kept). Shows k []) (sym looks) refl)
      by false q looks on = let h = begun_dash b q in record {
        ahead_now = ahead;
        text_now = 45 ∷ b ∷ [];
        parts = ap (λ (z : List ℕ). z ++ b ∷ []) (parts ∙ ap (λ (z : List ℕ). ahead ++ z) dash)
            ∙ append_assoc ahead (45 ∷ []) (b ∷ []);
        is_text = on ∙ h.stays [];
        kept = shows_kept (45 ∷ b ∷ []) new h looks;
        at = λ _. inl (refl, refl, subst (λ (z : List ℕ). 0 < length z) (sym dash) (omega arith));
      }

-- one more byte is scanned
pub looked_more : (b : ℕ) (c : Bool) (looked ahead text : List ℕ) (was new : Kept) → looked ≡ ahead ++ text
    → without_lead false looked ≡ text → is_comment (state_behind Outside looked) ≡ c → Shows was text
    → Looks c b was new → LookedMore b looked ahead text was new
looked_more b c looked ahead text Nothing new parts is comment shows looks =
    look_nothing b c looked ahead text new is shows comment looks
looked_more b c looked ahead text Dash new parts is comment shows looks =
    look_dash b looked ahead text new parts is shows (b == 45) refl looks
looked_more b c looked ahead text (Whole t) new parts is comment shows looks =
    goes_on b looked ahead text (Whole t) new refl parts is shows.1
    (shows_kept (text ++ b ∷ []) new (begun_more text b shows.1)
    (subst (λ (z : List ℕ). Keeps (z ++ b ∷ []) new) shows.0 looks))
looked_more b c looked ahead text Overlong new parts is comment shows looks =
    goes_on b looked ahead text Overlong new refl parts is shows.1
    (subst (λ (k : Kept). Shows k (text ++ b ∷ [])) (sym looks)
    (omega (arith, shows.0, length-append text (b ∷ [])), begun_more text b shows.1))
looked_more b c looked ahead text Lost new parts is comment shows looks =
    goes_on b looked ahead text Lost new refl parts is shows.1
    (subst (λ (k : Kept). Shows k (text ++ b ∷ [])) (sym looks)
    (omega (arith, shows.0, length-append text (b ∷ [])), begun_more text b shows.1))
