-- How the answers of a run are written: the possible texts of one answer and of several.
use Rattle.std.specs.Prelude.{◌≡◌, ◌⊎◌, ℕ, zero, suc, Bool, false, List, [], ◌∷◌, ◌++◌, Option, Result, OnOk, OnErr}
use Rattle.std.specs.Prelude.{IsTrue}
use Rattle.tql_spec.specs.Answer.{Answer}
use Rattle.tql_spec.specs.Lines.{Placed, line_of}
use Rattle.tql_spec.specs.Text.{answer_text}
use Rattle.tql_result.specs.Devices.{Appends, AppendsBeginning, HasFailed, Held, Pushes}

-- whether these bytes may be the text of an answer to the statement with this number, on this line, after the earlier
-- answers
abbrev pub Texts : Type 1
Texts = List Answer → ℕ → ℕ → Answer → List ℕ → Type 0

-- the plain style: each answer has exactly one text
abbrev pub plain_texts : Texts
plain_texts earlier number line answer text = text ≡ answer_text answer

-- the possible lists of answers that a form has written so far
abbrev pub Written : Type 1
Written = List Answer → Type 0

-- How a form writes: the possible texts of answers, and the answers that a listener may be expected to report, instead
-- of their texts or in addition to them. After an answer to be reported the sink may be flushed.
pub record Style : Type 1 where
  pub texts : Texts
  pub reported : Answer → Bool

-- the same for answers that follow these
abbrev pub style_after : List Answer → Texts → (Answer → Bool) → Style
style_after before texts reported = record { texts = λ earlier. texts (before ++ earlier); reported = reported }

-- the answers written since these
abbrev pub written_after : List Answer → Written → Written
written_after before form answers = form (before ++ answers)

-- the plain style: each answer has exactly one text, and none is to be reported
abbrev pub plain_style : Style
plain_style = style_after [] plain_texts (λ _. false)

-- After the earlier answers, a text of the next one was pushed: the whole text without a failure, and the form has then
-- written that answer; or a proper prefix of it, followed by a failure.
pub record Prints {T E : Type 0} (texts : Texts) (earlier : List Answer) (number line : ℕ) (answer : Answer)
    (result : Result T E) (form : Written) (old new : Held) (before now : ℕ) : Type 0 where
  pub text : List ℕ
  pub is_text : texts earlier number line answer text
  pub pushes : Pushes text result old new before now
  pub wrote : OnOk result (form (earlier ++ answer ∷ []))

-- a form that may have written these answers prints the next one, and keeps no text
pub record Writes {T E : Type 0} (texts : Texts) (had form : Written) (number line : ℕ) (answer : Answer)
    (result : Result T E) (old new : Held) (before now : ℕ) : Type 0 where
  pub prints : (earlier : List Answer) → had earlier
      → Prints texts earlier number line answer result form old new before now
  pub kept : new.kept ≡ old.kept

-- After the earlier answers, a text of the next one was pushed, followed by a flush if that is allowed. On success the
-- whole text was pushed without a failure, and the form has then written that answer. On failure a proper prefix was
-- pushed, or the whole text was pushed and an allowed flush failed.
pub record Passes {T E : Type 0} (texts : Texts) (earlier : List Answer) (number line : ℕ) (answer : Answer)
    (result : Result T E) (form : Written) (allowed : Type 0) (old new : Option (List ℕ)) (before now : ℕ) : Type 0
  where
    pub text : List ℕ
    pub is_text : texts earlier number line answer text
    pub whole : OnOk result (Appends old text new)
    pub no_failure : OnOk result (now ≡ before)
    pub wrote : OnOk result (form (earlier ++ answer ∷ []))
    pub cut : OnErr result (AppendsBeginning old text new ⊎ (allowed × Appends old text new))
    pub failure : OnErr result (HasFailed before now)

-- a form that may have written these answers passes the next one on; if that answer is to be reported, a flush may fail
abbrev pub PassesOn : {T E : Type 0} → (style : Style) → (flushes_fail : Bool) → (had form : Written)
    → (number line : ℕ) → (answer : Answer) → (result : Result T E) → (old new : Option (List ℕ)) → (before now : ℕ)
    → Type 0
PassesOn style flushes_fail had form number line answer result old new before now =
    (earlier : List Answer) → had earlier
    → Passes style.texts earlier number line answer result form (IsTrue (style.reported answer) × IsTrue flushes_fail)
    old new before now

-- after the earlier answers, the bytes are texts of the next ones, in order. These answer the first of these
-- statements, numbered from `number`.
abbrev pub AreTextsFrom : Texts → List Answer → ℕ → List Placed → List Answer → List ℕ → Type 0
AreTextsFrom texts earlier number places [] bytes = bytes ≡ []
AreTextsFrom texts earlier number [] (a ∷ rest) bytes = ⊥
AreTextsFrom texts earlier number (p ∷ places) (a ∷ rest) bytes =
    (text : List ℕ) × ((others : List ℕ) × (bytes ≡ text ++ others) × texts earlier number (line_of p) a text
    × AreTextsFrom texts (earlier ++ a ∷ []) (suc number) places rest others)

-- the bytes are texts of the answers to the first statements of a script
abbrev pub AreTexts : Texts → List Placed → List Answer → List ℕ → Type 0
AreTexts texts places answers bytes = AreTextsFrom texts [] 1 places answers bytes

-- the line of the statement that follows the first n
abbrev pub line_after : ℕ → List Placed → ℕ
line_after n [] = 0
line_after zero (p ∷ places) = line_of p
line_after (suc n) (p ∷ places) = line_after n places
