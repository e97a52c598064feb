-- Lists, notes, texts, devices and streams with one more element.
use Rattle.std.proofs.Common.{◌≡◌, refl, sym, ◌∙◌, ap, subst, ℕ, zero, suc, Bool, true, false, List, [], ◌∷◌, Option}
use Rattle.std.proofs.Common.{Some, arith, ◌+◌, ◌<◌, ◌≤◌, ◌==◌, cond, append_assoc, append-nil}
use Rattle.std.proofs.Common.{length-append, add-zero}
use Rattle.std.proofs.lemmas.Bool.{and_parts, and_from}
use Rattle.std.proofs.lemmas.List.Sums.{count_by-le-length}
use Rattle.std.specs.Prelude.{◌++◌, length, filter, fold, count_by, if◌then◌else◌, not, Result, IsFalse, IsTrue}
use Rattle.std.specs.List.{list_all}
use Rattle.tql_spec.specs.Machine.{State}
use Rattle.tql_spec.specs.Answer.{Answer}
use Rattle.tql_spec.specs.Script.{Piece, statements}
use Rattle.tql_spec.specs.Run.{Answering, RunBy}
use Rattle.tql_spec.specs.Lines.{Placed, placed_from, placed_statements, line_feeds, line_of}
use Rattle.tql_splitter.specs.Stream.{capped}
use Rattle.tql_splitter.specs.Pieces.{MayFollow, HasNone}
use Rattle.tql_result.specs.Devices.{Appends}
use Rattle.tql_run.specs.Hearing.{Heard, Hears, note_of, notes_from, notes_of}
use Rattle.tql_run.specs.Runs.{answered, is_refused, most_bytes}
use Rattle.tql_run.specs.Texts.{Texts, Style, Written, AreTexts, AreTextsFrom, PassesOn, line_after}

-- ---- lists

pub run_on : (A : Answering) (s mid new : State) (done : List Piece) (answers : List Answer) (p : Piece) (r : Answer)
    → RunBy A s done answers mid → A mid p r new → RunBy A s (done ++ p ∷ []) (answers ++ r ∷ []) new
run_on A s mid new [] [] p r ran a = (new, subst (λ x. A x p r new) ran a, refl)
run_on A s mid new [] (x ∷ xs) p r ran a = absurd ran
run_on A s mid new (q ∷ qs) [] p r ran a = absurd ran
run_on A s mid new (q ∷ qs) (x ∷ xs) p r ran a = (ran.0, ran.1, run_on A ran.0 mid new qs xs p r ran.2 a)

-- the count of refusals after one more answer
abbrev pub counts_one : ℕ → Answer → ℕ
counts_one a r = a + cond (is_refused r) 1 0

pub length_on : {X : Type 0} (xs : List X) (r : X) → length (xs ++ r ∷ []) ≡ suc (length xs)
length_on [] r = refl
length_on (x ∷ xs) r = ap suc (length_on xs r)

pub fold_on : (a : ℕ) (answers : List Answer) (r : Answer)
    → fold counts_one a (answers ++ r ∷ []) ≡ fold counts_one a answers + cond (is_refused r) 1 0
fold_on a [] r = refl
fold_on a (x ∷ xs) r = fold_on (counts_one a x) xs r

pub one_more : (b : Bool) (n : ℕ) → n + cond b 1 0 ≡ (if b then suc n else n)
one_more true n = omega (arith)
one_more false n = omega (arith)

pub count_on : (answers : List Answer) (r : Answer)
    → count_by is_refused (answers ++ r ∷ []) ≡
    (if is_refused r then suc (count_by is_refused answers) else count_by is_refused answers)
count_on answers r = fold_on zero answers r ∙ one_more (is_refused r) (count_by is_refused answers)

-- ---- notes

-- the notes for one more answer
pub notes_on : (n : ℕ) (places : List Placed) (answers : List Answer) (p : Placed) (r : Answer)
    → length places ≡ length answers
    → notes_from n (places ++ p ∷ []) (answers ++ r ∷ []) ≡ notes_from n places answers ++ note_of
    (n + length answers) (line_of p) r
notes_on n [] [] p r e = append-nil (note_of n (line_of p) r)
    ∙ ap (λ (m : ℕ). note_of m (line_of p) r) (sym (add-zero n))
notes_on n [] (y ∷ ys) p r e = absurd (omega (arith, e))
notes_on n (x ∷ xs) [] p r e = absurd (omega (arith, e))
notes_on n (x ∷ xs) (y ∷ ys) p r e =
    let here = note_of n (line_of x) y in
    let count : suc n + length ys ≡ n + suc (length ys) = omega arith in
    ap (λ (l : List Heard). here ++ l) (notes_on (suc n) xs ys p r (omega (arith, e))
    ∙ ap (λ (m : ℕ). notes_from (suc n) xs ys ++ note_of m (line_of p) r) count)
    ∙ sym (append_assoc here (notes_from (suc n) xs ys) (note_of (n + suc (length ys)) (line_of p) r))

pub none_noted : (n : ℕ) (ps : List Placed) → notes_from n ps [] ≡ []
none_noted n [] = refl
none_noted n (p ∷ ps) = refl

-- statements without an answer have no notes
pub notes_within : (n : ℕ) (places others : List Placed) (answers : List Answer) → length places ≡ length answers
    → notes_from n (places ++ others) answers ≡ notes_from n places answers
notes_within n [] others [] e = none_noted n others ∙ sym (none_noted n [])
notes_within n [] others (y ∷ ys) e = absurd (omega (arith, e))
notes_within n (x ∷ xs) others [] e = none_noted n (x ∷ xs ++ others) ∙ sym (none_noted n (x ∷ xs))
notes_within n (x ∷ xs) others (y ∷ ys) e =
    ap (λ (l : List Heard). note_of n (line_of x) y ++ l) (notes_within (suc n) xs others ys (omega (arith, e)))

-- ---- texts

-- the text of one more answer
pub texts_on : (T : Texts) (earlier : List Answer) (n : ℕ) (places : List Placed) (answers : List Answer) (p : Placed)
    (r : Answer) (bytes text : List ℕ) → length places ≡ length answers → AreTextsFrom T earlier n places answers bytes
    → T (earlier ++ answers) (n + length answers) (line_of p) r text
    → AreTextsFrom T earlier n (places ++ p ∷ []) (answers ++ r ∷ []) (bytes ++ text)
texts_on T earlier n [] [] p r bytes text e are is =
    let here = subst (λ (m : ℕ). T earlier m (line_of p) r text) (add-zero n)
    (subst (λ (before : List Answer). T before (n + 0) (line_of p) r text) (append-nil earlier) is) in
    (text, ([], ap (λ (l : List ℕ). l ++ text) are ∙ sym (append-nil text), here, refl))
texts_on T earlier n [] (y ∷ ys) p r bytes text e are is = absurd (omega (arith, e))
texts_on T earlier n (x ∷ xs) [] p r bytes text e are is = absurd (omega (arith, e))
texts_on T earlier n (x ∷ xs) (y ∷ ys) p r bytes text e (here, (others, parts, one, are)) is =
    let count : n + suc (length ys) ≡ suc n + length ys = omega arith in
    let last = subst (λ (m : ℕ). T ((earlier ++ y ∷ []) ++ ys) m (line_of p) r text) count
    (subst (λ (before : List Answer). T before (n + suc (length ys)) (line_of p) r text)
    (sym (append_assoc earlier (y ∷ []) ys)) is) in
    let later = texts_on T (earlier ++ y ∷ []) (suc n) xs ys p r others text (omega (arith, e)) are last in
    (here, (others ++ text, ap (λ (l : List ℕ). l ++ text) parts ∙ append_assoc here others text, one, later))

-- statements without an answer have no text
pub texts_within : (T : Texts) (earlier : List Answer) (n : ℕ) (places others : List Placed) (answers : List Answer)
    (bytes : List ℕ) → AreTextsFrom T earlier n places answers bytes
    → AreTextsFrom T earlier n (places ++ others) answers bytes
texts_within T earlier n [] others [] bytes are = are_none n others are
  where
    are_none : (n : ℕ) (ps : List Placed) → bytes ≡ [] → AreTextsFrom T earlier n ps [] bytes
    are_none n [] e = e
    are_none n (p ∷ ps) e = e
texts_within T earlier n [] others (y ∷ ys) bytes are = absurd are
texts_within T earlier n (x ∷ xs) others [] bytes are = are
texts_within T earlier n (x ∷ xs) others (y ∷ ys) bytes (here, (rest, parts, one, are)) =
    (here, (rest, parts, one, texts_within T (earlier ++ y ∷ []) (suc n) xs others ys rest are))

-- the line of the next statement
pub line_next : (places : List Placed) (p : Placed) (others : List Placed)
    → line_after (length places) (places ++ p ∷ others) ≡ line_of p
line_next [] p others = refl
line_next (x ∷ xs) p others = line_next xs p others

pub hears_on : (a b c : Option (List Heard)) (x y : List Heard) → Hears a x b → Hears b y c → Hears a (x ++ y) c
hears_on a b c x y p q = record {
  told = λ zs e. let w = q.told zs e in let v = p.told w.0 w.1 in (
    v.0,
    v.1,
    w.2
        ∙ ap (λ (l : List Heard). l ++ y) v.2 ∙ append_assoc v.0 x y,
  );
}

pub hears_none : (a : Option (List Heard)) → Hears a [] a
hears_none a = record { told = λ zs e. (zs, e, sym (append-nil zs)) }

-- ---- devices

-- equal results of a push can be replaced
pub came_to : {X E : Type 0} (style : Style) {fails : Bool} {had form : Written} {number line : ℕ} {answer : Answer}
    {x r : Result X E} {o n : Option (List ℕ)} {b k : ℕ} → x ≡ r
    → PassesOn style fails had form number line answer r o n b k
    → PassesOn style fails had form number line answer x o n b k
came_to {X} {E} style {fails} {had} {form} {number} {line} {answer} {x} {r} {o} {n} {b} {k} e p =
    subst (λ (y : Result X E). PassesOn style fails had form number line answer y o n b k) (sym e) p

-- so can equal contents and counts of a sink before it
pub came_from : {X E : Type 0} (style : Style) {fails : Bool} {had form : Written} {number line : ℕ} {answer : Answer}
    {r : Result X E} {o p n : Option (List ℕ)} {b j k : ℕ} → p ≡ o → j ≡ b
    → PassesOn style fails had form number line answer r p n j k
    → PassesOn style fails had form number line answer r o n b k
came_from {X} {E} style {fails} {had} {form} {number} {line} {answer} {r} {o} {p} {n} {b} {j} {k} e same passes =
    subst (λ (x : Option (List ℕ)). PassesOn style fails had form number line answer r x n b k) e
    (subst (λ (x : ℕ). PassesOn style fails had form number line answer r p n x k) same passes)

pub appends_none : (a : Option (List ℕ)) → Appends a [] a
appends_none a = record { holds = λ xs e. e ∙ ap Some (sym (append-nil xs)) }

pub appends_on : (a b c : Option (List ℕ)) (x y : List ℕ) → Appends a x b → Appends b y c → Appends a (x ++ y) c
appends_on a b c x y p q = record { holds = λ zs e. q.holds (zs ++ x) (p.holds zs e) ∙ ap Some (append_assoc zs x y) }

-- ---- streams

-- whether a piece is finished
abbrev pub is_finished : Piece → Bool
is_finished p = p.finished

-- the filter keeps a finished piece at the front
pub kept : (p : Piece) (ps : List Piece) → p.finished ≡ true → filter is_finished (p ∷ ps) ≡ p ∷ filter is_finished ps
kept p ps e = ap (λ b. cond b (p ∷ filter is_finished ps) (filter is_finished ps)) e

pub dropped : (p : Piece) (ps : List Piece) → p.finished ≡ false → filter is_finished (p ∷ ps) ≡ filter is_finished ps
dropped p ps e = ap (λ b. cond b (p ∷ filter is_finished ps) (filter is_finished ps)) e

-- all of these pieces are finished
abbrev pub are_finished : List Piece → Bool
are_finished ps = list_all is_finished ps

-- the filter keeps finished pieces
pub kept_all : (done others : List Piece) → are_finished done ≡ true
    → filter is_finished (done ++ others) ≡ done ++ filter is_finished others
kept_all [] others e = refl
kept_all (p ∷ ps) others e =
    let both = and_parts p.finished (are_finished ps) e in
    kept p (ps ++ others) both.0 ∙ ap (λ (qs : List Piece). p ∷ qs) (kept_all ps others both.1)

pub finished_on : (done : List Piece) (p : Piece) → are_finished done ≡ true → p.finished ≡ true
    → are_finished (done ++ p ∷ []) ≡ true
finished_on [] p e f = and_from p.finished true f refl
finished_on (q ∷ qs) p e f =
    let both = and_parts q.finished (are_finished qs) e in
    and_from q.finished (are_finished (qs ++ p ∷ [])) both.0 (finished_on qs p both.1 f)

pub passed_by : (p : Piece) (ps : List Piece) → IsTrue (list_all (λ (p : Piece). not p.finished) (p ∷ ps))
    → filter is_finished ps ≡ [] → (b : Bool) → p.finished ≡ b → filter is_finished (p ∷ ps) ≡ []
passed_by p ps e none true f = cc
passed_by p ps e none false f = dropped p ps f ∙ none

pub others_fail : (p : Piece) (ps : List Piece) → IsTrue (list_all (λ (p : Piece). not p.finished) (p ∷ ps))
    → (b : Bool) → p.finished ≡ b → IsTrue (list_all (λ (p : Piece). not p.finished) ps)
others_fail p ps e true f = cc
others_fail p ps e false f = cc

pub none_pass : (ps : List Piece) → IsTrue (list_all (λ (p : Piece). not p.finished) ps) → filter is_finished ps ≡ []
none_pass [] e = refl
none_pass (p ∷ ps) e = passed_by p ps e (none_pass ps (others_fail p ps e p.finished refl)) p.finished refl

-- if no statement is left, none is to be answered
pub asked_none : (ended : Bool) (left : List ℕ) → HasNone ended left → answered ended left ≡ []
asked_none true left none = none.at_end refl
asked_none false left none = none_pass (statements left) none.whole

-- the statements of a script to be answered: the answered ones, followed by the remaining ones
pub asked_of : (ended : Bool) (script left : List ℕ) (done : List Piece) → (IsFalse ended → IsTrue (are_finished done))
    → statements script ≡ done ++ statements left → answered ended script ≡ done ++ answered ended left
asked_of true script left done all e = e
asked_of false script left done all e = ap (filter is_finished) e ∙ kept_all done (statements left) (all refl)

-- the case in which no more bytes follow
pub now_is : (ended : Bool) (script left : List ℕ) (done : List Piece)
    → ((more : List ℕ) → MayFollow ended more → statements (script ++ more) ≡ done ++ statements (left ++ more))
    → statements script ≡ done ++ statements left
now_is ended script left done first = ap statements (sym (append-nil script)) ∙ first [] (λ _. refl)
    ∙ ap (λ (xs : List ℕ). done ++ statements xs) (append-nil left)

pub placed_now : (ended : Bool) (script passed left : List ℕ) (places : List Placed)
    → ((more : List ℕ) → MayFollow ended more
    → placed_statements (script ++ more) ≡ places ++ placed_from passed (left ++ more))
    → placed_statements script ≡ places ++ placed_from passed left
placed_now ended script passed left places first = ap placed_statements (sym (append-nil script)) ∙ first [] (λ _. refl)
    ∙ ap (λ (xs : List ℕ). places ++ placed_from passed xs) (append-nil left)

-- ---- in a script

pub even_more : (places : List Placed) (answers : List Answer) (p : Placed) (r : Answer)
    → length places ≡ length answers → length (places ++ p ∷ []) ≡ length (answers ++ r ∷ [])
even_more places answers p r e = length_on places p ∙ ap suc e ∙ sym (length_on answers r)

-- the notes for all answers are the notes in the script
pub told_all : (script : List ℕ) (places others : List Placed) (answers : List Answer) (h0 h1 : Option (List Heard))
    → placed_statements script ≡ places ++ others → length places ≡ length answers
    → Hears h0 (notes_of places answers) h1 → Hears h0 (notes_of (placed_statements script) answers) h1
told_all script places others answers h0 h1 parts even told =
    subst (λ (notes : List Heard). Hears h0 notes h1) (sym (ap (λ (ps : List Placed). notes_of ps answers) parts
    ∙ notes_within 1 places others answers even)) told

-- the texts of all answers are the texts in the script
pub texts_all : (T : Texts) (script : List ℕ) (places others : List Placed) (answers : List Answer) (bytes : List ℕ)
    → placed_statements script ≡ places ++ others → AreTexts T places answers bytes
    → AreTexts T (placed_statements script) answers bytes
texts_all T script places others answers bytes parts are =
    subst (λ (ps : List Placed). AreTexts T ps answers bytes) (sym parts)
    (texts_within T [] 1 places others answers bytes are)

-- the notes, with those for one more answer
pub told_more : (places : List Placed) (answers : List Answer) (place : Placed) (answer : Answer) (number line : ℕ)
    (h0 h1 h2 : Option (List Heard)) → length places ≡ length answers → number ≡ length answers → line ≡ line_of place
    → Hears h0 (notes_of places answers) h1 → Hears h1 (note_of (number + 1) line answer) h2
    → Hears h0 (notes_of (places ++ place ∷ []) (answers ++ answer ∷ [])) h2
told_more places answers place answer number line h0 h1 h2 even count on had told =
    let same : number + 1 ≡ 1 + length answers = omega (arith, count) in
    let at : note_of (number + 1) line answer ≡ note_of (1 + length answers) (line_of place) answer =
    ap (λ (n : ℕ). note_of n line answer) same ∙ ap (λ (l : ℕ). note_of (1 + length answers) l answer) on in
    subst (λ (notes : List Heard). Hears h0 notes h2) (sym (notes_on 1 places answers place answer even))
    (hears_on h0 h1 h2 (notes_of places answers) (note_of (1 + length answers) (line_of place) answer) had
    (subst (λ (notes : List Heard). Hears h1 notes h2) at told))

-- a text, given the number of its answer and the line of its statement
pub text_at : (T : Texts) (answers : List Answer) (place : Placed) (answer : Answer) (number line : ℕ) (text : List ℕ)
    → number ≡ length answers → line ≡ line_of place → T answers (number + 1) line answer text
    → T answers (1 + length answers) (line_of place) answer text
text_at T answers place answer number line text count on is =
    let same : number + 1 ≡ 1 + length answers = omega (arith, count) in
    subst (λ (n : ℕ). T answers n (line_of place) answer text) same
    (subst (λ (l : ℕ). T answers (number + 1) l answer text) on is)

-- a line number below the maximum is counted exactly
pub line_is : (script passed used : List ℕ) (p : Placed) (on : ℕ) → on ≡ capped (line_of p)
    → length p.before + length p.piece.text ≤ length (passed ++ used) → (rest : List ℕ)
    → script ≡ (passed ++ used) ++ rest
    → length script < most_bytes → on ≡ line_of p
line_is script passed used p on is within rest parts short =
    let few : line_feeds p.before ≤ length p.before = count_by-le-length (λ (b : ℕ). b == 10) p.before in
    let all = ap length parts ∙ length-append (passed ++ used) rest in
    is ∙ below (line_of p) (omega (arith, few, within, all, short))
  where
    below : (n : ℕ) → n ≤ most_bytes → capped n ≡ n
    below n le = omega (arith, le)
