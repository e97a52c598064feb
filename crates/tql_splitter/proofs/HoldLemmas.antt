-- The invariant of a splitter, from byte to byte and from statement to statement.
use Rattle.std.proofs.Common.{◌≡◌, ℕ, suc, ◌+◌, ◌<◌, ◌≤◌, ◌==◌, Bool, true, false, cond, List, [], ◌∷◌, ◌++◌, length}
use Rattle.std.proofs.Common.{take, drop, Option, Some, None, refl, sym, subst, ap, ◌∙◌, arith, append_assoc}
use Rattle.std.proofs.Common.{append-nil}
use Rattle.std.proofs.Common.{length-append, take_at, drop_at, inl, inr}
use Rattle.std.specs.Prelude.{◌&&◌, ◌⊎◌, not, map, IsTrue, IsFalse, if◌then◌else◌}
use Rattle.std.specs.List.{list_all}
use Rattle.std.proofs.lemmas.Bool.{eqb-true, and_parts}
use Rattle.std.proofs.lemmas.List.Sums.{sum_by-append}
use Rattle.tql_spec.specs.Script as script
use Rattle.tql_spec.specs.Script.{Outside, state_after, without_lead, statements}
use Rattle.tql_spec.specs.Lines.{Placed, lead, placed_from, line_feeds, line_of}
use Rattle.tql_spec.proofs.LineLaws.{pieces_placed, lead_parts}
use Rattle.tql_splitter.specs.Cutting.{state_behind, end_from, finished_piece, unfinished_piece, is_comment}
use Rattle.tql_splitter.specs.Stream.{Kept, Nothing, Dash, Whole, Overlong, Lost, Stream, is_begun, kept_now, one_if}
use Rattle.tql_splitter.specs.Stream.{to_do, capped}
use Rattle.tql_splitter.specs.Pending.{Keeps, Ends}
use Rattle.tql_splitter.specs.Holding.{Shows, Reads, Holds}
use Rattle.tql_splitter.specs.Pieces.{Says, MayFollow, IsFirst, HasNone, Takes, GivesOne, GivesNone}
use Rattle.tql_splitter.specs.Ready.{TakesByte}
use Rattle.tql_splitter.specs.Feeding.{Passes, TakesOn, LooksAt, Closes, with_byte}
use Rattle.tql_splitter.proofs.CuttingLemmas.{ends, one_placed, piece_behind, placed_ends, placed_never, placed_none}
use Rattle.tql_splitter.proofs.CuttingLemmas.{placed_some}
use Rattle.tql_splitter.proofs.LookLemmas.{state_more, none_more, ends_at, looked_more}

-- ---- line feeds

pub feeds_on : (xs ys : List ℕ) → line_feeds (xs ++ ys) ≡ line_feeds xs + line_feeds ys
feeds_on xs ys = sum_by-append (λ (b : ℕ). cond (b == 10) 1 0) xs ys

capped_on : (n : ℕ) → capped (capped n + 1) ≡ capped (n + 1)
capped_on n = omega arith

-- one more byte
feeds_more : (before looked : List ℕ) (b old new : ℕ) → old ≡ capped (line_feeds (before ++ looked))
    → new ≡ (if b == 10 then capped (old + 1) else old) → new ≡ capped (line_feeds (before ++ (looked ++ b ∷ [])))
feeds_more before looked b old new was is =
    let on : line_feeds (before ++ (looked ++ b ∷ [])) ≡ line_feeds (before ++ looked) + line_feeds (b ∷ []) =
    ap line_feeds (sym (append_assoc before looked (b ∷ []))) ∙ feeds_on (before ++ looked) (b ∷ []) in
    by (b == 10) refl is on
  where
    by : (t : Bool) → (b == 10) ≡ t → new ≡ (if t then capped (old + 1) else old)
        → line_feeds (before ++ (looked ++ b ∷ [])) ≡ line_feeds (before ++ looked) + line_feeds (b ∷ [])
        → new ≡ capped (line_feeds (before ++ (looked ++ b ∷ [])))
    by true q is on = let one : line_feeds (b ∷ []) ≡ 1 = rw q refl in
        is ∙ ap (λ (n : ℕ). capped (n + 1)) was ∙ capped_on (line_feeds (before ++ looked))
        ∙ ap capped (sym (on ∙ ap (λ (n : ℕ). line_feeds (before ++ looked) + n) one))
    by false q is on = let none : line_feeds (b ∷ []) ≡ 0 = rw q refl in
        is ∙ was ∙ ap capped (omega (arith, on, none))

-- ---- one byte is scanned

-- a text that has begun has bytes
begun_filled : (kept : Kept) (text : List ℕ) → Shows kept text → is_begun kept ≡ true → 0 < length text
begun_filled Nothing text shows e = let no : false ≡ true = e in absurd cc
begun_filled Dash text shows e = omega (arith, ap length shows)
begun_filled (Whole t) text shows e = shows.1.filled
begun_filled Overlong text shows e = shows.1.filled
begun_filled Lost text shows e = shows.1.filled

-- a text that has not begun has none
no_text : (kept : Kept) (text : List ℕ) → Shows kept text → is_begun kept ≡ false → text ≡ []
no_text Nothing text shows e = shows
no_text Dash text shows e = let no : true ≡ false = e in absurd cc
no_text (Whole t) text shows e = let no : true ≡ false = e in absurd cc
no_text Overlong text shows e = let no : true ≡ false = e in absurd cc
no_text Lost text shows e = let no : true ≡ false = e in absurd cc

-- a text that was not returned is kept
pub kept_still : (given : Bool) (kept : Kept) → given ≡ false → kept_now given kept ≡ kept
kept_still true kept e = let no : true ≡ false = e in absurd cc
kept_still false kept e = refl

begun_still : (before looked ahead ahead_now text : List ℕ) (was : Kept) (old_begun feeds begun : ℕ)
    → ((is_begun was ≡ true) × (ahead_now ≡ ahead) × (0 < length text)) ⊎
    ((is_begun was ≡ false) × (ahead_now ≡ looked))
    → (0 < length text → old_begun ≡ capped (line_feeds (before ++ ahead)))
    → feeds ≡ capped (line_feeds (before ++ looked)) → begun ≡ (if is_begun was then old_begun else feeds)
    → begun ≡ capped (line_feeds (before ++ ahead_now))
begun_still before looked ahead ahead_now text was old_begun feeds begun (inl h) had fed is =
    is ∙ ap (λ (t : Bool). if t then old_begun else feeds) h.0 ∙ had h.2
    ∙ ap (λ (z : List ℕ). capped (line_feeds (before ++ z))) (sym h.1)
begun_still before looked ahead ahead_now text was old_begun feeds begun (inr h) had fed is =
    is ∙ ap (λ (t : Bool). if t then old_begun else feeds) h.0 ∙ fed
    ∙ ap (λ (z : List ℕ). capped (line_feeds (before ++ z))) (sym h.1)

reads_more : (b : ℕ) (old new : Stream) (before looked : List ℕ) → Reads (with_byte b old) before looked
    → LooksAt b old new → old.given ≡ false → ends old.place b ≡ false → Reads new before (looked ++ b ∷ [])
reads_more b old new before looked r l still goes =
    let was = subst (λ (k : Kept). Shows k r.text) (kept_still old.given old.kept still) r.kept in
    let m = looked_more b (is_comment old.place) looked r.ahead r.text old.kept new.kept r.parts r.is_text
    (ap is_comment (sym r.place)) was l.kept in
    record {
      place = l.place ∙ ap (λ (p : script.ScanState). state_after p b) r.place ∙ sym (state_more Outside looked b);
      whole = none_more Outside looked b r.whole (ap (λ (p : script.ScanState). ends p b) (sym r.place) ∙ goes);
      ahead = m.ahead_now;
      text = m.text_now;
      parts = m.parts;
      is_text = m.is_text;
      kept = subst (λ (k : Kept). Shows k m.text_now) (sym (kept_still new.given new.kept (l.given ∙ still))) m.kept;
      feeds = feeds_more before looked b old.feeds new.feeds r.feeds l.feeds;
      begun = λ some. begun_still before looked r.ahead m.ahead_now r.text old.kept old.begun old.feeds new.begun
          (m.at some) r.begun r.feeds l.begun;
    }

-- the split of the bytes that are left moves one byte on
moved : (skipped looked rest : List ℕ) (b : ℕ)
    → (skipped ++ looked) ++ b ∷ rest ≡ (skipped ++ (looked ++ b ∷ [])) ++ rest
moved skipped looked rest b =
    sym (ap (λ (z : List ℕ). z ++ rest) (sym (append_assoc skipped looked (b ∷ [])))
    ∙ append_assoc (skipped ++ looked) (b ∷ []) rest)

moved_on : (looked rest more : List ℕ) (b : ℕ) → (looked ++ b ∷ rest) ++ more ≡ ((looked ++ b ∷ []) ++ rest) ++ more
moved_on looked rest more b = ap (λ (z : List ℕ). z ++ more) (sym (append_assoc looked (b ∷ []) rest))

pub looked_on : (b : ℕ) (old new : Stream) → LooksAt b old new → old.given ≡ false → ends old.place b ≡ false
    → (passed left : List ℕ) → Holds (with_byte b old) passed left → Holds new passed left
looked_on b old new l still goes passed left h = record {
  skipped = h.skipped;
  looked = h.looked ++ b ∷ [];
  parts = h.parts ∙ moved h.skipped h.looked old.ready b
      ∙ ap (λ (z : List ℕ). (h.skipped ++ (h.looked ++ b ∷ [])) ++ z) (sym l.ready);
  placed = λ more. h.placed more ∙ ap (placed_from (passed ++ h.skipped)) (moved_on h.looked old.ready more b
      ∙ ap (λ (z : List ℕ). ((h.looked ++ b ∷ []) ++ z) ++ more) (sym l.ready));
  reads = reads_more b old new (passed ++ h.skipped) h.looked h.reads l still goes;
}

pub one_at_most : (t : Bool) → one_if t ≤ 1
one_at_most true = omega arith
one_at_most false = omega arith

-- the measure of the work that is left does not increase
pub looked_less : (b : ℕ) (old new : Stream) → LooksAt b old new → to_do new ≤ to_do (with_byte b old)
looked_less b old new l =
    let few = one_at_most (is_begun (kept_now new.given new.kept)) in omega (arith, few, ap length l.ready)

-- ---- the end of a piece

-- a splitter that has returned its text
fresh : (s : Stream) (before : List ℕ) → s.place ≡ Outside → kept_now s.given s.kept ≡ Nothing
    → s.feeds ≡ capped (line_feeds before) → Reads s before []
fresh s before place kept feeds = record {
  place = place;
  whole = refl;
  ahead = [];
  text = [];
  parts = refl;
  is_text = refl;
  kept = subst (λ (k : Kept). Shows k []) (sym kept) refl;
  feeds = feeds ∙ ap (λ (z : List ℕ). capped (line_feeds z)) (sym (append-nil before));
  begun = λ some. absurd (omega (arith, some));
}

-- a text that has begun is returned, and nothing is kept
given_out : (given : Bool) (kept : Kept) → given ≡ is_begun kept → kept_now given kept ≡ Nothing
given_out given Nothing e = by given where
  by : (g : Bool) → kept_now g Nothing ≡ Nothing
  by true = refl
  by false = refl
given_out given Dash e = ap (λ (g : Bool). kept_now g Dash) e
given_out given (Whole t) e = ap (λ (g : Bool). kept_now g (Whole t)) e
given_out given Overlong e = ap (λ (g : Bool). kept_now g Overlong) e
given_out given Lost e = ap (λ (g : Bool). kept_now g Lost) e

-- the kept text where the text ends
ended_text : (old new : Kept) (text : List ℕ) → Shows old text → Ends old new
    → (is_begun new ≡ is_begun old) × (is_begun new ≡ true → Keeps text new)
ended_text Nothing new text shows e = (ap is_begun e, λ b. let no : false ≡ true = ap is_begun (sym e) ∙ b in absurd cc)
ended_text Dash new text shows e = (of_keeps new e, λ _. subst (λ (t : List ℕ). Keeps t new) (sym shows) e) where
  of_keeps : (k : Kept) → Keeps (45 ∷ []) k → is_begun k ≡ true
  of_keeps Nothing h = absurd h
  of_keeps Dash h = refl
  of_keeps (Whole t) h = refl
  of_keeps Overlong h = refl
  of_keeps Lost h = refl
ended_text (Whole t) new text shows e = (ap is_begun e, λ _. subst (Keeps text) (sym e) (shows.0, shows.2))
ended_text Overlong new text shows e = (ap is_begun e, λ _. subst (Keeps text) (sym e) shows.0)
ended_text Lost new text shows e = (ap is_begun e, λ _. subst (Keeps text) (sym e) shows.0)

-- a piece that ends with this byte
placed_close : (ahead looked rest more : List ℕ) (b : ℕ) → end_from Outside looked ≡ None
    → ends (state_behind Outside looked) b ≡ true
    → placed_from ahead ((looked ++ b ∷ rest) ++ more)
    ≡ one_placed (piece_behind ahead (finished_piece looked)) ++ placed_from (ahead ++ looked ++ 59 ∷ []) (rest ++ more)
placed_close ahead looked rest more b whole end =
    let n = length looked in
    let all : (looked ++ b ∷ rest) ++ more ≡ (looked ++ b ∷ []) ++ (rest ++ more) =
    append_assoc looked (b ∷ rest) more ∙ sym (append_assoc looked (b ∷ []) (rest ++ more)) in
    let front : take n (looked ++ b ∷ []) ≡ looked = take_at looked (b ∷ []) n refl in
    let back : drop (suc n) (looked ++ b ∷ []) ≡ [] =
    ap (drop (suc n)) (sym (append-nil (looked ++ b ∷ [])))
    ∙ drop_at (looked ++ b ∷ []) [] (suc n) (length-append looked (b ∷ []) ∙ omega arith) in
    ap (placed_from ahead) all
    ∙ placed_ends ahead (looked ++ b ∷ []) (rest ++ more) n (ends_at Outside looked b whole end)
    ∙ ap (λ (z : List ℕ). one_placed (piece_behind ahead (finished_piece z)) ++ placed_from (ahead ++ z ++ 59 ∷ [])
    (drop (suc n) (looked ++ b ∷ []) ++ (rest ++ more))) front
    ∙ ap (λ (z : List ℕ). one_placed (piece_behind ahead (finished_piece looked)) ++ placed_from
    (ahead ++ looked ++ 59 ∷ [])
    (z ++ (rest ++ more))) back

-- the bytes that are passed with a piece and its `;`
passed_with : (passed skipped looked : List ℕ)
    → passed ++ (skipped ++ looked ++ 59 ∷ []) ≡ (passed ++ skipped) ++ looked ++ 59 ∷ []
passed_with passed skipped looked =
    sym (append_assoc passed (skipped ++ looked) (59 ∷ []))
    ∙ ap (λ (z : List ℕ). z ++ 59 ∷ []) (sym (append_assoc passed skipped looked))

is_end : (p : script.ScanState) (b : ℕ) → ends p b ≡ true → b ≡ 59
is_end p b e = eqb-true b 59 (and_parts (b == 59) (script.can_end p) e).0

-- the bytes that are left, cut after the `;`
left_with : (skipped looked rest : List ℕ) (b : ℕ) → b ≡ 59
    → (skipped ++ looked) ++ b ∷ rest ≡ (skipped ++ looked ++ 59 ∷ []) ++ rest
left_with skipped looked rest b e = ap (λ (x : ℕ). (skipped ++ looked) ++ x ∷ rest) e
    ∙ sym (append_assoc (skipped ++ looked) (59 ∷ []) rest)

-- a `;` adds no line feed
feeds_with : (passed skipped looked : List ℕ)
    → line_feeds ((passed ++ skipped) ++ looked) ≡ line_feeds (passed ++ (skipped ++ looked ++ 59 ∷ []))
feeds_with passed skipped looked =
    let on = feeds_on ((passed ++ skipped) ++ looked) (59 ∷ []) in
    let none : line_feeds (59 ∷ []) ≡ 0 = refl in
    let all : line_feeds ((passed ++ skipped) ++ looked ++ 59 ∷ []) ≡ line_feeds ((passed ++ skipped) ++ looked) =
    omega (arith, on, none) in
    sym all ∙ ap line_feeds (sym (passed_with passed skipped looked))

-- the statements of the bytes up to a `;`, with the bytes before each
placed_up_to : (b : ℕ) (old : Stream) (passed left : List ℕ) (h : Holds (with_byte b old) passed left)
    → ends old.place b ≡ true → (more : List ℕ)
    → placed_from passed (left ++ more) ≡ one_placed (piece_behind (passed ++ h.skipped) (finished_piece h.looked))
    ++ placed_from (passed ++ (h.skipped ++ h.looked ++ 59 ∷ [])) (old.ready ++ more)
placed_up_to b old passed left h goes more =
    let P = passed ++ h.skipped in
    h.placed more
    ∙ placed_close P h.looked old.ready more b h.reads.whole
    (ap (λ (p : script.ScanState). ends p b) (sym h.reads.place) ∙ goes)
    ∙ ap (λ (z : List ℕ). one_placed (piece_behind P (finished_piece h.looked)) ++ placed_from z (old.ready ++ more))
    (sym (passed_with passed h.skipped h.looked))

pub closed_blank : (b : ℕ) (answer : Bool) (old new : Stream) → Closes answer old new → old.given ≡ false
    → ends old.place b ≡ true → is_begun new.kept ≡ false
    → (passed left : List ℕ) → Holds (with_byte b old) passed left → Holds new passed left
closed_blank b answer old new c still goes none passed left h =
    let used = h.skipped ++ h.looked ++ 59 ∷ [] in
    let was = subst (λ (k : Kept). Shows k h.reads.text) (kept_still old.given old.kept still) h.reads.kept in
    let e = ended_text old.kept new.kept h.reads.text was c.kept in
    let text : without_lead false h.looked ≡ [] =
    h.reads.is_text ∙ no_text old.kept h.reads.text was (sym e.0 ∙ none) in
    record {
      skipped = used;
      looked = [];
      parts = h.parts ∙ left_with h.skipped h.looked old.ready b (is_end old.place b goes)
          ∙ ap (λ (z : List ℕ). z ++ old.ready) (sym (append-nil used))
          ∙ ap (λ (z : List ℕ). (used ++ []) ++ z) (sym c.ready);
      placed = λ more. placed_up_to b old passed left h goes more
          ∙ ap (λ (z : List Placed). z ++ placed_from (passed ++ used) (old.ready ++ more))
          (placed_none ((passed ++ h.skipped) ++ lead false h.looked) (without_lead false h.looked) true
          (ap length text))
          ∙ ap (λ (z : List ℕ). placed_from (passed ++ used) (z ++ more)) (sym c.ready);
      reads = fresh new (passed ++ used) c.place (given_out new.given new.kept c.given)
          (c.feeds ∙ h.reads.feeds ∙ ap capped (feeds_with passed h.skipped h.looked));
    }

-- the lead of the scanned bytes is the bytes before the text
lead_is : (looked ahead text : List ℕ) → looked ≡ ahead ++ text → without_lead false looked ≡ text
    → lead false looked ≡ ahead
lead_is looked ahead text parts is =
    let n = length ahead in
    let whole : lead false looked ++ text ≡ ahead ++ text =
    ap (λ (z : List ℕ). lead false looked ++ z) (sym is) ∙ lead_parts false looked ∙ parts in
    let size : length (lead false looked) ≡ n =
    omega (arith, ap length whole, length-append (lead false looked) text, length-append ahead text) in
    sym (take_at (lead false looked) text n size) ∙ ap (take n) whole ∙ take_at ahead text n refl

-- the first of the statements, derived from the statements with the bytes before each
first_of : (ended : Bool) (passed left used rest before : List ℕ) (p : script.Piece) (on : ℕ)
    → ((more : List ℕ) → MayFollow ended more
    → placed_from passed (left ++ more) ≡ record { before = before; piece = p } ∷ placed_from (passed ++ used)
    (rest ++ more))
    → (IsFalse p.finished → IsTrue ended) → left ≡ used ++ rest
    → length before + length p.text ≤ length (passed ++ used)
    → on ≡ capped (line_of (record { before = before; piece = p })) → IsFirst ended passed left used rest p on
first_of ended passed left used rest before p on placed unfinished parts within line = record {
  given = λ more m. sym (pieces_placed passed (left ++ more)) ∙ ap (map (λ (q : Placed). q.piece)) (placed more m)
      ∙ ap (λ (ps : List script.Piece). p ∷ ps) (pieces_placed (passed ++ used) (rest ++ more));
  unfinished = unfinished;
  parts = parts;
  before = before;
  placed = placed;
  within = within;
  line = line;
}

-- the line of a text
line_is : (before ahead looked : List ℕ) (p : script.Piece) (begun on : ℕ)
    → begun ≡ capped (line_feeds (before ++ ahead))
    → on ≡ capped (begun + 1) → lead false looked ≡ ahead
    → on ≡ capped (line_of (record { before = before ++ lead false looked; piece = p }))
line_is before ahead looked p begun on had is at =
    is ∙ ap (λ (n : ℕ). capped (n + 1)) had ∙ capped_on (line_feeds (before ++ ahead))
    ∙ ap capped (omega arith) ∙ ap (λ (z : List ℕ). capped (1 + line_feeds (before ++ z))) (sym at)

-- what holds where a text that has begun ends: it has bytes, is kept, and has its line and its length
record TextEnds (old new : Stream) (before looked : List ℕ) : Type 0 where
  filled : 0 < length (without_lead false looked)
  keeps : Keeps (without_lead false looked) new.kept
  line : (p : script.Piece) → new.line ≡ capped (line_of (record { before = before ++ lead false looked; piece = p }))
  within : length (before ++ lead false looked) + length (without_lead false looked) ≡ length (before ++ looked)

text_ends : (b : ℕ) (answer : Bool) (old new : Stream) (before looked : List ℕ) → Closes answer old new
    → old.given ≡ false → is_begun new.kept ≡ true → Reads old before looked → TextEnds old new before looked
text_ends b answer old new before looked c still some r =
    let was = subst (λ (k : Kept). Shows k r.text) (kept_still old.given old.kept still) r.kept in
    let e = ended_text old.kept new.kept r.text was c.kept in
    let filled = begun_filled old.kept r.text was (sym e.0 ∙ some) in
    let at = lead_is looked r.ahead r.text r.parts r.is_text in
    record {
      filled = subst (λ (t : List ℕ). 0 < length t) (sym r.is_text) filled;
      keeps = subst (λ (t : List ℕ). Keeps t new.kept) (sym r.is_text) (e.1 some);
      line = λ p. line_is before r.ahead looked p old.begun new.line (r.begun filled)
          (c.line ∙ ap (λ (t : Bool). if t then capped (old.begun + 1) else old.line) some) at;
      within = omega (
        arith,
        length-append before (lead false looked),
        length-append before looked,
        ap length (lead_parts false looked),
        length-append (lead false looked) (without_lead false looked),
      );
    }

pub closed_text : (b : ℕ) (answer : Bool) (old new : Stream) → Closes answer old new → old.given ≡ false
    → ends old.place b ≡ true → is_begun new.kept ≡ true
    → (passed left : List ℕ) → Holds (with_byte b old) passed left → Takes (Says true new.kept) new passed left
closed_text b answer old new c still goes some passed left h =
    let used = h.skipped ++ h.looked ++ 59 ∷ [] in
    let P = passed ++ h.skipped in
    let t = text_ends b answer old new P h.looked c still some (reads_of b old P h.looked h.reads) in
    let text = without_lead false h.looked in
    let size = ap length (passed_with passed h.skipped h.looked) ∙ length-append (P ++ h.looked) (59 ∷ []) in
    let within : length (P ++ lead false h.looked) + length text ≤ length (passed ++ used) =
    omega (arith, t.within, size) in
    record {
      piece = finished_piece text;
      is = (refl, t.keeps);
      used = used;
      rest = old.ready;
      first = first_of new.ended passed left used old.ready (P ++ lead false h.looked) (finished_piece text) new.line
          (λ more m. placed_up_to b old passed left h goes more
          ∙ ap (λ (z : List Placed). z ++ placed_from (passed ++ used) (old.ready ++ more))
          (placed_some (P ++ lead false h.looked) text true t.filled))
          (λ f. let no : true ≡ false = f in absurd cc)
          (h.parts ∙ left_with h.skipped h.looked old.ready b (is_end old.place b goes))
          within (t.line (finished_piece text));
      holds = record {
        skipped = [];
        looked = [];
        parts = sym c.ready;
        placed = λ more. ap (λ (z : List ℕ). placed_from z (old.ready ++ more)) (sym (append-nil (passed ++ used)))
            ∙ ap (λ (z : List ℕ). placed_from ((passed ++ used) ++ []) (z ++ more)) (sym c.ready);
        reads = fresh new ((passed ++ used) ++ []) c.place (given_out new.given new.kept c.given)
            (c.feeds ∙ h.reads.feeds ∙ ap capped (feeds_with passed h.skipped h.looked)
            ∙ ap (λ (z : List ℕ). capped (line_feeds z)) (sym (append-nil (passed ++ used))));
      };
    }
  where
    reads_of : (b : ℕ) (old : Stream) (before looked : List ℕ) → Reads (with_byte b old) before looked
        → Reads old before looked
    reads_of b old before looked r = record {
      place = r.place;
      whole = r.whole;
      ahead = r.ahead;
      text = r.text;
      parts = r.parts;
      is_text = r.is_text;
      kept = r.kept;
      feeds = r.feeds;
      begun = r.begun;
    }

-- ---- the end of the input

-- no bytes are left to scan
all_looked : (skipped looked ready : List ℕ) → ready ≡ [] → skipped ++ looked ++ ready ≡ skipped ++ looked
all_looked skipped looked ready e = ap (λ (z : List ℕ). (skipped ++ looked) ++ z) e ∙ append-nil (skipped ++ looked)

placed_all : (s : Stream) (passed left : List ℕ) (h : Holds s passed left) → s.ready ≡ []
    → placed_from passed left ≡ one_placed (piece_behind (passed ++ h.skipped) (unfinished_piece h.looked))
placed_all s passed left h e =
    ap (placed_from passed) (sym (append-nil left)) ∙ h.placed []
    ∙ ap (placed_from (passed ++ h.skipped)) (append-nil (h.looked ++ s.ready)
    ∙ ap (λ (z : List ℕ). h.looked ++ z) e ∙ append-nil h.looked)
    ∙ placed_never (passed ++ h.skipped) h.looked h.reads.whole

pub closed_end : (answer : Bool) (old new : Stream) → Closes answer old new → old.given ≡ false → old.ready ≡ []
    → IsTrue old.ended → is_begun new.kept ≡ true
    → (passed left : List ℕ) → Holds old passed left → Takes (Says false new.kept) new passed left
closed_end answer old new c still none_ready ended some passed left h =
    let P = passed ++ h.skipped in
    let t = text_ends 0 answer old new P h.looked c still some h.reads in
    let text = without_lead false h.looked in
    let is_left : left ≡ h.skipped ++ h.looked = h.parts ∙ all_looked h.skipped h.looked old.ready none_ready in
    let passed_all : passed ++ left ≡ P ++ h.looked =
    ap (λ (z : List ℕ). passed ++ z) is_left ∙ sym (append_assoc passed h.skipped h.looked) in
    let within : length (P ++ lead false h.looked) + length text ≤ length (passed ++ left) =
    omega (arith, t.within, ap length passed_all) in
    record {
      piece = unfinished_piece text;
      is = (refl, t.keeps);
      used = left;
      rest = [];
      first = first_of new.ended passed left left [] (P ++ lead false h.looked) (unfinished_piece text) new.line
          (λ more m. let none = m (c.ended ∙ ended) in
          ap (λ (z : List ℕ). placed_from passed (left ++ z)) none ∙ ap (placed_from passed) (append-nil left)
          ∙ placed_all old passed left h none_ready ∙ placed_some (P ++ lead false h.looked) text false t.filled
          ∙ ap (λ (z : List ℕ). record {
            before = P ++ lead false h.looked;
            piece = unfinished_piece text;
          } ∷ placed_from (passed ++ left) z) (sym none))
          (λ f. c.ended ∙ ended) (sym (append-nil left)) within (t.line (unfinished_piece text));
      holds = record {
        skipped = [];
        looked = [];
        parts = sym (c.ready ∙ none_ready);
        placed = λ more. ap (λ (z : List ℕ). placed_from z more) (sym (append-nil (passed ++ left)))
            ∙ ap (λ (z : List ℕ). placed_from ((passed ++ left) ++ []) (z ++ more)) (sym (c.ready ∙ none_ready));
        reads = fresh new ((passed ++ left) ++ []) c.place (given_out new.given new.kept c.given)
            (c.feeds ∙ h.reads.feeds ∙ ap (λ (z : List ℕ). capped (line_feeds z)) (sym passed_all
            ∙ sym (append-nil (passed ++ left))));
      };
    }

-- no statement is left
pub none_left : (s : Stream) → s.given ≡ false → s.ready ≡ [] → (s.ended ≡ true → is_begun s.kept ≡ false)
    → (passed left : List ℕ) → Holds s passed left → HasNone s.ended left
none_left s still none_ready ends passed left h = record {
  whole = rw is (unfinished_alone (without_lead false h.looked));
  at_end = λ e. is ∙ ap (λ (text : List ℕ). one_piece text) (h.reads.is_text ∙ no_text s.kept h.reads.text
      (subst (λ (k : Kept). Shows k h.reads.text) (kept_still s.given s.kept still) h.reads.kept) (ends e));
}
  where
    one_piece : List ℕ → List script.Piece
    one_piece text = map (λ (p : Placed). p.piece) (one_placed (record {
      before = (passed ++ h.skipped) ++ lead false h.looked;
      piece = unfinished_piece text;
    }))

    is : statements left ≡ one_piece (without_lead false h.looked)
    is = sym (pieces_placed passed left) ∙ ap (map (λ (p : Placed). p.piece)) (placed_all s passed left h none_ready)

    unfinished_alone : (text : List ℕ) → IsTrue (list_all (λ (p : script.Piece). not p.finished) (one_piece text))
    unfinished_alone [] = refl
    unfinished_alone (b ∷ bs) = refl

-- ---- feeding

pub fed : (old new : Stream) (bytes : List ℕ) → old.ready ≡ [] → new ≡ record old { ready = bytes }
    → (passed left : List ℕ) → Holds old passed left → Holds new passed (left ++ bytes)
fed old new bytes none is passed left h = subst (λ (s : Stream). Holds s passed (left ++ bytes)) (sym is) (record {
  skipped = h.skipped;
  looked = h.looked;
  parts = ap (λ (z : List ℕ). z ++ bytes) (h.parts ∙ all_looked h.skipped h.looked old.ready none);
  placed = λ more. ap (placed_from passed) (append_assoc left bytes more) ∙ h.placed (bytes ++ more)
      ∙ ap (placed_from (passed ++ h.skipped)) (ap (λ (z : List ℕ). (h.looked ++ z) ++ (bytes ++ more)) none
      ∙ ap (λ (z : List ℕ). z ++ (bytes ++ more)) (append-nil h.looked) ∙ sym (append_assoc h.looked bytes more));
  reads = record {
    place = h.reads.place;
    whole = h.reads.whole;
    ahead = h.reads.ahead;
    text = h.reads.text;
    parts = h.reads.parts;
    is_text = h.reads.is_text;
    kept = h.reads.kept;
    feeds = h.reads.feeds;
    begun = h.reads.begun;
  };
})

-- ---- a new splitter

pub fed_nothing : (s : Stream) → s.place ≡ Outside → s.given ≡ false → s.kept ≡ Nothing → s.feeds ≡ 0 → s.ready ≡ []
    → Holds s [] []
fed_nothing s place still kept feeds none = record {
  skipped = [];
  looked = [];
  parts = sym none;
  placed = λ more. ap (λ (z : List ℕ). placed_from [] (z ++ more)) (sym none);
  reads = fresh s [] place (kept_still s.given s.kept still ∙ kept) (feeds ∙ omega arith);
}

-- ---- a byte is taken

pub end_here : (p : script.ScanState) (b : ℕ) → b ≡ 59 → script.can_end p ≡ true → ends p b ≡ true
end_here p b e f = ap (λ (x : ℕ). (x == 59) && script.can_end p) e ∙ f

pub no_end_here : (p : script.ScanState) (b : ℕ) → script.can_end p ≡ false → ends p b ≡ false
no_end_here p b f = ap (λ (t : Bool). (b == 59) && t) f ∙ by (b == 59) where
  by : (t : Bool) → (t && false) ≡ false
  by true = refl
  by false = refl

pub other_byte : (p : script.ScanState) (b : ℕ) → (b ≡ 59 → ⊥) → ends p b ≡ false
other_byte p b e = by (b == 59) refl where
  by : (t : Bool) → (b == 59) ≡ t → ends p b ≡ false
  by true q = absurd (e (eqb-true b 59 q))
  by false q = ap (λ (t : Bool). t && script.can_end p) q

-- a byte that ends a piece
pub taken_end : (b : ℕ) (answer : Bool) (old new : Stream) → Closes answer old new → old.given ≡ false
    → ends old.place b ≡ true → TakesOn b answer old new
taken_end b true old new c still goes = record {
  ended = c.ended;
  fewer = omega (
    arith,
    ap length c.ready,
    ap (λ (k : Kept). one_if (is_begun k))
        (given_out new.given new.kept c.given),
  );
  takes = closed_text b true old new c still goes (sym c.is);
}
taken_end b false old new c still goes = record {
  given = c.given ∙ sym c.is;
  ended = c.ended;
  line = c.line ∙ ap (λ (t : Bool). if t then capped (old.begun + 1) else old.line) (sym c.is);
  fewer = omega (arith, ap length c.ready);
  no_more = omega (
    arith,
    ap length c.ready,
    ap (λ (k : Kept). one_if (is_begun k))
        (given_out new.given new.kept c.given),
  );
  holds = closed_blank b false old new c still goes (sym c.is);
}

-- another byte
pub taken_on : (b : ℕ) (old new : Stream) → LooksAt b old new → old.given ≡ false → ends old.place b ≡ false
    → Passes (with_byte b old) new
taken_on b old new l still goes = record {
  given = l.given ∙ still;
  ended = l.ended;
  line = l.line;
  fewer = omega (arith, ap length l.ready);
  no_more = looked_less b old new l;
  holds = looked_on b old new l still goes;
}

-- ---- where all bytes were taken

pub none_taken : (o : Option ℕ) (old new : List ℕ) → TakesByte old o new → ((x : ℕ) → o ≡ Some x → ⊥)
    → (old ≡ []) × (new ≡ [])
none_taken None old new t n = t
none_taken (Some x) old new t n = absurd (n x refl)

-- the end of the loop: the invariant holds as at the beginning, and all bytes are scanned
pub record Reached (start now : Stream) : Type 0 where
  pub still : now.given ≡ false
  pub ended : now.ended ≡ start.ended
  pub line : now.line ≡ start.line
  pub no_more : to_do now ≤ to_do start
  pub holds : (passed left : List ℕ) → Holds start passed left → Holds now passed left
  pub ready : now.ready ≡ []

pub reached : (start same now : Stream) → now ≡ same → same.given ≡ false → same.ended ≡ start.ended
    → same.line ≡ start.line → to_do same ≤ to_do start
    → ((passed left : List ℕ) → Holds start passed left → Holds same passed left) → same.ready ≡ [] → Reached start now
reached start same now is still ended line no_more holds ready = subst (Reached start) (sym is) (record {
  still = still;
  ended = ended;
  line = line;
  no_more = no_more;
  holds = holds;
  ready = ready;
})

pub gives_end : (answer : Bool) (start now new : Stream) → Reached start now → Closes answer now new → now.ended ≡ true
    → is_begun now.kept ≡ true → GivesOne (Says false new.kept) start new
gives_end answer start now new r c ended begun =
    let some = still_begun now.kept new.kept c.kept ∙ begun in
    record {
      ended = c.ended ∙ r.ended;
      fewer = omega (
        arith,
        ap length c.ready,
        ap length r.ready,
        ap (λ (k : Kept). one_if (is_begun k)) (given_out new.given new.kept c.given),
        ap (λ (k : Kept). one_if (is_begun k)) (kept_still now.given now.kept r.still),
        ap one_if begun,
        r.no_more,
      );
      takes = λ passed left h. closed_end answer now new c r.still r.ready ended some passed left
          (r.holds passed left h);
    }
  where
    still_begun : (old new : Kept) → Ends old new → is_begun new ≡ is_begun old
    still_begun Nothing new e = ap is_begun e
    still_begun Dash Nothing e = absurd e
    still_begun Dash Dash e = absurd e
    still_begun Dash (Whole t) e = refl
    still_begun Dash Overlong e = refl
    still_begun Dash Lost e = refl
    still_begun (Whole t) new e = ap is_begun e
    still_begun Overlong new e = ap is_begun e
    still_begun Lost new e = ap is_begun e

pub gives_none : (start now : Stream) → Reached start now → (now.ended ≡ true → is_begun now.kept ≡ false)
    → GivesNone start now
gives_none start now r ends = record {
  ended = r.ended;
  line = r.line;
  ready = r.ready;
  no_more = r.no_more;
  takes = λ passed left h. record {
    none = none_left now r.still r.ready ends passed left (r.holds passed left h);
    holds = r.holds passed left h;
  };
}

-- ---- the result

pub given_as : (A B : script.Piece → Type 0) (old new now : Stream) → GivesOne A old new → now ≡ new
    → ((p : script.Piece) → A p → B p) → GivesOne B old now
given_as A B old new now g is f = subst (GivesOne B old) (sym is) (record {
  ended = g.ended;
  fewer = g.fewer;
  takes = λ passed left h. let t = g.takes passed left h in record {
    piece = t.piece;
    is = f t.piece t.is;
    used = t.used;
    rest = t.rest;
    first = t.first;
    holds = t.holds;
  };
})
