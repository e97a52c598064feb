-- Scanning a run of plain bytes that continue a text, in one step.
use Rattle.std.proofs.Common.{◌≡◌, ℕ, suc, ◌+◌, ◌<◌, ◌≤◌, ◌==◌, Bool, true, false, List, [], ◌∷◌, ◌++◌, length, drop}
use Rattle.std.proofs.Common.{None, refl, sym, subst, ap, ◌∙◌, arith, append_assoc, length-append, length-drop}
use Rattle.std.specs.Prelude.{◌&&◌, ◌||◌, nat_lt, not, MatchBool}
use Rattle.std.specs.List.{prefix_len}
use Rattle.std.proofs.lemmas.List.{take-append-drop}
use Rattle.std.proofs.lemmas.List.Folds.{length-prefix_len}
use Rattle.tql_spec.specs.Script.{ScanState, Outside, AfterDash, InText, InName, InComment, state_after, without_lead}
use Rattle.tql_spec.specs.Lines.{placed_from, line_feeds}
use Rattle.tql_splitter.specs.Cutting.{state_behind, end_from}
use Rattle.tql_splitter.specs.Plain.{is_plain, plain_front, is_steady}
use Rattle.tql_splitter.specs.Stream.{Kept, Nothing, Dash, Whole, Overlong, Lost, Stream, is_begun, is_text, kept_now}
use Rattle.tql_splitter.specs.Stream.{one_if, to_do, capped}
use Rattle.tql_splitter.specs.Pending.{Keeps, PutsAll}
use Rattle.tql_splitter.specs.Holding.{HasBegun, Shows, Reads, Holds}
use Rattle.tql_splitter.specs.Feeding.{Passes, RunsOn, LooksOn}
use Rattle.tql_splitter.proofs.CuttingLemmas.{ends, none_is, some_none}
use Rattle.tql_splitter.proofs.LookLemmas.{text_more, shows_kept}
use Rattle.tql_splitter.proofs.HoldLemmas.{feeds_on, kept_still, one_at_most}

-- ---- plain bytes

abbrev pub ArePlain : List ℕ → Type 0
ArePlain [] = Unit {0}
ArePlain (b ∷ bs) = (is_plain b ≡ true) × ArePlain bs

-- a plain byte is none of these: `;`, `'`, `"`, `-`, line feed
none_of : (l x y z u v : Bool) → (l && not (x || y || z || u || v)) ≡ true
    → (x ≡ false) × (y ≡ false) × (z ≡ false) × (u ≡ false) × (v ≡ false)
none_of false x y z u v e = absurd cc
none_of true true y z u v e = absurd cc
none_of true false true z u v e = absurd cc
none_of true false false true u v e = absurd cc
none_of true false false false true v e = absurd cc
none_of true false false false false true e = absurd cc
none_of true false false false false false e = (refl, refl, refl, refl, refl)

pub plain_is : (b : ℕ) → is_plain b ≡ true
    → ((b == 59) ≡ false) × ((b == 39) ≡ false) × ((b == 34) ≡ false) × ((b == 45) ≡ false) × ((b == 10) ≡ false)
plain_is b e = none_of (nat_lt b 128) (b == 59) (b == 39) (b == 34) (b == 45) (b == 10) e

pub front_plain : (xs : List ℕ) → ArePlain (plain_front xs)
front_plain [] = tt
front_plain (x ∷ xs) = by (is_plain x) refl (front_plain xs) where
  by : (t : Bool) → is_plain x ≡ t → ArePlain (plain_front xs) → ArePlain (plain_front (x ∷ xs))
  by true q rest =
      let e : 1 + prefix_len is_plain xs ≡ suc (prefix_len is_plain xs) = omega arith in rw (q, e) (q, rest)
  by false q rest = rw q tt

front_parts : (xs : List ℕ) → plain_front xs ++ drop (length (plain_front xs)) xs ≡ xs
front_parts xs = ap (λ (k : ℕ). plain_front xs ++ drop k xs) (length-prefix_len is_plain xs)
    ∙ take-append-drop (prefix_len is_plain xs) xs

-- ---- states, ends and line feeds

pub stays : (p : ScanState) (b : ℕ) → is_steady p ≡ true → is_plain b ≡ true → state_after p b ≡ p
stays Outside b s e = let h = plain_is b e in rw (h.3, h.1, h.2) refl
stays AfterDash b s e = absurd cc
stays InText b s e = rw (plain_is b e).1 refl
stays InName b s e = rw (plain_is b e).2 refl
stays InComment b s e = rw (plain_is b e).4 refl

all_stay : (p : ScanState) (xs : List ℕ) → is_steady p ≡ true → ArePlain xs → state_behind p xs ≡ p
all_stay p [] s a = refl
all_stay p (x ∷ xs) s a = ap (λ (q : ScanState). state_behind q xs) (stays p x s a.0) ∙ all_stay p xs s a.1

state_on : (p : ScanState) (xs ys : List ℕ) → state_behind p (xs ++ ys) ≡ state_behind (state_behind p xs) ys
state_on p [] ys = refl
state_on p (x ∷ xs) ys = state_on (state_after p x) xs ys

no_end : (p : ScanState) (xs : List ℕ) → is_steady p ≡ true → ArePlain xs → end_from p xs ≡ None
no_end p [] s a = refl
no_end p (x ∷ xs) s a = rw ((plain_is x a.0).0, stays p x s a.0, no_end p xs s a.1) refl

none_on : (p : ScanState) (xs ys : List ℕ) → end_from p xs ≡ None → end_from (state_behind p xs) ys ≡ None
    → end_from p (xs ++ ys) ≡ None
none_on p [] ys e f = f
none_on p (x ∷ xs) ys e f = by (ends p x) refl (none_on (state_after p x) xs ys) where
  by : (t : Bool) → ends p x ≡ t
      → (end_from (state_after p x) xs ≡ None → end_from (state_behind (state_after p x) xs) ys ≡ None
      → end_from (state_after p x) (xs ++ ys) ≡ None)
      → end_from p (x ∷ xs ++ ys) ≡ None
  by true q rest = absurd (some_none 0 (rw q at e))
  by false q rest = rw (q, rest (none_is (end_from (state_after p x) xs) (rw q at e)) f) refl

no_feeds : (xs : List ℕ) → ArePlain xs → line_feeds xs ≡ 0
no_feeds [] a = refl
no_feeds (x ∷ xs) a = rw (plain_is x a.0).4 (omega (arith, no_feeds xs a.1))

same_feeds : (before looked run : List ℕ) → ArePlain run
    → line_feeds (before ++ looked) ≡ line_feeds (before ++ (looked ++ run))
same_feeds before looked run a =
    let on = feeds_on (before ++ looked) run in
    let one : line_feeds (before ++ looked) ≡ line_feeds ((before ++ looked) ++ run) =
    omega (arith, on, no_feeds run a) in
    one ∙ ap line_feeds (append_assoc before looked run)

-- ---- the text

begun_on : (text run : List ℕ) → HasBegun text → HasBegun (text ++ run)
begun_on text run h = record {
  filled = omega (arith, h.filled, length-append text run);
  stays = λ more. ap (without_lead false) (append_assoc text run more) ∙ h.stays (run ++ more)
      ∙ sym (append_assoc text run more);
}

text_begun : (kept : Kept) (text : List ℕ) → is_text kept ≡ true → Shows kept text → HasBegun text
text_begun Nothing text e shows = absurd cc
text_begun Dash text e shows = absurd cc
text_begun (Whole t) text e shows = shows.1
text_begun Overlong text e shows = shows.1
text_begun Lost text e shows = shows.1

is_begun_text : (kept : Kept) → is_text kept ≡ true → is_begun kept ≡ true
is_begun_text Nothing e = absurd cc
is_begun_text Dash e = absurd cc
is_begun_text (Whole t) e = refl
is_begun_text Overlong e = refl
is_begun_text Lost e = refl

shows_on : (was new : Kept) (text run : List ℕ) → is_text was ≡ true → Shows was text → PutsAll run was new
    → Shows new (text ++ run)
shows_on Nothing new text run e shows puts = absurd cc
shows_on Dash new text run e shows puts = absurd cc
shows_on (Whole t) new text run e shows puts =
    shows_kept (text ++ run) new (begun_on text run shows.1)
    (subst (λ (z : List ℕ). Keeps (z ++ run) new) shows.0 puts)
shows_on Overlong new text run e shows puts =
    subst (λ (k : Kept). Shows k (text ++ run)) (sym puts)
    (omega (arith, shows.0, length-append text run), begun_on text run shows.1)
shows_on Lost new text run e shows puts =
    subst (λ (k : Kept). Shows k (text ++ run)) (sym puts)
    (omega (arith, shows.0, length-append text run), begun_on text run shows.1)

-- ---- the state of a splitter

reads_on : (old new : Stream) (before looked : List ℕ) → Reads old before looked → RunsOn old new
    → is_text old.kept ≡ true → is_steady old.place ≡ true → old.given ≡ false
    → Reads new before (looked ++ plain_front old.ready)
reads_on old new before looked r l text steady still =
    let run = plain_front old.ready in
    let plain = front_plain old.ready in
    let was = subst (λ (k : Kept). Shows k r.text) (kept_still old.given old.kept still) r.kept in
    let h = text_begun old.kept r.text text was in
    record {
      place = l.place ∙ sym (all_stay old.place run steady plain)
          ∙ ap (λ (p : ScanState). state_behind p run) r.place ∙ sym (state_on Outside looked run);
      whole = none_on Outside looked run r.whole (ap (λ (p : ScanState). end_from p run) (sym r.place)
          ∙ no_end old.place run steady plain);
      ahead = r.ahead;
      text = r.text ++ run;
      parts = ap (λ (z : List ℕ). z ++ run) r.parts ∙ append_assoc r.ahead r.text run;
      is_text = text_more false looked run (subst (λ (z : List ℕ). 0 < length z) (sym r.is_text) h.filled)
          ∙ ap (λ (z : List ℕ). without_lead false (z ++ run)) r.is_text ∙ h.stays run;
      kept = subst (λ (k : Kept). Shows k (r.text ++ run)) (sym (kept_still new.given new.kept (l.given ∙ still)))
          (shows_on old.kept new.kept r.text run text was l.kept);
      feeds = l.feeds ∙ r.feeds ∙ ap capped (same_feeds before looked run plain);
      begun = λ some. l.begun ∙ r.begun h.filled;
    }

holds_on : (old new : Stream) → RunsOn old new → is_text old.kept ≡ true → is_steady old.place ≡ true
    → old.given ≡ false → (passed left : List ℕ) → Holds old passed left → Holds new passed left
holds_on old new l text steady still passed left h =
    let run = plain_front old.ready in
    let cut : old.ready ≡ run ++ new.ready =
    sym (front_parts old.ready) ∙ ap (λ (z : List ℕ). run ++ z) (sym l.ready) in
    record {
      skipped = h.skipped;
      looked = h.looked ++ run;
      parts = h.parts ∙ ap (λ (z : List ℕ). (h.skipped ++ h.looked) ++ z) cut
          ∙ sym (append_assoc (h.skipped ++ h.looked) run new.ready)
          ∙ ap (λ (z : List ℕ). z ++ new.ready) (append_assoc h.skipped h.looked run);
      placed = λ more. h.placed more ∙ ap (λ (z : List ℕ). placed_from (passed ++ h.skipped) (z ++ more))
          (ap (λ (z : List ℕ). h.looked ++ z) cut ∙ sym (append_assoc h.looked run new.ready));
      reads = reads_on old new (passed ++ h.skipped) h.looked h.reads l text steady still;
    }

-- ---- a byte that ends no piece, and the plain bytes after it

passed_on : (start mid new : Stream) → Passes start mid → RunsOn mid new → is_text mid.kept ≡ true
    → is_steady mid.place ≡ true → Passes start new
passed_on start mid new p l text steady =
    let fewer : length new.ready ≤ length mid.ready =
    omega (arith, ap length l.ready, length-drop (length (plain_front mid.ready)) mid.ready) in
    let one : one_if (is_begun (kept_now mid.given mid.kept)) ≡ 1 =
    ap (λ (k : Kept). one_if (is_begun k)) (kept_still mid.given mid.kept p.given)
    ∙ ap one_if (is_begun_text mid.kept text) in
    let few = one_at_most (is_begun (kept_now new.given new.kept)) in
    let no_more : to_do new ≤ to_do mid = omega (arith, fewer, one, few) in
    record {
      given = l.given ∙ p.given;
      ended = l.ended ∙ p.ended;
      line = l.line ∙ p.line;
      fewer = omega (arith, p.fewer, fewer);
      no_more = omega (arith, p.no_more, no_more);
      holds = λ passed left h. holds_on mid new l text steady p.given passed left (p.holds passed left h);
    }

pub taken_with : (start mid new : Stream) → Passes start mid → LooksOn mid new → Passes start new
taken_with start mid new p on = by (is_text mid.kept) refl (is_steady mid.place) refl on where
  by : (t : Bool) → is_text mid.kept ≡ t → (u : Bool) → is_steady mid.place ≡ u
      → MatchBool (t && u) (RunsOn mid new) (new ≡ mid) → Passes start new
  by true text true steady l = passed_on start mid new p l text steady
  by true text false steady e = subst (Passes start) (sym e) p
  by false text u steady e = subst (Passes start) (sym e) p
