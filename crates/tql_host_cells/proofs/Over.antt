-- Bytes that are written one piece after the other.
use Rattle.std.proofs.Common.{◌≡◌, ℕ, ◌+◌, ◌-◌, ◌≤◌, List, [], ◌++◌, length, take, drop, refl, sym, ap, subst, ◌∙◌}
use Rattle.std.proofs.Common.{arith, add_assoc, append_assoc, append-nil, length-append, length-drop}
use Rattle.std.proofs.lemmas.List.{take_at, drop_at, drop-drop, length-take-le, take-append-drop}
use Rattle.tql_host_cells.specs.Texts.{over}

-- of the bytes `all`, which go into the room from `from` on, those before `at` are written, and `left` are not
pub record Goes (before room : List ℕ) (from at : ℕ) (left all : List ℕ) : Type 0 where
  pub written : take at room ++ left ≡ take from before ++ all
  pub kept : drop at room ≡ drop at before
  pub even : at + length left ≡ from + length all
  pub size : length room ≡ length before
  pub fits : from + length all ≤ length before

pub goes_start : (room : List ℕ) (from : ℕ) (all : List ℕ) → from + length all ≤ length room
    → Goes room room from from all all
goes_start room from all fits = record { written = refl; kept = refl; even = refl; size = refl; fits = fits }

-- the next bytes have room
pub goes_room : (before room : List ℕ) (from at : ℕ) (bytes left all : List ℕ)
    → Goes before room from at (bytes ++ left) all → at + length bytes ≤ length room
goes_room before room from at bytes left all h =
    let e : length (bytes ++ left) ≡ length bytes + length left = length-append bytes left in
    let even = h.even in let size = h.size in let fits = h.fits in omega arith

-- the next bytes are written
pub goes_on : (before room : List ℕ) (from at : ℕ) (bytes left all : List ℕ)
    → Goes before room from at (bytes ++ left) all
    → Goes before (over bytes at room) from (at + length bytes) left all
goes_on before room from at bytes left all h =
    let room_for : at + length bytes ≤ length room = goes_room before room from at bytes left all h in
    let e : length (bytes ++ left) ≡ length bytes + length left = length-append bytes left in
    let rest = drop (at + length bytes) room in
    let front : length (take at room) ≡ at = length-take-le at room (omega arith) in
    let long : length (take at room ++ bytes) ≡ at + length bytes =
    length-append (take at room) bytes ∙ ap (λ n. n + length bytes) front in
    let apart : over bytes at room ≡ (take at room ++ bytes) ++ rest = sym (append_assoc (take at room) bytes rest) in
    let behind : length rest ≡ length room - (at + length bytes) = length-drop (at + length bytes) room in
    let even = h.even in let size = h.size in
    record {
      written = ap (λ r. take (at + length bytes) r ++ left) apart
          ∙ ap (λ r. r ++ left) (take_at (take at room ++ bytes) rest (at + length bytes) long)
          ∙ append_assoc (take at room) bytes left ∙ h.written;
      kept = ap (drop (at + length bytes)) apart ∙ drop_at (take at room ++ bytes) rest (at + length bytes) long
          ∙ sym (drop-drop (length bytes) at room) ∙ ap (drop (length bytes)) h.kept
          ∙ drop-drop (length bytes) at before;
      even = omega arith;
      size = ap length apart ∙ length-append (take at room ++ bytes) rest ∙ omega arith;
      fits = h.fits;
    }

-- all bytes are written
pub goes_end : (before room : List ℕ) (from at : ℕ) (all : List ℕ) → Goes before room from at [] all
    → room ≡ over all from before
goes_end before room from at all h =
    let even : at + 0 ≡ from + length all = h.even in
    let here : at ≡ from + length all = omega arith in
    sym (take-append-drop at room)
    ∙ ap (λ x. x ++ drop at room) (sym (append-nil (take at room)) ∙ h.written)
    ∙ ap (λ x. (take from before ++ all) ++ x) (h.kept ∙ ap (λ n. drop n before) here)
    ∙ append_assoc (take from before) all (drop (from + length all) before)

-- a step of a loop that writes
pub goes_step : (before room new : List ℕ) (from at end : ℕ) (bytes left rest all : List ℕ)
    → Goes before room from at left all → left ≡ bytes ++ rest → new ≡ over bytes at room → end ≡ at + length bytes
    → Goes before new from end rest all
goes_step before room new from at end bytes left rest all h splits put is_end =
    let h2 : Goes before room from at (bytes ++ rest) all =
    subst (λ (l : List ℕ). Goes before room from at l all) splits h in
    let done : Goes before (over bytes at room) from (at + length bytes) rest all =
    goes_on before room from at bytes rest all h2 in
    let there : Goes before new from (at + length bytes) rest all =
    subst (λ (r : List ℕ). Goes before r from (at + length bytes) rest all) (sym put) done in
    subst (λ (n : ℕ). Goes before new from n rest all) (sym is_end) there

-- the next bytes have room
pub goes_fits : (before room : List ℕ) (from at : ℕ) (bytes left rest all : List ℕ)
    → Goes before room from at left all → left ≡ bytes ++ rest → at + length bytes ≤ length room
goes_fits before room from at bytes left rest all h splits =
    goes_room before room from at bytes rest all (subst (λ (l : List ℕ). Goes before room from at l all) splits h)

-- all bytes are written, and how many
pub goes_last : (before room : List ℕ) (from at : ℕ) (left all : List ℕ) → Goes before room from at left all
    → left ≡ [] → room ≡ over all from before
goes_last before room from at left all h none =
    goes_end before room from at all (subst (λ (l : List ℕ). Goes before room from at l all) none h)

pub goes_at : (before room : List ℕ) (from at : ℕ) (left all : List ℕ) → Goes before room from at left all
    → left ≡ [] → at ≡ from + length all
goes_at before room from at left all h none =
    let e : length left ≡ 0 = ap length none in let even = h.even in omega arith

-- bytes written behind others are written as one
pub over-over : (a b room : List ℕ) (from : ℕ) → from + length a ≤ length room
    → over b (from + length a) (over a from room) ≡ over (a ++ b) from room
over-over a b room from fits =
    let p = take from room in let rest = drop (from + length a) room in
    let front : length p ≡ from = length-take-le from room (omega arith) in
    let long : length (p ++ a) ≡ from + length a = length-append p a ∙ ap (λ n. n + length a) front in
    let apart : over a from room ≡ (p ++ a) ++ rest = sym (append_assoc p a rest) in
    ap (over b (from + length a)) apart
    ∙ ap (λ t. t ++ (b ++ drop (from + length a + length b) ((p ++ a) ++ rest))) (take_at (p ++ a) rest (from + length
    a) long)
    ∙ ap (λ t. (p ++ a) ++ (b ++ t)) (
    sym (drop-drop (length b) (from + length a) ((p ++ a) ++ rest))
    ∙ ap (drop (length b)) (drop_at (p ++ a) rest (from + length a) long)
    ∙ drop-drop (length b) (from + length a) room
    )
    ∙ append_assoc p a (b ++ drop (from + length a + length b) room)
    ∙ ap (λ t. p ++ t) (sym (append_assoc a b (drop (from + length a + length b) room)))
    ∙ ap (λ n. p ++ ((a ++ b) ++ drop n room)) (
    add_assoc from (length a) (length b) ∙ ap (λ n. from + n) (sym (length-append a b))
    )
