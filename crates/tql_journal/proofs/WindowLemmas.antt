-- A window on a file.
use Rattle.std.proofs.Common.{◌≡◌, ◌≤◌, refl, sym, ap, ◌∙◌, ℕ, ◌+◌, ◌-◌, List, [], ◌++◌, length}
use Rattle.std.proofs.Common.{take, drop, append_assoc, append-nil, arith}
use Rattle.std.specs.Prelude.{Option, Some, None}
use Rattle.std.specs.Io.KnownBytes.{Consumes}
use Rattle.std.proofs.lemmas.List.{length-take, length-take-le, length-append, drop-take, drop-drop, take-take}
use Rattle.std.proofs.lemmas.List.{take_at, drop_at}
use Rattle.std.proofs.lemmas.List.{take-append-le}
use Rattle.std.proofs.Math.Seq.{take-add}

-- more bytes were read
pub record Fed (before now : Option (List ℕ)) (old new : List ℕ) (total total' : ℕ) : Type 0 where
  pub more : List ℕ
  pub given : Consumes before now more
  pub bytes : new ≡ old ++ more
  pub sum : total' ≡ total + length more

pub consumes_none : (a : Option (List ℕ)) → Consumes a a []
consumes_none None = tt
consumes_none (Some xs) = refl

pub consumes_on : (a b c : Option (List ℕ)) (xs ys : List ℕ) → Consumes a b xs → Consumes b c ys
    → Consumes a c (xs ++ ys)
consumes_on None b c xs ys p q = tt
consumes_on (Some x) None c xs ys p q = absurd p
consumes_on (Some x) (Some y) None xs ys p q = absurd q
consumes_on (Some x) (Some y) (Some z) xs ys p q =
    p ∙ ap (λ (w : List ℕ). xs ++ w) q ∙ sym (append_assoc xs ys z)

pub fed_none : (a : Option (List ℕ)) (bytes bytes' : List ℕ) (total total' : ℕ) → bytes' ≡ bytes → total' ≡ total
    → Fed a a bytes bytes' total total'
fed_none a bytes bytes' total total' e t = record {
  more = [];
  given = consumes_none a;
  bytes = e ∙ sym (append-nil bytes);
  sum = omega (arith, t);
}

pub fed_on : (a b c : Option (List ℕ)) (old new new' ys : List ℕ) (total total' n : ℕ)
    → Fed a b old new total total' → Consumes b c ys → new' ≡ new ++ ys → n ≡ length ys
    → Fed a c old new' total (total' + n)
fed_on a b c old new new' ys total total' n f q e l =
    let t = f.sum in
    let long = length-append f.more ys in
    record {
      more = f.more ++ ys;
      given = consumes_on a b c f.more ys f.given q;
      bytes = e ∙ ap (λ (z : List ℕ). z ++ ys) f.bytes ∙ append_assoc old f.more ys;
      sum = omega (arith, t, long, l);
    }

-- the bytes of a window after the first of them
pub skipped : (items : List ℕ) (start stop count : ℕ) → count ≤ length (take (stop - start) (drop start items))
    → take (stop - (start + count)) (drop (start + count) items) ≡ drop count (take (stop - start) (drop start items))
skipped items start stop count l =
    let a = length-take (stop - start) (drop start items) in
    let room : stop - start ≡ count + (stop - (start + count)) = omega (arith, a, l) in
    sym (ap (λ n. drop count (take n (drop start items))) room
    ∙ drop-take count (stop - (start + count)) (drop start items)
    ∙ ap (λ (z : List ℕ). take (stop - (start + count)) z) (drop-drop count start items))

-- the bytes of a window with those that were read after them
pub filled : (xs buf post tail : List ℕ) (s n len : ℕ) → s ≤ length xs → n ≤ length buf → s + n ≤ len
    → take (s + n) (take len ((take s xs ++ (buf ++ post)) ++ tail)) ≡ take s xs ++ take n buf
filled xs buf post tail s n len l m k =
    let more : List ℕ = buf ++ post in
    let front = length-take-le s xs l in
    let long = length-append buf post in
    let both = length-append (take s xs) more in
    take-take (s + n) len ((take s xs ++ more) ++ tail) k
    ∙ take-append-le (s + n) (take s xs ++ more) tail (omega (arith, m, front, long, both))
    ∙ take-add s n (take s xs ++ more)
    ∙ ap (λ (z : List ℕ). z ++ take n (drop s (take s xs ++ more))) (take_at (take s xs) more s front)
    ∙ ap (λ (z : List ℕ). take s xs ++ take n z) (drop_at (take s xs) more s front)
    ∙ ap (λ (z : List ℕ). take s xs ++ z) (take-append-le n buf post m)

-- the bytes that were moved to the front
pub moved_front : (moved items rest : List ℕ) (start stop len : ℕ) → stop - start ≤ len → stop - start ≤ length moved
    → take (stop - start) moved ≡ take (stop - start) (drop start items)
    → take (stop - start) (take len (moved ++ rest)) ≡ take (stop - start) (drop start items)
moved_front moved items rest start stop len l m e =
    take-take (stop - start) len (moved ++ rest) l ∙ take-append-le (stop - start) moved rest m ∙ e
