-- Replies that are held back leave from the front.
use Rattle.std.proofs.Common.{◌≡◌, ◌≤◌, refl, sym, ap, ◌∙◌, ℕ, ◌+◌, List, [], ◌∷◌, ◌++◌, take, drop}
use Rattle.std.proofs.Common.{length, append_assoc, append-nil, arith}
use Rattle.std.specs.Prelude.{Option, Some, None}
use Rattle.std.proofs.lemmas.List.{take-append-drop, drop-drop, length-drop}
use Rattle.tql_journal_desk.specs.Order.{Steps, Sends}
use Rattle.tql_journal_desk.specs.Held.{Leaves}

pub leaves_none : (a : Option (List ℕ)) (held : List ℕ) → Steps (Leaves held held) a a
leaves_none None held = tt
leaves_none (Some s) held = refl

pub leaves_on : (a b c : Option (List ℕ)) (held bytes : List ℕ) (sent n : ℕ)
    → Steps (Leaves held (drop sent bytes)) a b → Steps (Sends (take n (drop sent bytes))) b c
    → Steps (Leaves held (drop (sent + n) bytes)) a c
leaves_on None None None held bytes sent n p q = tt
leaves_on None None (Some z) held bytes sent n p q = absurd q
leaves_on None (Some y) c held bytes sent n p q = absurd p
leaves_on (Some x) None c held bytes sent n p q = absurd p
leaves_on (Some x) (Some y) None held bytes sent n p q = absurd q
leaves_on (Some x) (Some y) (Some z) held bytes sent n p q =
    ap (λ (w : List ℕ). w ++ drop (sent + n) bytes) q
    ∙ append_assoc y (take n (drop sent bytes)) (drop (sent + n) bytes)
    ∙ ap (λ (w : List ℕ). y ++ (take n (drop sent bytes) ++ w)) (sym (drop-drop n sent bytes))
    ∙ ap (λ (w : List ℕ). y ++ w) (take-append-drop n (drop sent bytes)) ∙ p

-- after an error nothing more has left
pub leaves_still : (a b c : Option (List ℕ)) (held held' : List ℕ) → Steps (Leaves held held') a b
    → Steps (Sends []) b c → Steps (Leaves held held') a c
leaves_still None None None held held' p q = tt
leaves_still None None (Some z) held held' p q = absurd q
leaves_still None (Some y) c held held' p q = absurd p
leaves_still (Some x) None c held held' p q = absurd p
leaves_still (Some x) (Some y) None held held' p q = absurd q
leaves_still (Some x) (Some y) (Some z) held held' p q =
    ap (λ (w : List ℕ). w ++ held') (q ∙ append-nil y) ∙ p

no_length : (xs : List ℕ) → length xs ≡ 0 → xs ≡ []
no_length [] e = refl
no_length (x ∷ xs) e = absurd (omega (arith, e))

-- nothing is left at the end
pub none_left : (bytes : List ℕ) (sent : ℕ) → length bytes ≤ sent → drop sent bytes ≡ []
none_left bytes sent l = no_length (drop sent bytes) (let a = length-drop sent bytes in omega (arith, a, l))

-- a flush sends nothing
pub leaves_nothing : (a b : Option (List ℕ)) → Steps (Sends []) a b → Steps (Leaves [] []) a b
leaves_nothing None None p = tt
leaves_nothing None (Some y) p = absurd p
leaves_nothing (Some x) None p = absurd p
leaves_nothing (Some x) (Some y) p = ap (λ (w : List ℕ). w ++ []) (p ∙ append-nil x)
