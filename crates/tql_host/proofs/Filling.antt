-- Numbers that are written at the front of a room, one after the other.
use Rattle.std.proofs.Common.{◌≡◌, ℕ, ◌+◌, ◌-◌, ◌<◌, ◌≤◌, ◌⊎◌, inl, inr, min, List, [], ◌∷◌, ◌++◌, length, get_or, take}
use Rattle.std.proofs.Common.{drop, set, refl, sym, ap, ◌∙◌, arith, append_assoc}
use Rattle.std.proofs.lemmas.List.{set_at, drop_more, take_more, length-take-le, take_all, drop_all}
use Rattle.std.proofs.lemmas.Bool.{cases_lt}
use Rattle.tql_host_cells.specs.Texts.{copied}

-- the next number is written
pub fills : (bytes room : List ℕ) (i x : ℕ) → i < length bytes → i < length room → x ≡ get_or bytes i 0
    → set (take i bytes ++ drop i room) i x ≡ take (i + 1) bytes ++ drop (i + 1) room
fills bytes room i x in_bytes in_room is =
    ap (λ t. set (take i bytes ++ t) i x) (drop_more room i 0 in_room)
    ∙ set_at (take i bytes) (get_or room i 0) (drop (i + 1) room) x i (length-take-le i bytes (omega arith))
    ∙ sym (append_assoc (take i bytes) (x ∷ []) (drop (i + 1) room))
    ∙ ap (λ t. t ++ drop (i + 1) room) (ap (λ y. take i bytes ++ y ∷ []) is ∙ sym (take_more bytes i 0 in_bytes))

-- all numbers are written, or the room is full
pub filled : (bytes room : List ℕ) (n : ℕ) → n ≡ min (length bytes) (length room)
    → take n bytes ++ drop n room ≡ copied bytes 0 room
filled bytes room n is =
    let body : take n bytes ++ drop n room ≡ take (length room) bytes ++ drop (length bytes) room =
    elim (cases_lt (length room) (length bytes)) [
      | inr fits ↦ let all : n ≡ length bytes = omega arith in
          ap (λ m. take m bytes ++ drop m room) all
          ∙ ap (λ t. t ++ drop (length bytes) room)
          (take_all (length bytes) bytes (omega arith) ∙ sym (take_all (length room) bytes fits))
      | inl full ↦ let all : n ≡ length room = omega arith in
          ap (λ m. take m bytes ++ drop m room) all
          ∙ ap (λ t. take (length room) bytes ++ t)
          (drop_all (length room) room (omega arith) ∙ sym (drop_all (length bytes) room (omega arith)))
    ] in
    let e : length bytes ≡ length bytes - 0 = omega arith in
    body ∙ ap (λ m. take (length room) bytes ++ drop m room) e
