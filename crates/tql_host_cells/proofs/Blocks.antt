-- A block that is written in three pieces.
use Rattle.std.proofs.Common.{◌≡◌, ℕ, ◌+◌, ◌≤◌, List, ◌++◌, length, drop, ap, ◌∙◌, arith, append_assoc, length-append}
use Rattle.std.proofs.Common.{zero-add, if◌then◌else◌}
use Rattle.std.specs.Prelude.{nat_le}
use Rattle.std.proofs.lemmas.Bool.Decides.{nat_tests}
use Rattle.tql_host_cells.specs.Texts.{over}
use Rattle.tql_host_cells.proofs.Over.{over-over}

-- three pieces, each behind the one before
pub over_three : (a b d room one two three : List ℕ) (n k : ℕ) → one ≡ over a 0 room → n ≡ length a
    → two ≡ over b n one → k ≡ n + length b → three ≡ over d k two → length a + length b + length d ≤ length room
    → three ≡ (a ++ (b ++ d)) ++ drop (length (a ++ (b ++ d))) room
over_three a b d room one two three n k is_one is_n is_two is_k is_three fits =
    let front : n ≡ 0 + length a = omega arith in
    let both : length (a ++ b) ≡ length a + length b = length-append a b in
    let behind : k ≡ 0 + length (a ++ b) = omega arith in
    let first : two ≡ over (a ++ b) 0 room =
    is_two ∙ ap (λ r. over b n r) is_one ∙ ap (λ m. over b m (over a 0 room)) front
    ∙ over-over a b room 0 (omega arith) in
    is_three ∙ ap (λ r. over d k r) first ∙ ap (λ m. over d m (over (a ++ b) 0 room)) behind
    ∙ over-over (a ++ b) d room 0 (omega arith)
    ∙ ap (λ m. ((a ++ b) ++ d) ++ drop m room) (zero-add (length ((a ++ b) ++ d)))
    ∙ ap (λ x. x ++ drop (length x) room) (append_assoc a b d)

-- a choice whose test is a comparison that holds
pub chosen : {A : Type 0} (n m : ℕ) (x y : A) → n ≤ m → x ≡ (if nat_le n m then x else y)
chosen n m x y le = grind (arith, nat_tests)
