-- Several parts appended to a text.
use Rattle.std.proofs.Common.{◌≡◌, ℕ, List, ◌++◌, append_assoc, ap, sym, ◌∙◌}

-- three parts
pub three : (old x y z a b c : List ℕ) → x ≡ old ++ a → y ≡ x ++ b → z ≡ y ++ c → z ≡ old ++ ((a ++ b) ++ c)
three old x y z a b c e f g =
    g ∙ ap (λ (l : List ℕ). l ++ c) (f ∙ ap (λ (l : List ℕ). l ++ b) e)
    ∙ append_assoc (old ++ a) b c ∙ append_assoc old a (b ++ c)
    ∙ ap (λ (l : List ℕ). old ++ l) (sym (append_assoc a b c))

-- three parts that together are a text
pub three_are : (old x y z a b c text : List ℕ) → x ≡ old ++ a → y ≡ x ++ b → z ≡ y ++ c → a ++ (b ++ c) ≡ text
    → z ≡ old ++ text
three_are old x y z a b c text e f g is =
    g ∙ ap (λ (l : List ℕ). l ++ c) (f ∙ ap (λ (l : List ℕ). l ++ b) e)
    ∙ append_assoc (old ++ a) b c ∙ append_assoc old a (b ++ c) ∙ ap (λ (l : List ℕ). old ++ l) is
