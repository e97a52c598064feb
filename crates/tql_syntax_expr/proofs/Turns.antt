-- One turn of a loop whose number of turns is bounded.
use Rattle.std.proofs.Common.{◌≡◌, ℕ, suc, ◌+◌, ◌-◌, ◌<◌, ◌≤◌, ap, ◌∙◌, arith, List, Option}
use Rattle.tql_spec.specs.Token.{Token}
use Rattle.tql_syntax_grammar.specs.Outcome.{Outcome, Parser, repeated}

pub one_more : {X : Type 0} (f : ℕ → X) (total : X) (n i : ℕ) → i < n → total ≡ f (n - i)
    → total ≡ f (suc (n - (i + 1)))
one_more f total n i lt h = let k : n - i ≡ suc (n - (i + 1)) = omega arith in h ∙ ap f k

pub no_more : {X : Type 0} (f : ℕ → X) (total : X) (n i : ℕ) → n ≤ i → total ≡ f (n - i) → total ≡ f 0
no_more f total n i le h = let k : n - i ≡ 0 = omega arith in h ∙ ap f k

-- reading a list: one more turn is left
pub one_more_item : {A : Type 0} (step : Parser (Option A)) (xs : List A) (ts : List Token)
    (total : Outcome (List A)) (n i : ℕ)
    → i < n → total ≡ repeated step (n - i) xs ts → total ≡ repeated step (suc (n - (i + 1))) xs ts
one_more_item step xs ts = one_more (λ k. repeated step k xs ts)

-- reading a list: no turn is left
pub no_more_items : {A : Type 0} (step : Parser (Option A)) (xs : List A) (ts : List Token)
    (total : Outcome (List A)) (n i : ℕ)
    → n ≤ i → total ≡ repeated step (n - i) xs ts → total ≡ repeated step 0 xs ts
no_more_items step xs ts = no_more (λ k. repeated step k xs ts)
