-- A rule at a level above 0 is the rule over the level below.
use Rattle.std.proofs.Common.{◌≡◌, refl, ap, ℕ, zero, suc, ◌-◌, List, arith}
use Rattle.std.specs.Prelude.{◌≢◌}
use Rattle.tql_spec.specs.Token.{Token}
use Rattle.tql_syntax_grammar.specs.ReadingExpressions.{expr_at, sum_over, mixed_at, mixed_over, condition_at}
use Rattle.tql_syntax_grammar.specs.ReadingExpressions.{condition_over}

pub expr_level : (n : ℕ) (ts : List Token) → n ≢ 0 → expr_at n ts ≡ sum_over (expr_at (n - 1)) ts
unfolding expr_at
expr_level zero ts e = absurd (e refl)
expr_level (suc n) ts e = let k : n ≡ suc n - 1 = omega arith in ap (λ (m : ℕ). sum_over (expr_at m) ts) k

pub mixed_level : (n : ℕ) (ts : List Token) → n ≢ 0 → mixed_at n ts ≡ mixed_over (expr_at (n - 1)) (mixed_at (n - 1)) ts
unfolding mixed_at
mixed_level zero ts e = absurd (e refl)
mixed_level (suc n) ts e = let k : n ≡ suc n - 1 =
    omega arith in ap (λ (m : ℕ). mixed_over (expr_at m) (mixed_at m) ts) k

pub condition_level : (n : ℕ) (ts : List Token) → n ≢ 0
    → condition_at n ts ≡ condition_over (expr_at (n - 1)) (mixed_at (n - 1)) ts
unfolding condition_at
condition_level zero ts e = absurd (e refl)
condition_level (suc n) ts e = let k : n ≡ suc n - 1 =
    omega arith in ap (λ (m : ℕ). condition_over (expr_at m) (mixed_at m) ts) k
