-- The terms of a statement that stay when more are added; for crates that build on them.
use Rattle.std.proofs.Common.{◌∙◌, arith}
use Rattle.tql_expr.specs.declared.terms.Terms.{Terms}
use Rattle.tql_expr.specs.Meaning.{Stays}

-- staying is transitive
pub stays_trans : {t u v : Terms} → Stays t u → Stays u v → Stays t v
stays_trans {t} {u} {v} s r = record {
  grows = omega (arith, s.grows, r.grows);
  same = λ k h. r.same k (omega (arith, s.grows)) ∙ s.same k h;
}
