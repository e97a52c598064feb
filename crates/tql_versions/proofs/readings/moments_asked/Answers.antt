use Rattle.std.proofs.Common.{rules, ◌≡◌, ◌∙◌, ap, sym}
use Rattle.std.specs.Prelude.{ℤ}
use Rattle.std.proofs.Math.Facts.{to_z-of_z}
use Rattle.tql_spec.specs.Period.{Period, share_a_point}
use Rattle.tql_versions.proofs.Sought.{held_alone, none_then}
use Rattle.tql_versions.specs.Readings.{sought}
use Rattle.tql_versions.proofs.readings.moments_asked.Goals as goal
use Rattle.tql_versions.proofs.readings.moments_asked.Goals.{in-Now, in-AsOf, in-FromTo, in-Between}

-- the ends of the period that the code computes
abbrev Ends : Type 0
Ends = ℤ × (ℤ × Unit {0})

same_ends : (x : Period) (p q : Ends) → p ≡ q
    → share_a_point x (record { start = p.0; end = p.1.0 }) ≡ share_a_point x (record { start = q.0; end = q.1.0 })
same_ends x p q e = ap (λ (r : Ends). share_a_point x (record { start = r.0; end = r.1.0 })) e

pub returns : goal.returns
returns c = λ x r l. elim c.match-when.branch [
  | in-Now w ↦ same_ends x _ _ w.result-is ∙ none_then x l ∙ sym (ap (λ when. sought when x) w.in-Now.is)
  | in-AsOf w ↦ same_ends x _ _ w.result-is ∙ w.moments_through.ensures x l ∙ (search (rules, to_z-of_z))
      ∙ held_alone w.in-AsOf.t x r l ∙ sym (ap (λ when. sought when x) w.in-AsOf.is)
  | in-FromTo w ↦ same_ends x _ _ w.result-is ∙ w.moments_between.ensures x l ∙ (search (rules, to_z-of_z))
      ∙ sym (ap (λ when. sought when x) w.in-FromTo.is)
  | in-Between w ↦ same_ends x _ _ w.result-is ∙ w.moments_through-in-Between.ensures x l
      ∙ (search (rules, to_z-of_z)) ∙ sym (ap (λ when. sought when x) w.in-Between.is)
]
