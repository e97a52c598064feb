use Rattle.std.proofs.Common.{◌≡◌, ◌∙◌, sym, ap, subst}
use Rattle.std.specs.Prelude.{ℤ}
use Rattle.std.specs.List.{list_any}
use Rattle.std.proofs.Math.Facts.{to_z-of_z}
use Rattle.tql_spec.specs.Refusal.{ReadersAreOpen, first, fault_if}
use Rattle.tql_engine_state.specs.Readers.{KeptReader, is_passed}
use Rattle.tql_engine_state.proofs.StateFaults.{passed_is}
use Rattle.tql_engine_read.proofs.held.Held.passing_fault.Goals as goal

pub returns-then-passes_some : goal.returns-then-passes_some
returns-then-passes_some g c = λ s st.
    let said = subst (λ (m : ℤ). c.passes_some.result ≡ list_any (λ (k : KeptReader). is_passed m k.pin)
    c.args.self.now.readers) (to_z-of_z c.ranges.moment) c.passes_some.ensures in
    ap (λ b. first (fault_if b ReadersAreOpen))
    (sym (passed_is c.args.self.now s c.args.moment st ∙ sym said ∙ c.if-passes_some.true))

pub returns-else-passes_some : goal.returns-else-passes_some
returns-else-passes_some g c = λ s st.
    let said = subst (λ (m : ℤ). c.passes_some.result ≡ list_any (λ (k : KeptReader). is_passed m k.pin)
    c.args.self.now.readers) (to_z-of_z c.ranges.moment) c.passes_some.ensures in
    ap (λ b. first (fault_if b ReadersAreOpen))
    (sym (passed_is c.args.self.now s c.args.moment st ∙ sym said ∙ c.if-passes_some.false))
