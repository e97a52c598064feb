-- One more node.
use Rattle.std.proofs.Common.{◌≡◌, ◌≤◌, arith, sym, subst, ◌∙◌}
use Rattle.std.proofs.lemmas.Bool.Decides.{nat_tests}
use Rattle.std.specs.Prelude.{nat_le, true}
use Rattle.tql_exec_group.specs.Steps.{IsStep}
use Rattle.tql_exec_group.proofs.Collected.{one_more_step}
use Rattle.tql_exec_group.proofs.steps.Steps.add_at.Goals as goal

pub returns-clause-steps : goal.returns-clause-steps
returns-clause-steps c = λ is h.
    let from = c.args.self.now.from in
    let above : from ≤ c.first_read.result = omega (arith, c.if-first_read-self.false) in
    let reads : nat_le from c.first_read.result ≡ true = grind (arith, nat_tests, above) in
    one_more_step c.args.terms.now c.args.self.now c.add.new.self c.node-node.result c.add.ensures.from
    c.in_ok-add.ensures.nodes c.in_ok-add.ensures.aggregates
    (subst (λ m. IsStep c.args.terms.now c.args.self.now.from m c.node-node.result) (sym c.requires.next) (record {
      before = c.node-node.ensures.before;
      within = c.first_read.ensures from (omega arith) ∙ reads;
      term = c.node-node.ensures.term;
      there = c.requires.there;
    })) h
