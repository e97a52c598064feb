use Rattle.std.proofs.Common.{◌≡◌, ◌∙◌, ℕ, List, suc, get_or, map, ap, sym, subst, arith}
use Rattle.std.specs.Prelude.{string_bytes}
use Rattle.tql_catalog.specs.Tables.{definitions_of}
use Rattle.tql_syntax_tree.specs.Statements.{chain_of, join_of, ref_of}
use Rattle.tql_syntax_tree.specs.declared.statement.JoinTree.{JoinTree}
use Rattle.tql_bind_query.specs.From.{name_in, names_in, reference_in}
use Rattle.tql_bind_query.proofs.ChainLaws.{ChainLeads, chain_begun, chain_item, chain_done, behind_at}
use Rattle.tql_bind_query.proofs.from.bound_chain.Goals as goal

pub loop-join-init : goal.loop-join-init
loop-join-init c =
    let defs = definitions_of c.args.catalog.now in
    let written = chain_of c.args.written.now in
    let old = c.args.faults.now in
    let start = c.args.terms.now in
    let now = c.first_linked.new.faults in
    let l = c.in_ok-linked.linked in
    subst (λ (js : List JoinTree). ChainLeads defs written start old start l (map join_of js) now 0)
    (sym c.deref-join-items.ensures.value)
    (chain_begun defs written start old now l c.in_ok-linked.ensures.bound)

pub add_join-requires-clause-named : goal.add_join-requires-clause-named
add_join-requires-clause-named c =
    let i = c.loop-join.join-index in
    let place : c.len.result ≡ suc i =
    omega (arith, c.len.ensures, c.loop-join.linked.scope.ok.0, c.loop-join.invariant.counted) in
    let name = c.index-names-len.result in
    let at : name ≡ get_or c.args.names.now (suc i) name = c.index-names-len.is
    ∙ ap (λ (n : ℕ). get_or c.args.names.now n name) place in
    let joins = c.deref-join-items.result.now in
    let item = c.join-item.is in
    c.as_str-name.ensures.value
    ∙ behind_at string_bytes (λ j. name_in (reference_in j)) join_of c.args.names.now joins
    (name_in (ref_of c.args.written.now.first)) i name c.join-item.result
    (c.requires.named ∙ ap (λ (js : List JoinTree). names_in (record {
      first = ref_of c.args.written.now.first;
      joins = map join_of js;
    })) (sym c.deref-join-items.ensures.value))
    c.loop-join-test.true at item

pub loop-join-preserved : goal.loop-join-preserved
loop-join-preserved c =
    chain_item join_of (definitions_of c.args.catalog.now) (chain_of c.args.written.now) c.args.terms.now
    c.args.faults.now c.loop-join.terms c.add_join.new.terms c.loop-join.linked c.add_join.new.linked
    c.deref-join-items.result.now c.loop-join.join-index c.join-item.result c.loop-join.faults c.add_join.new.faults
    c.loop-join-test.true c.join-item.is c.loop-join.invariant c.add_join.ensures.stays c.in_ok-add_join.ensures.adds

pub returns-clause-binds : goal.returns-clause-binds
returns-clause-binds c =
    chain_done join_of (definitions_of c.args.catalog.now) (chain_of c.args.written.now) c.args.terms.now
    c.args.faults.now c.loop-join.terms c.loop-join.linked
    c.deref-join-items.result.now c.loop-join.join-index c.loop-join.faults
    (ap (map join_of) (sym c.deref-join-items.ensures.value)) c.loop-join-test.false (omega arith) c.loop-join.invariant
