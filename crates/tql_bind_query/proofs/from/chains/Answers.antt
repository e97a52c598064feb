use Rattle.std.proofs.Common.{◌≡◌, ◌∙◌, ℕ, ◌∷◌, suc, get_or, length, map, ap, arith}
use Rattle.std.specs.Prelude.{string_bytes}
use Rattle.tql_catalog.specs.Tables.{definitions_of}
use Rattle.tql_syntax_tree.specs.Statements.{chain_of}
use Rattle.tql_bind_query.specs.From.{names_in}
use Rattle.tql_bind_query.proofs.ChainLaws.{behind_at, behind_length, chains_begun, chains_next, chains_item}
use Rattle.tql_bind_query.proofs.ChainLaws.{chains_done}
use Rattle.tql_bind_query.proofs.ChainLaws.{item_few, one_counted}
use Rattle.tql_bind_query.proofs.from.chains.Goals as goal

pub loop-written-init : goal.loop-written-init
loop-written-init c =
    let defs = definitions_of c.args.catalog.now in
    let first = chain_of c.args.first.now in
    let more = map chain_of c.args.more.now in
    let start = c.args.terms.now in
    let old = c.args.faults.now in
    let none = c.new-all.result.items in
    let all = c.push_chain.new.all.items in
    let p = c.in_ok-push_chain.ensures.pushes in
    record {
      counted = omega (arith, one_counted none all p.linked p.items, ap length c.new-all.ensures.items);
      lead =
          chains_next defs (first ∷ more) start old start c.push_chain.new.terms none all first more old
          c.push_chain.new.faults
          (chains_begun defs first more start old none c.new-all.ensures.items c.requires.few)
          c.push_chain.ensures.stays p;
    }

pub bounds-names-len : goal.bounds-names-len
bounds-names-len c =
    let longer = behind_length (λ n. map string_bytes n.items) names_in chain_of c.args.names.now c.args.more.now
    (names_in (chain_of c.args.first.now)) c.requires.named in
    omega (
      arith,
      longer,
      c.len.ensures,
      c.loop-written.all.ok.0,
      c.loop-written.invariant.counted,
      c.loop-written-test.true,
    )

pub push_chain-requires-in-loop-written-clause-named : goal.push_chain-requires-in-loop-written-clause-named
push_chain-requires-in-loop-written-clause-named c =
    let i = c.loop-written.written-index in
    let place : c.len.result ≡ suc i =
    omega (arith, c.len.ensures, c.loop-written.all.ok.0, c.loop-written.invariant.counted) in
    let names = c.index-names-len.result in
    let at : names ≡ get_or c.args.names.now (suc i) names = c.index-names-len.is
    ∙ ap (λ (n : ℕ). get_or c.args.names.now n names) place in
    ap (map string_bytes) c.deref-in-loop-written.ensures.value
    ∙ behind_at (λ n. map string_bytes n.items) names_in chain_of c.args.names.now c.args.more.now
    (names_in (chain_of c.args.first.now)) i names c.written-item.result
    c.requires.named c.loop-written-test.true at c.written-item.is

pub push_chain-requires-in-loop-written-clause-few : goal.push_chain-requires-in-loop-written-clause-few
push_chain-requires-in-loop-written-clause-few c =
    item_few chain_of (definitions_of c.args.catalog.now) (chain_of c.args.first.now ∷ map chain_of c.args.more.now)
    c.args.terms.now c.args.faults.now c.loop-written.terms c.loop-written.all.items
    c.args.more.now c.loop-written.written-index c.written-item.result c.loop-written.faults c.loop-written-test.true
    c.written-item.is c.loop-written.invariant.lead

pub loop-written-preserved : goal.loop-written-preserved
loop-written-preserved c =
    let p = c.in_ok-push_chain-2.ensures.pushes in
    record {
      counted = omega (
        arith,
        one_counted c.loop-written.all.items c.push_chain-in-loop-written.new.all.items
            p.linked p.items,
        c.loop-written.invariant.counted,
      );
      lead =
          chains_item chain_of (definitions_of c.args.catalog.now)
          (chain_of c.args.first.now ∷ map chain_of c.args.more.now) c.args.terms.now c.args.faults.now
          c.loop-written.terms
          c.push_chain-in-loop-written.new.terms c.loop-written.all.items c.push_chain-in-loop-written.new.all.items
          c.args.more.now c.loop-written.written-index c.written-item.result
          c.loop-written.faults c.push_chain-in-loop-written.new.faults c.loop-written-test.true c.written-item.is
          c.loop-written.invariant.lead c.push_chain-in-loop-written.ensures.stays p;
    }

pub returns-clause-bound : goal.returns-clause-bound
returns-clause-bound c =
    chains_done chain_of (definitions_of c.args.catalog.now)
    (chain_of c.args.first.now ∷ map chain_of c.args.more.now) c.args.terms.now c.args.faults.now
    c.loop-written.terms
    c.loop-written.all.items c.args.more.now c.loop-written.written-index c.loop-written.faults
    c.loop-written-test.false c.loop-written.invariant.lead
