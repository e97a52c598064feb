use Rattle.std.proofs.Common.{◌≡◌, ◌∙◌, List, [], ◌∷◌, ◌++◌, ◌+◌, refl, subst, map}
use Rattle.tql_spec.specs.Binding as binding
use Rattle.tql_spec.specs.Syntax.{RefTree}
use Rattle.tql_bound.specs.declared.query.Join.{Join}
use Rattle.tql_catalog.specs.Tables.{definitions_of}
use Rattle.tql_expr.specs.Meaning.{cond}
use Rattle.tql_syntax_tree.specs.Statements.{join_of}
use Rattle.tql_bind_expr.specs.Gathered.{Gathers}
use Rattle.tql_bind_expr.specs.Scopes.{scope_of}
use Rattle.tql_bind_expr.specs.declared.scope.Known.{Known}
use Rattle.tql_bind_query.specs.From.{on_in, source_of}
use Rattle.tql_bind_query.specs.declared.from.Linked.{Linked}
use Rattle.tql_bind_query.proofs.FromLaws.{join_added}
use Rattle.tql_bind_query.proofs.joins.add_join.Goals as goal

pub returns-clause-adds : goal.returns-clause-adds
returns-clause-adds c =
    let defs = definitions_of c.args.catalog.now in
    let j = join_of c.args.join.now in
    let s = c.in_ok-source.source in
    let old = c.args.faults.now in
    let mid = c.bound_source.new.faults in
    let l = c.args.linked.now in
    let u = c.on.new.terms in
    let x : Join = record { kind = c.join_kind.result; reference = s.reference; on = c.in_ok-on.on } in
    let m : Linked = record {
      chain = record { first = l.chain.first; joins = c.push-2.new.self };
      scope = c.push.new.self;
      width = l.width + s.reference.width;
    } in
    let source = subst (λ (r : RefTree). Gathers (binding.source defs l.width r) old mid (source_of s))
    c.joined_reference.ensures c.in_ok-source.ensures.bound in
    let scope : c.deref.result.now ≡ l.scope.items ++ s.known ∷ [] = c.deref.ensures.value
    ∙ c.in_ok-push.ensures.items in
    let on = subst (λ (ks : List Known). Gathers (on_in (scope_of ks) j) mid c.on.new.faults
    (map (cond u) x.on.items)) scope c.in_ok-on.ensures.bound in
    join_added defs j old mid c.on.new.faults c.args.terms.now u l m s x source on c.in_ok-source.ensures.placed
    c.in_ok-source.ensures.narrow
    c.on.ensures.stays c.in_ok-on.ensures.held c.requires.held c.requires.placed c.join_kind.ensures refl refl
    c.in_ok-push-2.ensures.items c.in_ok-push.ensures.items refl
