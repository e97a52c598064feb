use Rattle.std.proofs.Common.{[], ◌≡◌, ◌∙◌, ap, subst, List, map}
use Rattle.std.specs.Prelude.{Option, Some, option_map}
use Rattle.std.specs.List.{flat_map}
use Rattle.std.proofs.lemmas.List.Elements.{All-from_recursion}
use Rattle.tql_spec.specs.Binding.{Selected, select}
use Rattle.tql_spec.specs.Datum as datum
use Rattle.tql_spec.specs.Definition.{TableDef}
use Rattle.tql_spec.specs.Machine.{State}
use Rattle.tql_spec.specs.Words.{listed}
use Rattle.tql_catalog.specs.Tables.{definitions_of}
use Rattle.tql_syntax_tree.specs.Statements.{boxed_select_of, order_of, orders_of, select_of}
use Rattle.tql_syntax_tree.specs.declared.statement.OrderTree.{OrderTree}
use Rattle.tql_syntax_tree.specs.declared.statement.SelectTree.{SelectTree}
use Rattle.tql_value.specs.Views.{plain_kind}
use Rattle.tql_value.specs.declared.value.Kind.{Kind}
use Rattle.tql_engine_state.specs.Fitting.{IsNarrow}
use Rattle.tql_engine_state.specs.Stands.{EngineModel, StandsFor}
use Rattle.tql_engine_read.proofs.KnownKinds.{kinds_told}
use Rattle.tql_engine_read.proofs.held.Held.kinds_of.Goals as goal

pub bound_query-requires-clause-narrow : goal.bound_query-requires-clause-narrow
bound_query-requires-clause-narrow g c =
    All-from_recursion IsNarrow (definitions_of c.self.inside.tables.now) c.self.invariant.stands.fits.narrow

pub returns : goal.returns
returns g c =
    let q = c.args.query.now in
    let defs = definitions_of c.self.inside.tables.now in
    let tree = boxed_select_of q.select in
    let keys = orders_of q.ordering in
    let typed = c.in_ok-typed.typed in
    let inside : c.deref.result.now ≡ q.select.value = cc (c.deref.ensures) in
    let at_select = ap (λ (s : SelectTree). (select defs (select_of s) (map order_of c.deref-2.result.now)).value.kinds)
    inside in
    let at_keys = ap (λ (ks : List OrderTree). (select defs tree (map order_of ks)).value.kinds)
    c.deref-2.ensures.value in
    let bound : map (option_map plain_kind) typed.kinds.items ≡ (select defs tree keys).value.kinds =
    ap (λ (x : Selected). x.kinds) c.in_ok-typed.ensures.value ∙ at_select ∙ at_keys in
    let s : State = c.self.invariant.state in
    let back = subst (λ (h : EngineModel). StandsFor h s) c.self.view_is c.self.invariant.stands in
    let clean = subst (λ (ds : List TableDef). (select ds tree keys).faults ≡ [])
    c.self.invariant.stands.fits.definitions (c.requires.clean s back) in
    let told : map Some (map plain_kind c.in_ok-known.known.items) ≡ (select defs tree keys).value.kinds =
    ap (map Some) c.in_ok-known.ensures
    ∙ ap (λ (ks : List (Option Kind)). map Some (flat_map listed (map (option_map plain_kind) ks)))
    c.deref-3.ensures.value
    ∙ ap (λ (ks : List (Option datum.Kind)). map Some (flat_map listed ks)) bound
    ∙ kinds_told defs tree keys clean in
    subst (λ (h : EngineModel). map Some (map plain_kind c.in_ok-known.known.items)
    ≡ (select (definitions_of h.tables) tree keys).value.kinds) c.self.view_is told
