use Rattle.std.proofs.Common.{◌∙◌, sym, subst, rules, w64, List}
use Rattle.std.proofs.Math.Facts.{to_z-of_z}
use Rattle.std.proofs.lemmas.List.Elements.{All-from_recursion}
use mir.Val.{SFits, of_z, to_z}
use Rattle.tql_spec.specs.Definition.{TableDef}
use Rattle.tql_spec.specs.Readers.{Limits}
use Rattle.tql_bind.specs.Limited.{bind_under}
use Rattle.tql_bind_table.specs.Binds.{Binds}
use Rattle.tql_bound.specs.Bounds.{bound_of}
use Rattle.tql_bound.specs.Readers.{names_of}
use Rattle.tql_catalog.specs.Tables.{definitions_of}
use Rattle.tql_syntax_tree.specs.Statements.{statement_of}
use Rattle.tql_engine_state.specs.Fitting.{IsNarrow}
use Rattle.tql_engine_state.specs.Stands.{EngineModel, StandsFor}
use Rattle.tql_engine_state.proofs.StateFaults.{names_same}
use Rattle.tql_engine_read.proofs.ReaderNames.{names_kept}
use Rattle.tql_engine_read.proofs.held.Held.bound.Goals as goal

pub bind-requires-clause-tables : goal.bind-requires-clause-tables
bind-requires-clause-tables g c =
    All-from_recursion IsNarrow (definitions_of c.self.inside.tables.now) c.self.invariant.stands.fits.narrow

pub returns-clause-binds : goal.returns-clause-binds
returns-clause-binds g c s st =
    let t = statement_of c.args.statement.now in
    let back = subst (λ (h : EngineModel). StandsFor h s) (sym c.self.view_is) st in
    let fits : SFits w64 c.horizon.result = search rules in
    let horizon = to_z-of_z fits ∙ c.horizon.ensures ∙ back.horizon in
    let names = names_kept c.self.inside.readers.now ∙ sym (names_same _ s back) in
    subst (λ (l : Limits). Binds bound_of (bind_under l s.definitions t) c.bind.result)
    (λ i. record { horizon = horizon i; names = names i })
    (subst (λ (ds : List TableDef). Binds bound_of (bind_under (record {
      horizon = to_z w64 (of_z w64 c.horizon.result);
      names = names_of c.self.inside.readers.now;
    }) ds t) c.bind.result) (sym back.fits.definitions) c.bind.ensures.binds)
