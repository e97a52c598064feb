use Rattle.std.proofs.Common.{◌≡◌, ◌∙◌, ap, sym, Some, None, ℕ}
use Rattle.std.specs.Prelude.{option_map, Option}
use Rattle.tql_spec.specs.Binding.{generated_columns}
use Rattle.tql_spec.specs.Creation.{has_expr, has_number, uses_column}
use Rattle.tql_spec.specs.Definition.{TableDef, System}
use Rattle.tql_expr.specs.Meaning.{cond}
use Rattle.tql_catalog.specs.Definitions.{system_of}
use Rattle.tql_catalog.proofs.table_def.TableDef.uses_generated.Goals as goal

pub returns-in-Some : goal.returns-in-Some
returns-in-Some c =
    let is : Some (system_of c.in-Some.system) ≡ c.args.self.now.system =
    sym (ap (option_map system_of) c.in-Some.is) ∙ ap (λ (t : TableDef). t.system) c.self.view_is in
    c.finds_in.ensures ∙ ap (λ (o : Option System). has_expr
    (uses_column (λ (i : ℕ). has_number i (generated_columns o))) (cond c.args.terms.now c.args.check)) is

pub returns-in-None : goal.returns-in-None
returns-in-None c =
    let is : None ≡ c.args.self.now.system =
    sym (ap (option_map system_of) c.in-None.is) ∙ ap (λ (t : TableDef). t.system) c.self.view_is in
    c.finds_in-in-None.ensures ∙ ap (λ (o : Option System). has_expr
    (uses_column (λ (i : ℕ). has_number i (generated_columns o))) (cond c.args.terms.now c.args.check)) is
