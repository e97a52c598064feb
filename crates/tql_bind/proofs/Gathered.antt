-- Statements that are bound with their faults collected.
use Rattle.std.proofs.Common.{◌≡◌, refl, ap, sym, ◌∙◌, List, Option, Some, None, ℕ, ◌++◌}
use Rattle.std.specs.Prelude.{is_none, unwrap_or}
use Rattle.tql_spec.specs.Refusal as spec
use Rattle.tql_spec.specs.Refusal.{TableIsReferenced, TableUnknownOrAlreadyThere, fault_if, first}
use Rattle.tql_spec.specs.Binding.{bind, is_referenced, or_no_table}
use Rattle.tql_spec.specs.Definition.{Name, TableDef, place_of}
use Rattle.tql_spec.specs.Machine.{DropTable}
use Rattle.tql_spec.specs.Names.{refuse_for}
use Rattle.tql_spec.specs.Syntax.{DropTree}
use Rattle.tql_spec.specs.Words.{listed}
use Rattle.tql_spec.proofs.FirstFaults.{first_append, sooner}
use Rattle.tql_catalog.specs.Tables.{drop_faults}
use Rattle.tql_bind_expr.specs.Gathered.{after, Gathers}

first_listed : (o : Option spec.Refusal) → first (listed o) ≡ o
first_listed None = refl
first_listed (Some e) = refl

-- the first of some faults represents them all
after_first : (o : Option spec.Refusal) (faults : List spec.Refusal) → after o (listed (first faults)) ≡ after o faults
unfolding after
after_first o faults =
    first_append (listed o) (listed (first faults))
    ∙ ap (sooner (first (listed o))) (first_listed (first faults)) ∙ sym (first_append (listed o) faults)

no_table_faults : (o : Option ℕ) → (or_no_table o).faults ≡ fault_if (is_none o) TableUnknownOrAlreadyThere
no_table_faults None = refl
no_table_faults (Some t) = refl

no_table_place : (o : Option ℕ) → unwrap_or o 0 ≡ (or_no_table o).value
no_table_place None = refl
no_table_place (Some t) = refl

-- DROP TABLE
pub drop_bound : (defs : List TableDef) (n : Name) (old new fault : Option spec.Refusal) (t : ℕ)
    → t ≡ unwrap_or (place_of n defs) 0 → fault ≡ first (drop_faults defs n)
    → Gathers (refuse_for (listed fault)) old new tt → Gathers (bind defs (DropTree n)) old new (DropTable t)
drop_bound defs n old new fault t place asked refused = record {
  value = ap DropTable (place ∙ no_table_place (place_of n defs));
  least =
      refused.least ∙ ap (λ (o : Option spec.Refusal). after old (listed o)) asked
      ∙ after_first old (drop_faults defs n)
      ∙ ap (λ (es : List spec.Refusal). after old (es ++ fault_if (is_referenced n defs) TableIsReferenced))
      (sym (no_table_faults (place_of n defs)));
}
