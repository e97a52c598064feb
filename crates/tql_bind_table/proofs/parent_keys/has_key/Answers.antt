-- The lists of the sort that is asked for have the columns that the table declares.
use Rattle.std.proofs.Common.{◌∙◌, List, ap, subst, sym}
use Rattle.std.specs.List.{list_any}
use Rattle.tql_spec.specs.Creation.{is_declared_key}
use Rattle.tql_bind_table.specs.KeyLists.{AreRising}
use Rattle.tql_bind_table.specs.declared.parent_keys.KeyList.{KeyList}
use Rattle.tql_bind_table.proofs.KeyListLaws.{is_list}
use Rattle.tql_bind_table.proofs.parent_keys.has_key.Goals as goal

pub is_listed-requires : goal.is_listed-requires
is_listed-requires c =
    subst (λ (ls : List KeyList). AreRising ls) (sym c.deref.ensures.value) c.requires.by_period.rise

pub is_listed-requires-else-by_period : goal.is_listed-requires-else-by_period
is_listed-requires-else-by_period c =
    subst (λ (ls : List KeyList). AreRising ls) (sym c.deref-else-by_period.ensures.value) c.requires.plain.rise

pub returns-then-by_period : goal.returns-then-by_period
returns-then-by_period c =
    let is = c.args.columns.now in
    c.is_listed.ensures
    ∙ ap (λ (ls : List KeyList). list_any (is_list is) ls) c.deref.ensures.value
    ∙ c.requires.by_period.declared is
    ∙ ap (λ b. is_declared_key c.args.parent.now.definition.now b is) (sym c.if-by_period.true)

pub returns-else-by_period : goal.returns-else-by_period
returns-else-by_period c =
    let is = c.args.columns.now in
    c.is_listed-else-by_period.ensures
    ∙ ap (λ (ls : List KeyList). list_any (is_list is) ls) c.deref-else-by_period.ensures.value
    ∙ c.requires.plain.declared is
    ∙ ap (λ b. is_declared_key c.args.parent.now.definition.now b is) (sym c.if-by_period.false)
