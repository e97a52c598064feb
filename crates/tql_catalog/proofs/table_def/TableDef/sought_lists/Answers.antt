use Rattle.std.proofs.Common.{[], sym, subst}
use Rattle.std.specs.List.{AllZip}
use Rattle.tql_catalog.specs.Rows.{AreStoredAt}
use Rattle.tql_catalog.specs.Sought.{key_columns, lists_of}
use Rattle.tql_catalog.proofs.table_def.TableDef.sought_lists.Goals as goal

pub returns : goal.returns
returns c =
    let d = c.args.self.now in
    let none = subst (λ ls. AllZip (AreStoredAt d) [] (lists_of ls)) (sym c.new-lists.ensures.items) tt in
    c.in_ok-add_reference_lists.ensures (key_columns d) (c.in_ok-add_key_lists.ensures [] none)
