use Rattle.std.proofs.Common.{List, rules, arith, sym, subst, ◌∙◌}
use Rattle.std.proofs.lemmas.Grind.{common_steps}
use Rattle.std.proofs.lemmas.List.{with_items_is}
use Rattle.tql_store_rows.specs.TableModel.{TableModel}
use Rattle.tql_store.proofs.Putting.{push-put}
use Rattle.tql_store.specs.Orderly.{IsPut}
use Rattle.tql_store.proofs.turns.put_rows.Goals as goal

pub returns-then-number-len-clause-put : goal.returns-then-number-len-clause-put
returns-then-number-len-clause-put g c =
    subst (λ (rows : List TableModel). IsPut c.args.number c.args.new c.args.rows.now.items rows)
    (sym (with_items_is c.args.rows.now c.set_rows.new.rows (c.set_rows.ensures.len ∙ c.deref_mut.ensures.len)))
    (subst (λ (rows : List TableModel). IsPut c.args.number c.args.new rows c.set_rows.new.rows)
    c.deref_mut.ensures.value c.set_rows.ensures.put)

pub returns-else-number-len-clause-put : goal.returns-else-number-len-clause-put
returns-else-number-len-clause-put g c =
    push-put c.args.number c.args.new c.args.rows.now.items c.push_reserved.new.self.items
    (first_of (search rules, grind (arith, common_steps))) c.push_reserved.ensures.items
