use Rattle.std.proofs.Common.{◌≡◌, ◌<◌, ◌∙◌, true, rules, ap, sym, subst, length, List, ℕ}
use Rattle.std.specs.Prelude.{Option, Some}
use Rattle.tql_spec.specs.Definition.{Key}
use Rattle.tql_catalog.specs.Definitions.{key_of}
use Rattle.tql_plan_access.specs.Access.{are_marked}
use Rattle.tql_plan_access.proofs.GivenLists.{first_here}
use Rattle.tql_plan_access.proofs.given.marked_key.Goals as goal

pub returns-then-are_marked-clause-columns : goal.returns-then-are_marked-clause-columns
returns-then-are_marked-clause-columns c =
    let marks = c.args.marks.now in
    let items = c.keys-key-items.result.now in
    let i = c.loop-key.key-index in
    let inside : i < length items = search rules in
    let listed : Key → List ℕ = λ p. p.columns in
    let given : are_marked marks (listed (key_of c.key-item.result)) ≡ true =
    subst (λ is. are_marked marks is ≡ true) c.deref.ensures.value (sym c.if-are_marked.ensures) in
    ap {B = Option (List ℕ)} (λ l. Some l) c.deref-then-are_marked.ensures.value
    ∙ sym (first_here (are_marked marks) key_of listed items i c.key-item.result inside c.key-item.is given)
    ∙ c.loop-key.invariant
