use Rattle.std.proofs.Common.{◌++◌, ◌∷◌, [], ap, subst, List, ℕ, map, take, ◌<◌, length, rules, ◌∙◌}
use Rattle.std.proofs.lemmas.List.{take_all}
use Rattle.tql_spec.specs.Definition.{Key}
use Rattle.tql_catalog.specs.Definitions.{key_of}
use Rattle.tql_catalog.specs.declared.constraint.Key.{Key as Kept}
use Rattle.tql_plan_access.specs.Choices.{FindsSame}
use Rattle.tql_plan_access.proofs.OneColumn.{mapped_twice, next_lists}
use Rattle.tql_plan_access.proofs.singles.add_keys.Goals as goal

pub loop-key-preserved : goal.loop-key-preserved
loop-key-preserved c = λ lists same.
    let items : List Kept = c.keys-key-items.result.now in
    let i = c.loop-key.key-index in
    let inside : i < length items = search rules in
    let before = lists ++ map (λ (k : Kept). (key_of k).columns) (take i items) in
    subst (λ (ls : List (List ℕ)). FindsSame ls c.add_single.new.found.items)
    (next_lists (λ (k : Kept). (key_of k).columns) lists items i c.key-item.result inside c.key-item.is)
    (subst (λ (is : List ℕ). FindsSame (before ++ is ∷ []) c.add_single.new.found.items) c.deref.ensures.value
    (c.in_ok-add_single.ensures before (c.loop-key.invariant lists same)))

pub returns-clause-finds : goal.returns-clause-finds
returns-clause-finds c = λ lists same.
    let items : List Kept = c.keys-key-items.result.now in
    let columns_of : Key → List ℕ = λ p. p.columns in
    subst (λ (ls : List (List ℕ)). FindsSame (lists ++ ls) c.loop-key.found.items)
    (ap (map (λ (k : Kept). (key_of k).columns)) (take_all c.loop-key.key-index items c.loop-key-test.false)
    ∙ mapped_twice key_of columns_of items ∙ ap (map columns_of) c.keys-key-items.ensures.keys)
    (c.loop-key.invariant lists same)
