use Rattle.std.proofs.Common.{◌++◌, ◌∷◌, [], ap, subst, List, ℕ, map, take, ◌<◌, length, rules, ◌∙◌}
use Rattle.std.proofs.lemmas.List.{take_all}
use Rattle.tql_spec.specs.Definition.{Reference}
use Rattle.tql_catalog.specs.Definitions.{reference_of}
use Rattle.tql_catalog.specs.declared.constraint.Reference.{Reference as Kept}
use Rattle.tql_plan_access.specs.Choices.{FindsSame}
use Rattle.tql_plan_access.proofs.OneColumn.{mapped_twice, next_lists}
use Rattle.tql_plan_access.proofs.singles.add_references.Goals as goal

pub loop-reference-preserved : goal.loop-reference-preserved
loop-reference-preserved c = λ lists same.
    let items : List Kept = c.references-reference-items.result.now in
    let i = c.loop-reference.reference-index in
    let inside : i < length items = search rules in
    let before = lists ++ map (λ (k : Kept). (reference_of k).columns) (take i items) in
    subst (λ (ls : List (List ℕ)). FindsSame ls c.add_single.new.found.items)
    (next_lists (λ (k : Kept). (reference_of k).columns) lists items i c.reference-item.result inside
    c.reference-item.is)
    (subst (λ (is : List ℕ). FindsSame (before ++ is ∷ []) c.add_single.new.found.items) c.deref.ensures.value
    (c.in_ok-add_single.ensures before (c.loop-reference.invariant lists same)))

pub returns : goal.returns
returns c = λ lists same.
    let items : List Kept = c.references-reference-items.result.now in
    let columns_of : Reference → List ℕ = λ p. p.columns in
    subst (λ (ls : List (List ℕ)). FindsSame (lists ++ ls) c.loop-reference.found.items)
    (ap (map (λ (k : Kept). (reference_of k).columns))
    (take_all c.loop-reference.reference-index items c.loop-reference-test.false)
    ∙ mapped_twice reference_of columns_of items ∙ ap (map columns_of) c.references-reference-items.ensures.references)
    (c.loop-reference.invariant lists same)
