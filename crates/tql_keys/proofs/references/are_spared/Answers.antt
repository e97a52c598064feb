use Rattle.std.proofs.Common.{◌≡◌, ◌<◌, ◌≤◌, ◌+◌, rules, tests, sym, ap, ◌∙◌, Bool, true, false, List, length, drop}
use Rattle.std.proofs.Common.{map}
use Rattle.std.specs.Prelude.{◌&&◌}
use Rattle.tql_spec.specs.Constraint.{shown_rows}
use Rattle.tql_catalog.specs.Definitions.{reference_of}
use Rattle.tql_expr.specs.Shown.{shown_by}
use Rattle.tql_expr.specs.declared.stored.StoredRow.{StoredRow}
use Rattle.tql_store.specs.Changes.{rows_after}
use Rattle.tql_keys.specs.Spared.{are_spared, is_first_spared}
use Rattle.tql_keys.proofs.InTurn.{first_left, none_left}
use Rattle.tql_keys.proofs.references.are_spared.Goals as goal

pub returns-then-not-spared : goal.returns-then-not-spared
returns-then-not-spared g c rows others gone of judged there =
    let d = c.args.parents.now.table.now.definition in
    let cd = c.args.children.now.table.now.definition in
    let f = reference_of c.args.reference.now in
    let ps = shown_rows d (rows_after c.args.change.now.moment gone c.args.change.now.added.now rows) in
    let cs = shown_rows cd others in
    let going = c.args.going.now in
    let i = c.loop-place.place in
    let F : List StoredRow → Bool = λ rs. are_spared cd d f ps cs (map shown_by rs) in
    let inside : i < length going = search rules in
    let met : c.in_ok-spared.spared ≡ is_first_spared cd d f ps cs (map shown_by (drop i going)) =
    c.in_ok-spared.ensures rows others gone of judged there in
    let left = first_left shown_by cd d f ps cs going i inside in
    let fails : c.in_ok-spared.spared ≡ false = search (rules, tests) in
    sym (sym (c.loop-place.invariant rows others gone of judged there) ∙ left
    ∙ ap (λ b. b && F (drop (i + 1) going)) (sym met ∙ fails))

pub loop-place-preserved : goal.loop-place-preserved
loop-place-preserved g c rows others gone of judged there =
    let d = c.args.parents.now.table.now.definition in
    let cd = c.args.children.now.table.now.definition in
    let f = reference_of c.args.reference.now in
    let ps = shown_rows d (rows_after c.args.change.now.moment gone c.args.change.now.added.now rows) in
    let cs = shown_rows cd others in
    let going = c.args.going.now in
    let i = c.loop-place.place in
    let F : List StoredRow → Bool = λ rs. are_spared cd d f ps cs (map shown_by rs) in
    let inside : i < length going = search rules in
    let met : c.in_ok-spared.spared ≡ is_first_spared cd d f ps cs (map shown_by (drop i going)) =
    c.in_ok-spared.ensures rows others gone of judged there in
    let left = first_left shown_by cd d f ps cs going i inside in
    let holds : c.in_ok-spared.spared ≡ true = search (rules, tests) in
    sym (left ∙ ap (λ b. b && F (drop (i + 1) going)) (sym met ∙ holds))
    ∙ c.loop-place.invariant rows others gone of judged there

pub returns : goal.returns
returns g c rows others gone of judged there =
    let d = c.args.parents.now.table.now.definition in
    let cd = c.args.children.now.table.now.definition in
    let f = reference_of c.args.reference.now in
    let ps = shown_rows d (rows_after c.args.change.now.moment gone c.args.change.now.added.now rows) in
    let cs = shown_rows cd others in
    let going = c.args.going.now in
    let i = c.loop-place.place in
    let F : List StoredRow → Bool = λ rs. are_spared cd d f ps cs (map shown_by rs) in
    let past : length going ≤ i = search rules in
    sym (none_left shown_by cd d f ps cs going i past) ∙ c.loop-place.invariant rows others gone of judged there
