-- A single scan that reads only the rows of its access path: the same rows pass WHERE.
use Rattle.std.proofs.Common.{◌≡◌, ◌∙◌, ℕ, Bool, List, [], ◌∷◌, map, filter, subst}
use Rattle.std.specs.Prelude.{All, Option}
use Rattle.std.proofs.lemmas.List.Elements.{All-head}
use Rattle.tql_spec.specs.Bag.{SameBag}
use Rattle.tql_spec.specs.Datum.{Row}
use Rattle.tql_spec.specs.Definition.{System, Version}
use Rattle.tql_spec.specs.Expression.{Cond}
use Rattle.tql_spec.specs.History.{found}
use Rattle.tql_spec.specs.Query.{keep}
use Rattle.tql_spec.specs.QueryLaws.{JoinsKeepNoOrder, SameRows}
use Rattle.tql_spec.proofs.Bags.{same-filter, same-map}
use Rattle.tql_expr.specs.Generated.{generated}
use Rattle.tql_expr.specs.Meaning as terms
use Rattle.tql_plan_access.specs.Access.{IsRow, LookingIsEnough, Serves}
use Rattle.tql_plan_screen.specs.Screens.{is_admitted}
use Rattle.tql_exec_pairs.proofs.Regiven.{kept_same}
use Rattle.tql_plan.specs.Nodes.{Scan}
use Rattle.tql_plan.proofs.Sources.{values_all}
use Rattle.tql_store.specs.StoreModel.{StoreModel}
use Rattle.tql_store.specs.Represents.{Copies, Working, seen_by}
use Rattle.tql_store_index.specs.Basis.{Sought, is_looked_at}
use Rattle.tql_exec_read.specs.Filters.{asked, IsFilterFor}
use Rattle.tql_exec_read.specs.Found.{AreRows, bags_in, completed}
use Rattle.tql_exec_read.specs.declared.pushing.Filter.{Filter}

-- the versions of a scan in the reference model
abbrev pub versions_for : StoreModel → Copies → Working → Scan → List Version
versions_for h copies working s = found s.when (seen_by h.working copies working s.table)

-- the rows of these versions
pub rows_for : (h : StoreModel) (copies : Copies) (working : Working) (s : Scan)
    → AreRows (bags_in h copies working) (s ∷ [])
    → All (λ (v : Version). IsRow s.period s.width (completed s.system v)) (versions_for h copies working s)
rows_for h copies working s wide =
    values_all (IsRow s.period s.width) (completed s.system) (versions_for h copies working s)
    (All-head (λ (s : Scan). All (IsRow s.period s.width) (bags_in h copies working s)) s [] wide)

-- the versions read and all versions of the scan have the same rows that pass
pub looked_same : JoinsKeepNoOrder → LookingIsEnough → (h : StoreModel) (copies : Copies) (working : Working)
    → (s : Scan) (conds : List Cond) (o : Option Sought) → Serves s.system s.period s.width conds o
    → AreRows (bags_in h copies working) (s ∷ []) → (vs : List Version)
    → SameBag vs (filter (λ (v : Version). is_looked_at o v.row.cells) (versions_for h copies working s))
    → SameRows (keep conds (map (completed s.system) vs)) (keep conds (bags_in h copies working s))
looked_same no_order law h copies working s conds o serves wide vs same =
    let all : List Version = versions_for h copies working s in
    let seen : List Version = filter (λ (v : Version). is_looked_at o v.row.cells) all in
    subst (SameRows (keep conds (map (completed s.system) vs)))
    (law s.system s.period s.width conds o serves all (rows_for h copies working s wide))
    (kept_same no_order conds (map (completed s.system) vs) (map (completed s.system) seen)
    (same-map (completed s.system) same))

-- a filter gives of the versions read the rows that are wanted of versions with the same bag
pub filtered_same : JoinsKeepNoOrder → (system : Option System) (period : Option (ℕ × ℕ)) (width : ℕ)
    (conds : List Cond) (f : Filter) → IsFilterFor system period width conds f → (vs seen : List Version)
    (wanted : Option (List Row)) → SameBag vs seen → All (λ (v : Version). IsRow period width (completed system v)) seen
    → keep conds (map (completed system) seen) ≡ wanted → SameRows (asked f vs) wanted
filtered_same no_order system period width conds f is vs seen wanted same rows law =
    let shown : Version → Row = completed (generated f.system) in
    let admits : Version → Bool = λ v. is_admitted f.screen.now.tests v.row.cells in
    subst (SameRows (asked f vs)) (is seen rows ∙ law)
    (kept_same no_order (map (terms.cond f.terms.now) f.conjuncts.now) (map shown (filter admits vs))
    (map shown (filter admits seen)) (same-map shown (same-filter admits same)))
