-- Whole runs of scripts, seen at each point.
use Rattle.std.specs.Prelude.{◌≡◌, ◌↔◌, ◌≤◌, ◌&&◌, Bool, true, false, IsTrue, List, [], ◌∷◌, map, ℤ}
use Rattle.tql_spec.specs.Bag.{In}
use Rattle.tql_spec.specs.Refusal.{Refusal, place}
use Rattle.tql_spec.specs.Definition.{TableDef}
use Rattle.tql_spec.specs.Machine.{State, Bound, ChangeRows, Change, Reply, Refused, step}
use Rattle.tql_spec.specs.Script.{Piece}
use Rattle.tql_spec.specs.Syntax.{Statement}
use Rattle.tql_spec.specs.Binding.{bind}
use Rattle.tql_spec.specs.Run.{Sense, Says, Faulty, HasSense, Run, respond}
use Rattle.tql_points.specs.PointStatement.{statement_at}
use Rattle.tql_points.specs.Scope.{ArePointTables, is_in_scope}
use Rattle.tql_points.specs.RefusalLaw.{gives_periods}
use Rattle.tql_points.specs.PointMachine.{is_refused, after_all, AllTaken, beginning, point_beginning, SlicesAgree}

-- a statement in scope, or one with a fault in its text, names, kinds, forms or literals
abbrev pub IsSenseInScope : List TableDef → Sense → Type 0
IsSenseInScope defs (Faulty e) = Unit {0}
IsSenseInScope defs (Says t) = (bind defs t).faults ≡ [] → IsTrue (is_in_scope defs (bind defs t).value)

-- each piece is one of these statements
abbrev pub ArePiecesInScope : List TableDef → List Piece → Type 0
ArePiecesInScope defs pieces =
    (x : Piece) → In x pieces → (sense : Sense) → HasSense x sense → IsSenseInScope defs sense

-- the statement at the front of a list, unless it was refused, and a condition on the rest
abbrev pub IsFront : List TableDef → Piece → Bool → (List Bound → Type 0) → List Bound → Type 0
IsFront defs x true Rest bs = Rest bs
IsFront defs x false Rest bs =
    (t : Statement) × (more : List Bound) × HasSense x (Says t) × (bs ≡ (bind defs t).value ∷ more) × Rest more

-- the statements that were not refused, in order and bound
abbrev pub AreTaken : List TableDef → List Piece → List Reply → List Bound → Type 0
AreTaken defs [] [] bs = bs ≡ []
AreTaken defs (x ∷ xs) (r ∷ rs) bs = IsFront defs x (is_refused r) (AreTaken defs xs rs) bs
AreTaken defs _ _ bs = ⊥

-- the model of the point accepts all of `taken`, and its answers are the slices
pub record TakesAt (defs : List TableDef) (next horizon : ℤ) (taken : List Bound) (new : State) (p : ℤ) : Type 0 where
  pub all : AllTaken (point_beginning defs next horizon) (map (statement_at defs p) taken)
  pub slices : SlicesAgree defs p new (after_all (point_beginning defs next horizon) (map (statement_at defs p) taken))

-- the law: in a run over pieces in scope, each point accepts the statements that were not refused and answers with the
-- slices. Some answers of the run may be out of memory.
abbrev pub RunsReduce : Type 0
RunsReduce =
    (defs : List TableDef) (next horizon : ℤ) (pieces : List Piece) (replies : List Reply) (new : State)
    → ArePointTables defs → ArePiecesInScope defs pieces → Run (beginning defs next horizon) pieces replies new
    → (taken : List Bound) × AreTaken defs pieces replies taken × ((p : ℤ) → TakesAt defs next horizon taken new p)

-- ---- refusals

-- each INSERT gives rising periods
abbrev pub PiecesGivePeriods : List TableDef → List Piece → Type 0
PiecesGivePeriods defs pieces =
    (x : Piece) → In x pieces → (t : Statement) → HasSense x (Says t) → (bind defs t).faults ≡ []
    → IsTrue (gives_periods defs (bind defs t).value)

-- after the accepted statements, the model of the point refuses the change with this refusal
abbrev pub RefusesThen : List TableDef → (next horizon : ℤ) → List Bound → Change → ℤ → Refusal → Type 0
RefusesThen defs next horizon taken c p e =
    (step (after_all (point_beginning defs next horizon) (map (statement_at defs p) taken))
    (statement_at defs p (ChangeRows c))).0 ≡ Refused e

-- the model of some point does so, and none refuses earlier
pub record IsFirstThen (defs : List TableDef) (next horizon : ℤ) (taken : List Bound) (c : Change)
    (e : Refusal) : Type 0 where
  pub point : ℤ
  pub refused : RefusesThen defs next horizon taken c point e
  pub first : (p : ℤ) (f : Refusal) → RefusesThen defs next horizon taken c p f → place e ≤ place f

-- the law: after a run, a change in scope is refused exactly if the model of some point refuses it, with the first of
-- their refusals
abbrev pub RunRefusalsReduce : Type 0
RunRefusalsReduce =
    (defs : List TableDef) (next horizon : ℤ) (pieces : List Piece) (replies : List Reply) (new : State)
    → ArePointTables defs → ArePiecesInScope defs pieces → PiecesGivePeriods defs pieces
    → Run (beginning defs next horizon) pieces replies new
    → (taken : List Bound) × AreTaken defs pieces replies taken
    × ((t : Statement) (c : Change) (e : Refusal) → (bind defs t).faults ≡ [] → (bind defs t).value ≡ ChangeRows c
    → IsTrue (is_in_scope defs (ChangeRows c) && gives_periods defs (ChangeRows c))
    → ((respond new t).0 ≡ Refused e) ↔ IsFirstThen defs next horizon taken c e)
