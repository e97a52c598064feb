-- An engine that does a step of the reference model stays sound, since the step keeps the types of values. What a
-- change reads has the types of its table.
use Rattle.std.proofs.Common.{◌≡◌, refl, sym, ap, subst, ◌∙◌, ℕ, Bool, List, [], ◌∷◌, Option, Some, None}
use Rattle.std.proofs.Common.{inl, inr}
use Rattle.std.specs.Prelude.{ℤ, slice_get}
use Rattle.std.specs.List.{AllByRecursion}
use Rattle.std.proofs.lemmas.List.Elements.{All-from_recursion}
use Rattle.tql_spec.specs.Bag.{In}
use Rattle.tql_spec.specs.Creation.{kinds_of}
use Rattle.tql_spec.specs.Datum.{Row}
use Rattle.tql_spec.specs.Definition.{Stamped, TableDef, shown, table_at}
use Rattle.tql_spec.specs.History.{Entry}
use Rattle.tql_spec.specs.Machine.{State, Bound, DropTable, Reply, step}
use Rattle.tql_spec.specs.Typing.{AreOfKinds, IsTyped, IsTypedDefinition, IsTypedState}
use Rattle.tql_spec.specs.TypingLaws.{IsTypedBound, IsTypedChange, IsTypedWork}
use Rattle.tql_spec.proofs.KindRuns.{steps_keep}
use Rattle.tql_spec.proofs.MemberLists.{in_kept}
use Rattle.tql_bound.specs.Changes.{modification_of}
use Rattle.tql_bound.specs.declared.change.Modification.{Modification}
use Rattle.tql_catalog.specs.Tables.{definitions_of}
use Rattle.tql_catalog.specs.declared.catalog.Table.{Table}
use Rattle.tql_dml.specs.Alters as dml
use Rattle.tql_dml.specs.Alters.{AreTyped, portion_in, work_in}
use Rattle.tql_versions.specs.Readings.{version_shown as version_of}
use Rattle.tql_versions.specs.declared.version.Version as code
use Rattle.tql_engine_state.specs.Effects.{Does}
use Rattle.tql_engine_state.specs.Stands.{EngineModel, StandsFor, IsSound}
use Rattle.tql_engine_state.proofs.ChangeKeeps.{working_rows}
use Rattle.tql_engine_state.proofs.Doing.{none_there}
use Rattle.tql_engine_state.proofs.Holding.{steps_hold}
use Rattle.tql_engine_state.specs.Dropping.{IsDropped}
use Rattle.tql_engine_state.proofs.Looking.{IsSeen, seen_rows}
use Rattle.tql_engine_state.proofs.Standing.{definition_law}
use Rattle.tql_engine_state.proofs.Swapping.{member_of_same}

-- ---- steps

pub sound_after : (old new : EngineModel) (sound : IsSound old) (b : Bound) (reply : Reply)
    → IsTypedBound (definitions_of old.tables) b
    → ((t : ℕ) → b ≡ DropTable t → IsDropped (definitions_of old.tables) t)
    → Does new reply (step sound.state b) → IsSound new
sound_after old new sound b reply bound dropped does =
    let same = sym sound.stands.fits.definitions in
    record {
      state = (step sound.state b).1;
      stands = does.stands;
      typed = steps_keep.steps sound.state b sound.typed (subst (λ (ds : List TableDef). IsTypedBound ds b) same bound);
      holds = steps_hold sound.state b
          (λ t e. subst (λ (ds : List TableDef). IsDropped ds t) same (dropped t e)) sound.holds;
    }

-- ---- what a change reads

-- the rows of the working copy
pub working_typed : (base : State) (defs : List TableDef) (es : List Entry) (next : ℤ) (o : Option Entry)
    → (let s : State = record base { definitions = defs; history = es; next = next; transaction = o } in
    IsTypedState s → (t : ℕ) (r : Stamped) → In r (working_rows s t) → IsTyped (table_at defs t) r)
working_typed base defs es next (Some e) typed t r m = typed.rows e (inl refl) t r m
working_typed base defs [] next None typed t r m = absurd (subst (In r) (none_there defs t) m)
working_typed base defs (e ∷ older) next None typed t r m = typed.rows e (inl refl) t r m

-- the rows of the versions that were read
each_typed : (d : TableDef) (found : List code.Version) → ((r : Stamped) → In r (dml.rows_in found) → IsTyped d r)
    → AllByRecursion (λ (v : code.Version). AreOfKinds (kinds_of d) (shown d (version_of v).row)) found
each_typed d [] h = tt
each_typed d (v ∷ vs) h = (h (version_of v).row (inl refl), each_typed d vs (λ r m. h r (inr m)))

pub read_typed : (h : EngineModel) (s : State) (p : Table) (x : Modification) (looks : Row → Bool)
    (seen : List code.Version)
    → StandsFor h s
    → IsTypedState s
    → IsTypedChange (definitions_of h.tables) (modification_of x) → slice_get h.tables x.table ≡ Some p
    → IsSeen h p looks seen
    → AreTyped p.definition seen x
read_typed h s p x looks seen st typed bound there answers portion =
    let here : table_at s.definitions x.table ≡ p.definition = definition_law h s x.table p st there in
    let work : IsTypedWork (table_at (definitions_of h.tables) x.table) (portion_in x) (work_in x) = bound in
    let same : table_at (definitions_of h.tables) x.table ≡ p.definition =
    ap (λ (ds : List TableDef). table_at ds x.table) (sym st.fits.definitions) ∙ here in
    let rows : (r : Stamped) → In r (dml.rows_in seen) → IsTyped p.definition r = λ r m.
    subst (λ (d : TableDef). IsTyped d r) here
    (working_typed s s.definitions s.history s.next s.transaction typed x.table r
    (in_kept (λ (y : Stamped). looks y.cells) r (working_rows s x.table)
    (member_of_same r (seen_rows h s x.table p looks seen st there answers) m)).0) in
    record {
      definition = subst IsTypedDefinition here (typed.definitions x.table);
      gives = subst (λ (d : TableDef). IsTypedWork d (portion_in x) (work_in x)) same work;
      rows = All-from_recursion
          (λ (v : code.Version). AreOfKinds (kinds_of p.definition) (shown p.definition (version_of v).row)) seen
          (each_typed p.definition seen rows);
    }
