-- From the bound query, or the fault of its binding, to the result for its columns.
use Rattle.std.proofs.Common.{[], ◌≡◌, sym, ap, subst, ◌∙◌, ◌++◌, ℕ, List, map, true, inl, inr}
use Rattle.std.specs.Prelude.{Option, Some, None, Result, Ok, Err, Vec}
use Rattle.tql_spec.specs.Binding.{bind, select}
use Rattle.tql_spec.specs.Definition.{TableDef}
use Rattle.tql_spec.specs.Machine as machine
use Rattle.tql_spec.specs.Machine.{State, limits_of}
use Rattle.tql_spec.specs.Refusal.{first}
use Rattle.tql_spec.specs.Run.{HasSense, Says, finished, statement_faults}
use Rattle.tql_spec.specs.Syntax.{OrderTree, SelectTree, Statement}
use Rattle.tql_spec.proofs.FirstFaults.{none_first}
use Rattle.tql_spec.proofs.RunKeeps.{no_left}
use Rattle.tql_bind.proofs.Limited.{names_clean}
use Rattle.tql_bind_table.specs.Binds.{Binds}
use Rattle.tql_catalog.specs.Tables.{definitions_of}
use Rattle.tql_value.specs.Refusals.{refusal_of}
use Rattle.tql_value.specs.Views.{plain_kind}
use Rattle.tql_value.specs.declared.refusal.Refusal.{Refusal}
use Rattle.tql_value.specs.declared.refusal.Refusal.TheVariants as r
use Rattle.tql_value.specs.declared.value.Kind.{Kind}
use Rattle.tql_engine_read.specs.ColumnKinds.{HasKinds, IsBound, IsRefused, IsRefusedFor, IsTextRefused, TellsKinds}
use Rattle.tql_engine_read.specs.ColumnKinds.{Asks, TextTellsKinds, is_query}
use Rattle.tql_engine_read.specs.Sense.{ReadsAs}
use Rattle.tql_engine_state.specs.Stands.{EngineModel, StandsFor}
use Rattle.tql_engine_read.proofs.Joining.{bound_here}

-- the faults of a query are those of its binding
asked_faults : (s : State) (t : Statement) (tree : SelectTree) (keys : List OrderTree) → Asks t tree keys
    → first (statement_faults s t) ≡ first (bound_here s t).faults
asked_faults s t tree keys (inl is) =
    ap (λ (x : Statement). first (statement_faults s x)) is
    ∙ ap (λ (x : Statement). first (bound_here s x).faults) (sym is)
asked_faults s t tree keys (inr (n, is)) =
    ap (λ (x : Statement). first (statement_faults s x)) is
    ∙ ap (λ (x : Statement). first (bound_here s x).faults) (sym is)

pub query_told : (h : EngineModel) (s : State) (t : Statement) (tree : SelectTree) (keys : List OrderTree)
    (kinds : List Kind) → StandsFor h s → Asks t tree keys → first (bound_here s t).faults ≡ None
    → map Some (map plain_kind kinds) ≡ (select (definitions_of h.tables) tree keys).value.kinds
    → HasKinds s t (map plain_kind kinds)
query_told h s t tree keys kinds st is none told = record {
  tree = tree;
  keys = keys;
  is = is;
  clean = asked_faults s t tree keys is ∙ none;
  kinds =
      told ∙ ap (λ (ds : List TableDef). (select ds tree keys).value.kinds) (sym st.fits.definitions);
}

query_refused : (s : State) (t : Statement) (tree : SelectTree) (keys : List OrderTree) (e : Refusal)
    → Asks t tree keys → first (bound_here s t).faults ≡ Some (refusal_of e) → IsRefusedFor s t (refusal_of e)
query_refused s t tree keys e is fault = record {
  query = asked is;
  fault = asked_faults s t tree keys is ∙ fault;
}
  where
    asked : Asks t tree keys → is_query t ≡ true
    asked (inl k) = ap is_query k
    asked (inr (n, k)) = ap is_query k

-- a refusal by the binding is that of the statement
pub binding_says : {A : Type 0} (view : A → machine.Bound) (s : State) (t : Statement) (e : Refusal)
    → Binds view (bound_here s t) (Err e) → IsBound s t (Err e)
binding_says view s t r.OutOfMemory binds = tt
binding_says view s t e binds = binds

-- a query that is refused by its binding
pub binding_refused : (s : State) (t : Statement) (tree : SelectTree) (keys : List OrderTree) (e : Refusal)
    → Asks t tree keys → IsBound s t (Err e) → IsRefused s t e
binding_refused s t tree keys r.OutOfMemory is fault = tt
binding_refused s t tree keys e is fault = query_refused s t tree keys e is fault

-- a query that is bound has no fault of names
pub query_clean : (s : State) (t : Statement) (tree : SelectTree) (keys : List OrderTree) → Asks t tree keys
    → first (bound_here s t).faults ≡ None → (select s.definitions tree keys).faults ≡ []
query_clean s t tree keys is none = no_left (select s.definitions tree keys).faults [] (query is)
  where
    clean : (bind s.definitions t).faults ≡ []
    clean = none_first (bind s.definitions t).faults (names_clean (limits_of s) s.definitions t none)

    query : Asks t tree keys → (select s.definitions tree keys).faults ++ [] ≡ []
    query (inl k) = subst (λ (x : Statement). (bind s.definitions x).faults ≡ []) k clean
    query (inr (n, k)) = subst (λ (x : Statement). (bind s.definitions x).faults ≡ []) k clean

-- ---- texts

says_refused : (s : State) (text : List ℕ) (t : Statement) (e : Refusal) → HasSense (finished text) (Says t)
    → IsRefused s t e → IsTextRefused s text e
says_refused s text t r.OutOfMemory sense refused = tt
says_refused s text t e sense refused = inl (t, sense, refused)

-- the result for the statement of a text
pub says_kinds : {B : Type 0} (s : State) (text : List ℕ) (t : Statement)
    (result : Result (Option (Vec Kind B)) Refusal)
    → HasSense (finished text) (Says t) → TellsKinds s t result → TextTellsKinds s text result
says_kinds s text t (Ok kinds) sense tells = (t, sense, tells)
says_kinds s text t (Err e) sense tells = says_refused s text t e sense tells

-- a text that is no statement
pub unread_kinds : (s : State) (text : List ℕ) (e : Refusal) → ReadsAs text (Err e) → IsTextRefused s text e
unread_kinds s text r.OutOfMemory reads = tt
unread_kinds s text e reads = inr reads
