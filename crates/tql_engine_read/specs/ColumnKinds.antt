-- The kinds of the columns that a query answers, known before it runs.
use Rattle.std.specs.Prelude.{◌≡◌, ◌⊎◌, ℕ, Bool, true, false, List, map, Option, Some, None, Result, Ok, Err, ⊤, Vec}
use Rattle.tql_spec.specs.Binding.{select}
use Rattle.tql_spec.specs.Datum as datum
use Rattle.tql_spec.specs.Definition.{Name}
use Rattle.tql_spec.specs.Machine.{State, limits_of}
use Rattle.tql_spec.specs.Refusal as spec
use Rattle.tql_spec.specs.Refusal.{first}
use Rattle.tql_spec.specs.Run.{Faulty, HasSense, Says, finished, statement_faults}
use Rattle.tql_spec.specs.Syntax.{OrderTree, QueryTree, ReadTree, SelectTree, Statement}
use Rattle.tql_bind.specs.Limited.{bind_under}
use Rattle.tql_value.specs.Refusals.{refusal_of}
use Rattle.tql_value.specs.Views.{plain_kind}
use Rattle.tql_value.specs.declared.refusal.Refusal.{Refusal}
use Rattle.tql_value.specs.declared.refusal.Refusal.TheVariants.{OutOfMemory}
use Rattle.tql_value.specs.declared.value.Kind.{Kind}

-- whether a statement is a query or a READ
abbrev pub is_query : Statement → Bool
is_query (QueryTree s keys) = true
is_query (ReadTree n s keys) = true
is_query _ = false

-- the statement is this query, or a READ of it
abbrev pub Asks : Statement → SelectTree → List OrderTree → Type 0
Asks t tree keys = (t ≡ QueryTree tree keys) ⊎ ((n : Name) × (t ≡ ReadTree n tree keys))

-- the statement is a query without a fault, and its output columns are of these kinds
pub record HasKinds (s : State) (t : Statement) (told : List datum.Kind) : Type 0 where
  pub tree : SelectTree
  pub keys : List OrderTree
  pub is : Asks t tree keys
  pub clean : first (statement_faults s t) ≡ None
  pub kinds : map Some told ≡ (select s.definitions tree keys).value.kinds

-- the statement is a query, and this is the first of its faults
pub record IsRefusedFor (s : State) (t : Statement) (e : spec.Refusal) : Type 0 where
  pub query : is_query t ≡ true
  pub fault : first (statement_faults s t) ≡ Some e

-- no fault of names, kinds, forms and literals, of the horizon or of open readers; or the first of these
abbrev pub IsBound : State → Statement → Result (Unit {0}) Refusal → Type 0
IsBound s t (Ok u) = first (bind_under (limits_of s) s.definitions t).faults ≡ None
IsBound s t (Err OutOfMemory) = ⊤
IsBound s t (Err e) = first (bind_under (limits_of s) s.definitions t).faults ≡ Some (refusal_of e)

-- a query is refused for the first of its faults, or for memory
abbrev pub IsRefused : State → Statement → Refusal → Type 0
IsRefused s t OutOfMemory = ⊤
IsRefused s t e = IsRefusedFor s t (refusal_of e)

-- the result for a statement: the kinds of a query's columns, none for another statement, or a query's first fault
abbrev pub TellsKinds : {B : Type 0} → State → Statement → Result (Option (Vec Kind B)) Refusal → Type 0
TellsKinds s t (Ok (Some kinds)) = HasKinds s t (map plain_kind kinds.items)
TellsKinds s t (Ok None) = is_query t ≡ false
TellsKinds s t (Err e) = IsRefused s t e

-- a text is refused for a fault of its query, for a fault of the text, or for memory
abbrev pub IsTextRefused : State → List ℕ → Refusal → Type 0
IsTextRefused s text OutOfMemory = ⊤
IsTextRefused s text e =
    ((t : Statement) × HasSense (finished text) (Says t) × IsRefusedFor s t (refusal_of e))
    ⊎ HasSense (finished text) (Faulty (refusal_of e))

-- the result for a text: that of its statement, or the refusal
abbrev pub TextTellsKinds : {B : Type 0} → State → List ℕ → Result (Option (Vec Kind B)) Refusal → Type 0
TextTellsKinds s text (Ok kinds) = (t : Statement) × HasSense (finished text) (Says t) × TellsKinds s t (Ok kinds)
TextTellsKinds s text (Err e) = IsTextRefused s text e
