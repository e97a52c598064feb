-- A script has one meaning: each piece has one sense, and runs agree. tql_syntax_grammar has the proofs, for the whole
-- grammar.
use Rattle.std.specs.Prelude.{◌≡◌, List}
use Rattle.tql_spec.specs.Bag.{In}
use Rattle.tql_spec.specs.Refusal.{OutOfMemory}
use Rattle.tql_spec.specs.Machine.{State, Reply, Refused}
use Rattle.tql_spec.specs.Script.{Piece}
use Rattle.tql_spec.specs.Run.{Sense, HasSense, Run}

-- the law: a piece has at most one sense, a statement or its first fault
abbrev pub SensesAreOne : Type 0
SensesAreOne = (p : Piece) (a b : Sense) → HasSense p a → HasSense p b → a ≡ b

-- no reply is a refusal for lack of memory
abbrev pub NoneOutOfMemory : List Reply → Type 0
NoneOutOfMemory replies = (r : Reply) → In r replies → r ≡ Refused OutOfMemory → ⊥

-- the law: two runs from one state over the same pieces, neither out of memory, have the same replies and final state
abbrev pub RunsAgree : Type 0
RunsAgree = (old new new' : State) (pieces : List Piece) (replies replies' : List Reply)
    → Run old pieces replies new → Run old pieces replies' new' → NoneOutOfMemory replies → NoneOutOfMemory replies'
    → (replies ≡ replies') × (new ≡ new')
