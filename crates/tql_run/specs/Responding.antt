-- Responders, which answer the statements of a script.
use Rattle.tql_spec.specs.Machine.{State}
use Rattle.tql_spec.specs.Script.{Piece}

-- the states of the reference model that a responder may represent
abbrev pub Standing : Type 1
Standing = State → Type 0

-- the answer to the piece satisfies this relation, and the responder represents the state after it
pub record Answered {R : Type 0} (A : State → Piece → R → State
    → Type 0) (s : State) (p : Piece) (answer : R) (after : Standing) : Type 0 where
  pub state : State
  pub answers : A s p answer state
  pub stands : after state
