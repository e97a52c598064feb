-- The faults of a piece of a script that do not depend on the statement in it.
use Rattle.std.specs.Prelude.{◌≡◌, ◌⊎◌, ◌≤◌, ◌<◌, ℕ, List, length, IsFalse, IsUtf8}
use Rattle.tql_spec.specs.Refusal.{Refusal, OutOfMemory, NotUtf8, UnfinishedStatement, StatementTooLong}
use Rattle.tql_spec.specs.Machine.{State, Refused}
use Rattle.tql_spec.specs.Answer.{Replied}
use Rattle.tql_spec.specs.Script.{Piece}
use Rattle.tql_spec.specs.Run.{Answering}
use Rattle.tql_splitter.specs.Pending.{room}

-- the first fault of a text that is not too long and has no closing `;`
abbrev pub IsCutFault : List ℕ → Refusal → Type 0
IsCutFault text e = ((e ≡ NotUtf8) × ¬ IsUtf8 text) ⊎ ((e ≡ UnfinishedStatement) × IsUtf8 text)

-- the first fault of a piece that is visible without parsing: it has too many bytes, or no closing `;`
abbrev pub HasFault : Piece → Refusal → Type 0
HasFault p e =
    ((e ≡ StatementTooLong) × (1_048_576 < length p.text))
    ⊎ ((length p.text ≤ 1_048_576) × IsFalse p.finished × IsCutFault p.text e)

-- the law: a piece with one of these faults is refused for it. A piece of more than 65,536 bytes may be refused for
-- lack of memory. The state does not change.
pub record RefusesFaults (A : Answering) : Type 0 where
  pub at_once : (s : State) (p : Piece) (e : Refusal) → HasFault p e → A s p (Replied (Refused e)) s
  pub for_memory : (s : State) (p : Piece) → room < length p.text → A s p (Replied (Refused OutOfMemory)) s
