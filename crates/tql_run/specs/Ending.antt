-- Statements that end a transaction, given their texts, and their answers, also within a script.
use Rattle.std.specs.Prelude.{◌≡◌, ◌⊎◌, ◌≤◌, ℕ, List, [], ◌∷◌, None, IsTrue, length, ⊤}
use Rattle.tql_spec.specs.Answer.{Answer, Replied, Accepted}
use Rattle.tql_spec.specs.Machine.{State, Reply, Done, Refused, Committed, RolledBack}
use Rattle.tql_spec.specs.Refusal.{NotInThisTransactionState}
use Rattle.tql_spec.specs.Run.{Answering, Answers, HasSense, Says, finished}
use Rattle.tql_spec.specs.Script.{Piece}
use Rattle.tql_spec.specs.Syntax.{CommitTree, RollbackTree}

-- the finished text is a COMMIT or a ROLLBACK
abbrev pub EndsTransaction : List ℕ → Type 0
EndsTransaction text = HasSense (finished text) (Says CommitTree) ⊎ HasSense (finished text) (Says RollbackTree)

-- it is executed, or refused because no transaction is open
abbrev pub IsEnded : Reply → Type 0
IsEnded reply =
    (reply ≡ Done Committed None) ⊎ ((reply ≡ Done RolledBack None) ⊎ (reply ≡ Refused NotInThisTransactionState))

-- a COMMIT or a ROLLBACK of at most 65,536 bytes in a script has one of these replies: a run allocates no memory for it
abbrev pub EndsSurely : Piece → Reply → Type 0
EndsSurely p reply = IsTrue p.finished → length p.text ≤ 65_536 → EndsTransaction p.text → IsEnded reply

-- the same for each of these pieces and its reply
abbrev pub AllEndSurely : List Piece → List Reply → Type 0
AllEndSurely [] [] = ⊤
AllEndSurely (p ∷ ps) (r ∷ rs) = EndsSurely p r × AllEndSurely ps rs
AllEndSurely [] (r ∷ rs) = ⊥
AllEndSurely (p ∷ ps) [] = ⊥

-- the answers of the engine to a piece: the reply of the reference model, or out of memory, but never for COMMIT and
-- ROLLBACK
abbrev pub Responds : Answering
Responds old p (Replied reply) new = Answers old p reply new × EndsSurely p reply
Responds old p Accepted new = ⊥
