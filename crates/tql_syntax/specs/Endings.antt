-- Texts that end a transaction.
use Rattle.std.specs.Prelude.{ℕ, Bool, true, List, map, codes, Option, Some, None, if◌then◌else◌}
use Rattle.tql_spec.specs.Words.{same_text}
use Rattle.tql_spec.specs.Token.{upper}
use Rattle.tql_spec.specs.Syntax as tree
use Rattle.tql_spec.specs.Run.{IsTextOf}
use Rattle.tql_syntax.specs.declared.ending.TransactionEnd as code
use Rattle.tql_syntax.specs.declared.ending.TransactionEnd.TheVariants.{Commit, Rollback}

-- the statement that ends a transaction in this way
abbrev pub end_statement : code.TransactionEnd → tree.Statement
end_statement Commit = tree.CommitTree
end_statement Rollback = tree.RollbackTree

-- how the text ends a transaction, if it does
abbrev pub EndsText : List ℕ → Option code.TransactionEnd → Type 0
EndsText text (Some e) = IsTextOf text (end_statement e)
EndsText text None = (e : code.TransactionEnd) → IsTextOf text (end_statement e) → ⊥

-- how a statement of this word, in upper case, ends a transaction, if it does
abbrev pub end_of_word : List ℕ → Option code.TransactionEnd
end_of_word w =
    if same_text w (codes "COMMIT") then Some Commit
    else (if same_text w (codes "ROLLBACK") then Some Rollback else None)

-- whether there is no second word, or it is WORK
abbrev pub is_work : Option (List ℕ) → Bool
is_work None = true
is_work (Some w) = same_text (map upper w) (codes "WORK")
