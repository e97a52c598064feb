-- Which statements may take memory that is kept back, and how much of it.
use Rattle.std.specs.Prelude.{ℕ, Bool, true, false, IsFalse, List, Option, Some, None, min, if◌then◌else◌}
use Rattle.tql_spec.specs.Syntax.{Statement, CreateTree, DropTree, InsertValues, InsertSelect, UpdateTree, DeleteTree}
use Rattle.tql_spec.specs.Syntax.{CommitTree, RollbackTree, PruneTree, OpenTree, CloseTree}
use Rattle.tql_spec.specs.Run.{HasSense, Says, finished}

-- whether a statement may keep memory when it has ended: it adds rows, a table or a reader
abbrev pub keeps_memory : Statement → Bool
keeps_memory (CreateTree name first more is_versioned) = true
keeps_memory (InsertValues table columns first more) = true
keeps_memory (InsertSelect table columns select) = true
keeps_memory (UpdateTree table portion first more condition) = true
keeps_memory (DeleteTree table (Some portion) condition) = true
keeps_memory (OpenTree name) = true
keeps_memory _ = false

-- the bytes that DELETE may not take, since it keeps rows as history
abbrev pub last_bytes : ℕ
last_bytes = 65_536

-- those of them that queries may not take either; they are for statements that free memory
abbrev pub freeing_bytes : ℕ
freeing_bytes = 32_768

-- how many bytes of the reserve stay kept back from a statement that keeps no memory
abbrev pub stays_back : (reserve : ℕ) → Statement → ℕ
stays_back reserve (DropTree name) = 0
stays_back reserve (PruneTree moment) = 0
stays_back reserve (CloseTree name) = 0
stays_back reserve CommitTree = 0
stays_back reserve RollbackTree = 0
stays_back reserve (DeleteTree table portion condition) = min reserve last_bytes
stays_back reserve _ = min reserve freeing_bytes

-- how many bytes of the reserve stay kept back from a statement; nothing of it is lent to one that may keep memory
abbrev pub kept_from : (reserve : ℕ) → Statement → Option ℕ
kept_from reserve s = if keeps_memory s then None else Some (stays_back reserve s)

-- the text is a statement that keeps no memory
abbrev pub MayBorrow : (text : List ℕ) → Type 0
MayBorrow text = (s : Statement) × HasSense (finished text) (Says s) × IsFalse (keeps_memory s)
