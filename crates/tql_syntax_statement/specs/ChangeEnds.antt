-- The rest of an INSERT, UPDATE or DELETE after its first parts.
use Rattle.std.specs.Prelude.{List, [], Option, codes}
use Rattle.tql_spec.specs.Definition.{Name}
use Rattle.tql_spec.specs.Token.{Word}
use Rattle.tql_spec.specs.Syntax.{PortionTree, SetTree, Statement, InsertSelect, UpdateTree, DeleteTree}
use Rattle.tql_syntax_grammar.specs.Outcome.{Parser, ◌>>=◌, into, keyword, if_front, more, next}
use Rattle.tql_syntax_grammar.specs.ReadingStatements.{assignment_at, where_at, values_at, select_at}

-- UPDATE, after its assignments
unfoldable pub update_end : Name → Option PortionTree → SetTree → List SetTree → Parser Statement
update_end n p first others ts = into (UpdateTree n p first others) (where_at ts)

-- UPDATE, after its first assignment
unfoldable pub sets_end : Name → Option PortionTree → SetTree → Parser Statement
sets_end n p first ts = more (next assignment_at) [] ts >>= λ others a. update_end n p first others a

-- DELETE, after its table and its portion
unfoldable pub delete_end : Name → Option PortionTree → Parser Statement
delete_end n p ts = into (DeleteTree n p) (where_at ts)

-- INSERT, after its columns
unfoldable pub rows_at : Name → List Name → Parser Statement
rows_at n cs =
    if_front (Word (codes "VALUES")) (values_at n cs)
    (λ us. keyword (codes "SELECT") us >>= λ _ a. into (InsertSelect n cs) (select_at a))
