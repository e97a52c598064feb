-- The rest of a select after its first parts.
use Rattle.std.specs.Prelude.{Bool, List, []}
use Rattle.tql_spec.specs.Syntax.{Items, ChainTree, SelectTree}
use Rattle.tql_syntax_grammar.specs.Outcome.{Parser, ◌>>=◌, more, next}
use Rattle.tql_syntax_grammar.specs.ReadingStatements.{chain_at, select_end}
use Rattle.tql_syntax_tree.specs.Statements.{filter_of, nameds_of}
use Rattle.tql_syntax_query.specs.declared.queries.SelectEnd.{SelectEnd}

-- the select with these first parts and this end
abbrev pub ended_by : Bool → Items → ChainTree → List ChainTree → SelectEnd → SelectTree
ended_by d is c cs end =
    record {
      distinct = d;
      items = is;
      first = c;
      more = cs;
      filter = filter_of end.filter;
      grouping = nameds_of end.grouping;
      having = filter_of end.having;
    }

-- a select, after FROM
unfoldable pub select_from : Bool → Items → Parser SelectTree
select_from d is ts = chain_at ts >>= λ c a. more (next chain_at) [] a >>= λ cs b. select_end d is c cs b
