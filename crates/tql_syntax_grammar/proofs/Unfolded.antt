-- The definitions that compute the reading of a text.
use Rattle.std.specs.Prelude.{⊤}
use Rattle.std.specs.Fmt.{digits}
use Rattle.std.specs.Str.{is_utf8, chars}
use lib.Utf8.{encode}
use Rattle.tql_syntax_grammar.specs.Outcome.{expect, name_at, number_at, quote_at, repeated}
use Rattle.tql_syntax_grammar.specs.ReadingExpressions.{named_at, simple_at, inside_over, count_over, primary_over}
use Rattle.tql_syntax_grammar.specs.ReadingExpressions.{signed_over, next_factor, term_behind, term_over, next_term}
use Rattle.tql_syntax_grammar.specs.ReadingExpressions.{sum_behind, sum_over, sum_from, expr_at, comparison_at}
use Rattle.tql_syntax_grammar.specs.ReadingExpressions.{immediate_at}
use Rattle.tql_syntax_grammar.specs.ReadingExpressions.{relation_at, qualified_system_at, null_test_at, ends_over}
use Rattle.tql_syntax_grammar.specs.ReadingExpressions.{marked_over, operand_over, contained_over, related_over}
use Rattle.tql_syntax_grammar.specs.ReadingExpressions.{between_over, in_over, denied_over, word_test_over, test_behind}
use Rattle.tql_syntax_grammar.specs.ReadingExpressions.{marked_test_over, opened_over, tested_over, test_over}
use Rattle.tql_syntax_grammar.specs.ReadingExpressions.{factor_over}
use Rattle.tql_syntax_grammar.specs.ReadingExpressions.{next_test, conj_behind, conj_over, next_conj, condition_behind}
use Rattle.tql_syntax_grammar.specs.ReadingExpressions.{condition_over, mixed_over, mixed_at, condition_at}
use Rattle.tql_syntax_grammar.specs.ReadingStatements.{size_at, precision_at, zone_at, timestamp_type_at, type_at}
use Rattle.tql_syntax_grammar.specs.ReadingStatements.{not_null_at, generated_at, column_at, period_name_at, period_at}
use Rattle.tql_syntax_grammar.specs.ReadingStatements.{next_key_column, key_period_at, key_at, next_reference_column}
use Rattle.tql_syntax_grammar.specs.ReadingStatements.{reference_period_at, reflist_at, no_action_at, no_actions_from}
use Rattle.tql_syntax_grammar.specs.ReadingStatements.{foreign_at, check_at, constraint_at, named_constraint_at}
use Rattle.tql_syntax_grammar.specs.ReadingStatements.{element_at}
use Rattle.tql_syntax_grammar.specs.ReadingStatements.{versioning_at, create_at, drop_at, moment_at, point_at}
use Rattle.tql_syntax_grammar.specs.ReadingStatements.{from_to_at}
use Rattle.tql_syntax_grammar.specs.ReadingStatements.{between_at, span_behind, span_at, alias_at, ref_at, joined_on_at}
use Rattle.tql_syntax_grammar.specs.ReadingStatements.{inner_at, left_at, cross_at, next_join, chain_at, item_at}
use Rattle.tql_syntax_grammar.specs.ReadingStatements.{items_behind, items_at, distinct_at, where_at, having_at}
use Rattle.tql_syntax_grammar.specs.ReadingStatements.{group_by_at}
use Rattle.tql_syntax_grammar.specs.ReadingStatements.{select_end, select_at, key_name_at, direction_at, order_key_at}
use Rattle.tql_syntax_grammar.specs.ReadingStatements.{order_by_at, query_at, cell_at, tuple_at, portion_behind}
use Rattle.tql_syntax_grammar.specs.ReadingStatements.{portion_at}
use Rattle.tql_syntax_grammar.specs.ReadingStatements.{assignment_at, update_at, delete_at, column_list_at, values_at}
use Rattle.tql_syntax_grammar.specs.ReadingStatements.{insert_at, prune_at, control_at, open_at, read_at, close_at}
use Rattle.tql_syntax_grammar.specs.ReadingStatements.{reader_at, change_at, statement_at}

-- the definitions that a worked script unfolds
unfoldable pub reading : ⊤
unfolding digits is_utf8 chars encode expect name_at number_at quote_at repeated named_at simple_at inside_over
    count_over primary_over signed_over next_factor term_behind term_over next_term sum_behind sum_over sum_from
    expr_at comparison_at immediate_at relation_at qualified_system_at null_test_at ends_over marked_over operand_over
    contained_over related_over between_over in_over denied_over word_test_over test_behind marked_test_over
    opened_over tested_over test_over factor_over next_test conj_behind conj_over next_conj condition_behind
    condition_over mixed_over mixed_at condition_at size_at precision_at zone_at timestamp_type_at type_at not_null_at
    generated_at column_at period_name_at period_at next_key_column key_period_at key_at next_reference_column
    reference_period_at reflist_at no_action_at no_actions_from foreign_at check_at constraint_at named_constraint_at
    element_at versioning_at create_at drop_at moment_at point_at from_to_at between_at span_behind span_at alias_at
    ref_at joined_on_at inner_at left_at cross_at next_join chain_at item_at items_behind items_at distinct_at
    where_at having_at group_by_at select_end select_at key_name_at direction_at order_key_at order_by_at query_at
    cell_at tuple_at portion_behind portion_at assignment_at update_at delete_at column_list_at values_at insert_at
    prune_at control_at open_at read_at close_at reader_at change_at statement_at
reading = tt
