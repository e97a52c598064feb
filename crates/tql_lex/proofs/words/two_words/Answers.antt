use Rattle.tql_lex.proofs.SoleWordLemmas.{one_word, two_found, both_words, no_tokens_at_all, first_is_none}
use Rattle.tql_lex.proofs.SoleWordLemmas.{second_is_none, third_is_there}
use Rattle.tql_lex.proofs.words.two_words.Goals as goal

pub returns-in_err-start-clause-others : goal.returns-in_err-start-clause-others
returns-in_err-start-clause-others c = λ _. no_tokens_at_all c.args.text.now c.in_err-start.ensures

pub returns-in_err-first-clause-others : goal.returns-in_err-first-clause-others
returns-in_err-first-clause-others c =
    λ _. first_is_none c.args.text.now c.in_ok-start.start c.in_ok-start.ensures c.in_err-first.ensures

pub returns-in_default-clause-words : goal.returns-in_default-clause-words
returns-in_default-clause-words c =
    one_word c.args.text.now c.in_ok-start.start c.in_ok-first.first c.in_ok-start.ensures c.in_ok-first.ensures
    c.in_default.ensures

pub returns-in_err-second-clause-others : goal.returns-in_err-second-clause-others
returns-in_err-second-clause-others c =
    λ _. second_is_none c.args.text.now c.in_ok-start.start c.in-Some.next c.in_ok-first.first c.in_ok-start.ensures
    c.in_ok-first.ensures c.in-Some.ensures c.in_err-second.ensures

pub returns-in-Some-next_start-clause-others : goal.returns-in-Some-next_start-clause-others
returns-in-Some-next_start-clause-others c =
    λ _. third_is_there c.args.text.now c.in-Some-next_start.field-0 c.in_ok-first.first c.in_ok-second.second
    (two_found c.args.text.now c.in_ok-start.start c.in-Some.next c.in_ok-first.first c.in_ok-second.second
    c.in_ok-start.ensures c.in_ok-first.ensures c.in-Some.ensures c.in_ok-second.ensures)
    c.in-Some-next_start.ensures

pub returns-in-None-clause-words : goal.returns-in-None-clause-words
returns-in-None-clause-words c =
    both_words c.args.text.now c.in_ok-first.first c.in_ok-second.second
    (two_found c.args.text.now c.in_ok-start.start c.in-Some.next c.in_ok-first.first c.in_ok-second.second
    c.in_ok-start.ensures c.in_ok-first.ensures c.in-Some.ensures c.in_ok-second.ensures)
    c.in-None.ensures
