use Rattle.std.proofs.Common.{sym, ◌∙◌, subst, Option, option_map}
use Rattle.tql_syntax.specs.declared.ending.TransactionEnd as code
use Rattle.tql_syntax.specs.Endings.{EndsText}
use Rattle.tql_syntax.proofs.EndingLaws.{not_work, word_decides}
use Rattle.tql_syntax.proofs.ending.text_end.Goals as goal

pub returns-then-not-is_work : goal.returns-then-not-is_work
returns-then-not-is_work c =
    not_work c.args.text.now c.in_ok-first.first.now (option_map (λ w. w.now) c.in_ok-first.second)
    c.in_ok-first.ensures.words (sym c.is_work.ensures ∙ c.if-not-is_work.true)

pub returns : goal.returns
returns c =
    subst (λ (r : Option code.TransactionEnd). EndsText c.args.text.now r) (sym c.end_of_word.ensures)
    (word_decides c.args.text.now c.in_ok-first.first.now (option_map (λ w. w.now) c.in_ok-first.second)
    c.in_ok-first.ensures.words (sym c.is_work.ensures ∙ c.if-not-is_work.false))
