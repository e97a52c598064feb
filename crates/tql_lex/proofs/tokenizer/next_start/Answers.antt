use Rattle.std.proofs.Common.{sym, length, arith}
use Rattle.std.proofs.lemmas.Bool.{eqb-false}
use Rattle.tql_lex.proofs.TokensLemmas.{next_place}
use Rattle.tql_lex.proofs.tokenizer.next_start.Goals as goal

pub overflow_sub-result : goal.overflow_sub-result
overflow_sub-result c =
    (next_place c.args.text.now c.as_bytes-bytes.result.now c.split_at.result.1.now c.without_lead-rest.result.now
    c.args.from c.as_bytes-bytes.ensures.value c.split_at.ensures.back c.without_lead-rest.ensures c.requires).shorter

pub returns : goal.returns
returns c =
    let p = next_place c.args.text.now c.as_bytes-bytes.result.now c.split_at.result.1.now
    c.without_lead-rest.result.now c.args.from c.as_bytes-bytes.ensures.value c.split_at.ensures.back
    c.without_lead-rest.ensures c.requires in
    let some = eqb-false (length c.without_lead-rest.result.now) 0 (sym c.if-is_empty.ensures) in
    (p.later, omega (arith, p.left, some), p.is)
