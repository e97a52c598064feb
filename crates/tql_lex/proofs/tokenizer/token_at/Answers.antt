use Rattle.std.proofs.Common.{refl, arith}
use Rattle.tql_lex.specs.Tokens.{sort_of}
use Rattle.tql_lex.proofs.EdgeLemmas.{edges_of, token_text}
use Rattle.tql_lex.proofs.tokenizer.token_at.Goals as goal

pub overflow_add-end : goal.overflow_add-end
overflow_add-end c =
    let e = c.in_ok-extent.extent in
    let p = edges_of c.args.text.now c.as_bytes.result.now c.split_at.result.1.now c.args.start (sort_of e.kind)
    e.length c.utf8.text c.requires c.as_bytes.ensures.value c.split_at.ensures.back c.in_ok-extent.ensures in
    omega (arith, p.within, c.as_bytes.ensures.len)

pub range-requires-clause-start_boundary : goal.range-requires-clause-start_boundary
range-requires-clause-start_boundary c =
    let e = c.in_ok-extent.extent in
    λ _. (edges_of c.args.text.now c.as_bytes.result.now c.split_at.result.1.now c.args.start (sort_of e.kind)
    e.length c.utf8.text c.requires c.as_bytes.ensures.value c.split_at.ensures.back c.in_ok-extent.ensures).before

pub range-requires-clause-end_boundary : goal.range-requires-clause-end_boundary
range-requires-clause-end_boundary c =
    let e = c.in_ok-extent.extent in
    (edges_of c.args.text.now c.as_bytes.result.now c.split_at.result.1.now c.args.start (sort_of e.kind) e.length
    c.utf8.text c.requires c.as_bytes.ensures.value c.split_at.ensures.back c.in_ok-extent.ensures).behind

pub returns : goal.returns
returns c =
    let e = c.in_ok-extent.extent in
    let p = edges_of c.args.text.now c.as_bytes.result.now c.split_at.result.1.now c.args.start (sort_of e.kind)
    e.length c.utf8.text c.requires c.as_bytes.ensures.value c.split_at.ensures.back c.in_ok-extent.ensures in
    let t = token_text c.args.text.now c.as_bytes.result.now c.split_at.result.1.now c.range.result.now c.args.start
    (sort_of e.kind) e.length p c.as_bytes.ensures.value c.split_at.ensures.back c.in_ok-extent.ensures
    c.range.ensures.value in
    (refl, t.0, t.1, t.2, t.3)
