use Rattle.std.proofs.Common.{Some, None, string_bytes}
use Rattle.std.proofs.lemmas.Str.Pattern.{split_parts}
use Rattle.tql_spec.specs.FirstToken as spec
use Rattle.tql_lex.proofs.QuoteLemmas.{goes_on_doubled, goes_on_single, all_content}
use Rattle.tql_lex.proofs.folding.unquoted.Goals as goal

pub loop-before-preserved-in-Continue-branch-2 : goal.loop-before-preserved-in-Continue-branch-2
loop-before-preserved-in-Continue-branch-2 c =
    let q = c.args.quote in
    let behind = c.without_quote-rest-in-Some.ensures in (
      c.without_quote-rest-in-Some.utf8,
      rw (behind, c.in_ok-push.ensures.bytes, c.push.ensures.ascii c.requires, c.in_ok-push_str.ensures.bytes)
          (goes_on_doubled q (spec.content q c.args.text.now) (string_bytes c.loop-before.content)
          c.loop-before.rest.now c.in-Some.before.now c.in-Some.behind.now c.loop-before.invariant.1
          (split_parts q c.loop-before.rest.now (Some (c.in-Some.before, c.in-Some.behind)) c.in-Some.ensures.cases
          c.requires) (rw behind at c.if-rest-behind.true)),
    )

pub loop-before-preserved : goal.loop-before-preserved
loop-before-preserved c =
    let q = c.args.quote in
    let behind = c.without_quote-rest-in-Some.ensures in (
      c.without_quote-rest-in-Some.utf8,
      rw (behind, c.in_ok-push_str.ensures.bytes)
          (goes_on_single q (spec.content q c.args.text.now) (string_bytes c.loop-before.content)
          c.loop-before.rest.now c.in-Some.before.now c.in-Some.behind.now c.loop-before.invariant.1
          (split_parts q c.loop-before.rest.now (Some (c.in-Some.before, c.in-Some.behind)) c.in-Some.ensures.cases
          c.requires) (rw behind at c.if-rest-behind.false)),
    )

pub returns : goal.returns
returns c =
    let q = c.args.quote in
    rw c.in_ok-push_str-2.ensures.bytes
    (all_content q (spec.content q c.args.text.now) (string_bytes c.loop-before.content) c.loop-before.rest.now
    c.loop-before.invariant.1 (split_parts q c.loop-before.rest.now None c.in_default.ensures.cases c.requires))
