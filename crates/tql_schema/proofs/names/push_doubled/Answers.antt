use Rattle.std.proofs.Common.{Some, None, ◌++◌, ◌<◌, string_bytes, arith}
use Rattle.std.proofs.lemmas.Str.Pattern.{split_parts}
use Rattle.tql_spec.specs.Text.{doubled}
use Rattle.tql_literal.proofs.Doubled.{all_doubled, goes_on}
use Rattle.tql_schema.proofs.Quoting.{behind_text}
use Rattle.tql_schema.proofs.names.push_doubled.Goals as goal

pub loop-before-preserved : goal.loop-before-preserved
loop-before-preserved c =
    let parts = split_parts 34 c.loop-before.rest.now (Some (c.in-Some.before, c.in-Some.behind))
    c.in-Some.ensures.cases
    (omega arith) in (
      behind_text c.loop-before.rest.now c.in-Some.before.now c.in-Some.behind.now c.loop-before.invariant.0 parts.0,
      rw (c.in_ok-push_str-2.ensures.bytes, c.in_ok-push_str.ensures.bytes)
          (goes_on 34 (string_bytes c.args.text.now ++ doubled 34 c.args.name.now)
          (string_bytes c.loop-before.text) c.loop-before.rest.now c.in-Some.before.now c.in-Some.behind.now
          c.loop-before.invariant.1 parts),
    )

pub returns : goal.returns
returns c =
    rw c.in_ok-push_str-3.ensures.bytes
    (all_doubled 34 (string_bytes c.args.text.now ++ doubled 34 c.args.name.now) (string_bytes c.loop-before.text)
    c.loop-before.rest.now c.loop-before.invariant.1
    (split_parts 34 c.loop-before.rest.now None c.in_default.ensures.cases (omega arith)))
