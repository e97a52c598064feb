-- One more row is filed.
use Rattle.std.proofs.Common.{◌≤◌, ◌<◌, ◌∙◌, arith, length, sym}
use Rattle.std.proofs.lemmas.Option.{slice_get_within}
use Rattle.tql_exec_numbered.specs.Runs.{numbers_in, row_at}
use Rattle.tql_exec_numbered.proofs.Filed.{one_more_filed, with_digest, without_digest}
use Rattle.tql_exec_numbered.proofs.numbered.file_all.Goals as goal

pub file-requires-clause-number : goal.file-requires-clause-number
file-requires-clause-number c =
    let rows = c.args.rows.now in
    let k = c.loop-digest.number in
    slice_get_within rows k (row_at rows k)
    (with_digest rows k c.in-Some.digest (sym c.digest_at.ensures.digest ∙ c.in-Some.is)).0

pub loop-digest-smaller : goal.loop-digest-smaller
loop-digest-smaller c =
    let rows = c.args.rows.now in
    let k = c.loop-digest.number in
    let within : k < length rows = slice_get_within rows k (row_at rows k)
    (with_digest rows k c.in-Some.digest (sym c.digest_at.ensures.digest ∙ c.in-Some.is)).0 in
    omega (arith, within)

pub loop-digest-preserved : goal.loop-digest-preserved
loop-digest-preserved c =
    let rows = c.args.rows.now in
    let k = c.loop-digest.number in
    let found = with_digest rows k c.in-Some.digest (sym c.digest_at.ensures.digest ∙ c.in-Some.is) in (
      c.file.ensures.runs,
      one_more_filed rows c.loop-digest.slots.items c.file.new.slots.items
          (numbers_in c.loop-digest.runs.items) (numbers_in c.file.new.runs.items) k c.in-Some.digest (row_at rows k)
          found.0 found.1 c.file.ensures.len c.in_ok-file.ensures.filed c.file.ensures.kept c.loop-digest.invariant.1,
    )

pub returns : goal.returns
returns c = (
  c.loop-digest.invariant.0,
  λ n row got.
      let rows = c.args.rows.now in
      let within : n < length rows = slice_get_within rows n row got in
      let all : length rows ≤ c.loop-digest.number =
      without_digest rows c.loop-digest.number (sym c.digest_at.ensures.digest ∙ c.in_default.is) in
      c.loop-digest.invariant.1 n row (omega (arith, within, all)) got,
)
