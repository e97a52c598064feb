-- The row behind the others.
use Rattle.std.proofs.Common.{◌≡◌, ◌++◌, ◌∷◌, [], length, subst, sym}
use Rattle.std.specs.Prelude.{List, Some, slice_get}
use Rattle.tql_spec.specs.Datum.{Row}
use Rattle.tql_exec_numbered.specs.Numbered.{seen}
use Rattle.tql_exec_numbered.specs.Runs.{numbers_in, AreRuns}
use Rattle.tql_exec_numbered.specs.Slots.{AreFiled}
use Rattle.tql_exec_numbered.proofs.Filed.{filed_behind, got_last}
use Rattle.tql_exec_numbered.proofs.Joined.{runs_before_row}
use Rattle.tql_exec_numbered.proofs.numbered.Numbered.add.Goals as goal

pub invariant_of-self : goal.invariant_of-self
invariant_of-self c =
    subst (λ (rs : List Row). AreFiled rs c.self.inside.slots.items (numbers_in c.self.inside.runs.items))
    (sym c.in_err-push.ensures.err) c.self.invariant

pub file-filed-requires-clause-runs : goal.file-filed-requires-clause-runs
file-filed-requires-clause-runs c =
    let rows : List Row = c.self.inside.rows in
    let runs = numbers_in c.self.inside.runs.items in
    subst (λ (rs : List Row). AreRuns rs runs) (sym c.in_ok-push.ensures.rows)
    (runs_before_row rows (seen c.args.row.now) runs c.self.invariant.0)

pub invariant_of-self-in-Ok : goal.invariant_of-self-in-Ok
invariant_of-self-in-Ok c =
    let rows : List Row = c.self.inside.rows in
    let r : Row = seen c.args.row.now in
    let all : c.push.new.self ≡ rows ++ r ∷ [] = c.in_ok-push.ensures.rows in
    let last : c.len-number.result ≡ length rows = c.len-number.ensures.count in
    filed_behind rows c.push.new.self c.self.inside.slots.items c.file-filed.new.slots.items
    (numbers_in c.self.inside.runs.items) (numbers_in c.file-filed.new.runs.items) c.len-number.result c.args.digest r
    all last c.requires c.file-filed.ensures.len c.in-Ok.ensures.filed c.file-filed.ensures.kept
    c.file-filed.ensures.runs c.self.invariant

pub invariant_of-self-in-Err : goal.invariant_of-self-in-Err
invariant_of-self-in-Err c =
    let rows : List Row = c.self.inside.rows in
    let popped : c.pop.new.self ≡ rows = c.pop.ensures rows (seen c.args.row.now) c.in_ok-push.ensures.rows in
    subst (λ (rs : List Row). AreFiled rs c.file-filed.new.slots.items (numbers_in c.file-filed.new.runs.items))
    (sym popped)
    (subst (λ xs. AreFiled rows xs (numbers_in c.file-filed.new.runs.items)) (sym c.in-Err.ensures.slots)
    (subst (λ rs. AreFiled rows c.self.inside.slots.items (numbers_in rs)) (sym c.in-Err.ensures.err)
    c.self.invariant))

pub returns-in-Ok-clause-number : goal.returns-in-Ok-clause-number
returns-in-Ok-clause-number c =
    let rows : List Row = c.self.inside.rows in
    let r : Row = seen c.args.row.now in
    let last : c.len-number.result ≡ length rows = c.len-number.ensures.count in
    subst (λ (rs : List Row). slice_get rs c.len-number.result ≡ Some r) (sym c.in_ok-push.ensures.rows)
    (got_last rows r c.len-number.result last)
