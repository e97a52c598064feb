-- Equal rows are one, and have one digest.
use Rattle.std.proofs.Common.{◌≡◌, ap, subst, sym, ◌∙◌}
use Rattle.std.specs.Prelude.{Some, slice_get, true}
use Rattle.tql_spec.specs.Datum.{Row, same_row}
use Rattle.tql_spec.proofs.Members.{same_row-is, same_row-self}
use Rattle.tql_exec_numbered.specs.Numbered.{seen}
use Rattle.tql_exec_numbered.specs.Runs.{row_at}
use Rattle.tql_exec_numbered.proofs.Filed.{with_digest}
use Rattle.tql_exec_numbered.proofs.numbered.agrees_at.Goals as goal

pub returns-then-known-digest : goal.returns-then-known-digest
returns-then-known-digest c =
    let rows = c.args.rows.now in
    let n = c.args.number in
    let own : Row = row_at rows n in
    let r : Row = seen c.args.row.now in
    let got : slice_get rows n ≡ Some own =
    (with_digest rows n c.in-Some.known (sym c.digest_at.ensures.digest ∙ c.in-Some.is)).0 in
    let is : c.agree.result ≡ same_row own r = c.agree.ensures ∙ ap (λ (x : Row). same_row x r) c.at.ensures in (
      λ h. got ∙ ap Some (same_row-is own r (sym is ∙ h)),
      λ e.
          let both : Some own ≡ Some r = sym got ∙ e in
          let one : own ≡ r = cc in
          is ∙ subst (λ x. same_row own x ≡ true) one (same_row-self own),
    )
