use Rattle.std.proofs.Common.{map}
use Rattle.std.specs.Prelude.{not, ◌||◌}
use Rattle.tql_spec.specs.Words.{same_text}
use Rattle.tql_spec.specs.Datum.{Moments, same_kind}
use Rattle.tql_spec.specs.Creation.{has_number}
use Rattle.tql_bind_draft.specs.Drafts.{column_of, system_part, names_in, kind_in, starts_in, stops_in}
use Rattle.tql_bind_draft.proofs.Gathered.{columns_gathered}
use Rattle.tql_bind_draft.proofs.periods.system_period.Goals as goal

pub returns : goal.returns
returns c =
    let cs = map column_of c.args.columns.now in
    let p = system_part c.args.period.now in
    let s = c.column_number-start.result in
    let e = c.column_number-end.result in
    columns_gathered (names_in cs) p.start p.end
    (λ i j. not (same_kind (kind_in cs i) Moments) || not (same_kind (kind_in cs j) Moments))
    (λ i j. same_text p.start p.end || not (has_number i (starts_in cs)) || not (has_number j (stops_in cs)))
    (λ i j. record { start = i; end = j })
    c.args.faults.now c.column_number-start.new.faults c.column_number-end.new.faults c.refuse_if.new.self
    c.refuse_if-2.new.self s e c.has_no_moment.result c.is_wrong_system.result
    c.column_number-start.ensures c.column_number-end.ensures c.has_no_moment.ensures c.refuse_if.ensures
    c.is_wrong_system.ensures c.refuse_if-2.ensures
