use Rattle.std.proofs.Common.{rules, tests, ◌≡◌, map, sym, subst, ℕ}
use Rattle.std.specs.Prelude.{not, ◌||◌, string_bytes}
use Rattle.tql_spec.specs.Words.{same_text}
use Rattle.tql_spec.specs.Definition.{Name, Application}
use Rattle.tql_spec.specs.Creation.{are_ends}
use Rattle.tql_bind_expr.specs.Gathered.{Gathers}
use Rattle.tql_bind_draft.specs.Drafts.{column_of, application_part, names_in, kind_in, is_generated_in, application_in}
use Rattle.tql_bind_draft.proofs.Gathered.{columns_gathered}
use Rattle.tql_bind_draft.proofs.periods.application_period.Goals as goal

pub returns : goal.returns
returns c =
    let cs = map column_of c.args.columns.now in
    let p = application_part c.args.period.now in
    let s = c.column_number-start.result in
    let e = c.column_number-end.result in
    let named : string_bytes c.in_ok-clone.field-0 ≡ string_bytes c.args.period.now.name.text = search (rules, tests) in
    let value : Name → ℕ → ℕ → Application = λ n i j. record { name = n; start = i; end = j } in
    subst (λ (n : Name). Gathers (application_in cs p) c.args.faults.now c.refuse_if-2.new.self (value n s e))
    (sym named)
    (columns_gathered (names_in cs) p.start p.end (λ i j. not (are_ends (kind_in cs i) (kind_in cs j)))
    (λ i j. same_text p.start p.end || is_generated_in cs i || is_generated_in cs j)
    (value (string_bytes c.args.period.now.name.text))
    c.args.faults.now c.column_number-start.new.faults c.column_number-end.new.faults c.refuse_if.new.self
    c.refuse_if-2.new.self s e c.are_no_ends.result c.is_wrong_application.result
    c.column_number-start.ensures c.column_number-end.ensures c.are_no_ends.ensures c.refuse_if.ensures
    c.is_wrong_application.ensures c.refuse_if-2.ensures)
