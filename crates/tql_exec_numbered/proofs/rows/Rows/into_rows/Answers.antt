-- The last row of those left is the first of those taken.
use Rattle.std.proofs.Common.{◌≡◌, ◌+◌, ◌++◌, ◌∷◌, [], ◌∙◌, ap, append-nil, append_assoc, arith, length, reverse, sym}
use Rattle.std.specs.Prelude.{List}
use Rattle.std.proofs.lemmas.List.{length-append, nil_from_length, reverse-append}
use Rattle.tql_spec.specs.Datum.{Row}
use Rattle.tql_value.specs.Views.{row_of, rows_of}
use Rattle.tql_exec_numbered.proofs.rows.Rows.into_rows.Goals as goal

pub loop-rows-init : goal.loop-rows-init
loop-rows-init c =
    let none = ap (λ rs. rows_of (reverse rs)) c.in_ok-rows.ensures.items in
    sym (append-nil c.args.self) ∙ ap (λ (rs : List Row). c.args.self ++ rs) (sym none)

pub loop-rows-smaller : goal.loop-rows-smaller
loop-rows-smaller c =
    let row : Row = row_of c.in_ok-take_last.field-0.items in
    let all : length c.loop-rows.left ≡ length c.take_last.new.self + 1 =
    ap length c.in_ok-take_last.ensures ∙ length-append c.take_last.new.self (row ∷ []) in
    omega (arith, all)

pub loop-rows-preserved : goal.loop-rows-preserved
loop-rows-preserved c =
    let v = c.in_ok-take_last.field-0 in
    let row : Row = row_of v.items in
    let olds = c.loop-rows.rows.items in
    let taken : List Row = rows_of (reverse olds) in
    let now : rows_of (reverse c.push.new.self.items) ≡ row ∷ taken =
    ap (λ rs. rows_of (reverse rs)) c.in_ok-push.ensures.items ∙ ap rows_of (reverse-append olds (v ∷ [])) in
    c.loop-rows.invariant ∙ ap (λ (rs : List Row). rs ++ taken) c.in_ok-take_last.ensures
    ∙ append_assoc c.take_last.new.self (row ∷ []) taken ∙ ap (λ (rs : List Row). c.take_last.new.self ++ rs) (sym now)

pub returns : goal.returns
returns c =
    let taken : List Row = rows_of (reverse c.loop-rows.rows.items) in
    let none : c.loop-rows.left ≡ [] =
    nil_from_length c.loop-rows.left (omega (arith, c.loop-rows-test.false, c.len-in-loop-rows.ensures.count)) in
    ap rows_of c.reverse.ensures.items ∙ sym (c.loop-rows.invariant ∙ ap (λ (rs : List Row). rs ++ taken) none)
