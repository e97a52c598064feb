-- The last row is gone.
use Rattle.std.proofs.Common.{◌≡◌, ◌-◌, ◌∙◌, ap, arith, drop, length, sym}
use Rattle.tql_value.specs.Views.{row_of}
use Rattle.tql_exec_numbered.specs.Rows.{parts, start_at}
use Rattle.tql_exec_numbered.proofs.Lasts.{are_left, fronts, last_is}
use Rattle.tql_exec_numbered.proofs.rows.Rows.pop.Goals as goal

pub invariant_of-self : goal.invariant_of-self
invariant_of-self c =
    let marks = c.self.inside.marks.items in
    let items = c.self.inside.values.items in
    let count : c.len-len.result ≡ length marks = c.len-len.ensures ∙ c.self.inside.marks.ok.0 in
    let start : c.start_in-start.result ≡ start_at 0 marks (c.len-len.result - 1) =
    c.start_in-start.ensures ∙ ap (λ ms. start_at 0 ms (c.len-len.result - 1)) c.as_slice.ensures.value in
    are_left items c.truncate.new.self.items marks c.truncate-2.new.self.items (c.len-len.result - 1)
    c.start_in-start.result (omega (arith, c.if-len-eq0.false, count)) c.self.invariant start c.truncate.ensures.items
    c.truncate-2.ensures.items

pub returns : goal.returns
returns c = λ rows row is.
    let marks = c.self.inside.marks.items in
    let items = c.self.inside.values.items in
    let count : c.len-len.result ≡ length marks = c.len-len.ensures ∙ c.self.inside.marks.ok.0 in
    let start : c.start_in-start.result ≡ start_at 0 marks (c.len-len.result - 1) =
    c.start_in-start.ensures ∙ ap (λ ms. start_at 0 ms (c.len-len.result - 1)) c.as_slice.ensures.value in
    fronts (parts 0 c.truncate-2.new.self.items (row_of c.truncate.new.self.items)) rows
    (row_of (drop c.start_in-start.result items)) row
    (sym (last_is items c.truncate.new.self.items marks c.truncate-2.new.self.items (c.len-len.result - 1)
    c.start_in-start.result (omega (arith, c.if-len-eq0.false, count)) c.self.invariant start c.truncate.ensures.items
    c.truncate-2.ensures.items) ∙ c.self.view_is ∙ is)
