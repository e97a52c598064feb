-- The values behind the last start are the last row.
use Rattle.std.proofs.Common.{◌≡◌, ◌-◌, ◌<◌, ◌≤◌, ◌++◌, ◌∷◌, [], ◌∙◌, ap, arith, length, subst, sym}
use Rattle.std.proofs.lemmas.List.{length-map}
use Rattle.tql_value.specs.Views.{datum_of_value, row_of}
use Rattle.tql_exec_numbered.specs.Rows.{parts, start_at}
use Rattle.tql_exec_numbered.proofs.Lasts.{are_left, last_is}
use Rattle.tql_exec_numbered.proofs.Parts.{parts_length, starts_within}
use Rattle.tql_exec_numbered.proofs.rows.Rows.take_last.Goals as goal

pub split_off-requires : goal.split_off-requires
split_off-requires c =
    let marks = c.self.inside.marks.items in
    let items = c.self.inside.values.items in
    let count : c.len-len.result ≡ length marks = c.len-len.ensures ∙ c.self.inside.marks.ok.0 in
    let start : c.start_in-start.result ≡ start_at 0 marks (c.len-len.result - 1) =
    c.start_in-start.ensures ∙ ap (λ ms. start_at 0 ms (c.len-len.result - 1)) c.as_slice.ensures.value in
    let within : start_at 0 marks (c.len-len.result - 1) ≤ length (row_of items) =
    starts_within 0 marks (row_of items) (c.len-len.result - 1) c.self.invariant in
    let long : length (row_of items) ≡ length items = length-map items datum_of_value in
    omega (arith, start, within, long, c.self.inside.values.ok.0)

pub invariant_of-self-2 : goal.invariant_of-self-2
invariant_of-self-2 c =
    let marks = c.self.inside.marks.items in
    let items = c.self.inside.values.items in
    let count : c.len-len.result ≡ length marks = c.len-len.ensures ∙ c.self.inside.marks.ok.0 in
    let start : c.start_in-start.result ≡ start_at 0 marks (c.len-len.result - 1) =
    c.start_in-start.ensures ∙ ap (λ ms. start_at 0 ms (c.len-len.result - 1)) c.as_slice.ensures.value in
    let some : 0 < length marks =
    subst (λ n. 0 < n) (ap length (sym c.self.view_is) ∙ parts_length 0 marks (row_of items)) c.requires in
    are_left items c.split_off.new.self.items marks c.truncate.new.self.items (c.len-len.result - 1)
    c.start_in-start.result
    (omega (arith, some, count)) c.self.invariant start c.in_ok-row.ensures.items
    c.truncate.ensures.items

pub returns : goal.returns
returns c =
    let marks = c.self.inside.marks.items in
    let items = c.self.inside.values.items in
    let count : c.len-len.result ≡ length marks = c.len-len.ensures ∙ c.self.inside.marks.ok.0 in
    let start : c.start_in-start.result ≡ start_at 0 marks (c.len-len.result - 1) =
    c.start_in-start.ensures ∙ ap (λ ms. start_at 0 ms (c.len-len.result - 1)) c.as_slice.ensures.value in
    let some : 0 < length marks =
    subst (λ n. 0 < n) (ap length (sym c.self.view_is) ∙ parts_length 0 marks (row_of items)) c.requires in
    sym c.self.view_is
    ∙ last_is items c.split_off.new.self.items marks c.truncate.new.self.items (c.len-len.result - 1)
    c.start_in-start.result
    (omega (arith, some, count)) c.self.invariant start c.in_ok-row.ensures.items
    c.truncate.ensures.items
    ∙ ap (λ xs. parts 0 c.truncate.new.self.items (row_of c.split_off.new.self.items) ++ row_of xs ∷ [])
    (sym c.in_ok-row.ensures.tail)
