-- The values between two ends.
use borrow.Author.Tests.{ltb-true, ltb-false}
use Rattle.std.proofs.Common.{◌≡◌, ◌-◌, ◌≤◌, ◌∙◌, ap, arith, drop, length, refl, subst, sym, take}
use Rattle.std.specs.Prelude.{Some, List, [], ℕ, nat_lt, slice_get, slice_index_or, true}
use Rattle.std.proofs.lemmas.List.{drop-map, get_or_past, length-map, take-map}
use Rattle.std.proofs.lemmas.Option.{get_or_from_slice_get, slice_get_read}
use Rattle.tql_spec.specs.Datum.{Row}
use Rattle.tql_value.specs.Views.{datum_of_value, row_of}
use Rattle.tql_exec_numbered.specs.Rows.{parts, start_at, AreMarks}
use Rattle.tql_exec_numbered.specs.Runs.{row_at}
use Rattle.tql_value.specs.declared.value.Value.{Value}
use Rattle.tql_exec_numbered.specs.declared.rows.Mark.{Mark}
use Rattle.tql_exec_numbered.proofs.Parts.{part_at, part_ends, parts_length}
use Rattle.tql_exec_numbered.proofs.rows.Rows.at.Goals as goal

-- a mark that is read
got : (ms marks : List Mark) (n : ℕ) (mark : Mark) → ms ≡ marks → true ≡ nat_lt n (length ms)
    → mark ≡ slice_index_or ms n mark → slice_get marks n ≡ Some mark
got ms marks n mark is within read =
    ap (λ zs. slice_get zs n) (sym is)
    ∙ slice_get_read ms (length ms) n mark refl (ltb-true n (length ms) (sym within)) read

within : (items : List Value) (marks : List Mark) (n : ℕ) (mark : Mark) → AreMarks 0 marks (row_of items)
    → slice_get marks n ≡ Some mark → (start_at 0 marks n ≤ mark.end) × (mark.end ≤ length items)
within items marks n mark is here =
    let ends = part_ends 0 marks (row_of items) n mark is here in
    let long : length (row_of items) ≡ length items = length-map items datum_of_value in
    (ends.0, omega (arith, ends.1, long))

-- the data of the values between two indexes
cut_of : (items : List Value) (s e : ℕ) → row_of (take (e - s) (drop s items)) ≡ take (e - s) (drop s (row_of items))
cut_of items s e =
    sym (take-map datum_of_value (e - s) (drop s items)) ∙ ap (take (e - s)) (sym (drop-map datum_of_value s items))

pub offset_bounds-deref-start : goal.offset_bounds-deref-start
offset_bounds-deref-start c =
    let marks = c.self.inside.marks.items in
    let n = c.args.number in
    let k = c.in-Some.ensures.lookup in
    let here = got c.deref.result.now marks n c.in-Some.mark.now c.deref.ensures.value k.0 k.1 in
    let start : c.start_in-start.result ≡ start_at 0 marks n =
    c.start_in-start.ensures ∙ ap (λ ms. start_at 0 ms n) c.as_slice.ensures.value in
    let ends = within c.self.inside.values.items marks n c.in-Some.mark.now c.self.invariant here in
    let all : length c.deref-in-Some.result.now ≡ length c.self.inside.values.items =
    ap length c.deref-in-Some.ensures.value in
    omega (arith, start, ends.0, ends.1, all, c.deref-in-Some.type_inv.0, c.deref-in-Some.type_inv.1)

pub slice_bounds-result-count : goal.slice_bounds-result-count
slice_bounds-result-count c =
    let marks = c.self.inside.marks.items in
    let n = c.args.number in
    let k = c.in-Some.ensures.lookup in
    let here = got c.deref.result.now marks n c.in-Some.mark.now c.deref.ensures.value k.0 k.1 in
    let start : c.start_in-start.result ≡ start_at 0 marks n =
    c.start_in-start.ensures ∙ ap (λ ms. start_at 0 ms n) c.as_slice.ensures.value in
    let ends = within c.self.inside.values.items marks n c.in-Some.mark.now c.self.invariant here in
    let all : length c.deref-in-Some.result.now ≡ length c.self.inside.values.items =
    ap length c.deref-in-Some.ensures.value in
    omega (arith, start, ends.0, ends.1, all, c.deref-in-Some.type_inv.0, c.deref-in-Some.type_inv.1)

pub slice_bounds-result-start : goal.slice_bounds-result-start
slice_bounds-result-start c =
    let marks = c.self.inside.marks.items in
    let n = c.args.number in
    let k = c.in-Some.ensures.lookup in
    let here = got c.deref.result.now marks n c.in-Some.mark.now c.deref.ensures.value k.0 k.1 in
    let start : c.start_in-start.result ≡ start_at 0 marks n =
    c.start_in-start.ensures ∙ ap (λ ms. start_at 0 ms n) c.as_slice.ensures.value in
    let ends = within c.self.inside.values.items marks n c.in-Some.mark.now c.self.invariant here in
    let all : length c.deref-in-Some.result.now ≡ length c.self.inside.values.items =
    ap length c.deref-in-Some.ensures.value in
    omega (arith, start, ends.0, ends.1, all, c.deref-in-Some.type_inv.0, c.deref-in-Some.type_inv.1)

pub slice_bounds-result-end : goal.slice_bounds-result-end
slice_bounds-result-end c =
    let marks = c.self.inside.marks.items in
    let n = c.args.number in
    let k = c.in-Some.ensures.lookup in
    let here = got c.deref.result.now marks n c.in-Some.mark.now c.deref.ensures.value k.0 k.1 in
    let start : c.start_in-start.result ≡ start_at 0 marks n =
    c.start_in-start.ensures ∙ ap (λ ms. start_at 0 ms n) c.as_slice.ensures.value in
    let ends = within c.self.inside.values.items marks n c.in-Some.mark.now c.self.invariant here in
    let all : length c.deref-in-Some.result.now ≡ length c.self.inside.values.items =
    ap length c.deref-in-Some.ensures.value in
    omega (arith, start, ends.0, ends.1, all, c.deref-in-Some.type_inv.0, c.deref-in-Some.type_inv.1)

pub returns-in-Some : goal.returns-in-Some
returns-in-Some c =
    let marks = c.self.inside.marks.items in
    let items = c.self.inside.values.items in
    let n = c.args.number in
    let k = c.in-Some.ensures.lookup in
    let end = c.in-Some.mark.now.end in
    let first = c.start_in-start.result in
    let here = got c.deref.result.now marks n c.in-Some.mark.now c.deref.ensures.value k.0 k.1 in
    let start : first ≡ start_at 0 marks n =
    c.start_in-start.ensures ∙ ap (λ ms. start_at 0 ms n) c.as_slice.ensures.value in
    let cut : row_of (take (end - first) (drop first items))
    ≡ take (end - start_at 0 marks n) (drop (start_at 0 marks n) (row_of items)) =
    ap (λ z. row_of (take (end - z) (drop z items))) start ∙ cut_of items (start_at 0 marks n) end in
    ap (λ xs. row_of (take (end - first) (drop first xs))) c.deref-in-Some.ensures.value ∙ cut
    ∙ sym (get_or_from_slice_get (parts 0 marks (row_of items)) n _ []
    (part_at 0 marks (row_of items) n c.in-Some.mark.now here))
    ∙ ap (λ (rows : List Row). row_at rows n) c.self.view_is

pub returns-in-None : goal.returns-in-None
returns-in-None c =
    let marks = c.self.inside.marks.items in
    let values = row_of c.self.inside.values.items in
    let n = c.args.number in
    let k = c.in-None.ensures.lookup in
    let past : length marks ≤ n =
    subst (λ ms. length ms ≤ n) c.deref.ensures.value (ltb-false n (length c.deref.result.now) (sym k.0)) in
    let beyond : length (parts 0 marks values) ≤ n = omega (arith, parts_length 0 marks values, past) in
    subst (λ (rows : List Row). [] ≡ row_at rows n) c.self.view_is
    (sym (get_or_past (parts 0 marks values) n [] beyond))
