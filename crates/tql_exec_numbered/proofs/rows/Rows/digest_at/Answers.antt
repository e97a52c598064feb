-- The digest of a row is in its mark.
use borrow.Author.Tests.{ltb-true, ltb-false}
use Rattle.std.proofs.Common.{◌≡◌, ◌≤◌, ap, arith, length, refl, subst, sym, ◌∙◌}
use Rattle.std.specs.Prelude.{None, Some, List, option_map, slice_get}
use Rattle.std.proofs.lemmas.Option.{slice_get_past, slice_get_read}
use Rattle.tql_spec.specs.Datum.{Row}
use Rattle.tql_value.specs.Views.{row_of}
use Rattle.tql_exec_join.specs.Digest.{spread_digest}
use Rattle.tql_exec_numbered.specs.Rows.{parts}
use Rattle.tql_exec_numbered.proofs.Parts.{part_at, part_digest, parts_length}
use Rattle.tql_exec_numbered.proofs.rows.Rows.digest_at.Goals as goal

pub returns-in-Some-clause-digest : goal.returns-in-Some-clause-digest
returns-in-Some-clause-digest c =
    let marks = c.self.inside.marks.items in
    let values = row_of c.self.inside.values.items in
    let n = c.args.number in
    let mark = c.in-Some.mark.now in
    let k = c.in-Some.ensures.lookup in
    let is = c.deref.ensures.value in
    let here : slice_get marks n ≡ Some mark =
    ap (λ ms. slice_get ms n) (sym is)
    ∙ slice_get_read c.deref.result.now (length c.deref.result.now) n mark refl
    (ltb-true n (length c.deref.result.now) (sym k.0)) k.1 in
    subst (λ (rows : List Row). Some mark.digest ≡ option_map spread_digest (slice_get rows n)) c.self.view_is
    (ap Some (part_digest 0 marks values n mark c.self.invariant here)
    ∙ ap (option_map spread_digest) (sym (part_at 0 marks values n mark here)))

pub returns-in-None-clause-digest : goal.returns-in-None-clause-digest
returns-in-None-clause-digest c =
    let marks = c.self.inside.marks.items in
    let values = row_of c.self.inside.values.items in
    let n = c.args.number in
    let k = c.in-None.ensures.lookup in
    let past : length marks ≤ n =
    subst (λ ms. length ms ≤ n) c.deref.ensures.value (ltb-false n (length c.deref.result.now) (sym k.0)) in
    let beyond : length (parts 0 marks values) ≤ n = omega (arith, parts_length 0 marks values, past) in
    subst (λ (rows : List Row). None ≡ option_map spread_digest (slice_get rows n)) c.self.view_is
    (sym (ap (option_map spread_digest) (slice_get_past (parts 0 marks values) n beyond)))
