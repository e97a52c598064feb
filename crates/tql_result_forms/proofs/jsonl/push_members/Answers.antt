use Rattle.std.proofs.Common.{◌∷◌, [], refl, sym, ap, length, drop, map, string_bytes}
use Rattle.std.proofs.lemmas.List.{length_push}
use Rattle.std.proofs.lemmas.Slice.Zip.{zip_turn, zip_end}
use Rattle.tql_result_laws.specs.Jsonl.{row_members}
use Rattle.tql_value.specs.Views.{datum_of_value, datum_of_view, row_of}
use Rattle.tql_result.proofs.Pushing.{sent_none, step, stop, pushed_whole}
use Rattle.tql_result_forms.proofs.Pairing.{members_turn, members_end, sent_as}
use Rattle.tql_result_forms.proofs.Parting.{parted_after, parted_after_none}
use Rattle.tql_result_forms.proofs.jsonl.push_members.Goals as goal

pub loop-name-init : goal.loop-name-init
loop-name-init g c =
    sent_as (sym (parted_after_none (row_members (map string_bytes c.args.names.now) (row_of c.args.cells.now))))
    (sent_none _ _ _)

pub returns-in_err-push_next_member : goal.returns-in_err-push_next_member
returns-in_err-push_next_member g c =
    let t = zip_turn c.args.names.now c.args.cells.now c.loop-name.yielded
    _ _ c.next.new.self _ (cc) (cc) c.loop-name.yielded_by
    (c.in-Some.name, c.in-Some.cell) c.in-Some.is c.next.ensures.steps in
    let more = members_turn string_bytes datum_of_value c.loop-name.front.now c.args.names.now c.args.cells.now
    (length c.loop-name.yielded) c.in-Some.name.now c.in-Some.cell.now c.as_str.result.now (datum_of_view c.view.result)
    t.0 t.1 (t.2 c.in-Some.name.now) (t.3 c.in-Some.cell.now) c.as_str.ensures.value c.view.ensures in
    stop _ _ c.from_residual.ensures.0 c.loop-name.invariant more c.in_err-push_next_member.ensures

pub loop-name-preserved : goal.loop-name-preserved
loop-name-preserved g c =
    let t = zip_turn c.args.names.now c.args.cells.now c.loop-name.yielded
    _ _ c.next.new.self _ (cc) (cc) c.loop-name.yielded_by
    (c.in-Some.name, c.in-Some.cell) c.in-Some.is c.next.ensures.steps in
    let more = members_turn string_bytes datum_of_value c.loop-name.front.now c.args.names.now c.args.cells.now
    (length c.loop-name.yielded) c.in-Some.name.now c.in-Some.cell.now c.as_str.result.now (datum_of_view c.view.result)
    t.0 t.1 (t.2 c.in-Some.name.now) (t.3 c.in-Some.cell.now) c.as_str.ensures.value c.view.ensures in
    sent_as
    (ap (λ n. parted_after (44 ∷ 32 ∷ [])
    (row_members (map string_bytes (drop n c.args.names.now)) (row_of (drop n c.args.cells.now))))
    (sym (length_push c.loop-name.yielded (c.in-Some.name, c.in-Some.cell))))
    (step _ c.loop-name.invariant more c.in_ok-push_next_member.ensures)

pub returns : goal.returns
returns g c =
    let long = zip_end c.args.names.now c.args.cells.now c.loop-name.yielded
    _ _ c.next.new.self _ (cc) (cc) c.loop-name.yielded_by
    c.in-None.is c.next.ensures.steps in
    pushed_whole _ refl
    (sent_as
    (ap (parted_after c.loop-name.front.now)
    (members_end string_bytes datum_of_value c.args.names.now c.args.cells.now (length c.loop-name.yielded) long))
    c.loop-name.invariant)
