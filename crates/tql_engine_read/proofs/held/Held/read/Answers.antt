use Rattle.std.proofs.Common.{◌≡◌, ◌∙◌, ap, subst, sym, List, Option, map}
use Rattle.std.specs.Prelude.{ℤ, string_bytes}
use Rattle.tql_spec.specs.Datum.{Row}
use Rattle.tql_spec.specs.Machine.{Read, bag_in}
use Rattle.tql_spec.specs.Query.{answer}
use Rattle.tql_spec.specs.Readers.{pinned_of}
use Rattle.tql_bound.specs.Queries.{bound_query_of}
use Rattle.tql_exec_steps.specs.Steps.{ordered}
use Rattle.tql_expr.specs.Evaluated.{Fails}
use Rattle.tql_store.specs.Pinned.{PinCopies, pinned}
use Rattle.tql_engine_state.specs.Readers.{pin_of, reader_of}
use Rattle.tql_engine_state.specs.Stands.{EngineModel, StandsFor}
use Rattle.tql_engine_state.proofs.Doing.{asked_does, asked_errs, read_asked}
use Rattle.tql_engine_state.proofs.ReadersShow.{at_pin, can_read, read_is, shows_read}
use Rattle.tql_engine_read.proofs.held.Held.read.Goals as goal

pub answered-requires-clause-can : goal.answered-requires-clause-can
answered-requires-clause-can g c =
    let h = c.args.self.now in
    let n = string_bytes c.args.read.now.reader in
    let q = bound_query_of c.args.read.now.query in
    let o : Option ℤ = c.pin_of-pin.result in
    let r = c.pinned-shown.result in
    let named : o ≡ pin_of n h.readers =
    c.pin_of-pin.ensures ∙ ap (λ x. pin_of x (map reader_of c.self.inside.readers.now)) c.deref.ensures
    ∙ ap (λ (x : EngineModel). pin_of n x.readers) c.self.view_is in
    let shown = c.pinned-shown.ensures.store ∙ ap (λ (x : EngineModel). pinned o x.store) c.self.view_is in
    let pins = subst (λ (x : EngineModel). PinCopies o x.store r) c.self.view_is c.pinned-shown.ensures.copies in
    let s = c.self.invariant.state in
    let st = subst (λ (x : EngineModel). StandsFor x s) c.self.view_is c.self.invariant.stands in
    can_read h s st n q c.requires.within o named r shown pins c.self.invariant.typed c.requires.placed

pub returns-in-Ok : goal.returns-in-Ok
returns-in-Ok g c s st =
    let h = c.args.self.now in
    let n = string_bytes c.args.read.now.reader in
    let q = bound_query_of c.args.read.now.query in
    let o : Option ℤ = c.pin_of-pin.result in
    let r = c.pinned-shown.result in
    let named : o ≡ pin_of n h.readers =
    c.pin_of-pin.ensures ∙ ap (λ x. pin_of x (map reader_of c.self.inside.readers.now)) c.deref.ensures
    ∙ ap (λ (x : EngineModel). pin_of n x.readers) c.self.view_is in
    let shown = c.pinned-shown.ensures.store ∙ ap (λ (x : EngineModel). pinned o x.store) c.self.view_is in
    let pins = subst (λ (x : EngineModel). PinCopies o x.store r) c.self.view_is c.pinned-shown.ensures.copies in
    asked_does h s (Read n q) q (answer (bag_in s.definitions (pinned_of n s.readers)) q) st
    (read_asked h s n q st c.requires.within) _ _
    (ap (ordered q.ordering) (sym (read_is h s st n q c.requires.within o named))
    ∙ c.in-Ok.ensures.rows (at_pin o s) (shows_read h s st n q c.requires.within o named r shown pins))
    c.in-Ok.ensures.headings

pub returns-in-Err : goal.returns-in-Err
returns-in-Err g c s st =
    let h = c.args.self.now in
    let n = string_bytes c.args.read.now.reader in
    let q = bound_query_of c.args.read.now.query in
    let o : Option ℤ = c.pin_of-pin.result in
    let r = c.pinned-shown.result in
    let named : o ≡ pin_of n h.readers =
    c.pin_of-pin.ensures ∙ ap (λ x. pin_of x (map reader_of c.self.inside.readers.now)) c.deref.ensures
    ∙ ap (λ (x : EngineModel). pin_of n x.readers) c.self.view_is in
    let shown = c.pinned-shown.ensures.store ∙ ap (λ (x : EngineModel). pinned o x.store) c.self.view_is in
    let pins = subst (λ (x : EngineModel). PinCopies o x.store r) c.self.view_is c.pinned-shown.ensures.copies in
    asked_errs h s (Read n q) q (answer (bag_in s.definitions (pinned_of n s.readers)) q) st
    (read_asked h s n q st c.requires.within) c.in-Err.refusal
    (subst (λ (a : Option (List Row)). Fails (ordered q.ordering a) c.in-Err.refusal)
    (read_is h s st n q c.requires.within o named)
    (c.in-Err.ensures.rows (at_pin o s) (shows_read h s st n q c.requires.within o named r shown pins)))
