use Rattle.std.proofs.Common.{◌≡◌, ◌<◌, ℕ, List, Ok, Err, None, sym, subst, length, map}
use Rattle.std.specs.Prelude.{IsNone, IsTrue, ◌<ℤ◌}
use Rattle.std.proofs.lemmas.List.Elements.{recursion_from_All}
use Rattle.tql_spec.specs.Bag.{SameBag}
use Rattle.tql_spec.specs.Calendar.{high}
use Rattle.tql_spec.specs.Definition.{Stamped}
use Rattle.tql_spec.specs.Machine.{State, ChangeRows, step}
use Rattle.tql_spec.specs.Refusal.{first}
use Rattle.tql_spec.proofs.Bags.{same-refl}
use Rattle.tql_catalog.specs.Rows.{IsRowOf}
use Rattle.tql_catalog.specs.declared.catalog.Table.{Table}
use Rattle.tql_store.specs.Changes.{rows_after}
use Rattle.tql_store.specs.StoreModel.{has_table}
use Rattle.tql_engine_state.specs.Committing.{ChangesRows, KeepsRows}
use Rattle.tql_engine_state.specs.Effects.{Refuses}
use Rattle.tql_engine_state.specs.Making.{Changes, IsMade}
use Rattle.tql_engine_state.specs.Readers.{reader_of}
use Rattle.tql_engine_state.specs.Stands.{EngineModel, StandsFor}
use Rattle.tql_engine_state.proofs.Added.{after_faults}
use Rattle.tql_engine_state.proofs.ChangeKeeps.{kept_law, working_now, working_rows}
use Rattle.tql_engine_state.proofs.Making.{check_refuses, copy_is, held_before, made_so, told_for}
use Rattle.tql_engine_state.proofs.Modifying.{table_there}
use Rattle.tql_engine_state.proofs.MomentFits.{after_reads, clock_reads, clock_under}
use Rattle.tql_engine_state.proofs.Standing.{there_law}
use Rattle.tql_engine_state.proofs.Typed.{sound_after}
use Rattle.tql_engine_step.proofs.engine.Engine.make.Goals as goal

pub check-tested-requires-clause-there : goal.check-tested-requires-clause-there
check-tested-requires-clause-there g c = λ t p e. there_law _ c.self.invariant.state t p c.self.invariant.stands e

pub returns-in-Err : goal.returns-in-Err
returns-in-Err g c = λ s change st k.
    let h : EngineModel = record {
      tables = c.self.inside.tables;
      store = c.self.inside.store;
      next = c.self.inside.next;
      readers = map reader_of c.self.inside.readers.items;
    } in
    let own : State = c.self.invariant.state in
    let ot = c.self.invariant.stands in
    let back = subst (λ x. StandsFor x s) (sym c.self.view_is) st in
    let here : Changes h c.args.place c.args.delta c.args.verb change s =
    subst (λ x. Changes x c.args.place c.args.delta c.args.verb change s) (sym c.self.view_is) k in
    let within = subst (λ (x : EngineModel). c.args.place < length x.tables) (sym c.self.view_is) c.requires.within in
    let t = table_there h.tables c.args.place within in
    let below = subst (λ (x : EngineModel). IsNone x.store.working → x.next <ℤ high) (sym c.self.view_is)
    c.requires.below in
    let added = c.args.delta.added.items in
    let rows : List Stamped = rows_after h.next here.gone added (working_rows own c.args.place) in
    let told = c.in-Err.ensures.tests (working_now own).copy rows here.gone (copy_is h own ot) here.judged
    (held_before h own ot c.self.invariant.holds)
    (subst (λ m. SameBag rows (rows_after m here.gone added (working_rows own c.args.place)))
    (sym (clock_reads h own ot)) (same-refl rows)) in
    subst (λ x. Refuses x s c.in-Err.refusal (step s (ChangeRows change))) c.self.view_is
    (check_refuses h s c.args.place t.0 c.args.delta c.args.verb change back t.1 below here c.in-Err.refusal
    (told_for h own s c.args.place c.args.delta c.args.verb change (Err c.in-Err.refusal) ot back here told))

pub change_rows-requires-clause-later : goal.change_rows-requires-clause-later
change_rows-requires-clause-later g c = clock_under _ c.self.invariant.state c.self.invariant.stands

pub change_rows-requires-clause-present : goal.change_rows-requires-clause-present
change_rows-requires-clause-present g c =
    let made = subst (λ x. IsMade x c.args.place c.args.delta c.args.verb) (sym c.self.view_is) c.requires.made in
    let within = subst (λ (x : EngineModel). c.args.place < length x.tables) (sym c.self.view_is) c.requires.within in
    let t = table_there c.self.inside.tables c.args.place within in
    let fits = made.fits c.self.invariant.state c.self.invariant.stands c.self.invariant.typed in
    subst (λ i. IsTrue (has_table c.self.inside.store i)) (sym (fits.table t.0 t.1))
    (there_law _ c.self.invariant.state c.args.place t.0 c.self.invariant.stands t.1)

pub invariant_of-self : goal.invariant_of-self
invariant_of-self g c =
    let h : EngineModel = record {
      tables = c.self.inside.tables;
      store = c.self.inside.store;
      next = c.self.inside.next;
      readers = map reader_of c.self.inside.readers.items;
    } in
    let own : State = c.self.invariant.state in
    let ot = c.self.invariant.stands in
    let made : IsMade h c.args.place c.args.delta c.args.verb =
    subst (λ x. IsMade x c.args.place c.args.delta c.args.verb) (sym c.self.view_is) c.requires.made in
    let here = made.makes own ot in
    let fits = made.fits own ot c.self.invariant.typed in
    let within = subst (λ (x : EngineModel). c.args.place < length x.tables) (sym c.self.view_is) c.requires.within in
    let t = table_there h.tables c.args.place within in
    let p : Table = t.0 in
    let below = subst (λ (x : EngineModel). IsNone x.store.working → x.next <ℤ high) (sym c.self.view_is)
    c.requires.below in
    let added = c.args.delta.added.items in
    let removed : List ℕ = c.args.delta.removed.items in
    let rows : List Stamped = rows_after h.next here.gone added (working_rows own c.args.place) in
    let told = c.in_default.ensures.tests (working_now own).copy rows here.gone (copy_is h own ot) here.judged
    (held_before h own ot c.self.invariant.holds)
    (subst (λ m. SameBag rows (rows_after m here.gone added (working_rows own c.args.place)))
    (sym (clock_reads h own ot)) (same-refl rows)) in
    let none : first (after_faults own c.args.place here.made.rows) ≡ None =
    told_for h own own c.args.place c.args.delta c.args.verb made.change (Ok tt) ot ot here told in
    let fit = recursion_from_All (IsRowOf p.definition) added (fits.fit p t.1) in
    let new = c.change_rows.new.store in
    let after = c.in-Ok.next in
    let done = subst (λ m. ChangesRows h.store.working m after c.args.delta.table removed added h.store new)
    (clock_reads h own ot) c.in-Ok.ensures.ok in
    rw (after_reads h own after c.args.delta.table removed added new ot below done)
    (sound_after _ _ c.self.invariant (ChangeRows made.change) _ made.typed (λ i e. absurd (cc))
    (made_so h own c.args.place p c.args.delta c.args.verb made.change ot t.1 below here new after none fit
    (fits.table p t.1) done))

pub invariant_of-self-in-Err-change_rows : goal.invariant_of-self-in-Err-change_rows
invariant_of-self-in-Err-change_rows g c =
    let s : State = c.self.invariant.state in
    let st = c.self.invariant.stands in
    let old = c.self.inside.store in
    let kept = subst (λ m. KeepsRows old.working m old c.change_rows.new.store) (clock_reads _ s st)
    c.in-Err-change_rows.ensures.err in
    record {
      state = s;
      stands = kept_law _ s c.change_rows.new.store st kept;
      typed = c.self.invariant.typed;
      holds = c.self.invariant.holds;
    }

pub returns-in-Ok : goal.returns-in-Ok
returns-in-Ok g c = λ s change st k.
    let h : EngineModel = record {
      tables = c.self.inside.tables;
      store = c.self.inside.store;
      next = c.self.inside.next;
      readers = map reader_of c.self.inside.readers.items;
    } in
    let own : State = c.self.invariant.state in
    let ot = c.self.invariant.stands in
    let back = subst (λ x. StandsFor x s) (sym c.self.view_is) st in
    let here : Changes h c.args.place c.args.delta c.args.verb change s =
    subst (λ x. Changes x c.args.place c.args.delta c.args.verb change s) (sym c.self.view_is) k in
    let made : IsMade h c.args.place c.args.delta c.args.verb =
    subst (λ x. IsMade x c.args.place c.args.delta c.args.verb) (sym c.self.view_is) c.requires.made in
    let fits = made.fits own ot c.self.invariant.typed in
    let within = subst (λ (x : EngineModel). c.args.place < length x.tables) (sym c.self.view_is) c.requires.within in
    let t = table_there h.tables c.args.place within in
    let p : Table = t.0 in
    let below = subst (λ (x : EngineModel). IsNone x.store.working → x.next <ℤ high) (sym c.self.view_is)
    c.requires.below in
    let added = c.args.delta.added.items in
    let removed : List ℕ = c.args.delta.removed.items in
    let rows : List Stamped = rows_after h.next here.gone added (working_rows own c.args.place) in
    let told = c.in_default.ensures.tests (working_now own).copy rows here.gone (copy_is h own ot) here.judged
    (held_before h own ot c.self.invariant.holds)
    (subst (λ m. SameBag rows (rows_after m here.gone added (working_rows own c.args.place)))
    (sym (clock_reads h own ot)) (same-refl rows)) in
    let none : first (after_faults s c.args.place here.made.rows) ≡ None =
    told_for h own s c.args.place c.args.delta c.args.verb change (Ok tt) ot back here told in
    let fit = recursion_from_All (IsRowOf p.definition) added (fits.fit p t.1) in
    let new = c.change_rows.new.store in
    let after = c.in-Ok.next in
    let done = subst (λ m. ChangesRows h.store.working m after c.args.delta.table removed added h.store new)
    (clock_reads h s back) c.in-Ok.ensures.ok in
    rw (after_reads h s after c.args.delta.table removed added new back below done)
    (made_so h s c.args.place p c.args.delta c.args.verb change back t.1 below here new after none fit
    (fits.table p t.1) done)

pub returns-in-Err-change_rows : goal.returns-in-Err-change_rows
returns-in-Err-change_rows g c = λ s change st k.
    let back = subst (λ h. StandsFor h s) (sym c.self.view_is) st in
    let old = c.self.inside.store in
    let kept = subst (λ m. KeepsRows old.working m old c.change_rows.new.store) (clock_reads _ s back)
    c.in-Err-change_rows.ensures.err in
    rw c.in-Err-change_rows.ensures.memory (kept_law _ s c.change_rows.new.store back kept)
