use Rattle.std.proofs.Common.{◌≡◌, ◌∙◌, sym, subst, map, w64, to_z, of_z}
use Rattle.tql_engine_state.specs.Readers.{reader_of}
use Rattle.tql_engine_state.specs.Stands.{EngineModel, IsSound}
use Rattle.tql_engine_state.proofs.MomentFits.{clock_reads}
use Rattle.tql_engine_step.proofs.engine.Engine.held.Goals as goal

pub invariant_of-result : goal.invariant_of-result
invariant_of-result g c =
    let inside : EngineModel = record {
      tables = c.self.inside.tables;
      store = c.self.inside.store;
      next = c.self.inside.next;
      readers = map reader_of c.self.inside.readers.items;
    } in
    let read : EngineModel = record {
      tables = inside.tables;
      store = inside.store;
      next = to_z w64 (of_z w64 inside.next);
      readers = map reader_of c.deref.result.now;
    } in
    let same : read ≡ inside = λ i. record {
      tables = inside.tables;
      store = inside.store;
      next = clock_reads inside c.self.invariant.state c.self.invariant.stands i;
      readers = map reader_of (c.deref.ensures.value i);
    } in
    subst IsSound (sym same) c.self.invariant

pub returns : goal.returns
returns g c =
    let inside : EngineModel = record {
      tables = c.self.inside.tables;
      store = c.self.inside.store;
      next = c.self.inside.next;
      readers = map reader_of c.self.inside.readers.items;
    } in
    let read : EngineModel = record {
      tables = inside.tables;
      store = inside.store;
      next = to_z w64 (of_z w64 inside.next);
      readers = map reader_of c.deref.result.now;
    } in
    let same : read ≡ inside = λ i. record {
      tables = inside.tables;
      store = inside.store;
      next = clock_reads inside c.self.invariant.state c.self.invariant.stands i;
      readers = map reader_of (c.deref.ensures.value i);
    } in
    same ∙ c.self.view_is
