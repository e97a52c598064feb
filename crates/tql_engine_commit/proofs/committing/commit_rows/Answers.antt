use Rattle.std.proofs.Common.{◌∙◌, ap, subst, Some}
use Rattle.std.proofs.Math.Facts.{to_z-of_z}
use Rattle.tql_store.specs.Represents.{RollbackRestores}
use Rattle.tql_store.specs.StoreModel.{StoreModel}
use Rattle.tql_store.proofs.Judging.{still-removable}
use Rattle.tql_engine_commit.proofs.committing.commit_rows.Goals as goal

pub apply-requires-clause-removable : goal.apply-requires-clause-removable
apply-requires-clause-removable g c =
    still-removable c.args.store.now _ c.args.delta.table c.args.delta.removed.items
    (c.begin.ensures.names c.args.delta.table) c.requires.removable

pub returns-in-Ok-clause-ok : goal.returns-in-Ok-clause-ok
returns-in-Ok-clause-ok g c = record {
  opened = c.begin.new.self;
  changed = c.apply.new.self;
  begins = c.begin.ensures.copies;
  is_open = c.begin.ensures.working ∙ ap Some (to_z-of_z c.ranges.moment);
  same_names = c.begin.ensures.names;
  changes = c.in-Ok.ensures.copies;
  still_open = c.in-Ok.ensures.ok.working ∙ c.begin.ensures.working ∙ ap Some (to_z-of_z c.ranges.moment);
  commits = c.commit.ensures.copies;
  idle = c.commit.ensures.working;
  places = c.commit.ensures.tables ∙ c.in-Ok.ensures.ok.tables ∙ c.begin.ensures.tables;
  horizon = c.commit.ensures.horizon ∙ c.in-Ok.ensures.ok.horizon ∙ c.begin.ensures.horizon;
}

pub returns-in-Err-clause-err : goal.returns-in-Err-clause-err
returns-in-Err-clause-err g c = record {
  opened = c.begin.new.self;
  begins = c.begin.ensures.copies;
  is_open = c.begin.ensures.working ∙ ap Some (to_z-of_z c.ranges.moment);
  restores = subst (λ old. RollbackRestores old c.rollback.new.self) c.in-Err.ensures.err c.rollback.ensures.copies;
  idle = c.rollback.ensures.working;
  places = c.rollback.ensures.tables ∙ ap (λ (h : StoreModel). h.tables) c.in-Err.ensures.err ∙ c.begin.ensures.tables;
  horizon = c.rollback.ensures.horizon ∙ ap (λ (h : StoreModel). h.horizon) c.in-Err.ensures.err
      ∙ c.begin.ensures.horizon;
}
