use Rattle.std.proofs.Common.{ℤ, w64, refl, sym, subst}
use Rattle.std.proofs.Math.Facts.{to_z-of_z}
use Rattle.tql_store_rows.specs.TableModel.{TableModel, InTurn}
use Rattle.tql_store.specs.Orderly.{table_at, touch_at, IsCommitted}
use Rattle.tql_store.proofs.Turning.{read-here, step-ended}
use Rattle.tql_store.proofs.turns.commit_each.Goals as goal
use mir.Val.{to_z, of_z}

pub commit-requires : goal.commit-requires
commit-requires g c =
    let read = read-here (IsCommitted (to_z w64 (of_z w64 c.args.moment))) c.loop-number.number-index
    c.args.touched.now c.args.rows.now c.loop-number.rows c.index-rows-number.result c.index-rows-number.is
    c.loop-number.invariant c.loop-number-test.true c.requires.apart c.requires.within in
    subst (λ (h : TableModel). InTurn (to_z w64 (of_z w64 c.args.moment)) h) c.index-rows-number.is
    (subst (λ (h : TableModel). InTurn (to_z w64 (of_z w64 c.args.moment)) h) (sym read)
    (subst (λ (x : ℤ). InTurn x (table_at c.args.rows.now (touch_at c.args.touched.now c.loop-number.number-index)))
    (sym (to_z-of_z c.ranges.moment)) (c.requires.turn (touch_at c.args.touched.now c.loop-number.number-index))))

pub loop-number-preserved : goal.loop-number-preserved
loop-number-preserved g c =
    let read = read-here (IsCommitted (to_z w64 (of_z w64 c.args.moment))) c.loop-number.number-index
    c.args.touched.now c.args.rows.now c.loop-number.rows c.index-rows-number.result c.index-rows-number.is
    c.loop-number.invariant c.loop-number-test.true c.requires.apart c.requires.within in
    step-ended (IsCommitted (to_z w64 (of_z w64 c.args.moment))) c.loop-number.number-index
    (touch_at c.args.touched.now c.loop-number.number-index) c.args.touched.now c.args.rows.now c.loop-number.rows
    c.commit.new.self c.loop-number.invariant c.loop-number-test.true c.requires.apart refl
    (c.requires.within c.loop-number.number-index c.loop-number-test.true)
    (subst (λ (h : TableModel). IsCommitted (to_z w64 (of_z w64 c.args.moment)) h c.commit.new.self) (read)
    (subst (λ (h : TableModel). IsCommitted (to_z w64 (of_z w64 c.args.moment)) h c.commit.new.self)
    (sym c.index-rows-number.is) (record {
      rest = c.commit.ensures.rest;
      keeps = c.commit.ensures.keeps;
      versions = c.commit.ensures.versions;
    })))
