use Rattle.std.proofs.Common.{◌≡◌, ◌-◌, ◌∙◌, length, take, rules, arith, ap, subst, sym}
use Rattle.std.proofs.lemmas.Grind.{common_steps}
use Rattle.tql_store_rows.proofs.LentRows.{front_fewer}
use Rattle.tql_store_rows.specs.Loans.{AreLent}
use Rattle.tql_standing.specs.RowsStanding.{rows_of}
use Rattle.tql_versions.specs.Views.{versions_of}
use Rattle.tql_store_rows.proofs.borrowing.settle.Goals as goal

pub loop-indexes-preserved : goal.loop-indexes-preserved
loop-indexes-preserved g c =
    let kept : c.truncate.new.self.items
    ≡ take (length c.loop-indexes.loans.items - 1) c.loop-indexes.loans.items =
    c.truncate.ensures.items
    ∙ ap (λ k. take k c.loop-indexes.loans.items) (first_of (search rules, grind (arith, common_steps))) in
    record {
      indexes = let e = c.in_ok-settle_last.ensures.indexes in
          let l = c.loop-indexes.invariant.indexes in omega (arith, e, l);
      standing = subst (λ ls. AreLent c.args.base ls c.settle_last.new.seats c.settle_last.new.indexes
          (rows_of (versions_of c.args.versions.now.items))) (sym kept) c.in_ok-settle_last.ensures.ok;
      fewer = front_fewer c.args.loans.now.items c.loop-indexes.loans.items c.truncate.new.self.items
          (length c.loop-indexes.loans.items - 1) c.loop-indexes.invariant.fewer kept;
    }
