use Rattle.std.proofs.Common.{◌≡◌, ◌<◌, ◌-◌, suc, length, map, take, ap, sym, ◌∙◌, arith, slice_index_or}
use Rattle.tql_spec.specs.Expression.{Or}
use Rattle.tql_expr.specs.Trees.{cond_of}
use Rattle.tql_expr.specs.Meaning.{size, cond, one_of}
use Rattle.tql_expr.specs.declared.terms.CondId.{CondId}
use Rattle.tql_expr.proofs.Laws.{stays_trans}
use Rattle.tql_expr.proofs.Nesting.{one_of_last}
use Rattle.tql_expr.proofs.terms.Terms.push_one_of.Goals as goal

pub loop-left-preserved : goal.loop-left-preserved
loop-left-preserved c =
    let k = c.loop-left.left - 1 in
    let conds = c.args.conds.now in
    let none : CondId = record { place = 0 } in
    let x = slice_index_or conds k none in
    let kept = c.loop-left.invariant in
    let added = c.in_ok-so_far.ensures in
    let here : k < length conds = omega arith in
    let next : suc k ≡ c.loop-left.left = omega arith in
    let inside : x.place < size c.args.self.now = c.requires.conds k none here in
    let before = cond c.loop-left.self c.loop-left.so_far in
    let step : cond c.push_or.new.self c.in_ok-so_far.so_far ≡ Or (cond c.args.self.now x) before =
    ap cond_of added.is ∙ ap (λ t. Or (cond_of t) before) (kept.stays.same x.place inside) in
    let f = cond c.args.self.now in
    record {
      left = omega arith;
      stays = stays_trans kept.stays added.stays;
      within = added.within;
      is =
          ap (one_of (map f (take k conds))) step
          ∙ sym (one_of_last f conds k none before here)
          ∙ ap (λ n. one_of (map f (take n conds)) before) next
          ∙ kept.is;
    }
