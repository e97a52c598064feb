use Rattle.std.proofs.Common.{◌≡◌, ◌≤◌, take, map, length}
use Rattle.tql_expr.specs.Meaning.{cond, HasCond, Stays, one_of}
use Rattle.tql_expr.proofs.terms.Terms.push_one_of.Given as goal

-- the remaining conditions and the nested part so far give the whole
abbrev pub invariant-loop-left : goal.invariant-loop-left
invariant-loop-left l = record {
  left : l.left ≤ length l.conds;
  stays : Stays l.fn.self l.self;
  within : HasCond l.self l.so_far;
  is : one_of (map (cond l.fn.self) (take l.left l.conds)) (cond l.self l.so_far) ≡ one_of
      (map (cond l.fn.self) l.conds) (cond l.fn.self l.fn.last);
}

abbrev pub decreases-loop-left : goal.decreases-loop-left
decreases-loop-left l = l.left
