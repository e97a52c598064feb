use Rattle.std.proofs.Common.{◌≡◌, drop, map}
use Rattle.tql_expr.specs.Meaning.{cond, HasCond, Stays, any_of}
use Rattle.tql_expr.proofs.terms.Terms.push_any.Given as goal

-- the condition so far and the remaining ones give the whole
abbrev pub invariant-loop-c : goal.invariant-loop-c
invariant-loop-c l = record {
  stays : Stays l.fn.self l.self;
  within : HasCond l.self l.so_far;
  is : any_of (cond l.self l.so_far) (map (cond l.fn.self) (drop l.c-index l.rest)) ≡ any_of
      (cond l.fn.self l.fn.first) (map (cond l.fn.self) l.rest);
}
