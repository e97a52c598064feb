-- One more source.
use Rattle.std.proofs.Common.{◌<◌, ◌+◌, ◌∙◌, [], ap, arith, length, subst, sym}
use Rattle.std.specs.List.{AllZip}
use Rattle.std.proofs.lemmas.List.{length_push}
use Rattle.tql_exec_group.specs.Sources.{IsSource}
use Rattle.tql_exec_group.proofs.Sourced.{one_more_source}
use Rattle.tql_exec_group.proofs.direct.sources_of.Goals as goal

pub loop-item-init : goal.loop-item-init
loop-item-init c = record {
  long = ap length c.in_ok-sources.ensures.items;
  each = λ columns h. subst (λ ss. AllZip (IsSource c.args.terms.now columns) ss []) (sym c.in_ok-sources.ensures.items)
      tt;
}

pub loop-item-preserved : goal.loop-item-preserved
loop-item-preserved c =
    let old = c.loop-item.sources.items in
    let pushed = c.in_ok-push-in-Some.ensures.items in
    let inside : c.loop-item.item-index < length c.args.items.now = omega arith in
    record {
      long = ap length pushed ∙ length_push old c.in-Some.source ∙ ap (λ n. n + 1) c.loop-item.invariant.long;
      each = λ columns h. one_more_source c.args.terms.now columns old c.push.new.self.items c.in-Some.source
          c.args.items.now c.loop-item.item-index _ inside pushed (c.in-Some.ensures columns h)
          (c.loop-item.invariant.each columns h);
    }
