use Rattle.std.proofs.Common.{◌≡◌, false, length}
use Rattle.tql_spec.specs.Script as script
use Rattle.tql_lex.proofs.scan.without_lead.Given as goal

abbrev pub invariant-loop-rest : goal.invariant-loop-rest
invariant-loop-rest l = script.without_lead l.in_comment l.rest ≡ script.without_lead false l.bytes

abbrev pub decreases-loop-rest : goal.decreases-loop-rest
decreases-loop-rest l = length l.rest
