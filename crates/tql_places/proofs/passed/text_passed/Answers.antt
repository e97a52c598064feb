use Rattle.std.proofs.Common.{arith}
use Rattle.tql_places.proofs.Values.{text_is, no_text}
use Rattle.tql_places.proofs.passed.text_passed.Goals as goal

pub returns-in-Ok : goal.returns-in-Ok
returns-in-Ok c =
    text_is c.args.length c.args.rest.now _ _ c.in-Ok.text.now (omega arith) c.split_at.ensures.front
    c.split_at.ensures.back c.in-Ok.ensures.cases

pub returns-in-Err : goal.returns-in-Err
returns-in-Err c =
    no_text c.args.length c.args.rest.now _ c.split_at.ensures.front c.in-Err.ensures.cases.0
