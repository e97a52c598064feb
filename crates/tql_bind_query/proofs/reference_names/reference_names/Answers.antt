use Rattle.std.proofs.Common.{◌≡◌, [], ◌∷◌, map}
use Rattle.std.specs.Prelude.{string_bytes}
use Rattle.tql_syntax_tree.specs.Statements.{chain_of}
use Rattle.tql_bind_query.specs.From.{names_in}
use Rattle.tql_bind_query.proofs.ChainLaws.{alone, first_shown}
use Rattle.tql_bind_query.proofs.reference_names.reference_names.Goals as goal

pub loop-written-init : goal.loop-written-init
loop-written-init c =
    let all = c.push.new.self.items in
    let names = c.in_ok-chain_names.field-0 in
    let one : all ≡ names ∷ [] =
    alone c.new-all.result.items all names c.new-all.ensures.items c.in_ok-push.ensures.items in
    first_shown (λ n. map string_bytes n.items) names_in chain_of all names (names_in (chain_of c.args.first.now))
    c.args.more.now one c.in_ok-chain_names.ensures
