use Rattle.std.proofs.Common.{◌≡◌, ◌∷◌, drop}
use Rattle.std.specs.Prelude.{map}
use Rattle.tql_spec.specs.Token.{upper}
use Rattle.tql_lex.proofs.WordLemmas.{first_folded}
use Rattle.tql_lex.proofs.reserved.is_reserved.Goals as goal

pub returns-in-len1-up : goal.returns-in-len1-up
returns-in-len1-up c =
    let behind = map upper (drop 1 c.args.word.now) in
    let parts : map upper c.args.word.now ≡ c.upper.result ∷ behind =
    first_folded c.args.word.now c.upper.result c.in-len1-up.len_at_least c.upper.ensures in
    let told = rw parts at c.is_any_of.ensures in rw (parts, told) (c.beginning_with.ensures behind)
