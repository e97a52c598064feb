use Rattle.std.proofs.Common.{◌≡◌, length, rules, sym, ◌∙◌}
use Rattle.std.proofs.lemmas.Str.{chars_from_encodes}
use Rattle.std.specs.Str.{chars}
use Rattle.tql_value.proofs.TextLemmas.{characters-chars}
use Rattle.tql_value.proofs.text.characters.Goals as goal

pub returns : goal.returns
returns c =
    let count : c.count.result ≡ length (chars c.args.text.now) = search (rules, chars_from_encodes) in
    count ∙ sym (characters-chars c.args.text.now c.utf8.text)
