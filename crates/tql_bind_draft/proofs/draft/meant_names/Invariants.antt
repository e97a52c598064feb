use Rattle.std.proofs.Common.{◌≡◌, ◌∷◌, ◌++◌, drop, map}
use Rattle.tql_bind_expr.specs.Scopes.{word_of}
use Rattle.tql_syntax_tree.specs.Expressions.{name_of}
use Rattle.tql_bind_draft.proofs.draft.meant_names.Given as goal

-- the names decoded so far and the remaining ones
abbrev pub invariant-loop-name : goal.invariant-loop-name
invariant-loop-name l =
    map word_of l.texts.items ++ map name_of (drop l.name-index l.more) ≡ name_of l.first ∷ map name_of l.more
