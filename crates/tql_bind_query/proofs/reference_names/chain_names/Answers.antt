use Rattle.std.proofs.Common.{◌≡◌, List, [], ◌∷◌, ◌++◌, map, sym, subst}
use Rattle.std.specs.Prelude.{string_bytes}
use Rattle.tql_syntax_tree.specs.Statements.{chain_of, join_of, ref_of}
use Rattle.tql_syntax_tree.specs.declared.statement.JoinTree.{JoinTree}
use Rattle.tql_bind_query.specs.From.{name_in, names_in, reference_in}
use Rattle.tql_bind_query.proofs.ChainLaws.{alone, first_shown}
use Rattle.tql_bind_query.proofs.reference_names.chain_names.Goals as goal

pub loop-join-init : goal.loop-join-init
loop-join-init c =
    let written = c.args.written.now in
    let names = c.push.new.self.items in
    let name = c.in_ok-known_as.field-0 in
    let one : names ≡ name ∷ [] =
    alone c.new-names.result.items names name c.new-names.ensures.items c.in_ok-push.ensures.items in
    subst (λ (js : List JoinTree). map string_bytes names ++ map
    (λ (j : JoinTree). name_in (reference_in (join_of j))) js ≡
    names_in (chain_of written)) (sym c.deref-join-items.ensures.value)
    (first_shown string_bytes (λ j. name_in (reference_in j)) join_of names name (name_in (ref_of written.first))
    written.joins.items one c.in_ok-known_as.ensures)
