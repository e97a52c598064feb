-- The values are those of the matches.
use Rattle.std.proofs.Common.{ap, sym, ◌∙◌, [], ◌++◌, List, Option}
use Rattle.std.specs.Prelude.{option_map, unwrap_or}
use Rattle.std.specs.Borrow.{Bor}
use Rattle.clap.specs.Words.{Text, found_of}
use Rattle.tql_options.specs.CommandLine.{texts}
use Rattle.tql_options.proofs.LineLemmas.{given_values}
use Rattle.tql_options.proofs.options.values.Goals.{in-Some+in_ok-extend_from_slice, in_default}
use Rattle.tql_options.proofs.options.values.Goals as goal

abbrev all_texts : Option (Bor (List (Bor Text))) → List Text
all_texts given = unwrap_or (option_map (λ s. texts s.now) given) []

pub returns : goal.returns
returns c =
    let given = given_values (found_of c.args.matches.now) c.args.id.now c.get_strs.result c.get_strs.ensures in
    elim c.match-get_strs.branch [
      | in-Some+in_ok-extend_from_slice w ↦
          ap (λ v. texts v.items) w.values-is ∙ ap texts (w.in_ok-extend_from_slice.ensures.items
          ∙ ap (λ (made : List (Bor Text)). made ++ w.in-Some.words.now) c.new-values.ensures.items)
          ∙ ap all_texts (sym w.in-Some.is) ∙ given
      | in_default w ↦
          ap (λ v. texts v.items) w.values-is ∙ ap texts c.new-values.ensures.items
          ∙ ap all_texts (sym w.in_default.is) ∙ given
    ]
