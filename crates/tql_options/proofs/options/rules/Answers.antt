-- The command that is built from the described arguments is the one of the definitions.
use Rattle.std.proofs.Common.{◌≡◌, ap, codes, ◌∙◌}
use Rattle.clap.specs.Simple.{app_of_fields}
use Rattle.clap.specs.Words.{app_of, new_app}
use Rattle.tql_options.specs.CommandLine.{tql_line, with_version}
use Rattle.tql_options.proofs.LineLemmas.{given_as}
use Rattle.tql_options.proofs.options.rules.Goals as goal

pub returns : goal.returns
unfolding tql_line
returns c =
    let start : app_of c.after_help-command.result ≡ with_version (new_app (codes "tql")) =
    ap app_of_fields c.after_help-command.ensures ∙ ap app_of_fields c.about.ensures
    ∙ ap app_of_fields c.version.ensures ∙ ap with_version c.new.ensures.app in
    given_as c.with_arguments.result _ _ _ start c.with_arguments.ensures
