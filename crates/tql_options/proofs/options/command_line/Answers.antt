-- The matches of the command are those of its words.
use Rattle.std.proofs.Common.{ap, subst, sym, map, string_bytes, List, ◌∙◌}
use Rattle.clap.specs.Kinds.{HasKind}
use Rattle.clap.specs.Words.{App, Row, fault_of, is_simple, is_simple_and_free, matches_of}
use Rattle.tql_options.specs.CommandLine.{IsLineOf, faults_in}
use Rattle.tql_options.proofs.LineLemmas.{is_free, is_plain, passed_on}
use Rattle.tql_options.proofs.options.command_line.Goals as goal

pub returns-in_err-matches-clause-fails : goal.returns-in_err-matches-clause-fails
returns-in_err-matches-clause-fails c =
    let words = map (λ s. string_bytes s) c.args.words.now in
    let failed = c.in_err-matches.ensures.kinds (ap is_simple_and_free c.in_ok-command.ensures ∙ is_free) in
    let has =
    subst (λ (a : App). HasKind (fault_of a words) c.in_err-matches.field-0.0) c.in_ok-command.ensures failed in
    passed_on (faults_in words) _ _ has (c.from_residual-in_err-matches.ensures).1

pub returns-clause-reads : goal.returns-clause-reads
returns-clause-reads c =
    let words = map (λ s. string_bytes s) c.args.words.now in
    let has = c.in_ok-matches.ensures.matches (ap is_simple c.in_ok-command.ensures ∙ is_plain) in
    subst (λ (rows : List Row). IsLineOf rows c.in_ok-line.line)
    (has.0 ∙ ap (λ a. matches_of a words) c.in_ok-command.ensures) c.in_ok-line.ensures

pub returns-clause-fails : goal.returns-clause-fails
returns-clause-fails c =
    let none = c.in_ok-matches.ensures.kinds (ap is_simple_and_free c.in_ok-command.ensures ∙ is_free) in
    ap (λ a. fault_of a (map (λ s. string_bytes s) c.args.words.now)) (sym c.in_ok-command.ensures) ∙ none
