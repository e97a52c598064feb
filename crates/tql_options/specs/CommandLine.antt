-- The command line of the program.
use Rattle.std.specs.Prelude.{◌≡◌, ◌-◌, ◌^◌, ◌||◌, ◌==◌, ℕ, Bool, true, false, if◌then◌else◌, List, [], ◌∷◌, ◌++◌}
use Rattle.std.specs.Prelude.{Option, Some, None, codes, length, map, option_map, unwrap_or}
use Rattle.std.specs.Borrow.{Bor}
use Rattle.std.specs.Str.{bytes_eq}
use Rattle.clap.specs.Simple.{on_top}
use Rattle.clap.specs.Words.{App, Row, Rule, Text, all_of, first_of, one_of, fault_of, matches_of, new_app, new_rule}
use Rattle.clap.specs.Words.{with_rule}
use Rattle.clap.specs.Kinds.{Kinds}
use Rattle.clap.specs.declared.builder.action.ArgAction.TheVariants.{Append, SetTrue}
use Rattle.tql_options.specs.Sizes.{bytes_told}
use Rattle.tql_options.specs.declared.options.CommandLine.{CommandLine}
use Rattle.tql_options.specs.declared.options.Format.{Format}
use Rattle.tql_options.specs.declared.options.Format.TheVariants as format
use Rattle.tql_options.specs.declared.options.Input.{Input}
use Rattle.tql_options.specs.declared.options.Input.TheVariants as input

-- `--check`
abbrev pub check_rule : Rule
check_rule = record (new_rule (codes "check")) { long = Some (codes "check"); action = Some SetTrue }

-- `--bail`
abbrev pub bail_rule : Rule
bail_rule = record (new_rule (codes "bail")) { long = Some (codes "bail"); action = Some SetTrue }

-- `--interactive`, or `-i`
abbrev pub interactive_rule : Rule
interactive_rule = record (new_rule (codes "interactive")) {
  long = Some (codes "interactive");
  short = Some 105;
  action = Some SetTrue;
}

-- `--quiet`, or `-q`
abbrev pub quiet_rule : Rule
quiet_rule = record (new_rule (codes "quiet")) { long = Some (codes "quiet"); short = Some 113; action = Some SetTrue }

-- `--plans`
abbrev pub plans_rule : Rule
plans_rule = record (new_rule (codes "plans")) { long = Some (codes "plans"); action = Some SetTrue }

-- `--echo`
abbrev pub echo_rule : Rule
echo_rule = record (new_rule (codes "echo")) { long = Some (codes "echo"); action = Some SetTrue }

-- `--titles`
abbrev pub titles_rule : Rule
titles_rule = record (new_rule (codes "titles")) { long = Some (codes "titles"); action = Some SetTrue }

-- `--memory SIZE`
abbrev pub memory_rule : Rule
memory_rule = record (new_rule (codes "memory")) { long = Some (codes "memory"); value_names = 1 }

-- `--format FORMAT`
abbrev pub format_rule : Rule
format_rule = record (new_rule (codes "format")) { long = Some (codes "format"); value_names = 1 }

-- `--journal FILE`
abbrev pub journal_rule : Rule
journal_rule = record (new_rule (codes "journal")) { long = Some (codes "journal"); value_names = 1 }

-- `--verify FILE`
abbrev pub verify_rule : Rule
verify_rule = record (new_rule (codes "verify")) { long = Some (codes "verify"); value_names = 1 }

-- `--command TEXT`, or `-c TEXT`, any number of times
abbrev pub command_rule : Rule
command_rule = record (new_rule (codes "command")) {
  long = Some (codes "command");
  short = Some 99;
  action = Some Append;
  value_names = 1;
}

-- the words SCRIPT, any number of them
abbrev pub script_rule : Rule
script_rule = record (new_rule (codes "SCRIPT")) { action = Some Append }

-- a command that has a version to show
abbrev pub with_version : App → App
with_version = on_top (λ s. record s { has_version = true })

-- `tql [OPTIONS] [SCRIPT]...`, with `--version` and, as every command, `--help`
unfoldable pub tql_line : App
tql_line = with_rule (with_rule (with_rule (with_rule (with_rule (with_rule (with_rule (with_rule (with_rule (with_rule
    (with_rule (with_rule (with_rule (with_version (new_app (codes "tql"))) check_rule) bail_rule) interactive_rule)
    quiet_rule) plans_rule) echo_rule) titles_rule) memory_rule) format_rule) journal_rule) verify_rule) command_rule)
    script_rule

-- the flag that a text sets: `true` or `false`
pub record TellsFlag (text : Option Text) (flag : Bool) : Type 0 where
  pub set : text ≡ Some (codes "true") → flag ≡ true
  pub clear : text ≡ Some (codes "false") → flag ≡ false

-- all values of an argument, in the order of the words
abbrev pub values_of : Text → List Row → List Text
values_of id rows = unwrap_or (all_of id rows) []

-- the texts of references
abbrev pub texts : List (Bor Text) → List Text
texts = map (λ s. s.now)

-- the command line of these matches
pub record IsLineOf (rows : List Row) (line : CommandLine) : Type 0 where
  pub check : TellsFlag (one_of (codes "check") rows) line.check
  pub bail : TellsFlag (one_of (codes "bail") rows) line.bail
  pub interactive : TellsFlag (one_of (codes "interactive") rows) line.interactive
  pub quiet : TellsFlag (one_of (codes "quiet") rows) line.quiet
  pub plans : TellsFlag (one_of (codes "plans") rows) line.plans
  pub echo : TellsFlag (one_of (codes "echo") rows) line.echo
  pub titles : TellsFlag (one_of (codes "titles") rows) line.titles
  pub memory : option_map (λ s. s.now) line.memory ≡ first_of (codes "memory") rows
  pub format : option_map (λ s. s.now) line.format ≡ first_of (codes "format") rows
  pub journal : option_map (λ s. s.now) line.journal ≡ first_of (codes "journal") rows
  pub verify : option_map (λ s. s.now) line.verify ≡ first_of (codes "verify") rows
  pub commands : texts line.commands.items ≡ values_of (codes "command") rows
  pub scripts : texts line.scripts.items ≡ values_of (codes "SCRIPT") rows

-- the command line that the words say; the first word is the program's name
abbrev pub Reads : List Text → CommandLine → Type 0
Reads words line = IsLineOf (matches_of tql_line words) line

-- the fault of the words, or the request that replaces a run (help or version); none if they are accepted
abbrev pub faults_in : List Text → Kinds
faults_in words = fault_of tql_line words

-- the maximal number of bytes in use, by the word SIZE: 2 ^ 64 - 1 without it; none if it is not a size
abbrev pub bound_of : Option Text → Option ℕ
bound_of None = Some (2 ^ 64 - 1)
bound_of (Some word) = bytes_told word

-- the format of this name
abbrev pub named_format : Text → Option Format
named_format word = if bytes_eq word (codes "table") then Some format.Table
    else (if bytes_eq word (codes "box") then Some format.Boxed
    else (if bytes_eq word (codes "csv") then Some format.Csv
    else (if bytes_eq word (codes "json") then Some format.Json
    else (if bytes_eq word (codes "jsonl") then Some format.Jsonl else None))))

-- the format that the word FORMAT names; without it boxes at a terminal, and plain tables elsewhere
abbrev pub format_of : Bool → Option Text → Option Format
format_of is_terminal None = Some (if is_terminal then format.Boxed else format.Table)
format_of is_terminal (Some word) = named_format word

-- the input that a word SCRIPT names: `-` is the standard input
abbrev pub input_named : Bor Text → Input
input_named word = if bytes_eq word.now (codes "-") then input.Standard else input.File word

-- the standard input, if it is requested or if there is no other input
abbrev pub standard_input : Bool → List Input → List Input
standard_input is_asked others = if is_asked || (length others == 0) then input.Standard ∷ [] else []

-- the inputs in the order in which they are read: the scripts, the texts of the command line, the standard input
abbrev pub inputs_of : List (Bor Text) → List (Bor Text) → Bool → List Input
inputs_of scripts commands interactive =
    let others = map input_named scripts ++ map input.Text commands in
    others ++ standard_input interactive others
