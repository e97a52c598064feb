-- Arguments as the code describes them.
use Rattle.std.specs.Prelude.{◌≡◌, List, [], ◌∷◌, option_map, is_some, if◌then◌else◌}
use Rattle.clap.specs.Words.{App, Rule, new_rule, with_rule}
use Rattle.tql_options.specs.declared.options.Described.{Described}

-- the rule of a described argument
abbrev pub rule_told : Described → Rule
rule_told d = record (new_rule d.id.now) {
  long = option_map (λ s. s.now) d.long;
  short = d.short;
  action = d.action;
  value_names = if is_some d.value then 1 else 0;
}

-- a command with the rules of described arguments, in their order
abbrev pub with_told : App → List Described → App
with_told command [] = command
with_told command (d ∷ ds) = with_told (with_rule command (rule_told d)) ds

-- a command is made by giving one the described arguments
pub record IsGiven (command : App) (ds : List Described) (made : App) : Type 0 where
  pub all : made ≡ with_told command ds
