-- Commands to a prompt.
use Rattle.std.specs.Prelude.{ℕ, ◌-◌, Bool, ◌||◌, ◌==◌, if◌then◌else◌, List, [], length, take, drop, get_or, codes}
use Rattle.std.specs.Prelude.{Option, Some, None}
use Rattle.std.specs.Char.{is_ascii_whitespace}
use Rattle.std.specs.List.{prefix_len, suffix_len, before_first, after_first}
use Rattle.std.specs.Str.{bytes_eq, str_to_ascii_lowercase}
use Rattle.tql_prompt.specs.declared.command.Verb.{Verb}
use Rattle.tql_prompt.specs.declared.command.Verb.TheVariants as verb
use Rattle.tql_prompt.specs.declared.command.Command.{Command}

-- a text without blanks at its end, and at both ends
abbrev pub trimmed_end : List ℕ → List ℕ
trimmed_end t = take (length t - suffix_len is_ascii_whitespace t) t

abbrev pub trimmed : List ℕ → List ℕ
trimmed t = trimmed_end (drop (prefix_len is_ascii_whitespace t) t)

-- a text without the `;` at its end, if it has one
abbrev pub unterminated : List ℕ → List ℕ
unterminated t = if get_or t (length t - 1) 0 == 59 then take (length t - 1) t else t

-- a line without blanks at its ends and without a `;` at its end
abbrev pub bare : List ℕ → List ℕ
bare line = trimmed (unterminated (trimmed line))

-- the first word of a text, up to the first space, and the rest without blanks at its ends
pub record Cut : Type 0 where
  pub word : List ℕ
  pub argument : List ℕ

abbrev pub is_space : ℕ → Bool
is_space b = b == 32

abbrev pub cut_of : List ℕ → Cut
cut_of t = record { word = before_first is_space t; argument = trimmed (after_first is_space t) }

-- what a word asks for that begins with a point
abbrev pub dotted : List ℕ → Verb
dotted w =
    if bytes_eq w (codes ".help") then verb.Help
    else (if bytes_eq w (codes ".quit") || bytes_eq w (codes ".exit") then verb.Quit
    else (if bytes_eq w (codes ".tables") then verb.Tables
    else (if bytes_eq w (codes ".schema") then verb.Schema
    else (if bytes_eq w (codes ".read") then verb.Read
    else (if bytes_eq w (codes ".format") then verb.Format
    else (if bytes_eq w (codes ".output") then verb.Output
    else (if bytes_eq w (codes ".timer") then verb.Timer
    else (if bytes_eq w (codes ".width") then verb.Width
    else (if bytes_eq w (codes ".echo") then verb.Echo
    else (if bytes_eq w (codes ".plans") then verb.Plans
    else verb.Unknown))))))))))

-- what a whole line in lower case asks for that does not begin with a point
abbrev pub plain : List ℕ → Option Verb
plain w =
    if bytes_eq w (codes "help") then Some verb.Help
    else (if bytes_eq w (codes "quit") || bytes_eq w (codes "exit") then Some verb.Quit
    else None)

-- a command: what it asks for, its word, and its argument
pub record Order : Type 0 where
  pub verb : Verb
  pub word : List ℕ
  pub argument : List ℕ

abbrev pub order_of : Command → Order
order_of c = record { verb = c.verb; word = c.word.now; argument = c.argument.now }

-- the command that such a line is, if it begins with a point
abbrev pub dotted_order : List ℕ → Order
dotted_order line =
    record { verb = dotted (cut_of line).word; word = (cut_of line).word; argument = (cut_of line).argument }

abbrev pub plain_order : List ℕ → Option Verb → Option Order
plain_order line None = None
plain_order line (Some v) = Some (record { verb = v; word = line; argument = [] })

-- the command that a line is, if it is one
abbrev pub bare_command : List ℕ → Option Order
bare_command line =
    if get_or line 0 0 == 46 then Some (dotted_order line) else plain_order line (plain (str_to_ascii_lowercase line))

abbrev pub command_of : List ℕ → Option Order
command_of line = bare_command (bare line)
