-- Options and their values as one word each, so that a value may begin with `-`.
use Rattle.std.specs.Prelude.{◌||◌, Bool, if◌then◌else◌, List, [], ◌∷◌, ◌++◌, codes}
use Rattle.std.specs.Str.{bytes_eq}
use Rattle.clap.specs.Words.{Text}

-- the word after which no word is an option
abbrev pub dashes : Text
dashes = codes "--"

-- whether a word is an option whose value is the next word: its name, or `-c`, also behind the letters of flags
abbrev pub takes_value : Text → Bool
takes_value word = bytes_eq word (codes "--command") || (bytes_eq word (codes "--format")
    || (bytes_eq word (codes "--journal") || (bytes_eq word (codes "--memory") || (bytes_eq word (codes "--verify")
    || (bytes_eq word (codes "-c") || (bytes_eq word (codes "-ic") || (bytes_eq word (codes "-qc")
    || (bytes_eq word (codes "-iqc") || bytes_eq word (codes "-qic")))))))))

-- an option and its value as one word: `--command=TEXT`
abbrev pub pair_joined : Text → Text → Text
pair_joined option value = option ++ codes "=" ++ value

-- words with each option and its value as one, up to `--`
abbrev pub words_joined : List Text → List Text
words_joined [] = []
words_joined (word ∷ []) = word ∷ []
words_joined (word ∷ value ∷ others) = if bytes_eq word dashes then word ∷ value ∷ others
    else (if takes_value word then pair_joined word value ∷ words_joined others
    else word ∷ words_joined (value ∷ others))

-- the words of a command line, the program's name first, with each option and its value as one
abbrev pub line_joined : List Text → List Text
line_joined [] = []
line_joined (name ∷ words) = name ∷ words_joined words
