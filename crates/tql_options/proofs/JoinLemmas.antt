-- Which words stay as they are when options and their values are joined.
use Rattle.std.proofs.Common.{◌≡◌, ◌∙◌, ◌++◌, ◌<◌, ◌≤◌, ap, sym, refl, arith, true, List, [], ◌∷◌, length, map, get_or}
use Rattle.std.proofs.Common.{string_bytes, Result, Ok, Err, String, Global}
use Rattle.std.specs.Prelude.{IfOk}
use Rattle.std.specs.Str.{bytes_eq}
use Rattle.std.specs.declared.alloc.AllocError.{AllocError}
use Rattle.clap.specs.Words.{Text}
use Rattle.tql_options.specs.Joining.{dashes, words_joined}

-- fewer than two words have no option with a value
pub few_stay : (words : List (String Global)) → length words < 2
    → words_joined (map string_bytes words) ≡ map string_bytes words
few_stay [] h = refl
few_stay (word ∷ []) h = refl
few_stay (word ∷ value ∷ others) h = absurd (omega (arith, h))

-- after `--` no word is an option
pub ended_stay : (words : List (String Global)) (d : String Global) → 2 ≤ length words
    → bytes_eq (string_bytes (get_or words 0 d)) dashes ≡ true
    → words_joined (map string_bytes words) ≡ map string_bytes words
ended_stay [] d h e = absurd (omega (arith, h))
ended_stay (word ∷ []) d h e = absurd (omega (arith, h))
ended_stay (word ∷ value ∷ others) d h e = rw e refl

-- if the remaining words stay as they are, adding them adds all words as they are to be
pub rest_added : {T : Type 0} (r : Result T AllocError) (before left after whole : List Text)
    → before ++ words_joined left ≡ whole → words_joined left ≡ left → IfOk r (λ _. after ≡ before ++ left)
    → IfOk r (λ _. after ≡ whole)
rest_added (Ok _) before left after whole e stays added = added ∙ ap (λ ls. before ++ ls) (sym stays) ∙ e
rest_added (Err _) before left after whole e stays added = tt
