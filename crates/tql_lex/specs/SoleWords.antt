-- Texts of one or two words.
use Rattle.std.specs.Prelude.{◌≡◌, ℕ, Bool, true, false, ◌&&◌, List, [], ◌∷◌, map, drop, Option, Some, None}
use Rattle.tql_spec.specs.Token.{Token, Word, upper}
use Rattle.tql_spec.specs.FirstToken.{WordSort, first_token}
use Rattle.tql_lex.specs.declared.token.Token as code
use Rattle.tql_lex.specs.Tokens.{sort_of}
use Rattle.tql_lex.specs.Reading.{IsTokenAt}

-- the word that starts at `start`
abbrev pub IsWordAt : List ℕ → ℕ → Option code.Token → Type 0
IsWordAt text start None = (n : ℕ) → first_token (drop start text) ≡ Some (WordSort, n) → ⊥
IsWordAt text start (Some t) = IsTokenAt text start (Some t) × (sort_of t.kind ≡ WordSort)

-- whether a token is a word
abbrev pub is_any_word : Token → Bool
is_any_word (Word w) = true
is_any_word _ = false

-- whether the tokens are one word or two words
abbrev pub are_words : List Token → Bool
are_words (t ∷ []) = is_any_word t
are_words (t ∷ u ∷ []) = is_any_word t && is_any_word u
are_words _ = false

-- the tokens of a word, and of a second one if there is one, given by their spelling
abbrev pub word_tokens : List ℕ → Option (List ℕ) → List Token
word_tokens first None = Word (map upper first) ∷ []
word_tokens first (Some second) = Word (map upper first) ∷ Word (map upper second) ∷ []
