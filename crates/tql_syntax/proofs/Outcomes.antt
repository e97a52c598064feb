-- What the tokens spell, where a statement was read and where none was.
use Rattle.std.specs.Prelude.{◌≡◌, ◌≢◌, ◌≤◌, ◌<◌, List, [], ◌∷◌, length, None, Result, Ok, Err, IsErrAnd}
use Rattle.std.proofs.Common.{ap, sym, subst, arith}
use Rattle.tql_spec.specs.Token.{Token, depth}
use Rattle.tql_spec.specs.Syntax.{Statement}
use Rattle.tql_spec.specs.Grammar.{IsStatement}
use Rattle.tql_value.specs.declared.refusal.Refusal.{Refusal}
use Rattle.tql_syntax_tree.specs.declared.tree.Tree as code
use Rattle.tql_syntax_grammar.specs.Outcome.{Read, Failed, whole}
use Rattle.tql_syntax_grammar.specs.ReadingStatements.{statement_at, read_statement}
use Rattle.tql_syntax_expr.specs.Parsing.{refusal_for}
use Rattle.tql_syntax.specs.Parses.{Spells, SpellsNone}
use Rattle.tql_syntax_expr.specs.declared.cursor.ParseError.{ParseError}
use Rattle.tql_syntax_expr.specs.declared.cursor.ParseError.TheVariants.{OutOfMemory, NotInGrammar}
use Rattle.tql_syntax_grammar.proofs.StatementLaws.{reads_statement, statement_is_read}

-- where nothing is read as a whole, the tokens spell no statement
nothing_read : (ts : List Token) → read_statement ts ≡ None → SpellsNone ts
nothing_read ts e s p = let r = statement_is_read ts s p in absurd cc

-- the error of a statement that was not read
pub failed : (ts : List Token) (e : ParseError) → depth ts ≤ 64 → (e ≢ OutOfMemory → statement_at ts ≡ Failed)
    → Spells ts (Err (refusal_for e))
failed ts OutOfMemory shallow h = tt
failed ts NotInGrammar shallow h = let e : statement_at ts ≡ Failed =
    h (λ p. cc) in (shallow, nothing_read ts (ap whole e))

-- the refusal for that error
pub refused : (ts : List Token) (r : Result code.Tree Refusal) (e : ParseError) → depth ts ≤ 64
    → (e ≢ OutOfMemory → statement_at ts ≡ Failed) → IsErrAnd r (λ x. x ≡ refusal_for e) → Spells ts r
refused ts (Ok s) e shallow h k = absurd k
refused ts (Err x) e shallow h k = subst (λ (y : Refusal). Spells ts (Err y)) (sym k) (failed ts e shallow h)

-- tokens are left after the statement
pub left_over : (ts : List Token) (s : Statement) (rest : List Token) → statement_at ts ≡ Read s rest
    → 0 < length rest → SpellsNone ts
left_over ts s [] e some = absurd (omega arith)
left_over ts s (t ∷ rest) e some = nothing_read ts (ap whole e)

-- no token is left after the statement
pub spelled : (ts : List Token) (s : Statement) (rest : List Token) → statement_at ts ≡ Read s rest → length rest ≤ 0
    → IsStatement s ts
spelled ts s [] e none = reads_statement ts s (ap whole e)
spelled ts s (t ∷ rest) e none = absurd (omega arith)
