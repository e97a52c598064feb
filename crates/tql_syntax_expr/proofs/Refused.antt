-- An error that a rule propagates.
use Rattle.std.proofs.Common.{◌≡◌, rules, Result, Ok, Err}
use Rattle.std.specs.Prelude.{◌≢◌, List}
use Rattle.std.specs.Result.{IsErr, IsErrAnd}
use Rattle.tql_spec.specs.Token.{Token}
use Rattle.tql_syntax_grammar.specs.Outcome.{Outcome, Failed}
use Rattle.tql_syntax_expr.specs.Parsing.{Reads}
use Rattle.tql_syntax_expr.specs.declared.cursor.ParseError.{ParseError}
use Rattle.tql_syntax_expr.specs.declared.cursor.ParseError.TheVariants.{OutOfMemory}

pub refused : {A B : Type 0} (view : A
    → B) (o : Outcome B) (r : Result A ParseError) (e : ParseError) (new : List Token)
    → IsErr r × IsErrAnd r (λ f. f ≡ e) → (e ≢ OutOfMemory → o ≡ Failed) → Reads view o r new
refused view o (Ok a) e new is why = search rules
refused view o (Err f) e new is why = search rules
