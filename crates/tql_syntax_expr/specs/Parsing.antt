-- How the result of a parser function relates to the reading rule.
use Rattle.std.specs.Prelude.{◌≡◌, ◌≢◌, List, Option, Some, None, Result, Ok, Err}
use Rattle.tql_spec.specs.Token.{Token}
use Rattle.tql_syntax_grammar.specs.Outcome.{Outcome, Parser, Failed, Read}
use Rattle.tql_syntax_expr.specs.declared.cursor.ParseError.{ParseError}
use Rattle.tql_syntax_expr.specs.declared.cursor.ParseError.TheVariants.{OutOfMemory, NotInGrammar}
use Rattle.tql_value.specs.declared.refusal.Refusal.{Refusal}
use Rattle.tql_value.specs.declared.refusal.Refusal.TheVariants as refusal

-- the refusal that an error becomes
abbrev pub refusal_for : ParseError → Refusal
refusal_for OutOfMemory = refusal.OutOfMemory
refusal_for NotInGrammar = refusal.NotAStatement

-- the rule reads the view of the result; an error other than `OutOfMemory` says that the rule fails
abbrev pub Reads : {A B : Type 0} → (A → B) → Outcome B → Result A ParseError → List Token → Type 0
Reads view outcome (Ok a) new = outcome ≡ Read (view a) new
Reads view outcome (Err e) new = e ≢ OutOfMemory → outcome ≡ Failed

-- the rule reads the view of what was taken; if nothing was taken, all tokens are left
abbrev pub Takes : {A B : Type 0} → (A → B) → Parser B → List Token → Option A → List Token → Type 0
Takes view rule old None new = new ≡ old
Takes view rule old (Some a) new = rule old ≡ Read (view a) new

-- the same; and if nothing was taken, the rule fails
abbrev pub Eats : {A B : Type 0} → (A → B) → Parser B → List Token → Option A → List Token → Type 0
Eats view rule old None new = (rule old ≡ Failed) × (new ≡ old)
Eats view rule old (Some a) new = rule old ≡ Read (view a) new

-- the view of a result that carries nothing
abbrev pub nothing : Unit {0} → Unit {0}
nothing u = u

-- the view of a result that is its own value
abbrev pub itself : {A : Type 0} → A → A
itself a = a
