-- The results of clap's getters, expressed by the definitions of the command line.
use Rattle.std.proofs.Common.{ap, refl, subst, sym, true, [], ◌≡◌, ◌∙◌, Option, Result, Ok, Err, List}
use Rattle.std.specs.Prelude.{IfOk, IsErrAnd, option_map, unwrap_or, map}
use Rattle.std.specs.Borrow.{Bor}
use Rattle.std.specs.declared.alloc.AllocError.{AllocError}
use Rattle.clap.specs.Kinds.{FailsBy, HasKind, Kinds}
use Rattle.clap.specs.Matches.{matched_of, raw_values}
use Rattle.clap.specs.Words.{App, Text, app_of, is_simple, is_simple_and_free, rows_of}
use Rattle.clap.specs.declared.builder.command.Command.{Command}
use Rattle.clap.specs.declared.error.Error.{Error}
use Rattle.clap.specs.declared.parser.matches.Found.{Found}
use Rattle.clap.proofs.OnLiterals.{clap_on_literals}
use Rattle.clap.proofs.WalkLemmas.{raw_values-rows}
use Rattle.tql_options.specs.Described.{IsGiven, with_told}
use Rattle.tql_options.specs.declared.options.Described.{Described}
use Rattle.tql_options.specs.CommandLine.{texts, tql_line, values_of}

-- the values of an argument are the words that are given for it
pub given_values : (f : Found) (id : Text) (given : Option (Bor (List (Bor Text))))
    → option_map (λ s. map (λ v. v.now) s.now) given ≡ option_map raw_values (matched_of f id)
    → unwrap_or (option_map (λ s. texts s.now) given) [] ≡ values_of id (rows_of f)
given_values f id given e = ap (λ (o : Option (List Text)). unwrap_or o []) (e ∙ raw_values-rows f id)

-- the matches of the command are known
pub is_plain : is_simple tql_line ≡ true
unfolding clap_on_literals tql_line
is_plain = refl

-- the faults of the command are known
pub is_free : is_simple_and_free tql_line ≡ true
unfolding clap_on_literals tql_line
is_free = refl

-- an error that is passed on keeps its kind
pub passed_on : {T : Type 0} (kinds : Kinds) (e : Error) (r : Result T Error) → HasKind kinds e
    → IsErrAnd r (λ x. x ≡ e) → FailsBy kinds r
passed_on kinds e (Ok x) has same = absurd same
passed_on kinds e (Err x) has same = subst (λ (y : Error). HasKind kinds y) (sym same) has

-- a command that is given arguments is what an equal one is with them
pub given_as : (r : Result Command AllocError) (ds : List Described) (a b : App) → a ≡ b
    → IfOk r (λ made. IsGiven a ds (app_of made)) → IfOk r (λ made. app_of made ≡ with_told b ds)
given_as (Ok made) ds a b e given = given.all ∙ ap (λ c. with_told c ds) e
given_as (Err _) ds a b e given = tt
