-- From the result for the tokens of a text to the result for the text.
use Rattle.std.proofs.Common.{◌≡◌, refl, sym, subst, ℕ, ◌≤◌, List, Result, Ok, Err, length, IsUtf8}
use Rattle.tql_spec.specs.Token.{Token, AreTokens}
use Rattle.tql_spec.specs.Syntax.{Statement}
use Rattle.tql_spec.specs.Grammar.{IsStatement}
use Rattle.tql_spec.specs.Run.{IsWhole, IsTextOf, finished}
use Rattle.tql_spec.proofs.TokenLaws.{one_list}
use Rattle.tql_value.specs.declared.refusal.Refusal.{Refusal}
use Rattle.tql_value.specs.declared.refusal.Refusal.TheVariants as r
use Rattle.tql_syntax_tree.specs.declared.tree.Tree as code
use Rattle.tql_syntax.specs.Parses.{Spells, SpellsNone}
use Rattle.tql_syntax.specs.Texts.{SpellsText, ReadsText}
use Rattle.tql_syntax_grammar.proofs.TextLaws.{not_deep}

no_statement : (text : List ℕ) (ts : List Token) → AreTokens ts text → SpellsNone ts → (s : Statement)
    → IsTextOf text s → ⊥
no_statement text ts are none s (us, tokens, spelled) =
    let same : ts ≡ us = one_list text ts us are tokens.0 in
    none s (subst (λ vs. IsStatement s vs) (sym same) spelled)

-- a result that is right for the tokens is right for the text
pub spelled_says : (text : List ℕ) (ts : List Token) → AreTokens ts text → (result : Result code.Tree Refusal)
    → Spells ts result → SpellsText text result
spelled_says text ts are (Ok s) p = (ts, (are, p.0), p.1)
spelled_says text ts are (Err r.NestedTooDeep) p = (ts, are, p)
spelled_says text ts are (Err r.NotAStatement) p = (not_deep text ts are p.0, no_statement text ts are p.1)
spelled_says text ts are (Err r.OutOfMemory) p = tt
spelled_says text ts are (Err r.TooManyColumnsOrTables) p = absurd p
spelled_says text ts are (Err r.StatementTooLong) p = absurd p
spelled_says text ts are (Err r.NotUtf8) p = absurd p
spelled_says text ts are (Err r.UnfinishedStatement) p = absurd p
spelled_says text ts are (Err r.NotInThisTransactionState) p = absurd p
spelled_says text ts are (Err r.MomentNotAllowed) p = absurd p
spelled_says text ts are (Err r.ReadersAreOpen) p = absurd p
spelled_says text ts are (Err r.TableUnknownOrAlreadyThere) p = absurd p
spelled_says text ts are (Err r.NameUnknownAmbiguousOrRepeated) p = absurd p
spelled_says text ts are (Err r.TypesDoNotFit) p = absurd p
spelled_says text ts are (Err r.FormNotAllowedHere) p = absurd p
spelled_says text ts are (Err r.TableIsReferenced) p = absurd p
spelled_says text ts are (Err r.TooManyTablesOrReaders) p = absurd p
spelled_says text ts are (Err r.BeforeTheHorizon) p = absurd p
spelled_says text ts are (Err r.ReaderNotUsable) p = absurd p
spelled_says text ts are (Err r.ValueOutOfRange) p = absurd p
spelled_says text ts are (Err r.PortionNotRising) p = absurd p
spelled_says text ts are (Err r.NullNotAllowed) p = absurd p
spelled_says text ts are (Err r.PeriodNotRising) p = absurd p
spelled_says text ts are (Err r.CheckFailed) p = absurd p
spelled_says text ts are (Err r.DuplicateKey) p = absurd p
spelled_says text ts are (Err r.ReferenceNotMet) p = absurd p

whole : (text : List ℕ) → length text ≤ 1_048_576 → IsUtf8 text → IsWhole (finished text)
whole text short utf8 = record { short = short; utf8 = utf8; finished = refl }

-- a result that is right for the text is right for the bytes, if these have no fault
pub text_says : (text : List ℕ) → length text ≤ 1_048_576 → IsUtf8 text → (result : Result code.Tree Refusal)
    → SpellsText text result → ReadsText text result
text_says text short utf8 (Ok s) p = (whole text short utf8, p)
text_says text short utf8 (Err r.NestedTooDeep) p = (whole text short utf8, p)
text_says text short utf8 (Err r.NotAStatement) p = (whole text short utf8, p.0, p.1)
text_says text short utf8 (Err r.OutOfMemory) p = tt
text_says text short utf8 (Err r.TooManyColumnsOrTables) p = absurd p
text_says text short utf8 (Err r.StatementTooLong) p = absurd p
text_says text short utf8 (Err r.NotUtf8) p = absurd p
text_says text short utf8 (Err r.UnfinishedStatement) p = absurd p
text_says text short utf8 (Err r.NotInThisTransactionState) p = absurd p
text_says text short utf8 (Err r.MomentNotAllowed) p = absurd p
text_says text short utf8 (Err r.ReadersAreOpen) p = absurd p
text_says text short utf8 (Err r.TableUnknownOrAlreadyThere) p = absurd p
text_says text short utf8 (Err r.NameUnknownAmbiguousOrRepeated) p = absurd p
text_says text short utf8 (Err r.TypesDoNotFit) p = absurd p
text_says text short utf8 (Err r.FormNotAllowedHere) p = absurd p
text_says text short utf8 (Err r.TableIsReferenced) p = absurd p
text_says text short utf8 (Err r.TooManyTablesOrReaders) p = absurd p
text_says text short utf8 (Err r.BeforeTheHorizon) p = absurd p
text_says text short utf8 (Err r.ReaderNotUsable) p = absurd p
text_says text short utf8 (Err r.ValueOutOfRange) p = absurd p
text_says text short utf8 (Err r.PortionNotRising) p = absurd p
text_says text short utf8 (Err r.NullNotAllowed) p = absurd p
text_says text short utf8 (Err r.PeriodNotRising) p = absurd p
text_says text short utf8 (Err r.CheckFailed) p = absurd p
text_says text short utf8 (Err r.DuplicateKey) p = absurd p
text_says text short utf8 (Err r.ReferenceNotMet) p = absurd p
