-- From the sense of a text to the answer of a check.
use Rattle.std.proofs.Common.{◌≡◌, refl, subst, sym, inl, inr, true, false, ℕ, List, Ok, Err}
use Rattle.tql_spec.specs.Machine.{State, Refused}
use Rattle.tql_spec.specs.Answer.{Replied, Accepted}
use Rattle.tql_spec.specs.Syntax as tree
use Rattle.tql_spec.specs.Run.{Checks, Says, Faulty, HasSense, finished}
use Rattle.tql_value.specs.Refusals.{refusal_of}
use Rattle.tql_value.specs.declared.refusal.Refusal.{Refusal}
use Rattle.tql_value.specs.declared.refusal.Refusal.TheVariants as r
use Rattle.tql_syntax.specs.Texts.{ReadsText}
use Rattle.tql_syntax_tree.specs.Trees.{tree_of}
use Rattle.tql_syntax_tree.specs.declared.tree.Tree.{Tree}

-- a statement within the width limits
pub narrow_checks : (s : State) (text : List ℕ) (t : Tree) → ReadsText text (Ok t)
    → tree.is_too_wide (tree_of t) ≡ false → Checks s (finished text) Accepted s
narrow_checks s text t reads narrow = (inl (Says (tree_of t), (reads.0, reads.1, narrow), refl), refl)

-- a statement that is too wide
pub wide_checks : (s : State) (text : List ℕ) (t : Tree) → ReadsText text (Ok t)
    → tree.is_too_wide (tree_of t) ≡ true
    → Checks s (finished text) (Replied (Refused (refusal_of r.TooManyColumnsOrTables))) s
wide_checks s text t reads wide =
    (inl (Faulty (refusal_of r.TooManyColumnsOrTables), (reads.0, (tree_of t, reads.1, wide)), refl), refl)

-- a fault of the text
faulty : (s : State) (text : List ℕ) (e : Refusal) → HasSense (finished text) (Faulty (refusal_of e))
    → Checks s (finished text) (Replied (Refused (refusal_of e))) s
faulty s text e sense = (inl (Faulty (refusal_of e), sense, refl), refl)

-- the text could not be read as a statement
pub fault_checks : (s : State) (text : List ℕ) (e : Refusal) → ReadsText text (Err e)
    → Checks s (finished text) (Replied (Refused (refusal_of e))) s
fault_checks s text r.StatementTooLong why = faulty s text r.StatementTooLong why
fault_checks s text r.NotUtf8 why = faulty s text r.NotUtf8 why
fault_checks s text r.NestedTooDeep why = faulty s text r.NestedTooDeep why
fault_checks s text r.NotAStatement why = faulty s text r.NotAStatement why
fault_checks s text r.OutOfMemory why = (inr refl, refl)
fault_checks s text r.UnfinishedStatement why = absurd why
fault_checks s text r.TooManyColumnsOrTables why = absurd why
fault_checks s text r.NotInThisTransactionState why = absurd why
fault_checks s text r.MomentNotAllowed why = absurd why
fault_checks s text r.ReadersAreOpen why = absurd why
fault_checks s text r.TableUnknownOrAlreadyThere why = absurd why
fault_checks s text r.NameUnknownAmbiguousOrRepeated why = absurd why
fault_checks s text r.TypesDoNotFit why = absurd why
fault_checks s text r.FormNotAllowedHere why = absurd why
fault_checks s text r.TableIsReferenced why = absurd why
fault_checks s text r.TooManyTablesOrReaders why = absurd why
fault_checks s text r.BeforeTheHorizon why = absurd why
fault_checks s text r.ReaderNotUsable why = absurd why
fault_checks s text r.ValueOutOfRange why = absurd why
fault_checks s text r.PortionNotRising why = absurd why
fault_checks s text r.NullNotAllowed why = absurd why
fault_checks s text r.PeriodNotRising why = absurd why
fault_checks s text r.CheckFailed why = absurd why
fault_checks s text r.DuplicateKey why = absurd why
fault_checks s text r.ReferenceNotMet why = absurd why
