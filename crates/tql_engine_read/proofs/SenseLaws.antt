-- The fault of a text whose statement could not be read.
use Rattle.std.proofs.Common.{ℕ, List, Err}
use Rattle.tql_value.specs.declared.refusal.Refusal.{Refusal}
use Rattle.tql_value.specs.declared.refusal.Refusal.TheVariants as r
use Rattle.tql_syntax.specs.Texts.{ReadsText}
use Rattle.tql_engine_read.specs.Sense.{ReadsAs}

-- the fault that is reported is the text's first
pub refused : (text : List ℕ) (e : Refusal) → ReadsText text (Err e) → ReadsAs text (Err e)
refused text r.StatementTooLong p = p
refused text r.NotUtf8 p = p
refused text r.NestedTooDeep p = p
refused text r.NotAStatement p = p
refused text r.OutOfMemory p = tt
refused text r.TooManyColumnsOrTables p = absurd p
refused text r.UnfinishedStatement p = absurd p
refused text r.NotInThisTransactionState p = absurd p
refused text r.MomentNotAllowed p = absurd p
refused text r.ReadersAreOpen p = absurd p
refused text r.TableUnknownOrAlreadyThere p = absurd p
refused text r.NameUnknownAmbiguousOrRepeated p = absurd p
refused text r.TypesDoNotFit p = absurd p
refused text r.FormNotAllowedHere p = absurd p
refused text r.TableIsReferenced p = absurd p
refused text r.TooManyTablesOrReaders p = absurd p
refused text r.BeforeTheHorizon p = absurd p
refused text r.ReaderNotUsable p = absurd p
refused text r.ValueOutOfRange p = absurd p
refused text r.PortionNotRising p = absurd p
refused text r.NullNotAllowed p = absurd p
refused text r.PeriodNotRising p = absurd p
refused text r.CheckFailed p = absurd p
refused text r.DuplicateKey p = absurd p
refused text r.ReferenceNotMet p = absurd p
