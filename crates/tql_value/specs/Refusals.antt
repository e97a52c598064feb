-- The refusal of the definitions that a refusal of the code represents.
use Rattle.tql_value.specs.declared.refusal.Refusal as code
use Rattle.tql_value.specs.declared.refusal.Refusal.TheVariants.{StatementTooLong, NotUtf8, UnfinishedStatement}
use Rattle.tql_value.specs.declared.refusal.Refusal.TheVariants.{NestedTooDeep, NotAStatement, TooManyColumnsOrTables}
use Rattle.tql_value.specs.declared.refusal.Refusal.TheVariants.{NotInThisTransactionState, MomentNotAllowed}
use Rattle.tql_value.specs.declared.refusal.Refusal.TheVariants.{ReadersAreOpen, TableUnknownOrAlreadyThere}
use Rattle.tql_value.specs.declared.refusal.Refusal.TheVariants.{NameUnknownAmbiguousOrRepeated, TypesDoNotFit}
use Rattle.tql_value.specs.declared.refusal.Refusal.TheVariants.{FormNotAllowedHere, TableIsReferenced}
use Rattle.tql_value.specs.declared.refusal.Refusal.TheVariants.{TooManyTablesOrReaders, BeforeTheHorizon}
use Rattle.tql_value.specs.declared.refusal.Refusal.TheVariants.{ReaderNotUsable, ValueOutOfRange, PortionNotRising}
use Rattle.tql_value.specs.declared.refusal.Refusal.TheVariants.{NullNotAllowed, PeriodNotRising, CheckFailed}
use Rattle.tql_value.specs.declared.refusal.Refusal.TheVariants.{DuplicateKey, ReferenceNotMet, OutOfMemory}
use Rattle.tql_spec.specs.Refusal as spec

-- the refusal with the same name
abbrev pub refusal_of : code.Refusal → spec.Refusal
refusal_of StatementTooLong = spec.StatementTooLong
refusal_of NotUtf8 = spec.NotUtf8
refusal_of UnfinishedStatement = spec.UnfinishedStatement
refusal_of NestedTooDeep = spec.NestedTooDeep
refusal_of NotAStatement = spec.NotAStatement
refusal_of TooManyColumnsOrTables = spec.TooManyColumnsOrTables
refusal_of NotInThisTransactionState = spec.NotInThisTransactionState
refusal_of MomentNotAllowed = spec.MomentNotAllowed
refusal_of ReadersAreOpen = spec.ReadersAreOpen
refusal_of TableUnknownOrAlreadyThere = spec.TableUnknownOrAlreadyThere
refusal_of NameUnknownAmbiguousOrRepeated = spec.NameUnknownAmbiguousOrRepeated
refusal_of TypesDoNotFit = spec.TypesDoNotFit
refusal_of FormNotAllowedHere = spec.FormNotAllowedHere
refusal_of TableIsReferenced = spec.TableIsReferenced
refusal_of TooManyTablesOrReaders = spec.TooManyTablesOrReaders
refusal_of BeforeTheHorizon = spec.BeforeTheHorizon
refusal_of ReaderNotUsable = spec.ReaderNotUsable
refusal_of ValueOutOfRange = spec.ValueOutOfRange
refusal_of PortionNotRising = spec.PortionNotRising
refusal_of NullNotAllowed = spec.NullNotAllowed
refusal_of PeriodNotRising = spec.PeriodNotRising
refusal_of CheckFailed = spec.CheckFailed
refusal_of DuplicateKey = spec.DuplicateKey
refusal_of ReferenceNotMet = spec.ReferenceNotMet
refusal_of OutOfMemory = spec.OutOfMemory
