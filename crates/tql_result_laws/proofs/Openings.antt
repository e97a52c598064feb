-- The first words of answers: those of executed statements, and those of refusals.
use Rattle.std.proofs.Common.{◌≡◌, ℕ, ◌+◌, ◌*◌, List, [], ◌∷◌, ◌++◌, Bool, true, refl, sym, ◌∙◌, ap, get_or}
use Rattle.std.proofs.Common.{take, drop, ◌<◌, arith}
use Rattle.std.specs.Prelude.{◌==◌, not, Option, Some, None, if◌then◌else◌}
use Rattle.std.specs.List.{find, list_all}
use Rattle.tql_spec.specs.Calendar.{number_of}
use Rattle.tql_spec.specs.Machine.{Verb}
use Rattle.tql_spec.specs.Machine.{CreatedTable, DroppedTable, Inserted, Updated, Deleted, Started, Committed}
use Rattle.tql_spec.specs.Machine.{RolledBack, ClockSet, Pruned, OpenedReader, ClosedReader}
use Rattle.tql_spec.specs.Refusal.{Refusal}
use Rattle.tql_spec.specs.Refusal.{StatementTooLong, NotUtf8, UnfinishedStatement, NestedTooDeep, NotAStatement}
use Rattle.tql_spec.specs.Refusal.{TooManyColumnsOrTables, NotInThisTransactionState, MomentNotAllowed}
use Rattle.tql_spec.specs.Refusal.{ReadersAreOpen, TableUnknownOrAlreadyThere, NameUnknownAmbiguousOrRepeated}
use Rattle.tql_spec.specs.Refusal.{TypesDoNotFit, FormNotAllowedHere, TableIsReferenced, TooManyTablesOrReaders}
use Rattle.tql_spec.specs.Refusal.{BeforeTheHorizon, ReaderNotUsable, ValueOutOfRange, PortionNotRising}
use Rattle.tql_spec.specs.Refusal.{NullNotAllowed, PeriodNotRising, CheckFailed, DuplicateKey, ReferenceNotMet}
use Rattle.tql_spec.specs.Refusal.{OutOfMemory}
use Rattle.tql_spec.specs.Text.{verb_text, wording, number}

-- the first two bytes, as one number
abbrev pub opening : List ℕ → ℕ
opening t = get_or t 0 0 * 256 + get_or t 1 0

-- the verb that begins with these bytes
pub verb_at : ℕ → Option Verb
verb_at n =
    if n == 17234 then Some CreatedTable else (
    if n == 17490 then Some DroppedTable else (
    if n == 18766 then Some Inserted else (
    if n == 21840 then Some Updated else (
    if n == 17477 then Some Deleted else (
    if n == 21332 then Some Started else (
    if n == 17231 then Some Committed else (
    if n == 21071 then Some RolledBack else (
    if n == 16724 then Some ClockSet else (
    if n == 20562 then Some Pruned else (
    if n == 20304 then Some OpenedReader else (
    if n == 17228 then Some ClosedReader else (
    None))))))))))))

-- a verb is recognized whatever follows it
pub verb_opens : (v : Verb) (rest : List ℕ) → verb_at (opening (verb_text v ++ rest)) ≡ Some v
unfolding verb_at
verb_opens CreatedTable rest = refl
verb_opens DroppedTable rest = refl
verb_opens Inserted rest = refl
verb_opens Updated rest = refl
verb_opens Deleted rest = refl
verb_opens Started rest = refl
verb_opens Committed rest = refl
verb_opens RolledBack rest = refl
verb_opens ClockSet rest = refl
verb_opens Pruned rest = refl
verb_opens OpenedReader rest = refl
verb_opens ClosedReader rest = refl

-- these bytes begin no verb
pub refused_opens : verb_at 21061 ≡ None
unfolding verb_at
refused_opens = refl

pub accepted_opens : verb_at 20299 ≡ None
unfolding verb_at
accepted_opens = refl

-- a byte other than `)`
abbrev pub is_plain : ℕ → Bool
is_plain b = not (b == 41)

pub verb_plain : (v : Verb) → list_all is_plain (verb_text v) ≡ true
verb_plain CreatedTable = refl
verb_plain DroppedTable = refl
verb_plain Inserted = refl
verb_plain Updated = refl
verb_plain Deleted = refl
verb_plain Started = refl
verb_plain Committed = refl
verb_plain RolledBack = refl
verb_plain ClockSet = refl
verb_plain Pruned = refl
verb_plain OpenedReader = refl
verb_plain ClosedReader = refl

pub wording_plain : (e : Refusal) → list_all is_plain (wording e) ≡ true
wording_plain StatementTooLong = refl
wording_plain NotUtf8 = refl
wording_plain UnfinishedStatement = refl
wording_plain NestedTooDeep = refl
wording_plain NotAStatement = refl
wording_plain TooManyColumnsOrTables = refl
wording_plain NotInThisTransactionState = refl
wording_plain MomentNotAllowed = refl
wording_plain ReadersAreOpen = refl
wording_plain TableUnknownOrAlreadyThere = refl
wording_plain NameUnknownAmbiguousOrRepeated = refl
wording_plain TypesDoNotFit = refl
wording_plain FormNotAllowedHere = refl
wording_plain TableIsReferenced = refl
wording_plain TooManyTablesOrReaders = refl
wording_plain BeforeTheHorizon = refl
wording_plain ReaderNotUsable = refl
wording_plain ValueOutOfRange = refl
wording_plain PortionNotRising = refl
wording_plain NullNotAllowed = refl
wording_plain PeriodNotRising = refl
wording_plain CheckFailed = refl
wording_plain DuplicateKey = refl
wording_plain ReferenceNotMet = refl
wording_plain OutOfMemory = refl

-- all refusals
refusals : List Refusal
refusals =
    StatementTooLong ∷ NotUtf8 ∷ UnfinishedStatement ∷ NestedTooDeep ∷ NotAStatement ∷ TooManyColumnsOrTables ∷
    NotInThisTransactionState ∷ MomentNotAllowed ∷ ReadersAreOpen ∷ TableUnknownOrAlreadyThere ∷
    NameUnknownAmbiguousOrRepeated ∷ TypesDoNotFit ∷ FormNotAllowedHere ∷ TableIsReferenced ∷
    TooManyTablesOrReaders ∷ BeforeTheHorizon ∷ ReaderNotUsable ∷ ValueOutOfRange ∷ PortionNotRising ∷
    NullNotAllowed ∷ PeriodNotRising ∷ CheckFailed ∷ DuplicateKey ∷ ReferenceNotMet ∷ OutOfMemory ∷ []

-- the refusal with this number
refusal_at : ℕ → Option Refusal
refusal_at n = find (λ e. number e == n) refusals

refusal_numbered : (e : Refusal) → refusal_at (number e) ≡ Some e
unfolding refusal_at refusals
refusal_numbered StatementTooLong = refl
refusal_numbered NotUtf8 = refl
refusal_numbered UnfinishedStatement = refl
refusal_numbered NestedTooDeep = refl
refusal_numbered NotAStatement = refl
refusal_numbered TooManyColumnsOrTables = refl
refusal_numbered NotInThisTransactionState = refl
refusal_numbered MomentNotAllowed = refl
refusal_numbered ReadersAreOpen = refl
refusal_numbered TableUnknownOrAlreadyThere = refl
refusal_numbered NameUnknownAmbiguousOrRepeated = refl
refusal_numbered TypesDoNotFit = refl
refusal_numbered FormNotAllowedHere = refl
refusal_numbered TableIsReferenced = refl
refusal_numbered TooManyTablesOrReaders = refl
refusal_numbered BeforeTheHorizon = refl
refusal_numbered ReaderNotUsable = refl
refusal_numbered ValueOutOfRange = refl
refusal_numbered PortionNotRising = refl
refusal_numbered NullNotAllowed = refl
refusal_numbered PeriodNotRising = refl
refusal_numbered CheckFailed = refl
refusal_numbered DuplicateKey = refl
refusal_numbered ReferenceNotMet = refl
refusal_numbered OutOfMemory = refl

pub number_same : (e f : Refusal) → number e ≡ number f → e ≡ f
number_same e f h = let both : Some e ≡ Some f = sym (refusal_numbered e) ∙ ap refusal_at h ∙ refusal_numbered f in cc

pub wording_same : (e f : Refusal) → wording e ≡ wording f → e ≡ f
wording_same e f h = number_same e f (ap (λ w. number_of (take 2 (drop 1 w))) h)

pub number_small : (e : Refusal) → number e < 100
number_small StatementTooLong = omega arith
number_small NotUtf8 = omega arith
number_small UnfinishedStatement = omega arith
number_small NestedTooDeep = omega arith
number_small NotAStatement = omega arith
number_small TooManyColumnsOrTables = omega arith
number_small NotInThisTransactionState = omega arith
number_small MomentNotAllowed = omega arith
number_small ReadersAreOpen = omega arith
number_small TableUnknownOrAlreadyThere = omega arith
number_small NameUnknownAmbiguousOrRepeated = omega arith
number_small TypesDoNotFit = omega arith
number_small FormNotAllowedHere = omega arith
number_small TableIsReferenced = omega arith
number_small TooManyTablesOrReaders = omega arith
number_small BeforeTheHorizon = omega arith
number_small ReaderNotUsable = omega arith
number_small ValueOutOfRange = omega arith
number_small PortionNotRising = omega arith
number_small NullNotAllowed = omega arith
number_small PeriodNotRising = omega arith
number_small CheckFailed = omega arith
number_small DuplicateKey = omega arith
number_small ReferenceNotMet = omega arith
number_small OutOfMemory = omega arith
