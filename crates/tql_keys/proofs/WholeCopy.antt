-- A copy in which the rows of one table are replaced.
use Rattle.std.proofs.Common.{◌≡◌, ◌<◌, refl, sym, ap, ◌∙◌, ℕ, zero, suc, Bool, true, List, [], ◌∷◌, length, arith}
use Rattle.std.specs.Prelude.{◌&&◌, ℤ, slice_set}
use Rattle.std.proofs.lemmas.List.{length-map}
use Rattle.tql_spec.specs.Datum.{Row}
use Rattle.tql_spec.specs.Definition.{TableDef, Stamped, table_at}
use Rattle.tql_spec.specs.History.{Copy, rows_in}
use Rattle.tql_spec.specs.Constraint.{each_table, keys_hold, shown_rows}
use Rattle.tql_spec.proofs.Members.{both}
use Rattle.tql_catalog.specs.Tables.{definitions_of}
use Rattle.tql_catalog.specs.declared.catalog.Table.{Table}
use Rattle.tql_store.specs.Changes.{rows_after}
use Rattle.tql_key_clashes.specs.Free.{keys_hold_of}
use Rattle.tql_keys.specs.Checked.{copy_after}
use Rattle.tql_key_rows.proofs.Bools.{and_yes}

-- if a test held of each table, it holds after the replacement exactly if it holds of the new rows
pub each_set : (test : TableDef → List Row → Bool) (defs : List TableDef) (copy : Copy) (t : ℕ) (rows : List Stamped)
    → t < length defs → length copy ≡ length defs → each_table test defs copy ≡ true
    → each_table test defs (slice_set copy t rows) ≡ test (table_at defs t) (shown_rows (table_at defs t) rows)
each_set test [] copy t rows l n e = absurd (omega arith)
each_set test (d ∷ defs) [] t rows l n e = absurd (omega arith)
each_set test (d ∷ defs) (rs ∷ copy) zero rows l n e =
    ap (λ b. test d (shown_rows d rows) && b) (both (test d (shown_rows d rs)) (each_table test defs copy) e).1
    ∙ and_yes (test d (shown_rows d rows))
each_set test (d ∷ defs) (rs ∷ copy) (suc t) rows l n e =
    let b = both (test d (shown_rows d rs)) (each_table test defs copy) e in
    ap (λ c. c && each_table test defs (slice_set copy t rows)) b.0
    ∙ each_set test defs copy t rows (omega arith) (omega arith) b.1

-- a test of all tables holds of each one
pub each_at : (test : TableDef → List Row → Bool) (defs : List TableDef) (copy : Copy) (t : ℕ) → t < length defs
    → length copy ≡ length defs → each_table test defs copy ≡ true
    → test (table_at defs t) (shown_rows (table_at defs t) (rows_in copy t)) ≡ true
each_at test [] copy t l n e = absurd (omega arith)
each_at test (d ∷ defs) [] t l n e = absurd (omega arith)
each_at test (d ∷ defs) (rs ∷ copy) zero l n e = (both (test d (shown_rows d rs)) (each_table test defs copy) e).0
each_at test (d ∷ defs) (rs ∷ copy) (suc t) l n e =
    each_at test defs copy t (omega arith) (omega arith)
    (both (test d (shown_rows d rs)) (each_table test defs copy) e).1

-- ---- keys

-- the keys of the new copy hold exactly if those of the changed table do
pub keys_told : (defs : List TableDef) (d : TableDef) (copy : Copy) (m : ℤ) (t : ℕ) (gone : Stamped → Bool)
    (added : List Row) (told : Bool) → table_at defs t ≡ d → t < length defs → length copy ≡ length defs
    → keys_hold defs copy ≡ true
    → (keys_hold_of d (shown_rows d (rows_in copy t)) ≡ true
    → told ≡ keys_hold_of d (shown_rows d (rows_after m gone added (rows_in copy t))))
    → told ≡ keys_hold defs (copy_after m t gone added copy)
keys_told defs d copy m t gone added told at l n e h =
    h (sym (ap (λ x. keys_hold_of x (shown_rows x (rows_in copy t))) at) ∙ each_at keys_hold_of defs copy t l n e)
    ∙ sym (ap (λ x. keys_hold_of x (shown_rows x (rows_after m gone added (rows_in copy t)))) at)
    ∙ sym (each_set keys_hold_of defs copy t (rows_after m gone added (rows_in copy t)) l n e)

-- there are as many definitions as tables
pub as_many : (tables : List Table) → length (definitions_of tables) ≡ length tables
as_many tables = length-map tables (λ (t : Table). t.definition)

-- the new copy has as many tables
pub as_long : (copy : Copy) (t : ℕ) (rows : List Stamped) → length (slice_set copy t rows) ≡ length copy
as_long [] t rows = refl
as_long (rs ∷ copy) zero rows = refl
as_long (rs ∷ copy) (suc t) rows = ap suc (as_long copy t rows)
