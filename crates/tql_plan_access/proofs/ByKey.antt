-- Rows that are found by the values that conjuncts give to columns.
use Rattle.std.proofs.Common.{◌≡◌, refl, subst, ℕ, ◌+◌, Bool, true, false, ◌&&◌, List, [], ◌∷◌, map, length}
use Rattle.std.proofs.Common.{cond, arith}
use Rattle.std.specs.Prelude.{ℤ, nat_lt, insert, Option, Some, None, is_some, unwrap_or}
use Rattle.tql_spec.specs.Words.{with_front}
use Rattle.tql_spec.specs.Datum.{Datum, Null, Moment, Row}
use Rattle.tql_spec.specs.Definition.{System, TableDef, cell, with_generated}
use Rattle.tql_spec.specs.Binding.{generated_columns}
use Rattle.tql_spec.specs.Expression.{Cond}
use Rattle.tql_expr.proofs.Inserted.{length_inserted}
use Rattle.tql_catalog.specs.Defined.{IsDefinition}
use Rattle.tql_catalog.specs.Rows.{AreStoredAt, stored_width}
use Rattle.tql_catalog.proofs.StoredNumbers.{stored_count}
use Rattle.tql_plan_laws.specs.Conjuncts.{meets}
use Rattle.tql_plan_laws.specs.Equalities.{agree}
use Rattle.tql_plan_laws.specs.Constants.{value_in, tuple_in, ValuesAreMet}
use Rattle.tql_store_index.specs.Tuple.{is_at}
use Rattle.tql_plan_access.specs.Access.{are_given, value_or_null}

-- ---- how wide a row is

-- a row has its stored cells and its generated cells
long_so : (s : Option System) (cells : Row) (start end : ℤ)
    → length (with_generated s cells start end) ≡ length cells + length (generated_columns s)
long_so None cells start end = omega arith
long_so (Some s) cells start end = by_order (nat_lt s.start s.end)
  where
    two : (i j : ℕ) (v w : Datum) → length (insert (insert cells i v) j w) ≡ length cells + 2
    two i j v w = let a = length_inserted (insert cells i v) j w in let b = length_inserted cells i v in omega arith

    by_order : (b : Bool)
        → length (cond b (insert (insert cells s.start (Moment start)) s.end (Moment end))
        (insert (insert cells s.end (Moment end)) s.start (Moment start))) ≡ length cells + 2
    by_order true = two s.start s.end (Moment start) (Moment end)
    by_order false = two s.end s.start (Moment end) (Moment start)

-- a row of the table's width has as many stored cells as the table stores
pub stored_long : (d : TableDef) → IsDefinition d → (cells : Row) (start end : ℤ)
    → length (with_generated d.system cells start end) ≡ length d.columns → length cells ≡ stored_width d
stored_long d r cells start end h =
    let a = long_so d.system cells start end in let b = stored_count d r in omega arith

-- ---- values in columns

-- if the first value and the others are given together, each is given
given_parts : (o : Option Datum) (os : Option (List Datum)) → is_some (with_front o os) ≡ true
    → (is_some o ≡ true) × (is_some os ≡ true)
given_parts None os h = absurd (cc)
given_parts (Some v) None h = absurd (cc)
given_parts (Some v) (Some vs) h = (refl, refl)

is_given : (o : Option Datum) → is_some o ≡ true → o ≡ Some (unwrap_or o Null)
is_given None h = absurd (cc)
is_given (Some v) h = refl

both_are : (a b : Bool) → a ≡ true → b ≡ true → a && b ≡ true
both_are true b h k = k
both_are false b h k = absurd (cc)

-- a row that meets conjuncts has the values that they give to columns, at the numbers where the columns are stored
found_at : ValuesAreMet → (conds : List Cond) (row cells : Row) → meets conds row ≡ true → (columns stored : List ℕ)
    → are_given conds columns ≡ true → map (cell row) columns ≡ map (cell cells) stored
    → is_at stored (map (value_or_null conds) columns) cells ≡ true
found_at law conds row cells m [] [] g e = refl
found_at law conds row cells m [] (k ∷ ks) g e = absurd (cc)
found_at law conds row cells m (c ∷ cs) [] g e = absurd (cc)
found_at law conds row cells m (c ∷ cs) (k ∷ ks) g e =
    let p = given_parts (value_in c conds) (tuple_in conds cs) g in
    let here : cell row c ≡ cell cells k = cc in
    let more : map (cell row) cs ≡ map (cell cells) ks = cc in
    both_are (agree (cell cells k) (value_or_null conds c)) (is_at ks (map (value_or_null conds) cs) cells)
    (subst (λ v. agree v (value_or_null conds c) ≡ true) here
    (law conds row m c (value_or_null conds c) (is_given (value_in c conds) p.0)))
    (found_at law conds row cells m cs ks p.1 more)

-- the same for the stored cells of a row of a table
pub given_found : ValuesAreMet → (d : TableDef) → IsDefinition d → (conds : List Cond) (columns stored : List ℕ)
    → are_given conds columns ≡ true → AreStoredAt d columns stored → (cells : Row) (start end : ℤ)
    → length (with_generated d.system cells start end) ≡ length d.columns
    → meets conds (with_generated d.system cells start end) ≡ true
    → is_at stored (map (value_or_null conds) columns) cells ≡ true
given_found law d r conds columns stored given at cells start end wide m =
    found_at law conds (with_generated d.system cells start end) cells m columns stored given
    (at cells start end (stored_long d r cells start end wide))
