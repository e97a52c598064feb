-- The stored columns of a scan.
use Rattle.std.proofs.Common.{◌≡◌, refl, sym, subst, ◌∙◌, ℕ, ◌+◌, ◌-◌, Bool, true, false, cond, length, arith}
use Rattle.std.specs.Prelude.{ℤ, nat_lt, not, insert, Option, Some, None}
use Rattle.std.proofs.lemmas.Bool.{and_parts}
use Rattle.tql_spec.specs.Binding.{generated_columns}
use Rattle.tql_spec.specs.Creation.{has_number}
use Rattle.tql_spec.specs.Datum.{Datum, Moment, Row}
use Rattle.tql_spec.specs.Definition.{System, with_generated}
use Rattle.tql_expr.proofs.Inserted.{length_inserted}
use Rattle.tql_expr.specs.Generated.{generated}
use Rattle.tql_catalog.specs.Rows.{has_system}
use Rattle.tql_catalog.proofs.StoredNumbers.{fewer, stored_so}
use Rattle.tql_plan.specs.Keyed.{is_stored_in, IsStoredIn}

-- the number of cells, with the generated ones
long_so : (s : Option System) (cells : Row) (start end : ℤ)
    → length (with_generated s cells start end) ≡ length cells + length (generated_columns s)
long_so None cells start end = omega arith
long_so (Some s) cells start end = by_order (nat_lt s.start s.end)
  where
    two : (i j : ℕ) (v w : Datum) → length (insert (insert cells i v) j w) ≡ length cells + 2
    two i j v w = let a = length_inserted (insert cells i v) j w in let b = length_inserted cells i v in omega arith

    by_order : (b : Bool)
        → length (cond b (insert (insert cells s.start (Moment start)) s.end (Moment end))
        (insert (insert cells s.end (Moment end)) s.start (Moment start))) ≡ length cells + 2
    by_order true = two s.start s.end (Moment start) (Moment end)
    by_order false = two s.end s.start (Moment end) (Moment start)

not_so : (b : Bool) → not b ≡ true → b ≡ false
not_so true h = absurd (cc)
not_so false h = refl

-- the number of a stored column: the generated columns before it are not counted
stored_beside : (start end width i : ℕ) (a b : Bool) → nat_lt start i ≡ a → nat_lt end i ≡ b
    → is_stored_in (generated (Some (start, end))) width i ≡ true
    → IsStoredIn (generated (Some (start, end))) width i (i - fewer a b)
stored_beside start end width i a b before behind h cells m e long =
    let o : Option System = generated (Some (start, end)) in
    let p = and_parts (has_system o width) (not (has_number i (generated_columns o))) h in
    stored_so o (record { start = start; end = end }) refl width i a b before behind p.0
    (not_so (has_number i (generated_columns o)) p.1) cells m e (sym (long_so o cells m e) ∙ long)

pub stored_where : (system : Option (ℕ × ℕ)) (start end : ℕ) → system ≡ Some (start, end) → (width i n : ℕ)
    (a b : Bool) → nat_lt start i ≡ a → nat_lt end i ≡ b → i - fewer a b ≡ n
    → is_stored_in (generated system) width i ≡ true → IsStoredIn (generated system) width i n
stored_where system start end is width i n a b before behind few h =
    subst (λ (s : Option (ℕ × ℕ)). IsStoredIn (generated s) width i n) (sym is)
    (subst (IsStoredIn (generated (Some (start, end))) width i) few
    (stored_beside start end width i a b before behind
    (subst (λ (s : Option (ℕ × ℕ)). is_stored_in (generated s) width i ≡ true) is h)))
