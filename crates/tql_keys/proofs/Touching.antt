-- After a change to a table, only its own references and those to it can fail: each other one is tested as before.
use Rattle.std.proofs.Common.{◌≡◌, ◌<◌, ◌≤◌, ◌≢◌, refl, sym, ap, subst, ◌∙◌, ℕ, ◌+◌, zero, suc, Bool, true, false, List}
use Rattle.std.proofs.Common.{[], ◌∷◌, length, arith, inl, inr}
use Rattle.std.specs.Prelude.{◌&&◌, not, nat_eq, Option, Some, None, if◌then◌else◌, slice_set}
use Rattle.std.specs.List.{list_all, range_with_len}
use Rattle.std.proofs.lemmas.Bool.Decides.{nat_tests}
use Rattle.tql_spec.specs.AtPoints.{table_rows}
use Rattle.tql_spec.specs.Bag.{In}
use Rattle.tql_spec.specs.Constraint.{reference_to, references_hold, shown_rows}
use Rattle.tql_spec.specs.Datum.{Row}
use Rattle.tql_spec.specs.Definition.{Name, TableDef, Reference, Stamped, place_of, next_place, table_at}
use Rattle.tql_spec.specs.History.{Copy}
use Rattle.tql_spec.specs.Words.{same_text}
use Rattle.tql_spec.proofs.AtPoints.{all_in, in_all, in_tables, table_in}
use Rattle.tql_spec.proofs.Constraints.{and_true, reference_test, same_text-is, same_text-self}
use Rattle.tql_spec.proofs.MemberLists.{in_kept}
use Rattle.tql_spec.proofs.Members.{both, by_bool}
use Rattle.tql_catalog.specs.Referring.{referring_to, refers_to}
use Rattle.tql_keys.specs.Checked.{references_hold_of}
use Rattle.tql_key_rows.proofs.Bools.{same_bool}
use Rattle.tql_key_clashes.proofs.NamedRows.{kept_in}
use Rattle.tql_keys.proofs.Passing.{some_passes}
use Rattle.tql_keys.proofs.RefLaw.{all_agree}
use Rattle.tql_keys.proofs.WholeCopy.{as_long}
use Rattle.tql_keys.proofs.WholeReferences.{rows_elsewhere, reference_elsewhere}

-- the table that is found by a name has that name
found_name : (n : Name) (defs : List TableDef) (p : ℕ) → place_of n defs ≡ Some p → n ≡ (table_at defs p).name
found_name n [] p e = absurd (cc)
found_name n (d ∷ defs) p e = by_bool (same_text n d.name)
    (λ b.
    let q : Some 0 ≡ Some p = sym (ap (λ c. if c then Some 0 else next_place (place_of n defs)) b) ∙ e in
    let z : 0 ≡ p = cc in subst (λ k. n ≡ (table_at (d ∷ defs) k).name) z (same_text-is n d.name b))
    (λ b. later (λ i q. found_name n defs i q) (place_of n defs) refl
    (sym (ap (λ c. if c then Some 0 else next_place (place_of n defs)) b) ∙ e))
  where
    later : ((i : ℕ) → place_of n defs ≡ Some i → n ≡ (table_at defs i).name) → (o : Option ℕ) → place_of n defs ≡ o
        → next_place o ≡ Some p → n ≡ (table_at (d ∷ defs) p).name
    later found None q h = absurd (cc)
    later found (Some i) q h =
        let s : suc i ≡ p = cc in subst (λ k. n ≡ (table_at (d ∷ defs) k).name) s (found i q)

-- a reference that does not name the changed table keeps its result
reference_kept : (defs : List TableDef) (copy : Copy) (t : ℕ) (rows : List Stamped) (d : TableDef)
    (children : List Row) (f : Reference) → same_text (table_at defs t).name f.parent ≡ false
    → reference_to defs (slice_set copy t rows) d children f (place_of f.parent defs)
    ≡ reference_to defs copy d children f (place_of f.parent defs)
reference_kept defs copy t rows d children f n = by_place (place_of f.parent defs) refl
  where
    by_place : (o : Option ℕ) → place_of f.parent defs ≡ o
        → reference_to defs (slice_set copy t rows) d children f o ≡ reference_to defs copy d children f o
    by_place None e = refl
    by_place (Some p) e = reference_elsewhere defs copy t p rows d children f (λ q.
        let w : true ≡ false =
        sym (same_text-self f.parent)
        ∙ ap (λ m. same_text m f.parent) (found_name f.parent defs p e ∙ ap (λ k. (table_at defs k).name) q) ∙ n in
        absurd (cc))

-- so do the references of another table that has none to it
pub untouched : (defs : List TableDef) (copy : Copy) (t u : ℕ) (rows : List Stamped) → u ≢ t
    → refers_to (table_at defs t).name (table_at defs u) ≡ false
    → references_hold_of defs copy u ≡ true → references_hold_of defs (slice_set copy t rows) u ≡ true
untouched defs copy t u rows n e h =
    ap (λ (rs : List Stamped). list_all (λ (f : Reference). reference_to defs (slice_set copy t rows) (table_at defs u)
    (shown_rows (table_at defs u) rs) f (place_of f.parent defs)) (table_at defs u).references)
    (rows_elsewhere copy t u rows n)
    ∙ all_agree (λ (f : Reference). not (same_text (table_at defs t).name f.parent))
    (λ (f : Reference). reference_to defs (slice_set copy t rows) (table_at defs u) (table_rows defs copy u) f
    (place_of f.parent defs))
    (λ (f : Reference). reference_to defs copy (table_at defs u) (table_rows defs copy u) f (place_of f.parent defs))
    (table_at defs u).references none
    (λ f k. reference_kept defs copy t rows (table_at defs u) (table_rows defs copy u) f
    (no (same_text (table_at defs t).name f.parent) k))
    ∙ h
  where
    no : (b : Bool) → not b ≡ true → b ≡ false
    no true k = cc
    no false k = refl

    none : list_all (λ (f : Reference). not (same_text (table_at defs t).name f.parent)) (table_at defs u).references
        ≡ true
    none = yes (list_all (λ (f : Reference). not (same_text (table_at defs t).name f.parent))
        (table_at defs u).references)
        (sym (some_passes (λ (f : Reference). same_text (table_at defs t).name f.parent) (table_at defs u).references)
        ∙ e)
      where
        yes : (b : Bool) → not b ≡ false → b ≡ true
        yes true k = refl
        yes false k = cc

-- ---- indexes of tables

in_range : (a n u : ℕ) → a ≤ u → u < a + n → In u (range_with_len a n)
in_range a zero u l k = absurd (omega (arith, l, k))
in_range a (suc n) u l k = by_bool (nat_eq u a)
    (λ b. inl (grind (arith, nat_tests, b)))
    (λ b.
    let past : a + 1 ≤ u = grind (arith, nat_tests, b, l) in
    inr (in_range (a + 1) n u past (omega (arith, k))))

range_in : (a n u : ℕ) → In u (range_with_len a n) → u < a + n
range_in a zero u m = absurd m
range_in a (suc n) u (inl e) = omega (arith, e)
range_in a (suc n) u (inr m) = let l : u < a + 1 + n = range_in (a + 1) n u m in omega (arith, l)

-- the references of a table, and those to it, decide after a change to it
pub touching_decide : (defs : List TableDef) (copy : Copy) (t : ℕ) (rows : List Stamped) → t < length defs
    → length copy ≡ length defs → references_hold defs copy ≡ true
    → references_hold_of defs (slice_set copy t rows) t
    && list_all (references_hold_of defs (slice_set copy t rows)) (referring_to (table_at defs t).name defs)
    ≡ references_hold defs (slice_set copy t rows)
touching_decide defs copy t rows l n h = same_bool (own && theirs) (references_hold defs after) forth back
  where
    after : Copy
    after = slice_set copy t rows

    name : Name
    name = (table_at defs t).name

    own : Bool
    own = references_hold_of defs after t

    theirs : Bool
    theirs = list_all (references_hold_of defs after) (referring_to name defs)

    forth : own && theirs ≡ true → references_hold defs after ≡ true
    forth e = in_tables (reference_test defs after) defs after (λ u k.
        by_bool (nat_eq u t)
        (λ b.
        let q : t ≡ u = grind (arith, nat_tests, b) in
        subst (λ z. references_hold_of defs after z ≡ true) q (both own theirs e).0)
        (λ b.
        let q : u ≢ t = λ z. grind (arith, nat_tests, b, z) in
        by_bool (refers_to name (table_at defs u))
        (λ r. all_in (references_hold_of defs after) (referring_to name defs) u (both own theirs e).1
        (kept_in (λ p. refers_to name (table_at defs p)) u (range_with_len 0 (length defs))
        (in_range 0 (length defs) u (omega arith) (omega (arith, k))) r))
        (λ r. untouched defs copy t u rows q r (table_in (reference_test defs copy) defs copy n h u k))))

    back : references_hold defs after ≡ true → own && theirs ≡ true
    back e = and_true own theirs
        (table_in (reference_test defs after) defs after (as_long copy t rows ∙ n) e t l)
        (in_all (references_hold_of defs after) (referring_to name defs) (λ u m.
        table_in (reference_test defs after) defs after (as_long copy t rows ∙ n) e u
        (let k : u < 0 + length defs = range_in 0 (length defs) u
        (in_kept (λ p. refers_to name (table_at defs p)) u (range_with_len 0 (length defs)) m).0 in omega (arith, k))))
