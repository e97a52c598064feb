-- The parent tables of a catalog's references are earlier tables.
use Rattle.std.proofs.Common.{◌≡◌, ◌<◌, refl, sym, ap, subst, ◌∙◌, ℕ, ◌+◌, zero, suc, Bool, true, false, List, []}
use Rattle.std.proofs.Common.{◌∷◌, ◌++◌, length, arith, append_assoc, length-append}
use Rattle.std.specs.Prelude.{◌&&◌, ◌||◌, not, nat_lt, Option, Some, None, if◌then◌else◌}
use Rattle.std.specs.List.{list_all, list_any}
use Rattle.std.proofs.lemmas.Bool.Decides.{nat_tests}
use Rattle.std.proofs.Math.ListN.{get_or-append}
use Rattle.tql_spec.specs.Creation.{is_declared_key, same_numbers}
use Rattle.tql_spec.specs.Definition.{Name, TableDef, Key, Reference, no_table, place_of, next_place, table_at}
use Rattle.tql_spec.specs.Words.{same_text}
use Rattle.tql_spec.proofs.AtPoints.{all_in, in_all}
use Rattle.tql_spec.proofs.Constraints.{and_true}
use Rattle.tql_spec.proofs.Members.{both, by_bool}
use Rattle.tql_points.proofs.PointKeys.{place_below}
use Rattle.tql_catalog.specs.Defined.{is_key}
use Rattle.tql_catalog.specs.Rows.{are_assignable}
use Rattle.tql_catalog.specs.Tables.{has_key_at, can_have, have_parents}
use Rattle.tql_keys.specs.Checked.{has_parent_at, has_parent}

-- a name that is found keeps its index if tables are appended
place_stays : (n : Name) (defs more : List TableDef) (p : ℕ) → place_of n defs ≡ Some p
    → place_of n (defs ++ more) ≡ Some p
place_stays n [] more p e = absurd (cc)
place_stays n (d ∷ defs) more p e = by_bool (same_text n d.name)
    (λ b. ap (λ c. if c then Some 0 else next_place (place_of n (defs ++ more))) b
    ∙ sym (ap (λ c. if c then Some 0 else next_place (place_of n defs)) b) ∙ e)
    (λ b. ap (λ c. if c then Some 0 else next_place (place_of n (defs ++ more))) b
    ∙ later (λ i q. place_stays n defs more i q) (place_of n defs) refl
    (sym (ap (λ c. if c then Some 0 else next_place (place_of n defs)) b) ∙ e))
  where
    later : ((i : ℕ) → place_of n defs ≡ Some i → place_of n (defs ++ more) ≡ Some i) → (o : Option ℕ)
        → place_of n defs ≡ o → next_place o ≡ Some p → next_place (place_of n (defs ++ more)) ≡ Some p
    later stays None q h = absurd (cc)
    later stays (Some i) q h = ap next_place (stays i q) ∙ h

below : (p n : ℕ) → p < n → nat_lt p n ≡ true
below p n l = grind (arith, nat_tests, l)

-- a reference that is valid with the tables before it stays valid with more tables after them
parent_kept : (before more : List TableDef) (t : ℕ) → t ≡ length before → (f : Reference) → can_have before f ≡ true
    → has_parent (before ++ more) t f ≡ true
parent_kept before more t e f h = at (place_of f.parent before) refl h
  where
    at : (o : Option ℕ) → place_of f.parent before ≡ o → has_key_at before f (place_of f.parent before) ≡ true
        → has_parent (before ++ more) t f ≡ true
    at None q k = let w : false ≡ true = sym (ap (has_key_at before f) q) ∙ k in absurd (cc)
    at (Some p) q k =
        let l : p < length before = place_below f.parent before p q in
        let key : is_declared_key (table_at before p) f.by_period f.parent_columns ≡ true =
        sym (ap (has_key_at before f) q) ∙ k in
        ap (has_parent_at (before ++ more) t f) (place_stays f.parent before more p q)
        ∙ and_true (nat_lt p t) (is_declared_key (table_at (before ++ more) p) f.by_period f.parent_columns)
        (below p t (omega (arith, l, e)))
        (ap (λ (d : TableDef). is_declared_key d f.by_period f.parent_columns)
        (get_or-append before more no_table p l) ∙ key)

parents_from : (before ds : List TableDef) (t : ℕ) → have_parents before ds ≡ true → t < length ds
    → list_all (has_parent (before ++ ds) (length before + t)) (table_at ds t).references ≡ true
parents_from before [] t h l = absurd (omega arith)
parents_from before (d ∷ ds) zero h l =
    in_all (has_parent (before ++ d ∷ ds) (length before + 0)) d.references
    (λ f m. parent_kept before (d ∷ ds) (length before + 0) (omega arith) f
    (all_in (can_have before) d.references f
    (both (list_all (can_have before) d.references) (have_parents (before ++ d ∷ []) ds) h).0 m))
parents_from before (d ∷ ds) (suc t) h l =
    let rest = parents_from (before ++ d ∷ []) ds t
    (both (list_all (can_have before) d.references) (have_parents (before ++ d ∷ []) ds) h).1 (omega arith) in
    let n : length (before ++ d ∷ []) + t ≡ length before + suc t = omega (arith, length-append before (d ∷ [])) in
    sym (λ i. list_all (has_parent (append_assoc before (d ∷ []) ds i) (n i)) (table_at ds t).references) ∙ rest

-- each reference of a table is to a key of an earlier table
pub parents_are_earlier : (defs : List TableDef) (t : ℕ) → have_parents [] defs ≡ true → t < length defs
    → list_all (has_parent defs t) (table_at defs t).references ≡ true
parents_are_earlier defs t h l =
    let e : 0 + t ≡ t = omega arith in
    subst (λ n. list_all (has_parent defs n) (table_at defs t).references ≡ true) e (parents_from [] defs t h l)

-- the parent of a reference, if its name is found
pub parent_found : (defs : List TableDef) (t : ℕ) (f : Reference) (o : Option ℕ) (p : ℕ) → has_parent defs t f ≡ true
    → o ≡ place_of f.parent defs → o ≡ Some p
    → (p < t) × (is_declared_key (table_at defs p) f.by_period f.parent_columns ≡ true)
parent_found defs t f o p h e q =
    let k : nat_lt p t && is_declared_key (table_at defs p) f.by_period f.parent_columns ≡ true =
    sym (ap (has_parent_at defs t f) (sym e ∙ q)) ∙ h in
    let b = both (nat_lt p t) (is_declared_key (table_at defs p) f.by_period f.parent_columns) k in
    (less p t b.0, b.1)
  where
    less : (i n : ℕ) → nat_lt i n ≡ true → i < n
    less i n l = grind (arith, nat_tests, l)

-- its name is found
pub parent_there : (defs : List TableDef) (t : ℕ) (f : Reference) → has_parent defs t f ≡ true
    → place_of f.parent defs ≡ None → ⊥
parent_there defs t f h e = let w : false ≡ true = sym (ap (has_parent_at defs t f) e) ∙ h in cc

-- ---- the columns of a key

numbers_one : (xs ys : List ℕ) → same_numbers xs ys ≡ true → xs ≡ ys
numbers_one [] [] e = refl
numbers_one [] (y ∷ ys) e = absurd (cc)
numbers_one (x ∷ xs) [] e = absurd (cc)
numbers_one (x ∷ xs) (y ∷ ys) e =
    let b = both _ (same_numbers xs ys) e in
    let p : x ≡ y = grind (arith, nat_tests, b.0) in
    let q = numbers_one xs ys b.1 in cc

-- the columns of a declared key are assignable
pub declared_columns : (d : TableDef) (by_period : Bool) (is : List ℕ) → list_all (is_key d) d.keys ≡ true
    → is_declared_key d by_period is ≡ true → are_assignable d is ≡ true
declared_columns d by_period is h e = among d.keys h e
  where
    among : (ks : List Key) → list_all (is_key d) ks ≡ true
        → list_any (λ (k : Key). same_numbers k.columns is && (if by_period then k.by_period else not k.by_period)) ks
        ≡ true → are_assignable d is ≡ true
    among [] g q = absurd (cc)
    among (k ∷ ks) g q =
        let b = both (is_key d k) (list_all (is_key d) ks) g in
        by_bool (same_numbers k.columns is && (if by_period then k.by_period else not k.by_period))
        (λ y. sym (ap (are_assignable d) (numbers_one k.columns is (both (same_numbers k.columns is)
        (if by_period then k.by_period else not k.by_period) y).0)) ∙ b.0)
        (λ n. among ks b.1 (sym (ap (λ c. c || list_any (λ (x : Key). same_numbers x.columns is
        && (if by_period then x.by_period else not x.by_period)) ks) n) ∙ q))
