-- Keys and references of a whole copy: with one more table, with one less, and before any commit.
use Rattle.std.proofs.Common.{◌≡◌, ◌<◌, refl, sym, ap, subst, ◌∙◌, ℕ, ◌+◌, zero, suc, Bool, true, false, List, [], ◌∷◌}
use Rattle.std.proofs.Common.{◌++◌, map, length, inl, inr, arith, length-append}
use Rattle.std.specs.Prelude.{◌&&◌, ◌||◌, remove, Option, Some, None, if◌then◌else◌}
use Rattle.std.specs.List.{list_all, list_any}
use Rattle.std.specs.Ordering.{nat_cmp}
use Rattle.std.specs.Cmp.{Equal-is, tied_itself}
use Rattle.std.specs.Cmp.Lexicographic.{slice_cmp, nat_list_cmp_total}
use Rattle.std.specs.Ordering.{is_eq}
use Rattle.std.proofs.lemmas.List.{length-map}
use Rattle.std.proofs.lemmas.Map.Lookups.{exact_bytes}
use Rattle.std.proofs.Math.ListN.{get_or-append}
use Rattle.tql_spec.specs.Words.{same_text}
use Rattle.tql_spec.specs.Bag.{In}
use Rattle.tql_spec.specs.Datum.{Row}
use Rattle.tql_spec.specs.Definition.{Name, TableDef, Reference, Stamped, no_table, table_at, place_of, next_place}
use Rattle.tql_spec.specs.History.{Copy, rows_in}
use Rattle.tql_spec.specs.Constraint.{key_holds, has_null, is_met, is_met_by, reference_holds, shown_rows, each_table}
use Rattle.tql_spec.specs.Constraint.{reference_to}
use Rattle.tql_spec.specs.Binding.{is_referenced}
use Rattle.tql_spec.specs.Run.{CopyHolds}
use Rattle.tql_spec.proofs.Members.{both, by_bool}
use Rattle.tql_spec.proofs.Copies.{rows_more, skip, removed_at, length_removed}

-- ---- tests over lists

-- the conjunction of two true tests is true
pub and_true : (a b : Bool) → a ≡ true → b ≡ true → a && b ≡ true
and_true true b e f = f
and_true false b e f = e

-- a test that always passes, passes for a list
all_pass : {A : Type 0} (p : A → Bool) (xs : List A) → ((x : A) → p x ≡ true) → list_all p xs ≡ true
all_pass p [] h = refl
all_pass p (x ∷ xs) h = and_true (p x) (list_all p xs) (h x) (all_pass p xs h)

-- two tests that always agree, agree on a list
all_same : {A : Type 0} (p q : A → Bool) (xs : List A) → ((x : A) → p x ≡ q x) → list_all p xs ≡ list_all q xs
all_same p q [] h = refl
all_same p q (x ∷ xs) h = ap (λ b. b && list_all p xs) (h x) ∙ ap (λ b. q x && b) (all_same p q xs h)

-- both parts of a false OR are false
neither : (a b : Bool) → a || b ≡ false → (a ≡ false) × (b ≡ false)
neither false b e = (refl, e)
neither true b e = absurd (cc)

-- two tests that agree where a third fails, agree on a list on which the third always fails
all_where : {A : Type 0} (r p q : A → Bool) (xs : List A) → list_any r xs ≡ false
    → ((x : A) → r x ≡ false → p x ≡ q x) → list_all p xs ≡ list_all q xs
all_where r p q [] e h = refl
all_where r p q (x ∷ xs) e h =
    let n = neither (r x) (list_any r xs) e in
    ap (λ b. b && list_all p xs) (h x n.0) ∙ ap (λ b. q x && b) (all_where r p q xs n.1 h)

-- if no member passes a test, a given member does not
none_in : {A : Type 0} (r : A → Bool) (xs : List A) (x : A) → list_any r xs ≡ false → In x xs → r x ≡ false
none_in r [] x e m = absurd m
none_in r (y ∷ xs) x e (inl q) = ap r q ∙ (neither (r y) (list_any r xs) e).0
none_in r (y ∷ xs) x e (inr m) = none_in r xs x (neither (r y) (list_any r xs) e).1 m

-- ---- names

pub same_text-self : (n : Name) → same_text n n ≡ true
same_text-self n = ap is_eq (tied_itself nat_list_cmp_total n)

pub same_text-is : (n m : Name) → same_text n m ≡ true → n ≡ m
same_text-is n m e = exact_bytes n m ((Equal-is (slice_cmp nat_cmp n m)).0 e)

-- if n and m are the same name and n differs from p, p differs from m
other_name : (n p m : Name) → same_text n m ≡ true → same_text n p ≡ false → same_text p m ≡ false
other_name n p m e f = by_bool (same_text p m)
    (λ h. let k : n ≡ p = same_text-is n m e
    ∙ sym (same_text-is p m h) in absurd (never (sym (same_text-self n) ∙ ap (same_text n) k ∙ f)))
    (λ h. h)
  where
    never : true ≡ false → ⊥
    never q = cc

-- ---- each table

-- a test that implies another on each table implies it on the copy
each_gives : (test other : TableDef → List Row → Bool) (defs : List TableDef) (copy : Copy)
    → ((d : TableDef) → In d defs → (rows : List Row) → test d rows ≡ true → other d rows ≡ true)
    → each_table test defs copy ≡ true → each_table other defs copy ≡ true
each_gives test other [] copy h e = refl
each_gives test other (d ∷ defs) [] h e = refl
each_gives test other (d ∷ defs) (rows ∷ copy) h e =
    let b = both (test d (shown_rows d rows)) (each_table test defs copy) e in
    and_true (other d (shown_rows d rows)) (each_table other defs copy) (h d (inl refl) (shown_rows d rows) b.0)
    (each_gives test other defs copy (λ x m. h x (inr m)) b.1)

-- the test still passes with one more table, without rows
each_more : (test : TableDef → List Row → Bool) (defs : List TableDef) (copy : Copy) (d : TableDef)
    → length copy ≡ length defs → test d [] ≡ true
    → each_table test defs copy ≡ true → each_table test (defs ++ d ∷ []) (copy ++ [] ∷ []) ≡ true
each_more test [] [] d n t e = and_true (test d []) true t refl
each_more test [] (rows ∷ copy) d n t e = absurd (omega arith)
each_more test (x ∷ defs) [] d n t e = absurd (omega arith)
each_more test (x ∷ defs) (rows ∷ copy) d n t e =
    let b = both (test x (shown_rows x rows)) (each_table test defs copy) e in
    and_true (test x (shown_rows x rows)) (each_table test (defs ++ d ∷ []) (copy ++ [] ∷ [])) b.0
    (each_more test defs copy d (omega arith) t b.1)

-- the test still passes with one table removed
each_less : (test : TableDef → List Row → Bool) (defs : List TableDef) (copy : Copy) (k : ℕ)
    → each_table test defs copy ≡ true → each_table test (remove defs k) (remove copy k) ≡ true
each_less test [] copy zero e = refl
each_less test [] copy (suc k) e = refl
each_less test (d ∷ defs) [] zero e = by_list defs
  where
    by_list : (ds : List TableDef) → each_table test ds [] ≡ true
    by_list [] = refl
    by_list (x ∷ ds) = refl
each_less test (d ∷ defs) [] (suc k) e = refl
each_less test (d ∷ defs) (rows ∷ copy) zero e = (both (test d (shown_rows d rows)) (each_table test defs copy) e).1
each_less test (d ∷ defs) (rows ∷ copy) (suc k) e =
    let b = both (test d (shown_rows d rows)) (each_table test defs copy) e in
    and_true (test d (shown_rows d rows)) (each_table test (remove defs k) (remove copy k)) b.0
    (each_less test defs copy k b.1)

-- a test that passes for no rows passes for a copy without rows
each_empty : (test : TableDef → List Row → Bool) (defs : List TableDef) → ((d : TableDef) → test d [] ≡ true)
    → each_table test defs (map (λ d. []) defs) ≡ true
each_empty test [] h = refl
each_empty test (d ∷ defs) h =
    and_true (test d []) (each_table test defs (map (λ x. []) defs)) (h d) (each_empty test defs h)

-- ---- the tests of a copy

-- the keys of a table
abbrev pub key_test : TableDef → List Row → Bool
key_test d rows = list_all (key_holds d rows) d.keys

-- the references of a table
abbrev pub reference_test : List TableDef → Copy → TableDef → List Row → Bool
reference_test defs copy d rows =
    list_all (λ (f : Reference). reference_to defs copy d rows f (place_of f.parent defs)) d.references

-- keys hold if there are no rows
keys_of_none : (d : TableDef) → key_test d [] ≡ true
keys_of_none d = all_pass (key_holds d []) d.keys (λ k. refl)

-- references hold if there are no rows
references_of_none : (defs : List TableDef) (copy : Copy) (d : TableDef) → reference_test defs copy d [] ≡ true
references_of_none defs copy d = all_pass
    (λ (f : Reference). reference_to defs copy d [] f (place_of f.parent defs)) d.references
    (λ f. by_place f (place_of f.parent defs))
  where
    by_place : (f : Reference) (o : Option ℕ) → reference_to defs copy d [] f o ≡ true
    by_place f None = refl
    by_place f (Some t) = refl

-- keys and references hold before any commit
pub holds_empty : (defs : List TableDef) → CopyHolds defs (map (λ d. []) defs)
holds_empty defs = record {
  as_many = length-map defs _;
  keys = each_empty key_test defs keys_of_none;
  references = each_empty (reference_test defs (map (λ d. []) defs)) defs
      (references_of_none defs (map (λ d. []) defs));
}

-- ---- one more table

-- the index of a name among the definitions, with one more definition at the end
data Place (p : Name) (defs : List TableDef) (new : TableDef) : Type 0 where
  Found : (i : ℕ) → i < length defs → place_of p defs ≡ Some i → place_of p (defs ++ new ∷ []) ≡ Some i
      → Place p defs new
  Last : place_of p defs ≡ None → place_of p (defs ++ new ∷ []) ≡ Some (length defs) → Place p defs new
  Nowhere : place_of p defs ≡ None → place_of p (defs ++ new ∷ []) ≡ None → Place p defs new

-- one of these cases always holds
place_more : (p : Name) (defs : List TableDef) (new : TableDef) → Place p defs new
place_more p [] new = by_bool (same_text p new.name)
    (λ e. Last refl (ap (λ b. if b then Some 0 else None) e))
    (λ e. Nowhere refl (ap (λ b. if b then Some 0 else None) e))
place_more p (d ∷ defs) new = by_bool (same_text p d.name)
    (λ e. Found 0 (omega arith) (ap (λ b. if b then Some 0 else next_place (place_of p defs)) e)
    (ap (λ b. if b then Some 0 else next_place (place_of p (defs ++ new ∷ []))) e))
    (λ e. further e (place_more p defs new))
  where
    old : same_text p d.name ≡ false → {o : Option ℕ} → place_of p defs ≡ o → place_of p (d ∷ defs) ≡ next_place o
    old e q = ap (λ b. if b then Some 0 else next_place (place_of p defs)) e ∙ ap next_place q

    all : same_text p d.name ≡ false → {o : Option ℕ} → place_of p (defs ++ new ∷ []) ≡ o
        → place_of p (d ∷ (defs ++ new ∷ [])) ≡ next_place o
    all e q = ap (λ b. if b then Some 0 else next_place (place_of p (defs ++ new ∷ []))) e ∙ ap next_place q

    further : same_text p d.name ≡ false → Place p defs new → Place p (d ∷ defs) new
    further e (Found i l q r) = Found (suc i) (omega arith) (old e q) (all e r)
    further e (Last q r) = Last (old e q) (all e r)
    further e (Nowhere q r) = Nowhere (old e q) (all e r)

-- with no parent rows, the definition of the parent does not matter
no_parents : (d parent other : TableDef) (f : Reference) (rows : List Row)
    → reference_holds d parent f [] rows ≡ reference_holds d other f [] rows
no_parents d parent other f rows = all_same (is_met d parent f []) (is_met d other f []) rows
    (λ r. ap (λ b. has_null f.columns r || b) (by_sort r f.by_period))
  where
    by_sort : (r : Row) (b : Bool) → is_met_by d parent b [] r ≡ is_met_by d other b [] r
    by_sort r true = refl
    by_sort r false = refl

-- a copy has no rows for an index beyond its tables
no_rows_there : (defs : List TableDef) (copy : Copy) → length copy ≡ length defs → rows_in copy (length defs) ≡ []
no_rows_there [] [] n = refl
no_rows_there [] (rows ∷ copy) n = absurd (omega arith)
no_rows_there (d ∷ defs) [] n = absurd (omega arith)
no_rows_there (d ∷ defs) (rows ∷ copy) n = no_rows_there defs copy (omega arith)

-- whether a reference holds, with these parent rows
abbrev to_rows : TableDef → TableDef → Reference → List Stamped → List Row → Bool
to_rows d parent f parents rows = reference_holds d parent f (shown_rows parent parents) rows

-- one more table does not change whether a reference holds
reference_more : (defs : List TableDef) (copy : Copy) (new : TableDef) → length copy ≡ length defs
    → (d : TableDef) (rows : List Row) (f : Reference)
    → reference_to (defs ++ new ∷ []) (copy ++ [] ∷ []) d rows f
    (place_of f.parent (defs ++ new ∷ [])) ≡ reference_to defs copy d rows f (place_of f.parent defs)
reference_more defs copy new n d rows f = at_place (place_more f.parent defs new)
  where
    at_place : Place f.parent defs new
        → reference_to (defs ++ new ∷ []) (copy ++ [] ∷ []) d rows f
        (place_of f.parent (defs ++ new ∷ [])) ≡ reference_to defs copy d rows f (place_of f.parent defs)
    at_place (Found i l q r) =
        ap (reference_to (defs ++ new ∷ []) (copy ++ [] ∷ []) d rows f) r
        ∙ ap (λ (p : TableDef). to_rows d p f (rows_in (copy ++ [] ∷ []) i) rows)
        (get_or-append defs (new ∷ []) no_table i l)
        ∙ ap (λ xs. to_rows d (table_at defs i) f xs rows) (rows_more copy i)
        ∙ sym (ap (reference_to defs copy d rows f) q)
    at_place (Last q r) =
        ap (reference_to (defs ++ new ∷ []) (copy ++ [] ∷ []) d rows f) r
        ∙ ap (λ xs. to_rows d (table_at (defs ++ new ∷ []) (length defs)) f xs rows)
        (rows_more copy (length defs) ∙ no_rows_there defs copy n)
        ∙ no_parents d (table_at (defs ++ new ∷ []) (length defs)) no_table f rows
        ∙ sym (ap (reference_to defs copy d rows f) q)
    at_place (Nowhere q r) =
        ap (reference_to (defs ++ new ∷ []) (copy ++ [] ∷ []) d rows f) r
        ∙ sym (ap (reference_to defs copy d rows f) q)

-- keys and references hold with one more table that is empty
pub holds_more : (defs : List TableDef) (new : TableDef) (copy : Copy) → CopyHolds defs copy
    → CopyHolds (defs ++ new ∷ []) (copy ++ [] ∷ [])
holds_more defs new copy h =
    let test : TableDef → List Row → Bool = reference_test (defs ++ new ∷ []) (copy ++ [] ∷ []) in
    record {
      as_many = length-append copy ([] ∷ []) ∙ ap (λ n. n + 1) h.as_many ∙ sym (length-append defs (new ∷ []));
      keys = each_more key_test defs copy new h.as_many (keys_of_none new) h.keys;
      references = each_more test defs copy new h.as_many (references_of_none (defs ++ new ∷ []) (copy ++ [] ∷ []) new)
          (each_gives (reference_test defs copy) test defs copy
          (λ d m rows e. all_same _ _ d.references (λ f. reference_more defs copy new h.as_many d rows f)
          ∙ e) h.references);
    }

-- ---- one table removed

-- the index before the removal of the table at k, from its index after it
abbrev skipped : ℕ → Option ℕ → Option ℕ
skipped k None = None
skipped k (Some i) = Some (skip k i)

-- passing a removed index and taking the next index can be exchanged
next_skipped : (k : ℕ) (o : Option ℕ) → next_place (skipped k o) ≡ skipped (suc k) (next_place o)
next_skipped k None = refl
next_skipped k (Some i) = refl

-- passing index 0 is taking the next index
next_first : (o : Option ℕ) → next_place o ≡ skipped 0 o
next_first None = refl
next_first (Some i) = refl

-- an index that is the next one has one before it
before_it : (o : Option ℕ) (t : ℕ) → next_place o ≡ Some t → (k : ℕ) × (o ≡ Some k) × (t ≡ suc k)
before_it None t e = absurd (cc)
before_it (Some i) t e = (i, refl, cc)

-- the index of another name before the removal of a table, from its index after it
place_less : (p n : Name) (defs : List TableDef) (t : ℕ) → place_of n defs ≡ Some t → same_text n p ≡ false
    → place_of p defs ≡ skipped t (place_of p (remove defs t))
place_less p n [] t e h = absurd (cc)
place_less p n (d ∷ defs) t e h = by_bool (same_text n d.name)
    (λ b.
    let first : 0 ≡ t = let q = sym (ap (λ c. if c then Some 0 else next_place (place_of n defs)) b) ∙ e in cc in
    subst (λ k. place_of p (d ∷ defs) ≡ skipped k (place_of p (remove (d ∷ defs) k))) first
    (ap (λ c. if c then Some 0 else next_place (place_of p defs)) (other_name n p d.name b h)
    ∙ next_first (place_of p defs)))
    (λ b.
    let k = before_it (place_of n defs) t (sym (ap (λ c. if c then Some 0 else next_place (place_of n defs)) b) ∙ e) in
    subst (λ i. place_of p (d ∷ defs) ≡ skipped i (place_of p (remove (d ∷ defs) i))) (sym k.2)
    (later k.0 (place_less p n defs k.0 k.1 h)))
  where
    later : (k : ℕ) → place_of p defs ≡ skipped k (place_of p (remove defs k))
        → place_of p (d ∷ defs) ≡ skipped (suc k) (place_of p (d ∷ remove defs k))
    later k ih = by_bool (same_text p d.name)
        (λ b. ap (λ c. if c then Some 0 else next_place (place_of p defs)) b
        ∙ sym (ap (λ c. skipped (suc k) (if c then Some 0 else next_place (place_of p (remove defs k)))) b))
        (λ b. ap (λ c. if c then Some 0 else next_place (place_of p defs)) b ∙ ap next_place ih
        ∙ next_skipped k (place_of p (remove defs k))
        ∙ sym (ap (λ c. skipped (suc k) (if c then Some 0 else next_place (place_of p (remove defs k)))) b))

-- the removal of a table that a reference does not name does not change whether the reference holds
reference_less : (defs : List TableDef) (copy : Copy) (n : Name) (t : ℕ) → place_of n defs ≡ Some t
    → (d : TableDef) (rows : List Row) (f : Reference) → same_text n f.parent ≡ false
    → reference_to (remove defs t) (remove copy t) d rows f
    (place_of f.parent (remove defs t)) ≡ reference_to defs copy d rows f (place_of f.parent defs)
reference_less defs copy n t e d rows f h = at_place (place_of f.parent (remove defs t))
    ∙ sym (ap (reference_to defs copy d rows f) (place_less f.parent n defs t e h))
  where
    at_place : (o : Option ℕ)
        → reference_to (remove defs t) (remove copy t) d rows f o ≡ reference_to defs copy d rows f (skipped t o)
    at_place None = refl
    at_place (Some i) =
        ap (λ (p : TableDef). to_rows d p f (rows_in (remove copy t) i) rows) (removed_at defs t i no_table)
        ∙ ap (λ xs. to_rows d (table_at defs (skip t i)) f xs rows) (removed_at copy t i [])

-- keys and references hold after the removal of a table that no reference names
pub holds_less : (defs : List TableDef) (copy : Copy) (n : Name) (t : ℕ) → place_of n defs ≡ Some t
    → is_referenced n defs ≡ false → CopyHolds defs copy → CopyHolds (remove defs t) (remove copy t)
holds_less defs copy n t e free h = record {
  as_many = length_removed copy defs t h.as_many;
  keys = each_less key_test defs copy t h.keys;
  references = each_less (reference_test (remove defs t) (remove copy t)) defs copy t
      (each_gives (reference_test defs copy) (reference_test (remove defs t) (remove copy t)) defs copy (λ d m rows k.
      all_where (λ (f : Reference). same_text n f.parent) _ _ d.references
      (none_in (λ (x : TableDef). list_any (λ (f : Reference). same_text n f.parent) x.references) defs d free m)
      (λ f g. reference_less defs copy n t e d rows f g) ∙ k) h.references);
}
