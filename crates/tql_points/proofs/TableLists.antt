-- One table more, or one fewer: what is related to the point remains related.
use Rattle.std.proofs.Common.{◌≡◌, ◌≤◌, ◌<◌, refl, sym, ap, subst, ◌∙◌, ℕ, zero, suc, ◌+◌, true, false, List, [], ◌∷◌}
use Rattle.std.proofs.Common.{◌++◌, map, get_or, length, arith, inl, inr}
use Rattle.std.specs.Prelude.{nat_lt, remove, IsTrue, ℤ, Option, Some, None, is_some, if◌then◌else◌}
use Rattle.std.specs.List.{list_all, list_any}
use Rattle.std.proofs.lemmas.Bool.Decides.{nat_tests}
use Rattle.std.proofs.lemmas.List.{length-append}
use Rattle.std.proofs.Math.ListN.{get_or-append}
use Rattle.tql_spec.specs.Words.{same_text}
use Rattle.tql_spec.specs.Bag.{In}
use Rattle.tql_spec.specs.Definition.{Name, TableDef, Reference, no_table, table_at, place_of, next_place}
use Rattle.tql_spec.specs.AtPoints.{parent_at}
use Rattle.tql_spec.specs.Binding.{is_referenced}
use Rattle.tql_spec.specs.History.{Copy, Entry, rows_in}
use Rattle.tql_spec.specs.Machine.{State, in_each_copy}
use Rattle.tql_spec.specs.Readers.{Reader, is_any_open}
use Rattle.tql_spec.proofs.BoundKinds.{none_any}
use Rattle.tql_spec.proofs.Constraints.{same_text-self, same_text-is}
use Rattle.tql_spec.proofs.Copies.{rows_more, skip, removed_at, length_removed}
use Rattle.tql_spec.proofs.Members.{by_bool}
use Rattle.tql_points.specs.Slice.{AreSlice}
use Rattle.tql_points.specs.PointTable.{moved, point_table, point_tables, plain_reference}
use Rattle.tql_points.specs.Scope.{IsPointTable, ArePointTables, is_payload}
use Rattle.tql_points.specs.ChangeLaw.{AllFit, HasSlice}
use Rattle.tql_points.proofs.Creations.{place_within, place_more}
use Rattle.tql_points.proofs.GoodStates.{GoodCopy, GoodEntries, GoodOpen, GoodState}
use Rattle.tql_points.proofs.Good.{AllGood}
use Rattle.tql_points.proofs.Numbers.{map_in}
use Rattle.tql_points.proofs.Related.{SameCopy, SameEntries, SameOpen, SameReaders, Related}
use Rattle.tql_points.proofs.Tables.{some_there}

-- ---- the parents of references

-- the parent of a reference is the same table in both lists
record SameParent (defs new : List TableDef) (f : Reference) : Type 0 where
  there : is_some (place_of f.parent new) ≡ is_some (place_of f.parent defs)
  is : parent_at new (place_of f.parent new) ≡ parent_at defs (place_of f.parent defs)

abbrev SameParents : (defs new : List TableDef) → TableDef → Type 0
SameParents defs new d = (f : Reference) → In f d.references → SameParent defs new f

-- then the table of a point is the same
point_same : (defs new : List TableDef) (d : TableDef) → SameParents defs new d
    → point_table new d ≡ point_table defs d
point_same defs new d h =
    ap (λ (rs : List Reference). record (point_table defs d) { references = rs })
    (map_in (plain_reference new d) (plain_reference defs d) d.references (λ f m. plain_same f (h f m)))
  where
    plain_same : (f : Reference) → SameParent defs new f → plain_reference new d f ≡ plain_reference defs d f
    plain_same f k = ap (λ (par : TableDef). record {
      columns = map (moved d) f.columns;
      by_period = false;
      parent = f.parent;
      parent_columns = map (moved par) f.parent_columns;
    }) k.is

-- and the table is in scope if it was
scope_same : (defs new : List TableDef) (d : TableDef) → SameParents defs new d → IsPointTable defs d
    → IsPointTable new d
scope_same defs new d h t = record {
  period = t.period;
  apart = t.apart;
  checks = t.checks;
  keys = t.keys;
  references = λ f m.
      let k = t.references f m in (
        k.0,
        (h f m).there ∙ k.1,
        k.2,
        subst (λ (par : TableDef). IsTrue (list_all (is_payload par) f.parent_columns)) (sym (h f m).is) k.3,
      );
}

-- ---- one table more

parent_more : (defs : List TableDef) (d : TableDef) (f : Reference) → is_some (place_of f.parent defs) ≡ true
    → SameParent defs (defs ++ d ∷ []) f
parent_more defs d f e =
    let t = some_there (place_of f.parent defs) e in
    let o = place_more f.parent defs (d ∷ []) t.0 t.1 in
    record {
      there = ap is_some o ∙ sym e;
      is = ap (parent_at (defs ++ d ∷ [])) o
          ∙ get_or-append defs (d ∷ []) no_table t.0 (place_within f.parent defs t.0 t.1)
          ∙ sym (ap (parent_at defs) t.1);
    }

-- ---- one table fewer

abbrev skipped : ℕ → Option ℕ → Option ℕ
skipped k None = None
skipped k (Some i) = Some (skip k i)

next_skipped : (k : ℕ) (o : Option ℕ) → next_place (skipped k o) ≡ skipped (suc k) (next_place o)
next_skipped k None = refl
next_skipped k (Some i) = refl

next_first : (o : Option ℕ) → next_place o ≡ skipped 0 o
next_first None = refl
next_first (Some i) = refl

before_it : (o : Option ℕ) (t : ℕ) → next_place o ≡ Some t → (k : ℕ) × (o ≡ Some k) × (t ≡ suc k)
before_it None t e = absurd (cc)
before_it (Some i) t e = (i, refl, cc)

other_name : (n p m : Name) → same_text n m ≡ true → same_text n p ≡ false → same_text p m ≡ false
other_name n p m e f = by_bool (same_text p m)
    (λ h. let k : n ≡ p = same_text-is n m e ∙ sym (same_text-is p m h) in
    let never : true ≡ false = sym (same_text-self n) ∙ ap (same_text n) k ∙ f in absurd (cc))
    (λ h. h)

-- the index of another name before the removal of a table, from its index after it
place_less : (p n : Name) (defs : List TableDef) (t : ℕ) → place_of n defs ≡ Some t → same_text n p ≡ false
    → place_of p defs ≡ skipped t (place_of p (remove defs t))
place_less p n [] t e h = absurd (cc)
place_less p n (d ∷ defs) t e h = by_bool (same_text n d.name)
    (λ b.
    let first : 0 ≡ t = let q = sym (ap (λ c. if c then Some 0 else next_place (place_of n defs)) b) ∙ e in cc in
    subst (λ k. place_of p (d ∷ defs) ≡ skipped k (place_of p (remove (d ∷ defs) k))) first
    (ap (λ c. if c then Some 0 else next_place (place_of p defs)) (other_name n p d.name b h)
    ∙ next_first (place_of p defs)))
    (λ b.
    let k = before_it (place_of n defs) t (sym (ap (λ c. if c then Some 0 else next_place (place_of n defs)) b) ∙ e) in
    subst (λ i. place_of p (d ∷ defs) ≡ skipped i (place_of p (remove (d ∷ defs) i))) (sym k.2)
    (later k.0 (place_less p n defs k.0 k.1 h)))
  where
    later : (k : ℕ) → place_of p defs ≡ skipped k (place_of p (remove defs k))
        → place_of p (d ∷ defs) ≡ skipped (suc k) (place_of p (d ∷ remove defs k))
    later k ih = by_bool (same_text p d.name)
        (λ b. ap (λ c. if c then Some 0 else next_place (place_of p defs)) b
        ∙ sym (ap (λ c. skipped (suc k) (if c then Some 0 else next_place (place_of p (remove defs k)))) b))
        (λ b. ap (λ c. if c then Some 0 else next_place (place_of p defs)) b ∙ ap next_place ih
        ∙ next_skipped k (place_of p (remove defs k))
        ∙ sym (ap (λ c. skipped (suc k) (if c then Some 0 else next_place (place_of p (remove defs k)))) b))

parent_less : (defs : List TableDef) (n : Name) (t : ℕ) → place_of n defs ≡ Some t → (f : Reference)
    → same_text n f.parent ≡ false → SameParent defs (remove defs t) f
parent_less defs n t e f h =
    let q = place_less f.parent n defs t e h in
    record {
      there = sym (ap is_some q ∙ still_some (place_of f.parent (remove defs t)));
      is = at_place (place_of f.parent (remove defs t)) ∙ sym (ap (parent_at defs) q);
    }
  where
    still_some : (o : Option ℕ) → is_some (skipped t o) ≡ is_some o
    still_some None = refl
    still_some (Some i) = refl

    at_place : (o : Option ℕ) → parent_at (remove defs t) o ≡ parent_at defs (skipped t o)
    at_place None = refl
    at_place (Some i) = removed_at defs t i no_table

skip_most : (k i : ℕ) → skip k i ≤ suc i
skip_most zero i = omega arith
skip_most (suc k) zero = omega arith
skip_most (suc k) (suc i) = let h = skip_most k i in omega (arith, h)

one_fewer : {X : Type 0} (xs : List X) (k : ℕ) → k < length xs → suc (length (remove xs k)) ≡ length xs
one_fewer [] k l = absurd (omega arith)
one_fewer (x ∷ xs) zero l = refl
one_fewer (x ∷ xs) (suc k) l = ap suc (one_fewer xs k (omega arith))

in_at : {X : Type 0} (xs : List X) (i : ℕ) (d : X) → i < length xs → In (get_or xs i d) xs
in_at [] i d l = absurd (omega arith)
in_at (x ∷ xs) zero d l = inl refl
in_at (x ∷ xs) (suc i) d l = inr (in_at xs i d (omega arith))

-- no reference of a table names the one that is dropped
unnamed : (defs : List TableDef) (n : Name) → is_referenced n defs ≡ false → (v : ℕ) → v < length defs
    → (f : Reference) → In f (table_at defs v).references → same_text n f.parent ≡ false
unnamed defs n free v l f m =
    none_any (λ (g : Reference). same_text n g.parent) f (table_at defs v).references m
    (none_any (λ (d : TableDef). list_any (λ (g : Reference). same_text n g.parent) d.references) (table_at defs v)
    defs (in_at defs v no_table l) free)

-- ---- tables after a change of the list

-- where a table is from: it was there at this index, or it is new and empty
pub data Origin (defs new : List TableDef) (g : Copy → Copy) (u : ℕ) : Type 0 where
  Was : (v : ℕ) → v < length defs → table_at new u ≡ table_at defs v
      → point_table new (table_at defs v) ≡ point_table defs (table_at defs v)
      → ((copy : Copy) → rows_in (g copy) u ≡ rows_in copy v) → Origin defs new g u
  IsNew : ((copy : Copy) → length copy ≡ length defs → rows_in (g copy) u ≡ []) → Origin defs new g u

-- the list and each copy after the change, and the tables of a point
pub record Relisted (defs new : List TableDef) (g : Copy → Copy) : Type 0 where
  pub all : ArePointTables new
  pub wide : (copy : Copy) → length copy ≡ length defs → length (g copy) ≡ length new
  pub each : (u : ℕ) → u < length new → Origin defs new g u

beyond : (copy : Copy) (i : ℕ) → length copy ≤ i → rows_in copy i ≡ []
beyond [] i l = refl
beyond (x ∷ copy) zero l = absurd (omega arith)
beyond (x ∷ copy) (suc i) l = beyond copy i (omega arith)

abbrev pub more_rows : Copy → Copy
more_rows copy = copy ++ [] ∷ []

old_parents : (defs : List TableDef) → ArePointTables defs → (d : TableDef) (v : ℕ) → v < length defs
    → SameParents defs (defs ++ d ∷ []) (table_at defs v)
old_parents defs all d v l f m = parent_more defs d f ((all v l).references f m).1

pub relisted_more : (defs : List TableDef) (d : TableDef) → ArePointTables defs → ArePointTables (defs ++ d ∷ [])
    → Relisted defs (defs ++ d ∷ []) more_rows
relisted_more defs d old all = record {
  all = all;
  wide = λ copy h. length-append copy ([] ∷ []) ∙ ap (λ n. n + 1) h ∙ sym (length-append defs (d ∷ []));
  each = λ u l. by_bool (nat_lt u (length defs))
      (λ e. let k : u < length defs = grind (arith, nat_tests, e) in
      Was u k (get_or-append defs (d ∷ []) no_table u k)
      (point_same defs (defs ++ d ∷ []) (table_at defs u) (old_parents defs old d u k))
      (λ copy. rows_more copy u))
      (λ e. let k : length defs ≤ u = grind (arith, nat_tests, e) in
      IsNew (λ copy h. rows_more copy u ∙ beyond copy u (omega (arith, k, h))));
}

pub relisted_less : (defs : List TableDef) (n : Name) (t : ℕ) → ArePointTables defs → place_of n defs ≡ Some t
    → is_referenced n defs ≡ false → Relisted defs (remove defs t) (λ copy. remove copy t)
relisted_less defs n t old e free = record {
  all = λ u l. subst (IsPointTable (remove defs t)) (sym (removed_at defs t u no_table))
      (scope_same defs (remove defs t) (table_at defs (skip t u)) (parents (skip t u) (low u l))
      (old (skip t u) (low u l)));
  wide = λ copy h. length_removed copy defs t h;
  each = λ u l. Was (skip t u) (low u l) (removed_at defs t u no_table)
      (point_same defs (remove defs t) (table_at defs (skip t u)) (parents (skip t u) (low u l)))
      (λ copy. removed_at copy t u []);
}
  where
    low : (u : ℕ) → u < length (remove defs t) → skip t u < length defs
    low u l =
        let most = skip_most t u in
        let one = one_fewer defs t (place_within n defs t e) in omega (arith, most, one, l)

    parents : (v : ℕ) → v < length defs → SameParents defs (remove defs t) (table_at defs v)
    parents v l f m = parent_less defs n t e f (unnamed defs n free v l f m)

-- ---- copies

module _ (defs new : List TableDef) (g : Copy → Copy) (k : Relisted defs new g) where
  slice_relisted : (p : ℤ) (copy other : Copy) → SameCopy defs p copy other → (u : ℕ) → u < length new
      → HasSlice new (table_at new u) p (rows_in (g copy) u) (rows_in (g other) u)
  slice_relisted p copy other h u l = by_origin (k.each u l)
    where
      by_origin : Origin defs new g u
          → HasSlice new (table_at new u) p (rows_in (g copy) u) (rows_in (g other) u)
      by_origin (Was v low is same rows) =
          let x = h.each v low in
          subst (λ d. HasSlice new d p (rows_in (g copy) u) (rows_in (g other) u)) (sym is)
          (subst (λ xs. HasSlice new (table_at defs v) p xs (rows_in (g other) u)) (sym (rows copy))
          (subst (λ xs. HasSlice new (table_at defs v) p (rows_in copy v) xs) (sym (rows other)) (record {
            table = subst (IsPointTable new) is (k.all u l);
            fits = x.fits;
            fit = subst (λ e. AllFit e (rows_in other v)) (sym same) x.fit;
            same = subst (λ e. AreSlice (table_at defs v) e p (rows_in copy v) (rows_in other v)) (sym same) x.same;
          })))
      by_origin (IsNew none) =
          subst (λ xs. HasSlice new (table_at new u) p xs (rows_in (g other) u)) (sym (none copy h.as_many))
          (subst (λ xs. HasSlice new (table_at new u) p [] xs) (sym (none other h.as_many_then)) (record {
            table = k.all u l;
            fits = λ r n. absurd n;
            fit = λ r n. absurd n;
            same = record { totals = λ w. refl };
          }))

  copy_relisted : (p : ℤ) (copy other : Copy) → SameCopy defs p copy other → SameCopy new p (g copy) (g other)
  copy_relisted p copy other h = record {
    as_many = k.wide copy h.as_many;
    as_many_then = k.wide other h.as_many_then;
    each = slice_relisted p copy other h;
  }

  good_relisted : (copy : Copy) → length copy ≡ length defs → GoodCopy defs copy → GoodCopy new (g copy)
  good_relisted copy many h u l = by_origin (k.each u l)
    where
      by_origin : Origin defs new g u → AllGood (table_at new u) (rows_in (g copy) u)
      by_origin (Was v low is same rows) =
          subst (λ d. AllGood d (rows_in (g copy) u)) (sym is)
          (subst (AllGood (table_at defs v)) (sym (rows copy)) (h v low))
      by_origin (IsNew none) = subst (AllGood (table_at new u)) (sym (none copy many)) (λ r n. absurd n)

  entries_relisted : (p : ℤ) (es fs : List Entry) → SameEntries defs p es fs
      → SameEntries new p (map (λ (e : Entry). record e { copy = g e.copy }) es)
      (map (λ (e : Entry). record e { copy = g e.copy }) fs)
  entries_relisted p [] [] h = tt
  entries_relisted p (e ∷ es) (f ∷ fs) h = (
    record { moment = h.0.moment; copy = copy_relisted p e.copy f.copy h.0.copy },
    entries_relisted p es fs h.1,
  )
  entries_relisted p [] (f ∷ fs) h = absurd h
  entries_relisted p (e ∷ es) [] h = absurd h

  good_entries_relisted : (p : ℤ) (es fs : List Entry) → SameEntries defs p es fs → GoodEntries defs es
      → GoodEntries new (map (λ (e : Entry). record e { copy = g e.copy }) es)
  good_entries_relisted p [] fs h x = tt
  good_entries_relisted p (e ∷ es) (f ∷ fs) h x =
      (good_relisted e.copy h.0.copy.as_many x.0, good_entries_relisted p es fs h.1 x.1)
  good_entries_relisted p (e ∷ es) [] h x = absurd h

  -- ---- states

  -- with no reader open, and no transaction
  none_open : (p : ℤ) (rs os : List Reader) → SameReaders defs p rs os → is_any_open rs ≡ false
      → SameReaders new p rs os
  none_open p [] [] h e = tt
  none_open p (r ∷ rs) os h e = absurd (cc)
  none_open p [] (o ∷ os) h e = absurd h

  none_begun : (p : ℤ) (a b : Option Entry) → SameOpen defs p a b → is_some a ≡ false → SameOpen new p a b
  none_begun p None None h e = tt
  none_begun p (Some x) b h e = absurd (cc)
  none_begun p None (Some y) h e = absurd h

  pub related_relisted : (p : ℤ) (s other : State) → Related defs p s other → is_some s.transaction ≡ false
      → is_any_open s.readers ≡ false → (ds es : List TableDef) → ds ≡ new → es ≡ point_tables new
      → Related new p (in_each_copy g (record s { definitions = ds }))
      (in_each_copy g (record other { definitions = es }))
  related_relisted p s other r idle closed ds es own theirs = record {
    definitions = own;
    definitions_then = theirs;
    clock = r.clock;
    horizon = r.horizon;
    readers = none_open p s.readers other.readers r.readers closed;
    history = entries_relisted p s.history other.history r.history;
    open_then = none_begun p s.transaction other.transaction r.open_then idle;
  }

  pub good_state_relisted : (p : ℤ) (s other : State) → Related defs p s other → is_some s.transaction ≡ false
      → GoodState defs s → (ds : List TableDef) → GoodState new (in_each_copy g (record s { definitions = ds }))
  good_state_relisted p s other r idle x ds = record {
    history = good_entries_relisted p s.history other.history r.history x.history;
    open_then = by_open s.transaction idle;
  }
    where
      by_open : (o : Option Entry) → is_some o ≡ false → GoodOpen new o
      by_open None e = tt
      by_open (Some e) q = absurd (cc)

-- ---- the tables of a point

tables_same : (f g : TableDef → TableDef) (xs : List TableDef)
    → ((i : ℕ) → i < length xs → f (table_at xs i) ≡ g (table_at xs i)) → map f xs ≡ map g xs
tables_same f g [] h = refl
tables_same f g (x ∷ xs) h =
    ap (λ y. y ∷ map f xs) (h 0 (omega arith))
    ∙ ap (λ ys. g x ∷ ys) (tables_same f g xs (λ i l. h (suc i) (omega arith)))

map_append : {X Y : Type 0} (f : X → Y) (xs : List X) (x : X) → map f (xs ++ x ∷ []) ≡ map f xs ++ f x ∷ []
map_append f [] x = refl
map_append f (y ∷ xs) x = ap (λ ys. f y ∷ ys) (map_append f xs x)

map_removed : {X Y : Type 0} (f : X → Y) (xs : List X) (k : ℕ) → map f (remove xs k) ≡ remove (map f xs) k
map_removed f [] zero = refl
map_removed f [] (suc k) = refl
map_removed f (x ∷ xs) zero = refl
map_removed f (x ∷ xs) (suc k) = ap (λ ys. f x ∷ ys) (map_removed f xs k)

pub point_tables_more : (defs : List TableDef) (d : TableDef) → ArePointTables defs
    → point_tables defs ++ point_table (defs ++ d ∷ []) d ∷ [] ≡ point_tables (defs ++ d ∷ [])
point_tables_more defs d old =
    ap (λ xs. xs ++ point_table (defs ++ d ∷ []) d ∷ [])
    (tables_same (point_table defs) (point_table (defs ++ d ∷ [])) defs
    (λ i l. sym (point_same defs (defs ++ d ∷ []) (table_at defs i) (old_parents defs old d i l))))
    ∙ sym (map_append (point_table (defs ++ d ∷ [])) defs d)

pub point_tables_less : (defs : List TableDef) (n : Name) (t : ℕ) → place_of n defs ≡ Some t
    → is_referenced n defs ≡ false → remove (point_tables defs) t ≡ point_tables (remove defs t)
point_tables_less defs n t e free =
    sym (map_removed (point_table defs) defs t)
    ∙ tables_same (point_table defs) (point_table (remove defs t)) (remove defs t)
    (λ i l. subst (λ d. point_table defs d ≡ point_table (remove defs t) d) (sym (removed_at defs t i no_table))
    (sym (point_same defs (remove defs t) (table_at defs (skip t i))
    (λ f m. parent_less defs n t e f (unnamed defs n free (skip t i) (low i l) f m)))))
  where
    low : (u : ℕ) → u < length (remove defs t) → skip t u < length defs
    low u l =
        let most = skip_most t u in
        let one = one_fewer defs t (place_within n defs t e) in omega (arith, most, one, l)
