-- The lists of referring tables, when a table is added or dropped.
use Rattle.std.proofs.Common.{◌≡◌, refl, ap, sym, ◌∙◌, ℕ, zero, suc, Bool, true, false, List, [], ◌∷◌, ◌++◌, length}
use Rattle.std.proofs.Common.{append_assoc, subst, ◌+◌, ◌<◌, ◌≤◌, arith, Option, Some, None, filter, eq-eqb, ne_eqb}
use Rattle.std.specs.Prelude.{◌||◌, ◌&&◌, ◌==◌, not, nat_lt, remove, if◌then◌else◌, is_some, is_none, All, Vec, map}
use Rattle.std.specs.Prelude.{slice_index_or}
use Rattle.std.specs.List.{list_all, list_any, range_with_len}
use Rattle.std.proofs.lemmas.Bool.Decides.{nat_tests}
use Rattle.std.proofs.lemmas.List.{length-map, map-append}
use Rattle.std.proofs.lemmas.List.Elements.{All-nil, All-cons}
use Rattle.indexmap.proofs.SetLemmas.{map-remove}
use Rattle.tql_spec.specs.Words.{same_text}
use Rattle.tql_spec.specs.Definition.{Name, TableDef, Reference, place_of, next_place, table_at, no_table}
use Rattle.tql_spec.specs.Binding.{is_referenced}
use Rattle.tql_spec.proofs.Constraints.{same_text-is}
use Rattle.tql_spec.specs.Refusal.{TableUnknownOrAlreadyThere, TableIsReferenced, first, fault_if}
use Rattle.tql_catalog.specs.Tables.{definitions_of, has_key_at, can_have, have_parents, drop_faults, reference_faults}
use Rattle.tql_catalog.specs.Referring.{refers_to, referring_to, noted_if, noted, moved_down, closed_up, AreReferring}
use Rattle.tql_catalog.specs.Sought.{lists_of}
use Rattle.tql_catalog.specs.declared.catalog.Table.{Table}

by_bool : (b : Bool) → {X : Type 0} → (b ≡ true → X) → (b ≡ false → X) → X
by_bool true f g = f refl
by_bool false f g = g refl

both : (a b : Bool) → a && b ≡ true → (a ≡ true) × (b ≡ true)
both true true h = (refl, refl)
both true false h = absurd (cc)
both false b h = absurd (cc)

-- ---- positions by recursion

-- the positions of the elements that pass a test, counted from a
abbrev pub places : {X : Type 0} → (X → Bool) → ℕ → List X → List ℕ
places t a [] = []
places t a (x ∷ xs) = if t x then a ∷ places t (a + 1) xs else places t (a + 1) xs

sought : {X : Type 0} (u : ℕ → Bool) (t : X → Bool) (z : X) (a : ℕ) (xs : List X)
    → ((k : ℕ) → k < length xs → u (a + k) ≡ t (slice_index_or xs k z))
    → filter u (range_with_len a (length xs)) ≡ places t a xs
sought u t z a [] h = refl
sought u t z a (x ∷ xs) h =
    let here : u a ≡ t x = ap u (omega arith) ∙ h 0 (omega arith) in
    let rest : filter u (range_with_len (a + 1) (length xs)) ≡ places t (a + 1) xs = sought u t z (a + 1) xs
    (λ k l. ap u (omega arith) ∙ h (suc k) (omega arith)) in
    (λ i. if here i then a ∷ rest i else rest i)

pub referring_is : (n : Name) (defs : List TableDef) → referring_to n defs ≡ places (refers_to n) 0 defs
referring_is n defs = sought (λ p. refers_to n (table_at defs p)) (refers_to n) no_table 0 defs
    (λ k l. ap (λ p. refers_to n (table_at defs p)) (omega arith))

places_more : {X : Type 0} (t : X → Bool) (a : ℕ) (xs : List X) (x : X)
    → places t a (xs ++ x ∷ []) ≡ noted_if (t x) (a + length xs) (places t a xs)
places_more t a [] x = ap (λ p. if t x then p ∷ [] else []) (omega arith)
places_more t a (y ∷ ys) x =
    let rest : places t (a + 1) (ys ++ x ∷ []) ≡ noted_if (t x) (a + length (y ∷ ys)) (places t (a + 1) ys) =
    places_more t (a + 1) ys x ∙ ap (λ p. noted_if (t x) p (places t (a + 1) ys)) (omega arith) in
    elim (t y) as (λ b. (if b then a ∷ places t (a + 1) (ys ++ x ∷ []) else places t (a + 1) (ys ++ x ∷ []))
    ≡ noted_if (t x) (a + length (y ∷ ys)) (if b then a ∷ places t (a + 1) ys else places t (a + 1) ys)) [
      | true ↦ λ i. a ∷ rest i
      | false ↦ rest
    ]

places_none : {X : Type 0} (t : X → Bool) (a : ℕ) (xs : List X) → list_any t xs ≡ false → places t a xs ≡ []
places_none t a [] h = refl
places_none t a (x ∷ xs) h = by_bool (t x)
    (λ e. let wrong : true ≡ false = ap (λ (b : Bool). b || list_any t xs) (sym e) ∙ h in absurd (cc))
    (λ e. ap (λ (b : Bool). if b then a ∷ places t (a + 1) xs else places t (a + 1) xs) e
    ∙ places_none t (a + 1) xs (ap (λ (b : Bool). b || list_any t xs) (sym e) ∙ h))

places_within : {X : Type 0} (t : X → Bool) (a b : ℕ) (xs : List X) → a + length xs ≤ b
    → All (λ p. p < b) (places t a xs)
places_within t a b [] l = All-nil _
places_within t a b (x ∷ xs) l =
    let rest = places_within t (a + 1) b xs (omega arith) in
    elim (t x) as (λ c. All (λ p. p < b) (if c then a ∷ places t (a + 1) xs else places t (a + 1) xs)) [
      | true ↦ All-cons (λ p. p < b) a (places t (a + 1) xs) (omega arith) rest
      | false ↦ rest
    ]

-- ---- a position is removed

gone_step : (gone p : ℕ) (ps : List ℕ) → (p == gone) ≡ true → closed_up gone (p ∷ ps) ≡ closed_up gone ps
gone_step gone p ps e = rw e refl

kept_step : (gone p q : ℕ) (ps : List ℕ) → (p == gone) ≡ false → moved_down gone p ≡ q
    → closed_up gone (p ∷ ps) ≡ q ∷ closed_up gone ps
kept_step gone p q ps e m = rw e (λ i. m i ∷ closed_up gone ps)

moved_past : (gone p : ℕ) → gone ≤ p → moved_down gone (p + 1) ≡ p
moved_past gone p l =
    let past : nat_lt gone (p + 1) ≡ true = grind (arith, nat_tests) in
    rw past (omega arith)

moved_not : (gone p : ℕ) → p < gone → moved_down gone p ≡ p
moved_not gone p l =
    let not_past : nat_lt gone p ≡ false = grind (arith, nat_tests) in
    rw not_past refl

all_later : {X : Type 0} (t : X → Bool) (gone a : ℕ) (xs : List X) → gone ≤ a
    → closed_up gone (places t (a + 1) xs) ≡ places t a xs
all_later t gone a [] l = refl
all_later t gone a (x ∷ xs) l =
    let rest : closed_up gone (places t (a + 1 + 1) xs) ≡ places t (a + 1) xs =
    all_later t gone (a + 1) xs (omega arith) in
    elim (t x) as (λ b. closed_up gone (if b then (a + 1) ∷ places t (a + 1 + 1) xs else places t (a + 1 + 1) xs)
    ≡ (if b then a ∷ places t (a + 1) xs else places t (a + 1) xs)) [
      | true ↦ kept_step gone (a + 1) a (places t (a + 1 + 1) xs) (ne_eqb (a + 1) gone (λ e. omega arith))
          (moved_past gone a l) ∙ ap (λ ps. a ∷ ps) rest
      | false ↦ rest
    ]

places_less : {X : Type 0} (t : X → Bool) (a k : ℕ) (xs : List X) → k < length xs
    → closed_up (a + k) (places t a xs) ≡ places t a (remove xs k)
places_less t a k [] l = absurd (omega arith)
places_less t a zero (x ∷ xs) l =
    let here : a + 0 ≡ a = omega arith in
    let rest : closed_up a (places t (a + 1) xs) ≡ places t a xs = all_later t a a xs (omega arith) in
    rw here (
    elim (t x) as (λ b. closed_up a (if b then a ∷ places t (a + 1) xs else places t (a + 1) xs) ≡ places t a xs) [
      | true ↦ gone_step a a (places t (a + 1) xs) (eq-eqb a a refl) ∙ rest
      | false ↦ rest
    ])
places_less t a (suc k) (x ∷ xs) l =
    let gone : ℕ = a + suc k in
    let rest : closed_up gone (places t (a + 1) xs) ≡ places t (a + 1) (remove xs k) =
    ap (λ g. closed_up g (places t (a + 1) xs)) (omega arith) ∙ places_less t (a + 1) k xs (omega arith) in
    elim (t x) as (λ b. closed_up gone (if b then a ∷ places t (a + 1) xs else places t (a + 1) xs)
    ≡ (if b then a ∷ places t (a + 1) (remove xs k) else places t (a + 1) (remove xs k))) [
      | true ↦ kept_step gone a a (places t (a + 1) xs) (ne_eqb a gone (λ e. omega arith))
          (moved_not gone a (omega arith)) ∙ ap (λ ps. a ∷ ps) rest
      | false ↦ rest
    ]

-- ---- the list of one table

pub referring_within : (n : Name) (tables : List Table)
    → All (λ p. p < length tables) (referring_to n (definitions_of tables))
referring_within n tables =
    subst (All (λ p. p < length tables)) (sym (referring_is n (definitions_of tables)))
    (places_within (refers_to n) 0 (length tables) (definitions_of tables)
    (omega (arith, length-map tables (λ (t : Table). t.definition))))

pub referring_more : (n : Name) (defs : List TableDef) (d : TableDef)
    → referring_to n (defs ++ d ∷ []) ≡ noted_if (refers_to n d) (length defs) (referring_to n defs)
referring_more n defs d =
    referring_is n (defs ++ d ∷ []) ∙ places_more (refers_to n) 0 defs d
    ∙ ap (λ p. noted_if (refers_to n d) p (places (refers_to n) 0 defs)) (omega arith)
    ∙ ap (noted_if (refers_to n d) (length defs)) (sym (referring_is n defs))

pub referring_less : (n : Name) (defs : List TableDef) (k : ℕ) → k < length defs
    → closed_up k (referring_to n defs) ≡ referring_to n (remove defs k)
referring_less n defs k l =
    ap (closed_up k) (referring_is n defs)
    ∙ ap (λ g. closed_up g (places (refers_to n) 0 defs)) (omega arith) ∙ places_less (refers_to n) 0 k defs l
    ∙ sym (referring_is n (remove defs k))

no_places : {X : Type 0} (t : X → Bool) (a : ℕ) (xs : List X) → (length (places t a xs) == 0) ≡ not (list_any t xs)
no_places t a [] = refl
no_places t a (x ∷ xs) =
    elim (t x) as (λ b. (length (if b then a ∷ places t (a + 1) xs else places t (a + 1) xs) == 0)
    ≡ not (b || list_any t xs)) [
      | true ↦ ne_eqb (suc (length (places t (a + 1) xs))) 0 (λ e. omega arith)
      | false ↦ no_places t (a + 1) xs
    ]

-- the list is empty exactly if no reference names the table
pub referring_none : (n : Name) (defs : List TableDef)
    → (length (referring_to n defs) == 0) ≡ not (is_referenced n defs)
referring_none n defs =
    ap (λ (ps : List ℕ). length ps == 0) (referring_is n defs) ∙ no_places (refers_to n) 0 defs

-- ---- no table refers to one that does not exist

not_there : (b : Bool) (o : Option ℕ) → is_some (if b then Some 0 else next_place o) ≡ false
    → (b ≡ false) × (is_some o ≡ false)
not_there true o h = absurd (cc)
not_there false None h = (refl, refl)
not_there false (Some i) h = absurd (cc)

not_before : (n : Name) (xs ys : List TableDef) → is_some (place_of n (xs ++ ys)) ≡ false
    → is_some (place_of n xs) ≡ false
not_before n [] ys h = refl
not_before n (x ∷ xs) ys h =
    let parts = not_there (same_text n x.name) (place_of n (xs ++ ys)) h in
    let rest = not_before n xs ys parts.1 in
    rw (parts.0) (next_none (place_of n xs) rest)
  where
    next_none : (o : Option ℕ) → is_some o ≡ false → is_some (next_place o) ≡ false
    next_none None h = refl
    next_none (Some i) h = absurd (cc)

no_key : (defs : List TableDef) (f : Reference) (o : Option ℕ) → is_some o ≡ false → has_key_at defs f o ≡ false
no_key defs f None h = refl
no_key defs f (Some p) h = absurd (cc)

unnamed : (n : Name) (before : List TableDef) (fs : List Reference) → is_some (place_of n before) ≡ false
    → list_all (can_have before) fs ≡ true → list_any (λ (f : Reference). same_text n f.parent) fs ≡ false
unnamed n before [] h k = refl
unnamed n before (f ∷ fs) h k =
    let parts = both (can_have before f) (list_all (can_have before) fs) k in
    let rest = unnamed n before fs h parts.1 in
    by_bool (same_text n f.parent)
    (λ e. let there : is_some (place_of f.parent before) ≡ false =
    ap (λ (m : Name). is_some (place_of m before)) (sym (same_text-is n f.parent e)) ∙ h in
    let wrong : true ≡ false = sym parts.0 ∙ no_key before f (place_of f.parent before) there in absurd (cc))
    (λ e. ap (λ (b : Bool). b || list_any (λ (g : Reference). same_text n g.parent) fs) e ∙ rest)

unreferenced : (n : Name) (before ds : List TableDef) → have_parents before ds ≡ true
    → is_some (place_of n (before ++ ds)) ≡ false → is_referenced n ds ≡ false
unreferenced n before [] h k = refl
unreferenced n before (d ∷ ds) h k =
    let parts = both (list_all (can_have before) d.references) (have_parents (before ++ d ∷ []) ds) h in
    let own = unnamed n before d.references (not_before n before (d ∷ ds) k) parts.0 in
    let rest = unreferenced n (before ++ d ∷ []) ds parts.1
    (ap (λ (ts : List TableDef). is_some (place_of n ts)) (append_assoc before (d ∷ []) ds) ∙ k) in
    ap (λ (b : Bool). b || is_referenced n ds) own ∙ rest

-- no table refers to a new table
pub none_refer : (defs : List TableDef) (d : TableDef) → have_parents [] defs ≡ true
    → list_all (can_have defs) d.references ≡ true → is_some (place_of d.name defs) ≡ false
    → referring_to d.name (defs ++ d ∷ []) ≡ []
none_refer defs d h k e =
    referring_more d.name defs d
    ∙ (λ i. noted_if (unnamed d.name defs d.references e k i) (length defs) (referring_to d.name defs))
    ∙ ap (λ (ps : List ℕ). ps ++ []) (referring_is d.name defs
    ∙ places_none (refers_to d.name) 0 defs (unreferenced d.name [] defs h e))

-- ---- the lists of all tables

noted_all : (d : TableDef) (p : ℕ) (g : Name → List ℕ) (ts : List Table) (more : List TableDef)
    → noted d p (definitions_of ts ++ more) (map (λ (t : Table). g t.definition.name) ts)
    ≡ map (λ (t : Table). noted_if (refers_to t.definition.name d) p (g t.definition.name)) ts
noted_all d p g [] [] = refl
noted_all d p g [] (x ∷ more) = refl
noted_all d p g (t ∷ ts) more =
    ap (λ (ls : List (List ℕ)). noted_if (refers_to t.definition.name d) p (g t.definition.name) ∷ ls)
    (noted_all d p g ts more)

map_by : {X Y : Type 0} (f g : X → Y) (h : (x : X) → f x ≡ g x) (xs : List X) → map f xs ≡ map g xs
map_by f g h [] = refl
map_by f g h (x ∷ xs) = λ i. h x i ∷ map_by f g h xs i

map_twice : {X Y Z : Type 0} (g : Y → Z) (f : X → Y) (xs : List X) → map g (map f xs) ≡ map (λ x. g (f x)) xs
map_twice g f [] = refl
map_twice g f (x ∷ xs) = ap (λ zs. g (f x) ∷ zs) (map_twice g f xs)

-- the lists after a table was added
pub lists_more : (tables : List Table) (new : Table) (lists : List (List ℕ))
    → lists ≡ map (λ (t : Table). referring_to t.definition.name (definitions_of tables)) tables
    → referring_to new.definition.name (definitions_of tables ++ new.definition ∷ []) ≡ []
    → noted new.definition (length tables) (definitions_of (tables ++ new ∷ [])) lists ++ [] ∷ []
    ≡ map (λ (t : Table). referring_to t.definition.name (definitions_of (tables ++ new ∷ []))) (tables ++ new ∷ [])
lists_more tables new lists are none =
    let d = new.definition in
    let defs = definitions_of tables in
    let all : definitions_of (tables ++ new ∷ []) ≡ defs ++ d ∷ [] =
    map-append (λ (t : Table). t.definition) tables (new ∷ []) in
    let count : length defs ≡ length tables = length-map tables (λ (t : Table). t.definition) in
    let each : (t : Table) → noted_if (refers_to t.definition.name d) (length tables)
    (referring_to t.definition.name defs) ≡ referring_to t.definition.name (defs ++ d ∷ []) =
    λ t. ap (λ p. noted_if (refers_to t.definition.name d) p (referring_to t.definition.name defs)) (sym count)
    ∙ sym (referring_more t.definition.name defs d) in
    (λ i. noted d (length tables) (all i) (are i) ++ [] ∷ [])
    ∙ ap (λ (ls : List (List ℕ)). ls ++ [] ∷ []) (noted_all d (length tables) (λ n. referring_to n defs) tables (d ∷ [])
    ∙ map_by _ _ each tables)
    ∙ ap (λ (l : List ℕ). map (λ (t : Table). referring_to t.definition.name (defs ++ d ∷ [])) tables ++ l ∷ [])
    (sym none)
    ∙ sym (map-append (λ (t : Table). referring_to t.definition.name (defs ++ d ∷ [])) tables (new ∷ []))
    ∙ ap (λ (ds : List TableDef). map (λ (t : Table). referring_to t.definition.name ds) (tables ++ new ∷ []))
    (sym all)

-- the lists after a table was removed
pub lists_less : (tables : List Table) (k : ℕ) (lists : List (List ℕ)) → k < length tables
    → lists ≡ map (λ (t : Table). referring_to t.definition.name (definitions_of tables)) tables
    → map (closed_up k) (remove lists k)
    ≡ map (λ (t : Table). referring_to t.definition.name (definitions_of (remove tables k))) (remove tables k)
lists_less tables k lists l are =
    let defs = definitions_of tables in
    let count : length defs ≡ length tables = length-map tables (λ (t : Table). t.definition) in
    let left : definitions_of (remove tables k) ≡ remove defs k = map-remove (λ (t : Table). t.definition) tables k in
    let each : (t : Table) → closed_up k (referring_to t.definition.name defs)
    ≡ referring_to t.definition.name (definitions_of (remove tables k)) =
    λ t. referring_less t.definition.name defs k (omega (arith, l, count))
    ∙ ap (referring_to t.definition.name) (sym left) in
    ap (λ (ls : List (List ℕ)). map (closed_up k) (remove ls k)) are
    ∙ ap (map (closed_up k)) (sym (map-remove (λ (t : Table). referring_to t.definition.name defs) tables k))
    ∙ map_twice (closed_up k) (λ (t : Table). referring_to t.definition.name defs) (remove tables k)
    ∙ map_by _ _ each (remove tables k)

at_map : (g : Name → List ℕ) (ts : List Table) (k : ℕ) (z : List ℕ) → k < length ts
    → slice_index_or (map (λ (t : Table). g t.definition.name) ts) k z ≡ g (table_at (definitions_of ts) k).name
at_map g [] k z l = absurd (omega arith)
at_map g (t ∷ ts) zero z l = refl
at_map g (t ∷ ts) (suc k) z l = at_map g ts k z (omega arith)

-- the list of the table at a position
pub list_at : (tables : List Table) (k : ℕ) (lists : List (List ℕ)) (z : List ℕ) → k < length tables
    → lists ≡ map (λ (t : Table). referring_to t.definition.name (definitions_of tables)) tables
    → slice_index_or lists k z ≡ referring_to (table_at (definitions_of tables) k).name (definitions_of tables)
list_at tables k lists z l are =
    ap (λ (ls : List (List ℕ)). slice_index_or ls k z) are
    ∙ at_map (λ n. referring_to n (definitions_of tables)) tables k z l

-- there are as many lists as tables
pub lists_count : {A : Type 0} (tables : List Table) (lists : List (Vec ℕ A)) → AreReferring tables lists
    → length lists ≡ length tables
lists_count tables lists are =
    sym (length-map lists (λ v. v.items))
    ∙ ap length are
    ∙ length-map tables (λ (t : Table). referring_to t.definition.name (definitions_of tables))

pub not_not : (b : Bool) → not (not b) ≡ b
not_not true = refl
not_not false = refl

-- ---- a table is dropped by its name

-- the table at the position of a name has this name
pub named_at : (n : Name) (defs : List TableDef) (p : ℕ) → Some p ≡ place_of n defs → n ≡ (table_at defs p).name
named_at n [] p e = absurd (cc)
named_at n (d ∷ defs) p e = by_bool (same_text n d.name)
    (λ same. let here : Some p ≡ Some 0 = e
    ∙ ap (λ (b : Bool). if b then Some 0 else next_place (place_of n defs)) same in
    let first : p ≡ 0 = cc in rw first (same_text-is n d.name same))
    (λ other. later (place_of n defs) (named_at n defs) (e
    ∙ ap (λ (b : Bool). if b then Some 0 else next_place (place_of n defs)) other))
  where
    later : (o : Option ℕ) → ((k : ℕ) → Some k ≡ o → n ≡ (table_at defs k).name) → Some p ≡ next_place o
        → n ≡ (table_at (d ∷ defs) p).name
    later None h f = absurd (cc)
    later (Some k) h f = let next : p ≡ suc k = cc in rw next (h k refl)

-- if a table has the name, only a reference can be a fault
pub fault_there : (defs : List TableDef) (n : Name) (p : ℕ) → Some p ≡ place_of n defs
    → first (drop_faults defs n) ≡ first (reference_faults defs (table_at defs p).name)
fault_there defs n p e =
    ap (λ (o : Option ℕ). first (fault_if (is_none o) TableUnknownOrAlreadyThere ++ reference_faults defs n)) (sym e)
    ∙ ap (λ (m : Name). first (reference_faults defs m)) (named_at n defs p e)

pub fault_of_reference : (defs : List TableDef) (n : Name) (b : Bool) → b ≡ is_referenced n defs
    → first (reference_faults defs n) ≡ (if b then Some TableIsReferenced else None)
fault_of_reference defs n b e = ap (λ (c : Bool). first (fault_if c TableIsReferenced)) (sym e) ∙ told b
  where
    told : (c : Bool) → first (fault_if c TableIsReferenced) ≡ (if c then Some TableIsReferenced else None)
    told true = refl
    told false = refl

-- ---- a table is created

last_at : (tables : List Table) (table : Table)
    → table_at (definitions_of (tables ++ table ∷ [])) (length tables) ≡ table.definition
last_at [] table = refl
last_at (t ∷ tables) table = last_at tables table

-- the lists after a table's position was added to them and its own list was appended
pub lists_after : {A : Type 0} (tables : List Table) (table : Table) (after : List Table) (place : ℕ)
    (before noting pushed : List (Vec ℕ A)) (v : Vec ℕ A)
    → after ≡ tables ++ table ∷ [] → place ≡ length tables → AreReferring tables before
    → lists_of noting ≡ noted (table_at (definitions_of after) place) place (definitions_of after) (lists_of before)
    → pushed ≡ noting ++ v ∷ [] → v.items ≡ []
    → referring_to table.definition.name (definitions_of tables ++ table.definition ∷ []) ≡ []
    → AreReferring after pushed
lists_after tables table after place before noting pushed v all at are told push empty none =
    let same : noted (table_at (definitions_of after) place) place (definitions_of after) (lists_of before)
    ≡ noted table.definition (length tables) (definitions_of (tables ++ table ∷ [])) (lists_of before) =
    (λ i. noted (table_at (definitions_of (all i)) (at i)) (at i) (definitions_of (all i)) (lists_of before))
    ∙ ap (λ (d : TableDef). noted d (length tables) (definitions_of (tables ++ table ∷ [])) (lists_of before))
    (last_at tables table) in
    subst (λ (ts : List Table). AreReferring ts pushed) (sym all)
    (ap lists_of push ∙ map-append (λ w. w.items) noting (v ∷ [])
    ∙ (λ i. (told ∙ same) i ++ empty i ∷ []) ∙ lists_more tables table (lists_of before) are none)

-- the lists after a table was dropped
pub lists_before : {A : Type 0} (tables left : List Table) (k : ℕ) (lists removed closed : List (Vec ℕ A))
    → k < length tables → left ≡ remove tables k → AreReferring tables lists → removed ≡ remove lists k
    → lists_of closed ≡ map (closed_up k) (lists_of removed) → AreReferring left closed
lists_before tables left k lists removed closed l gone are out closing =
    subst (λ (ts : List Table). AreReferring ts closed) (sym gone)
    (closing ∙ ap (λ ls. map (closed_up k) (lists_of ls)) out
    ∙ ap (map (closed_up k)) (map-remove (λ v. v.items) lists k)
    ∙ lists_less tables k (lists_of lists) l are)
