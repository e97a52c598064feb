-- The position of a table, and what stays true when tables are added or removed.
use Rattle.std.proofs.Common.{◌≡◌, ◌≢◌, refl, ap, sym, ◌∙◌, ℕ, zero, suc, Bool, true, false, List, [], ◌∷◌, ◌++◌}
use Rattle.std.proofs.Common.{Some, None, ◌+◌, ◌<◌, length, map, arith, length-append}
use Rattle.std.specs.Prelude.{◌||◌, String, string_bytes, string_eq, position, if◌then◌else◌, is_some, nat_le, remove}
use Rattle.std.specs.Prelude.{slice_get, All, Option, option_map}
use Rattle.std.specs.List.{position_from, list_any, list_all}
use Rattle.std.specs.Map.{keys_of, values_of}
use Rattle.std.specs.Str.{bytes_eq}
use Rattle.std.proofs.lemmas.Bool.Decides.{nat_tests}
use Rattle.std.proofs.lemmas.Iterator.Adapters.{position_from-zero}
use Rattle.std.proofs.lemmas.List.{length-map, map-append}
use Rattle.std.proofs.lemmas.List.Edits.{length-remove}
use Rattle.std.proofs.lemmas.List.Elements.{All-nil, All-cons}
use Rattle.std.proofs.lemmas.List.Quantifiers.{all_pairs_push, all_pairs_remove}
use Rattle.std.proofs.lemmas.Map.Text.{is_eq-slice_cmp}
use Rattle.std.proofs.lemmas.Option.{slice_get-map}
use Rattle.indexmap.specs.IndexMap.{IndexMap, values, get, insert_entry}
use Rattle.indexmap.proofs.CallerLemmas.{insert_entry-new}
use Rattle.indexmap.proofs.MapLemmas.{some_index}
use Rattle.indexmap.proofs.SetLemmas.{map-remove}
use Rattle.tql_spec.specs.Words.{same_text}
use Rattle.tql_spec.specs.Refusal.{TooManyTablesOrReaders, TableUnknownOrAlreadyThere, first, fault_if}
use Rattle.tql_spec.specs.Definition.{Name, TableDef, Reference, place_of, next_place, table_at}
use Rattle.tql_spec.specs.Binding.{is_referenced}
use Rattle.tql_spec.proofs.Constraints.{same_text-self}
use Rattle.tql_value.specs.Refusals.{refusal_of}
use Rattle.tql_value.specs.declared.refusal.Refusal.{Refusal}
use Rattle.tql_catalog.specs.Tables.{definitions_of, IsFree, IsCatalog, IsByName, creation_faults, can_have}
use Rattle.tql_catalog.specs.Tables.{have_parents}
use Rattle.tql_catalog.specs.declared.catalog.Table.{Table}
use Rattle.tql_catalog.proofs.Parents.{parents_more, parents_less}

-- whether the table has this name
abbrev is_called : Name → Table → Bool
is_called n t = same_text n t.definition.name

next_of : {X : Type 0} (t : X → Bool) (i : ℕ) (xs : List X)
    → position_from t (i + 1) xs ≡ next_place (position_from t i xs)
next_of t i [] = refl
next_of t i (x ∷ xs) =
    elim (t x) as (λ b. (if b then Some (i + 1) else position_from t (i + 1 + 1) xs) ≡ next_place
    (if b then Some i else position_from t (i + 1) xs)) [
      | true ↦ ap Some (omega arith)
      | false ↦ next_of t (i + 1) xs
    ]

place_from : (n : Name) (tables : List Table)
    → position_from (is_called n) 0 tables ≡ place_of n (definitions_of tables)
place_from n [] = refl
place_from n (t ∷ ts) = ap (λ o. if same_text n t.definition.name then Some 0 else o) (next_of (is_called n) 0 ts
    ∙ ap next_place (place_from n ts))

placed : {X Y : Type 0} (t : X → Bool) (f : Y → X) (i : ℕ) (ys : List Y)
    → position_from (λ y. t (f y)) i ys ≡ position_from t i (map f ys)
placed t f i [] = refl
placed t f i (y ∷ ys) = ap (λ o. if t (f y) then Some i else o) (placed t f (i + 1) ys)

-- the position of a name among the names of tables is that of the definition
pub place_by_name : {Z : Type 0} (n : Name) (es : List (String Z × Table)) → IsByName es
    → position (λ k. bytes_eq n (string_bytes k)) (keys_of es) ≡ place_of n (definitions_of (values_of es))
place_by_name n es by_name =
    position_from-zero (λ k. bytes_eq n (string_bytes k)) (keys_of es)
    ∙ sym (placed (λ k. bytes_eq n (string_bytes k)) (λ e. e.0) 0 es)
    ∙ placed (bytes_eq n) (λ e. string_bytes e.0) 0 es
    ∙ ap (position_from (bytes_eq n) 0) by_name
    ∙ sym (placed (bytes_eq n) (λ e. e.1.definition.name) 0 es)
    ∙ (λ j. position_from (λ e. sym (is_eq-slice_cmp n e.1.definition.name) j) 0 es)
    ∙ placed (is_called n) (λ e. e.1) 0 es
    ∙ place_from n (values_of es)

-- the table at a position
pub value_at : {Z : Type 0} (es : List (String Z × Table)) (i : ℕ) (k : String Z) (t : Table)
    → Some (k, t) ≡ slice_get es i → slice_get (values_of es) i ≡ Some t
value_at es i k t h = slice_get-map (λ e. e.1) es i ∙ ap (option_map (λ e. e.1)) (sym h)

-- the definition at a position is that of its table
pub definition_at : (tables : List Table) (i : ℕ) (t : Table) → slice_get tables i ≡ Some t
    → table_at (definitions_of tables) i ≡ t.definition
definition_at [] i t e = cc
definition_at (x ∷ tables) zero t e = ap (λ (y : Table). y.definition) (the_same x t e)
  where
    the_same : (x y : Table) → Some x ≡ Some y → x ≡ y
    the_same x y e = cc
definition_at (x ∷ tables) (suc i) t e = definition_at tables i t e

-- ---- references

-- whether the table has a reference to the table of this name
abbrev pub refers : Name → Table → Bool
refers n t = list_any (λ (f : Reference). same_text n f.parent) t.definition.references

pub any_refers : (n : Name) (tables : List Table) → list_any (refers n) tables ≡ is_referenced n (definitions_of tables)
any_refers n [] = refl
any_refers n (t ∷ ts) = ap (λ (b : Bool). refers n t || b) (any_refers n ts)

-- ---- a new table

no_fault : (a b : Bool) → first (fault_if a TableUnknownOrAlreadyThere ++ fault_if b TooManyTablesOrReaders) ≡ None
    → (a ≡ false) × (b ≡ false)
no_fault true true h = absurd (cc)
no_fault true false h = absurd (cc)
no_fault false true h = absurd (cc)
no_fault false false h = (refl, refl)

-- without a fault, no table has the name
pub not_placed : (defs : List TableDef) (n : Name) → first (creation_faults defs n) ≡ None
    → is_some (place_of n defs) ≡ false
not_placed defs n f = (no_fault (is_some (place_of n defs)) (nat_le 1000 (length defs)) f).0

not_there : (b : Bool) (o : Option ℕ) → is_some (if b then Some 0 else next_place o) ≡ false
    → (b ≡ false) × (is_some o ≡ false)
not_there true o h = absurd (cc)
not_there false None h = (refl, refl)
not_there false (Some i) h = absurd (cc)

-- if no position is found, no table has the name
none_called : (n : Name) (tables : List Table) → is_some (place_of n (definitions_of tables)) ≡ false
    → All (λ (t : Table). t.definition.name ≢ n) tables
none_called n [] h = All-nil _
none_called n (t ∷ ts) h =
    let both = not_there (same_text n t.definition.name) (place_of n (definitions_of ts)) h in
    All-cons (λ (u : Table). u.definition.name ≢ n) t ts
    (λ e. let wrong : true ≡ false = sym (same_text-self n) ∙ sym (ap (same_text n) e) ∙ both.0 in cc)
    (none_called n ts both.1)

fewer : (n : ℕ) → nat_le 1000 n ≡ false → n < 1000
fewer n e = grind (arith, nat_tests)

-- if no fault is reported for a name, there is none
pub no_fault_told : (defs : List TableDef) (n m : Name) (o : Option Refusal) → m ≡ n → o ≡ None
    → option_map refusal_of o ≡ first (creation_faults defs m)
    → first (creation_faults defs n) ≡ None
no_fault_told defs n m o e f told = ap (λ (k : Name). first (creation_faults defs k)) (sym e) ∙ sym told
    ∙ ap (option_map refusal_of) f

-- a table without a fault is added, under a free number
pub one_more : (tables : List Table) (d : TableDef) (id : ℕ) → IsCatalog tables
    → first (creation_faults (definitions_of tables) d.name) ≡ None → IsFree id tables
    → list_all (can_have (definitions_of tables)) d.references ≡ true
    → IsCatalog (tables ++ record { definition = d; id = id } ∷ [])
one_more tables d id c f free met =
    let table : Table = record { definition = d; id = id } in
    let none = no_fault (is_some (place_of d.name (definitions_of tables)))
    (nat_le 1000 (length (definitions_of tables))) f in
    let few : length tables < 1000 =
    fewer (length tables) (ap (nat_le 1000) (sym (length-map tables (λ (t : Table). t.definition))) ∙ none.1) in
    record {
      names = all_pairs_push (λ (t u : Table). t.definition.name ≢ u.definition.name) tables table c.names
          (none_called d.name tables none.0);
      ids = all_pairs_push (λ (t u : Table). t.id ≢ u.id) tables table c.ids free;
      count = omega (arith, few, length-append tables (table ∷ []));
      parents = ap (have_parents []) (map-append (λ (t : Table). t.definition) tables (table ∷ []))
          ∙ parents_more [] (definitions_of tables) d c.parents met;
    }

nothing_there : {X : Type 0} (o : Option X) → is_some o ≡ false → o ≡ None
nothing_there None h = refl
nothing_there (Some x) h = absurd (cc)

-- no table has the name of a table without a fault, so it is added after the others
pub put_last : {Z S : Type 0} (m : IndexMap (String Z) Table S) (k : String Z) (t : Table)
    → string_bytes k ≡ t.definition.name → IsByName m.entries
    → first (creation_faults (definitions_of (values m)) t.definition.name) ≡ None
    → insert_entry string_eq m.entries k t ≡ m.entries ++ (k, t) ∷ []
put_last m k t named by_name f =
    let none = no_fault (is_some (place_of t.definition.name (definitions_of (values m))))
    (nat_le 1000 (length (definitions_of (values m)))) f in
    insert_entry-new string_eq m k t
    (nothing_there (get string_eq m k)
    (sym (some_index (string_eq k) m.entries) ∙ ap is_some (place_by_name (string_bytes k) m.entries by_name)
    ∙ ap (λ (n : Name). is_some (place_of n (definitions_of (values m)))) named ∙ none.0))

-- one more table after the others
pub tables_more : {Z : Type 0} (es : List (String Z × Table)) (k : String Z) (t : Table)
    → values_of (es ++ (k, t) ∷ []) ≡ values_of es ++ t ∷ []
tables_more es k t = map-append (λ e. e.1) es ((k, t) ∷ [])

pub by_name_more : {Z : Type 0} (es : List (String Z × Table)) (k : String Z) (t : Table)
    → string_bytes k ≡ t.definition.name → IsByName es → IsByName (es ++ (k, t) ∷ [])
by_name_more es k t named by_name =
    map-append (λ e. string_bytes e.0) es ((k, t) ∷ []) ∙ (λ j. by_name j ++ named j ∷ [])
    ∙ sym (map-append (λ e. e.1.definition.name) es ((k, t) ∷ []))

-- ---- a table is removed

pub one_less : (tables : List Table) (i : ℕ) → i < length tables
    → is_referenced (table_at (definitions_of tables) i).name (definitions_of tables) ≡ false → IsCatalog tables
    → IsCatalog (remove tables i)
one_less tables i l free c = record {
  names = all_pairs_remove (λ (t u : Table). t.definition.name ≢ u.definition.name) tables i l c.names;
  ids = all_pairs_remove (λ (t u : Table). t.id ≢ u.id) tables i l c.ids;
  count = omega (arith, c.count, length-remove tables i l);
  parents = ap (have_parents []) (map-remove (λ (t : Table). t.definition) tables i)
      ∙ parents_less [] (definitions_of tables) i
      (omega (arith, l, length-map tables (λ (t : Table). t.definition))) free c.parents;
}

-- without the table at a position
pub tables_less : {Z : Type 0} (es : List (String Z × Table)) (i : ℕ)
    → values_of (remove es i) ≡ remove (values_of es) i
tables_less es i = map-remove (λ e. e.1) es i

pub by_name_less : {Z : Type 0} (es : List (String Z × Table)) (i : ℕ) → IsByName es → IsByName (remove es i)
by_name_less es i by_name =
    map-remove (λ e. string_bytes e.0) es i ∙ ap (λ (ns : List Name). remove ns i) by_name
    ∙ sym (map-remove (λ e. e.1.definition.name) es i)
