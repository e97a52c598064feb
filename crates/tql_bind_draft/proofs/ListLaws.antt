-- Names that are looked up, and primary keys.
use Rattle.std.specs.Prelude.{◌≡◌, refl, ℕ, suc, Bool, true, false, not, ◌&&◌, ◌||◌, List, [], ◌∷◌, ◌++◌, length}
use Rattle.std.specs.Prelude.{Option, Some, None, is_some, if◌then◌else◌, filter, map}
use Rattle.std.specs.List.{flat_map, list_any}
use Rattle.std.proofs.Common.{ap, ◌∙◌, sym}
use Rattle.tql_spec.specs.Definition.{Name}
use Rattle.tql_spec.specs.Refusal.{NameUnknownAmbiguousOrRepeated, fault_if}
use Rattle.tql_spec.specs.Names.{check_each}
use Rattle.tql_spec.specs.Creation.{PeriodPart, or_first, number_in, column_number, has_name, part_names}
use Rattle.tql_bind_draft.specs.Drafts.{KeyPart, key_part, primary_in, has_primary, implied_in, primary_count_in}
use Rattle.tql_bind_draft.specs.declared.draft.NewKey.{NewKey}
use Rattle.tql_bind_draft.proofs.ColumnLaws.{known_is}

-- ---- names

sought : (o : Option ℕ) → (or_first o).faults ++ [] ≡ fault_if (not (is_some o)) NameUnknownAmbiguousOrRepeated
sought None = refl
sought (Some i) = refl

-- the fault of looking up one name: it is not among the names
pub one_sought : (n : Name) (ms : List Name)
    → (check_each (column_number ms) (n ∷ [])).faults
    ≡ fault_if (not (has_name n ms)) NameUnknownAmbiguousOrRepeated
one_sought n ms =
    sought (number_in n ms) ∙ ap (λ (b : Bool). fault_if (not b) NameUnknownAmbiguousOrRepeated) (known_is n ms)

or_assoc : (a b c : Bool) → (a || b) || c ≡ a || (b || c)
or_assoc true b c = refl
or_assoc false b c = refl

-- a test on two lists in sequence
pub any_append : {A : Type 0} (p : A → Bool) (xs ys : List A) → list_any p (xs ++ ys) ≡ list_any p xs || list_any p ys
any_append p [] ys = refl
any_append p (x ∷ xs) ys =
    ap (λ (b : Bool). p x || b) (any_append p xs ys) ∙ sym (or_assoc (p x) (list_any p xs) (list_any p ys))

first_primary : (n : Name) (b : Bool) (columns rest : List Name) (r : Bool) → r ≡ has_name n rest
    → (b && has_name n columns) || r ≡ has_name n ((if b then columns else []) ++ rest)
first_primary n true columns rest r h =
    ap (λ (b : Bool). has_name n columns || b) h ∙ sym (any_append _ columns rest)
first_primary n false columns rest r h = h

any_primary : (n : Name) (ks : List KeyPart) → list_any (has_primary n) ks ≡ has_name n (primary_in ks)
any_primary n [] = refl
any_primary n (k ∷ ks) = first_primary n k.primary k.list.columns (primary_in ks) (list_any (has_primary n) ks)
    (any_primary n ks)

-- the columns that take no null are those of the periods and of the primary keys
pub implied_by : (n : Name) (ps : List PeriodPart) (ks : List KeyPart)
    → has_name n (flat_map part_names ps) || list_any (has_primary n) ks ≡ has_name n (implied_in ps ks)
implied_by n ps ks =
    ap (λ (b : Bool). has_name n (flat_map part_names ps) || b) (any_primary n ks)
    ∙ sym (any_append _ (flat_map part_names ps) (primary_in ks))

-- ---- primary keys

-- a primary key
abbrev pub is_primary : NewKey → Bool
is_primary k = k.is_primary

pub primaries_counted : (ks : List NewKey) → length (filter is_primary ks) ≡ primary_count_in (map key_part ks)
primaries_counted [] = refl
primaries_counted (k ∷ ks) =
    elim k.is_primary as
    (λ b. length (if b then k ∷ filter is_primary ks else filter is_primary ks) ≡ length
    (if b then key_part k ∷ filter (λ (q : KeyPart). q.primary) (map key_part ks)
    else filter (λ (q : KeyPart). q.primary) (map key_part ks))) [
      | true ↦ ap suc (primaries_counted ks)
      | false ↦ primaries_counted ks
    ]
