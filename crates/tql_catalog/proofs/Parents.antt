-- References to earlier tables, when a table is added or removed.
use Rattle.std.proofs.Common.{◌≡◌, refl, ap, sym, ◌∙◌, ℕ, zero, suc, Bool, true, false, List, [], ◌∷◌, ◌++◌, length}
use Rattle.std.proofs.Common.{append_assoc, append-nil, ◌<◌, arith, Option, Some, None}
use Rattle.std.specs.Prelude.{◌||◌, ◌&&◌, remove, if◌then◌else◌}
use Rattle.std.specs.List.{list_all, list_any}
use Rattle.tql_spec.specs.Words.{same_text}
use Rattle.tql_spec.specs.Definition.{Name, TableDef, Reference, place_of, next_place, table_at}
use Rattle.tql_spec.specs.Binding.{is_referenced}
use Rattle.tql_spec.proofs.Constraints.{same_text-self, same_text-is}
use Rattle.tql_catalog.specs.Tables.{has_key_at, can_have, have_parents}

either : (b : Bool) → {X : Type 0} → (b ≡ true → X) → (b ≡ false → X) → X
either true f g = f refl
either false f g = g refl

both : (a b : Bool) → a && b ≡ true → (a ≡ true) × (b ≡ true)
both true true h = (refl, refl)
both true false h = absurd (cc)
both false b h = absurd (cc)

neither : (a b : Bool) → a || b ≡ false → (a ≡ false) × (b ≡ false)
neither true b h = absurd (cc)
neither false b h = (refl, h)

-- ---- a table is added

pub parents_more : (before ds : List TableDef) (d : TableDef) → have_parents before ds ≡ true
    → list_all (can_have (before ++ ds)) d.references ≡ true → have_parents before (ds ++ d ∷ []) ≡ true
parents_more before [] d h k =
    ap (λ (ts : List TableDef). list_all (can_have ts) d.references && true) (sym (append-nil before))
    ∙ ap (λ (b : Bool). b && true) k
parents_more before (x ∷ ds) d h k =
    let parts = both (list_all (can_have before) x.references) (have_parents (before ++ x ∷ []) ds) h in
    (λ i. parts.0 i && parents_more (before ++ x ∷ []) ds d parts.1
    (ap (λ (ts : List TableDef). list_all (can_have ts) d.references) (append_assoc before (x ∷ []) ds) ∙ k) i)

-- ---- a table is removed

-- the names differ in either order
other_way : (n m : Name) → same_text n m ≡ false → same_text m n ≡ false
other_way n m h =
    either (same_text m n)
    (λ e. let one : true ≡ false = sym (same_text-self n) ∙ ap (same_text n) (sym (same_text-is m n e)) ∙ h in
    absurd (cc))
    (λ e. e)

next_is : (x : TableDef) (defs : List TableDef) (f : Reference) (o : Option ℕ)
    → has_key_at (x ∷ defs) f (next_place o) ≡ has_key_at defs f o
next_is x defs f None = refl
next_is x defs f (Some p) = refl

-- a table of another name does not matter to a reference
passed : (xs ys : List TableDef) (x : TableDef) (f : Reference) → same_text f.parent x.name ≡ false
    → can_have (xs ++ x ∷ ys) f ≡ can_have (xs ++ ys) f
passed [] ys x f h =
    ap (λ (b : Bool). has_key_at (x ∷ ys) f (if b then Some 0 else next_place (place_of f.parent ys))) h
    ∙ next_is x ys f (place_of f.parent ys)
passed (z ∷ xs) ys x f h =
    either (same_text f.parent z.name)
    (λ e. ap (λ (b : Bool). has_key_at (z ∷ xs ++ x ∷ ys) f
    (if b then Some 0 else next_place (place_of f.parent (xs ++ x ∷ ys)))) e
    ∙ sym (ap (λ (b : Bool). has_key_at (z ∷ xs ++ ys) f
    (if b then Some 0 else next_place (place_of f.parent (xs ++ ys)))) e))
    (λ e. ap (λ (b : Bool). has_key_at (z ∷ xs ++ x ∷ ys) f
    (if b then Some 0 else next_place (place_of f.parent (xs ++ x ∷ ys)))) e
    ∙ next_is z (xs ++ x ∷ ys) f (place_of f.parent (xs ++ x ∷ ys)) ∙ passed xs ys x f h
    ∙ sym (next_is z (xs ++ ys) f (place_of f.parent (xs ++ ys)))
    ∙ sym (ap (λ (b : Bool). has_key_at (z ∷ xs ++ ys) f
    (if b then Some 0 else next_place (place_of f.parent (xs ++ ys)))) e))

all_passed : (xs ys : List TableDef) (x : TableDef) (fs : List Reference)
    → list_any (λ (f : Reference). same_text x.name f.parent) fs ≡ false
    → list_all (can_have (xs ++ x ∷ ys)) fs ≡ list_all (can_have (xs ++ ys)) fs
all_passed xs ys x [] h = refl
all_passed xs ys x (f ∷ fs) h =
    let parts = neither (same_text x.name f.parent) (list_any (λ (g : Reference). same_text x.name g.parent) fs) h in
    (λ i. passed xs ys x f (other_way x.name f.parent parts.0) i && all_passed xs ys x fs parts.1 i)

-- a table that no reference names does not matter to these tables
none_named : (xs ys : List TableDef) (x : TableDef) (ds : List TableDef) → is_referenced x.name ds ≡ false
    → have_parents (xs ++ x ∷ ys) ds ≡ have_parents (xs ++ ys) ds
none_named xs ys x [] h = refl
none_named xs ys x (d ∷ ds) h =
    let parts = neither (list_any (λ (f : Reference). same_text x.name f.parent) d.references)
    (is_referenced x.name ds) h in
    let more : have_parents ((xs ++ x ∷ ys) ++ d ∷ []) ds ≡ have_parents ((xs ++ ys) ++ d ∷ []) ds =
    ap (λ (ts : List TableDef). have_parents ts ds) (append_assoc xs (x ∷ ys) (d ∷ []))
    ∙ none_named xs (ys ++ d ∷ []) x ds parts.1
    ∙ sym (ap (λ (ts : List TableDef). have_parents ts ds) (append_assoc xs ys (d ∷ []))) in
    (λ i. all_passed xs ys x d.references parts.0 i && more i)

pub parents_less : (before ds : List TableDef) (t : ℕ) → t < length ds
    → is_referenced (table_at ds t).name ds ≡ false → have_parents before ds ≡ true
    → have_parents before (remove ds t) ≡ true
parents_less before [] t l r h = absurd (omega arith)
parents_less before (x ∷ ds) zero l r h =
    let parts = both (list_all (can_have before) x.references) (have_parents (before ++ x ∷ []) ds) h in
    let free = neither (list_any (λ (f : Reference). same_text x.name f.parent) x.references)
    (is_referenced x.name ds) r in
    ap (λ (ts : List TableDef). have_parents ts ds) (sym (append-nil before)) ∙ sym (none_named before [] x ds free.1)
    ∙ parts.1
parents_less before (x ∷ ds) (suc t) l r h =
    let parts = both (list_all (can_have before) x.references) (have_parents (before ++ x ∷ []) ds) h in
    let n = (table_at ds t).name in
    let free = neither (list_any (λ (f : Reference). same_text n f.parent) x.references) (is_referenced n ds) r in
    (λ i. parts.0 i && parents_less (before ++ x ∷ []) ds t (omega arith) free.1 parts.1 i)
