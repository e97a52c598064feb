-- A change that removes the current versions whose rows pass a test, with the ids that a reading returns.
use Rattle.std.proofs.Common.{◌≡◌, ◌≤◌, ℕ, zero, suc, ◌+◌, Bool, true, false, cond, List, [], ◌∷◌, map, filter, refl}
use Rattle.std.proofs.Common.{sym, ap, subst, ◌∙◌, arith}
use Rattle.std.specs.Prelude.{◌&&◌, ◌||◌, ltb, count_by, nat_eq, slice_index_or, All, IsTrue, Option, Some, None}
use Rattle.std.specs.Prelude.{if◌then◌else◌}
use Rattle.std.proofs.lemmas.Bool.Decides.{nat_tests}
use Rattle.std.proofs.lemmas.List.Sums.{sum_by-cons}
use Rattle.std.proofs.lemmas.List.Elements.{All-filter}
use Rattle.tql_spec.proofs.Members.{by_bool}
use Rattle.tql_spec.proofs.Bags.{sum-map}
use Rattle.tql_spec.specs.Definition as definition
use Rattle.tql_spec.specs.Definition.{Stamped}
use Rattle.tql_versions.specs.Changes.{alive, is_current}
use Rattle.tql_store.specs.StoreModel.{StoreModel, named, is_open, is_removable, is_among, AreRemovable}
use Rattle.tql_store.specs.Represents.{Judged}
use Rattle.tql_versions.specs.Readings.{version_shown as version_of}
use Rattle.tql_store.specs.Views.{Names, NamesOnce}
use Rattle.tql_versions.specs.declared.version.Version.{Version}

-- the ids of the versions whose rows pass a test
abbrev pub ids_of : (Stamped → Bool) → List Version → List ℕ
ids_of gone found = map (λ (v : Version). v.id) (filter (λ (v : Version). gone (version_of v).row) found)

turned : (i j : ℕ) (b : Bool) → nat_eq i j ≡ b → nat_eq j i ≡ b
turned i j true e = grind (arith, nat_tests)
turned i j false e = grind (arith, nat_tests)

one_number : (i j : ℕ) → nat_eq i j ≡ true → i ≡ j
one_number i j e = grind (arith, nat_tests)

positive : (n : ℕ) → ltb 0 (1 + n) ≡ true
positive n = grind (arith, nat_tests)

one_version : (a b : definition.Version) → Some a ≡ Some b → a ≡ b
one_version a b e = cc

counting : (i : ℕ) (v : Version) (vs : List Version)
    → count_by (λ (x : Version). nat_eq x.id i) (v ∷ vs) ≡ cond {A = ℕ} (nat_eq v.id i) 1 0 + count_by
    (λ (x : Version). nat_eq x.id i) vs
counting i v vs = sum_by-cons (λ (x : Version). cond (nat_eq x.id i) 1 0) v vs

-- an id is listed if a version found has it and its row passes
listed-ids : (t : ℕ) (gone : Stamped → Bool) (h : StoreModel) (i : ℕ) (s : definition.Version) → named h t i ≡ Some s
    → (found : List Version) → All (Names h t) found
    → is_among i (ids_of gone found) ≡ (ltb 0 (count_by (λ (x : Version). nat_eq x.id i) found) && gone s.row)
listed-ids t gone h i s at [] names = refl
listed-ids t gone h i s at (v ∷ vs) names =
    let later : is_among i (ids_of gone vs) ≡ (ltb 0 (count_by (λ (x : Version). nat_eq x.id i) vs) && gone s.row) =
    listed-ids t gone h i s at vs (λ k d h. names (suc k) d (omega arith)) in
    by_bool (nat_eq v.id i) (here later) (past later)
  where
    row_is : nat_eq v.id i ≡ true → gone (version_of v).row ≡ gone s.row
    row_is e = ap (λ (x : definition.Version). gone x.row) (one_version (version_of v) s (sym (names 0 v (omega arith))
        ∙ ap (named h t) (one_number v.id i e) ∙ at))

    here : is_among i (ids_of gone vs) ≡ (ltb 0 (count_by (λ (x : Version). nat_eq x.id i) vs) && gone s.row)
        → nat_eq v.id i ≡ true
        → is_among i (ids_of gone (v ∷ vs)) ≡ (ltb 0 (count_by (λ (x : Version). nat_eq x.id i) (v ∷ vs)) && gone s.row)
    here later e = by_bool (gone (version_of v).row)
        (λ g. ap (λ (b : Bool). is_among i
        (map (λ (x : Version). x.id)
        (cond b (v ∷ filter (λ (x : Version). gone (version_of x).row) vs)
        (filter (λ (x : Version). gone (version_of x).row) vs)))) g
        ∙ ap (λ (b : Bool). b || is_among i (ids_of gone vs)) (turned v.id i true e)
        ∙ sym (named ∙ ap (λ (b : Bool). true && b) (sym (row_is e) ∙ g)))
        (λ g. ap (λ (b : Bool). is_among i
        (map (λ (x : Version). x.id)
        (cond b (v ∷ filter (λ (x : Version). gone (version_of x).row) vs)
        (filter (λ (x : Version). gone (version_of x).row) vs)))) g
        ∙ later ∙ ap (λ (b : Bool). ltb 0 (count_by (λ (x : Version). nat_eq x.id i) vs) && b) (sym (row_is e) ∙ g)
        ∙ never (ltb 0 (count_by (λ (x : Version). nat_eq x.id i) vs))
        ∙ sym (named ∙ ap (λ (b : Bool). true && b) (sym (row_is e) ∙ g)))
      where
        never : (b : Bool) → (b && false) ≡ false
        never true = refl
        never false = refl

        named : (ltb 0 (count_by (λ (x : Version). nat_eq x.id i) (v ∷ vs)) && gone s.row) ≡ (true && gone s.row)
        named = ap (λ (n : ℕ). ltb 0 n && gone s.row) (counting i v vs
            ∙ ap (λ (b : Bool). cond {A = ℕ} b 1 0 + count_by (λ (x : Version). nat_eq x.id i) vs) e)
            ∙ ap (λ (b : Bool). b && gone s.row) (positive (count_by (λ (x : Version). nat_eq x.id i) vs))

    past : is_among i (ids_of gone vs) ≡ (ltb 0 (count_by (λ (x : Version). nat_eq x.id i) vs) && gone s.row)
        → nat_eq v.id i ≡ false
        → is_among i (ids_of gone (v ∷ vs)) ≡ (ltb 0 (count_by (λ (x : Version). nat_eq x.id i) (v ∷ vs)) && gone s.row)
    past later e = skip (gone (version_of v).row) ∙ later
        ∙ ap (λ (n : ℕ). ltb 0 n && gone s.row) (sym (counting i v vs ∙ none))
      where
        skip : (b : Bool) → is_among i
            (map (λ (x : Version). x.id)
            (cond b (v ∷ filter (λ (x : Version). gone (version_of x).row) vs)
            (filter (λ (x : Version). gone (version_of x).row) vs))) ≡ is_among i (ids_of gone vs)
        skip true = ap (λ (b : Bool). b || is_among i (ids_of gone vs)) (turned v.id i false e)
        skip false = refl

        none : cond {A = ℕ} (nat_eq v.id i) 1 0 + count_by (λ (x : Version). nat_eq x.id i) vs ≡ count_by
            (λ (x : Version). nat_eq x.id i) vs
        none = let zero_of : cond {A = ℕ} (nat_eq v.id i) 1 0 ≡ 0 =
            ap (λ (b : Bool). cond {A = ℕ} b 1 0) e in omega arith

-- the ids of the versions to remove, among those found by a reading, satisfy `Judged`, if the reading finds the current
-- versions to remove and no closed ones
pub judged_among : (h : StoreModel) (t : ℕ) (gone : Stamped → Bool) (test : definition.Version → Bool)
    (found : List Version) → All (Names h t) found → NamesOnce h t test found
    → ((i : ℕ) (v : definition.Version) → named h t i ≡ Some v
    → (alive v && (test v && gone v.row)) ≡ (alive v && (is_current v && gone v.row)))
    → Judged h t gone (ids_of gone found)
judged_among h t gone test found names once agrees = λ i s at.
    listed-ids t gone h i s at found names ∙ ap (λ (n : ℕ). ltb 0 n && gone s.row) (once i s at)
    ∙ regroup (alive s) (test s) (gone s.row) ∙ agrees i s at
  where
    regroup : (b c g : Bool) → (ltb 0 (if b && c then 1 else 0) && g) ≡ (b && (c && g))
    regroup true true g = refl
    regroup true false g = refl
    regroup false c g = refl

-- ---- they may be removed

-- only current versions pass a test
abbrev pub IsOfCurrent : (definition.Version → Bool) → Type 0
IsOfCurrent test = (v : definition.Version) → test v ≡ true → is_current v ≡ true

-- each version found is current
current-found : (h : StoreModel) (t : ℕ) (test : definition.Version → Bool) → IsOfCurrent test
    → (all found : List Version) → NamesOnce h t test all
    → All (Names h t) found
    → ((i : ℕ) → count_by (λ (v : Version). nat_eq v.id i) found ≤ count_by (λ (v : Version). nat_eq v.id i) all)
    → All (λ id. IsTrue (is_removable h t id)) (map (λ (v : Version). v.id) found)
current-found h t test only all [] once names fewer = λ k d l. absurd (omega arith)
current-found h t test only all (v ∷ vs) once names fewer =
    first (current-found h t test only all vs once (λ k d l. names (suc k) d (omega arith))
    (λ i. let f = fewer i in omega (arith, counting i v vs)))
  where
    here : nat_eq v.id v.id ≡ true
    here = grind (arith, nat_tests)

    some : 1 ≤ count_by (λ (x : Version). nat_eq x.id v.id) all
    some = let one : cond {A = ℕ} (nat_eq v.id v.id) 1 0 ≡ 1 = ap (λ (b : Bool). cond {A = ℕ} b 1 0) here in let f =
        fewer v.id in omega (arith, counting v.id v vs)

    told : (b : Bool) → 1 ≤ (if b then 1 else 0) → b ≡ true
    told true h = refl
    told false h = absurd (omega arith)

    current : (a b c : Bool) → (a && b) ≡ true → (b ≡ true → c ≡ true) → (a && c) ≡ true
    current true b c e f = f e
    current false b c e f = absurd (cc)

    is_one : is_removable h t v.id ≡ true
    is_one = let e : named h t v.id ≡ Some (version_of v) = names 0 v (omega arith) in
        ap is_open e ∙ current (alive (version_of v)) (test (version_of v)) (is_current (version_of v))
        (told (alive (version_of v) && test (version_of v))
        (subst (λ (n : ℕ). 1 ≤ n) (once v.id (version_of v) e) some)) (only (version_of v))

    first : All (λ id. IsTrue (is_removable h t id)) (map (λ (x : Version). x.id) vs)
        → All (λ id. IsTrue (is_removable h t id)) (map (λ (x : Version). x.id) (v ∷ vs))
    first rest zero d l = is_one
    first rest (suc k) d l = rest k d (omega arith)

-- an id occurs no more often after filtering
fewer-left : (p : Version → Bool) (i : ℕ) (vs : List Version)
    → count_by (λ (v : Version). nat_eq v.id i) (filter p vs) ≤ count_by (λ (v : Version). nat_eq v.id i) vs
fewer-left p i [] = omega arith
fewer-left p i (v ∷ vs) = chosen (p v) (fewer-left p i vs)
  where
    chosen : (b : Bool) → count_by (λ (x : Version). nat_eq x.id i) (filter p vs) ≤ count_by
        (λ (x : Version). nat_eq x.id i) vs
        → count_by (λ (x : Version). nat_eq x.id i) (cond b (v ∷ filter p vs) (filter p vs)) ≤ count_by
        (λ (x : Version). nat_eq x.id i) (v ∷ vs)
    chosen true h = omega (arith, counting i v vs, counting i v (filter p vs))
    chosen false h = omega (arith, counting i v vs)

names-left : (h : StoreModel) (t : ℕ) (p : Version → Bool) (found : List Version) → All (Names h t) found
    → All (Names h t) (filter p found)
names-left h t p found names = All-filter p (Names h t) found names

-- an id occurs at most once among the versions found
once-ids : (h : StoreModel) (t : ℕ) (test : definition.Version → Bool) (found : List Version) → All (Names h t) found
    → NamesOnce h t test found
    → (i : ℕ) → count_by (λ (v : Version). nat_eq v.id i) found ≤ 1
once-ids h t test found names once i = named_or (named h t i) refl
  where
    at_most : (b : Bool) → (if b then 1 else 0) ≤ 1
    at_most true = omega arith
    at_most false = omega arith

    nobody : (vs : List Version) → All (Names h t) vs → named h t i ≡ None
        → count_by (λ (v : Version). nat_eq v.id i) vs ≡ 0
    nobody [] names e = refl
    nobody (v ∷ vs) names e =
        let rest = nobody vs (λ k d l. names (suc k) d (omega arith)) e in
        by_bool (nat_eq v.id i)
        (λ same. absurd (let k = sym (names 0 v (omega arith)) ∙ ap (named h t) (one_number v.id i same) ∙ e in cc))
        (λ other. let none : cond {A = ℕ} (nat_eq v.id i) 1 0 ≡ 0 = ap (λ (b : Bool). cond {A = ℕ} b 1 0) other in
        omega (arith, counting i v vs))

    named_or : (o : Option definition.Version) → named h t i ≡ o → count_by (λ (v : Version). nat_eq v.id i) found ≤ 1
    named_or None e = let k = nobody found names e in omega arith
    named_or (Some v) e = subst (λ (n : ℕ). n ≤ 1) (sym (once i v e)) (at_most (alive v && test v))

-- the ids of some of the versions that a reading of current versions finds
pub removable_among : (h : StoreModel) (t : ℕ) (test : definition.Version → Bool) → IsOfCurrent test
    → (p : Version → Bool) (found : List Version) → All (Names h t) found
    → NamesOnce h t test found → AreRemovable h t (map (λ (v : Version). v.id) (filter p found))
removable_among h t test only p found names once = record {
  current = current-found h t test only found (filter p found) once (names-left h t p found names)
      (λ i. fewer-left p i found);
  once = λ i. let a = fewer-left p i found in let b = once-ids h t test found names once i in let e =
      sum-map (λ (v : Version). v.id) (λ j. cond {A = ℕ} (nat_eq j i) 1 0) (filter p found) in omega arith;
}

-- the ids of all current versions
pub all_removable : (h : StoreModel) (t : ℕ) (found : List Version) → All (Names h t) found
    → NamesOnce h t is_current found → AreRemovable h t (map (λ (v : Version). v.id) found)
all_removable h t found names once = record {
  current = current-found h t is_current (λ v e. e) found found once names (λ i. omega arith);
  once = λ i. let b = once-ids h t is_current found names once i in let e =
      sum-map (λ (v : Version). v.id) (λ j. cond {A = ℕ} (nat_eq j i) 1 0) found in omega arith;
}

-- no ids at all
pub none-removable : (h : StoreModel) (t : ℕ) (removed : List ℕ) → removed ≡ [] → AreRemovable h t removed
none-removable h t removed e = subst (AreRemovable h t) (sym e) (record {
  current = λ k d l. absurd (omega arith);
  once = λ i. omega arith;
})

-- ids remain removable if they name the same versions
pub still-removable : (old new : StoreModel) (t : ℕ) (removed : List ℕ) → ((id : ℕ) → named new t id ≡ named old t id)
    → AreRemovable old t removed → AreRemovable new t removed
still-removable old new t removed same r = record {
  current = λ k d l. ap is_open (same (slice_index_or removed k d))
      ∙ r.current k d l;
  once = r.once;
}

pub still-judged : (old new : StoreModel) (t : ℕ) (gone : Stamped → Bool) (removed : List ℕ)
    → ((id : ℕ) → named new t id ≡ named old t id) → Judged old t gone removed → Judged new t gone removed
still-judged old new t gone removed same j = λ id v e. j id v (sym (same id) ∙ e)
