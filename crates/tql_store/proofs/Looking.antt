-- How the versions found in a store give those found at a pin.
use Rattle.std.proofs.Common.{◌≡◌, ℕ, ◌≤◌, ◌<◌, zero, suc, Bool, true, false, cond, List, [], ◌∷◌, map, filter, length}
use Rattle.std.proofs.Common.{refl, sym, ap, subst, ◌∙◌, arith, inl, inr, get_or}
use Rattle.std.specs.Prelude.{◌&&◌, ◌||◌, ℤ, ◌≤ℤ◌, count_by, int_lt, nat_eq, slice_get, slice_index_or, All}
use Rattle.std.specs.Prelude.{option_map, if◌then◌else◌, Option, Some, None}
use Rattle.std.proofs.lemmas.List.Elements.{All-map}
use Rattle.std.proofs.lemmas.Option.{slice_get-map}
use Rattle.tql_spec.proofs.Bags.{same-map, same-trans, sum-map}
use Rattle.tql_spec.proofs.Members.{by_bool, le_tells, sum-least}
use Rattle.tql_spec.specs.Bag.{SameBag, In}
use Rattle.tql_spec.specs.Calendar.{high}
use Rattle.tql_spec.specs.Datum.{Row}
use Rattle.tql_spec.specs.Definition.{Version}
use Rattle.tql_versions.specs.Changes.{alive, nothing}
use Rattle.tql_versions.specs.Readings.{asked, is_answer, told_by, version_shown}
use Rattle.tql_versions.specs.declared.version.Version as answer
use Rattle.tql_value.specs.When.{is_now, when_of}
use Rattle.tql_value.specs.declared.when.When.{When}
use Rattle.tql_store.proofs.Ends.{AreBounded}
use Rattle.tql_store.proofs.Numbers.{self_number}
use Rattle.tql_store.proofs.Pinning.{live-pinned, none-live, shown_kept, slot_shown, versions_shown}
use Rattle.tql_pinned.proofs.Questions.{nothing_found}
use Rattle.tql_store.proofs.Searching.{answers-by, filter_both}
use Rattle.tql_store.proofs.StoreLaws.{same-list}
use Rattle.tql_pinned.specs.Asked.{answer_capped, capped, end_told, shown_at, AsksAt}
use Rattle.tql_store.specs.Pinned.{pinned, slot_pinned}
use Rattle.tql_store.specs.StoreModel.{StoreModel, has_table, is_versioned, live, named}
use Rattle.tql_store.specs.TableSlots.{slot_at, is_kept, is_taken}
use Rattle.tql_store.specs.Views.{IsFound, Names, NamesOnce}
use Rattle.tql_store.specs.declared.tables.TableSlot.{TableSlot}
use Rattle.tql_store.specs.declared.tables.TableSlot.TheVariants.{Free, Versioned, Unversioned}

-- ---- a version

-- a query and a test of rows
abbrev both : When → (Row → Bool) → Version → Bool
both when test v = asked when v && test v.row.cells

-- a version is found at a pin if the store query finds it, and then it had begun
record IsShown (p : ℤ) (when other : When) (test : Row → Bool) (v : Version) : Type 0 where
  pub passes : told_by (both when test) (shown_at (Some p) v) ≡ told_by (both other test) v
  pub is : told_by (both other test) v ≡ true → shown_at (Some p) v ≡ capped p v

regroup : (a b c : Bool) → (a && (b && c)) ≡ ((a && b) && c)
regroup true b c = refl
regroup false b c = refl

is-shown : (p : ℤ) (when other : When) (test : Row → Bool) (v : Version) → AsksAt p when other → v.end ≤ℤ high
    → IsShown p when other test v
is-shown p when other test v asks top = elim (le_tells v.row.start p) [
  | inl s ↦ let e : shown_at (Some p) v ≡ capped p v = ap (λ (b : Bool). if b then capped p v else nothing) s.0 in
      record {
        passes = ap (told_by (both when test)) e
            ∙ regroup (alive (capped p v)) (asked when (capped p v)) (test v.row.cells)
            ∙ ap (λ (b : Bool). b && test v.row.cells) (ap (is_answer when) (sym e) ∙ asks.tells v top)
            ∙ sym (regroup (alive v) (asked other v) (test v.row.cells));
        is = λ t. e;
      }
  | inr s ↦ let e : shown_at (Some p) v ≡ nothing = ap (λ (b : Bool). if b then capped p v else nothing) s.0 in
      let none : is_answer other v ≡ false = sym (asks.tells v top) ∙ ap (is_answer when) e ∙ nothing_found when in
      let gone : told_by (both other test) v ≡ false =
      regroup (alive v) (asked other v) (test v.row.cells) ∙ ap (λ (b : Bool). b && test v.row.cells) none in
      record {
        passes = ap (told_by (both when test)) e ∙ sym gone;
        is = λ t. absurd (cc);
      }
]

-- the versions found
shown-found : (p : ℤ) (when other : When) (test : Row → Bool) (versions : List Version) → AsksAt p when other
    → AreBounded versions
    → filter (told_by (both when test)) (map (shown_at (Some p)) versions)
    ≡ map (capped p) (filter (told_by (both other test)) versions)
shown-found p when other test [] asks bounded = refl
shown-found p when other test (v ∷ versions) asks bounded =
    either (is-shown p when other test v asks (bounded v (inl refl)))
    (shown-found p when other test versions asks (λ w m. bounded w (inr m)))
  where
    either : IsShown p when other test v
        → filter (told_by (both when test)) (map (shown_at (Some p)) versions)
        ≡ map (capped p) (filter (told_by (both other test)) versions)
        → filter (told_by (both when test)) (map (shown_at (Some p)) (v ∷ versions))
        ≡ map (capped p) (filter (told_by (both other test)) (v ∷ versions))
    either s rest = by_bool (told_by (both other test) v)
        (λ t. let x = s.passes ∙ t in rw (x, t, s.is t) (ap (λ vs. capped p v ∷ vs) rest))
        (λ t. let x = s.passes ∙ t in rw (x, t) rest)

-- ---- the parts of a result

end_capped : (later : Bool) (p end : ℤ)
    → (if later || int_lt p end then high else end) ≡ end_told p (if later then high else end)
end_capped false p end = refl
end_capped true p end = same (int_lt p high)
  where
    same : (b : Bool) → high ≡ (if b then high else high)
    same true = refl
    same false = refl

shown-is_capped : (p : ℤ) (s : answer.Version) → version_shown (answer_capped p s) ≡ capped p (version_shown s)
shown-is_capped p s = ap (λ (end : ℤ). record { row = (version_shown s).row; end = end })
    (end_capped s.ends_later p s.kept.now.end)

shown-capped : (p : ℤ) (found : List answer.Version)
    → map version_shown (map (answer_capped p) found) ≡ map (capped p) (map version_shown found)
shown-capped p [] = refl
shown-capped p (s ∷ found) =
    ap (λ (v : Version). v ∷ map version_shown (map (answer_capped p) found)) (shown-is_capped p s)
    ∙ ap (λ vs. capped p (version_shown s) ∷ vs) (shown-capped p found)

-- each id occurs equally often
count-capped : (p : ℤ) (id : ℕ) (found : List answer.Version)
    → count_by (λ (s : answer.Version). nat_eq s.id id) (map (answer_capped p) found)
    ≡ count_by (λ (s : answer.Version). nat_eq s.id id) found
count-capped p id found =
    sum-map (answer_capped p) (λ (s : answer.Version). cond {A = ℕ} (nat_eq s.id id) 1 0) found

in_list : {X : Type 0} (xs : List X) (k : ℕ) (d : X) → k < length xs → In (get_or xs k d) xs
in_list [] k d l = absurd (omega arith)
in_list (x ∷ xs) zero d l = inl refl
in_list (x ∷ xs) (suc k) d l = inr (in_list xs k d (omega arith))

in_place : {X : Type 0} (xs : List X) (k : ℕ) (x : X) → slice_get xs k ≡ Some x → In x xs
in_place [] k x e = absurd (cc)
in_place (y ∷ ys) zero x e = inl (is_that e)
  where
    is_that : Some y ≡ Some x → x ≡ y
    is_that e = cc
in_place (y ∷ ys) (suc k) x e = inr (in_place ys k x e)

-- each version found is selected
is-asked : (h : StoreModel) (t : ℕ) (test : Version → Bool) (found : List answer.Version) (s : answer.Version)
    → NamesOnce h t test found → In s found → Names h t s → told_by test (version_shown s) ≡ true
is-asked h t test found s once m name =
    told (alive (version_shown s) && test (version_shown s))
    (subst (λ (n : ℕ). 1 ≤ n) (once s.id (version_shown s) name) some)
  where
    told : (b : Bool) → 1 ≤ (if b then 1 else 0) → b ≡ true
    told true l = refl
    told false l = absurd (omega arith)

    here : cond {A = ℕ} (nat_eq s.id s.id) 1 0 ≡ 1
    here = ap (λ (b : Bool). cond {A = ℕ} b 1 0) (self_number s.id)

    some : 1 ≤ count_by (λ (x : answer.Version). nat_eq x.id s.id) found
    some = let l = sum-least (λ (x : answer.Version). cond {A = ℕ} (nat_eq x.id s.id) 1 0) s found m in
        omega (arith, here, l)

-- the version with an id at a pin
named-pinned : (pin : Option ℤ) (h : StoreModel) (t id : ℕ) → is_kept (slot_at h.tables t) ≡ true
    → named (pinned pin h) t id ≡ option_map (shown_at pin) (named h t id)
named-pinned pin h t id kept =
    ap (λ (vs : List Version). slice_get vs id) (versions_shown pin h.tables h.versions t)
    ∙ ap (λ (b : Bool). slice_get (if b then map (shown_at pin) (slice_index_or h.versions t []) else []) id) kept
    ∙ slice_get-map (shown_at pin) (slice_index_or h.versions t []) id

-- a table that is shown keeps its history
pub kept-at : (pin : Option ℤ) (h : StoreModel) (t : ℕ) → has_table (pinned pin h) t ≡ true
    → is_kept (slot_at h.tables t) ≡ true
kept-at pin h t there = only (slot_at h.tables t) (sym (ap is_taken (slot_shown h.tables t)) ∙ there)
  where
    only : (s : TableSlot) → is_taken (slot_pinned s) ≡ true → is_kept s ≡ true
    only Free e = absurd (cc)
    only Versioned e = refl
    only Unversioned e = absurd (cc)

-- so history may be queried at a pin
is_past : (pin : Option ℤ) (h : StoreModel) (t : ℕ) (when : When) → is_kept (slot_at h.tables t) ≡ true
    → (is_now (when_of when) || is_versioned (pinned pin h) t) ≡ true
is_past pin h t when kept = either (is_now (when_of when))
    (ap is_kept (slot_shown h.tables t) ∙ shown_kept (slot_at h.tables t) ∙ kept)
  where
    either : (b : Bool) {c : Bool} → c ≡ true → (b || c) ≡ true
    either true e = refl
    either false e = e

-- ---- the whole result

found-bag : (p : ℤ) (h : StoreModel) (t : ℕ) (when other : When) (test : Row → Bool) (found : List answer.Version)
    → AsksAt p when other → is_kept (slot_at h.tables t) ≡ true → AreBounded (slice_index_or h.versions t [])
    → IsFound h t other test found
    → SameBag (map version_shown (map (answer_capped p) found)) (filter (both when test) (live (pinned (Some p) h) t))
found-bag p h t when other test found asks kept bounded is =
    same-trans (same-list (shown-capped p found))
    (same-trans (same-map (capped p) is.versions)
    (same-list (sym (
    ap (filter (both when test)) (live-pinned (Some p) h t)
    ∙ ap (λ (b : Bool). filter (both when test) (filter alive (if b then map (shown_at (Some p)) all else []))) kept
    ∙ sym (filter_both alive (both when test) (map (shown_at (Some p)) all))
    ∙ shown-found p when other test all asks bounded
    ∙ ap (map (capped p)) (filter_both alive (both other test) all)
    ))))
  where
    all : List Version
    all = slice_index_or h.versions t []

found-ids : (p : ℤ) (h : StoreModel) (t : ℕ) (when other : When) (test : Row → Bool) (found : List answer.Version)
    → AsksAt p when other → is_kept (slot_at h.tables t) ≡ true → AreBounded (slice_index_or h.versions t [])
    → IsFound h t other test found → All (Names (pinned (Some p) h) t) (map (answer_capped p) found)
found-ids p h t when other test found asks kept bounded is =
    All-map (Names (pinned (Some p) h) t) (answer_capped p) found
    (λ k d l. one (get_or found k d) (in_list found k d l) (is.ids k d l))
  where
    one : (s : answer.Version) → In s found → Names h t s → Names (pinned (Some p) h) t (answer_capped p s)
    one s m name =
        let shown = is-shown p when other test (version_shown s) asks
        (bounded (version_shown s) (in_place (slice_index_or h.versions t []) s.id (version_shown s) name)) in
        named-pinned (Some p) h t s.id kept ∙ ap (option_map (shown_at (Some p))) name
        ∙ ap {B = Option Version} Some
        (shown.is (is-asked h t (both other test) found s is.once m name) ∙ sym (shown-is_capped p s))

found-once : (p : ℤ) (h : StoreModel) (t : ℕ) (when other : When) (test : Row → Bool) (found : List answer.Version)
    → AsksAt p when other → is_kept (slot_at h.tables t) ≡ true → AreBounded (slice_index_or h.versions t [])
    → IsFound h t other test found
    → NamesOnce (pinned (Some p) h) t (both when test) (map (answer_capped p) found)
found-once p h t when other test found asks kept bounded is id w name =
    count-capped p id found ∙ by_name (named h t id) refl
    (sym (named-pinned (Some p) h t id kept) ∙ name)
  where
    same : (v : Version) → Some (shown_at (Some p) v) ≡ Some w → shown_at (Some p) v ≡ w
    same v e = cc

    by_name : (o : Option Version) → named h t id ≡ o → option_map (shown_at (Some p)) o ≡ Some w
        → count_by (λ (s : answer.Version). nat_eq s.id id) found ≡ (if alive w && both when test w then 1 else 0)
    by_name None e f = absurd (cc)
    by_name (Some v) e f =
        let shown = is-shown p when other test v asks (bounded v (in_place (slice_index_or h.versions t []) id v e)) in
        is.once id v e
        ∙ ap (λ (b : Bool). if b then 1 else 0) (sym shown.passes ∙ ap (told_by (both when test)) (same v f))

-- the result of the store query, with ends as known at a pin, is the result of the query at the pin
pub found-at : (p : ℤ) (h : StoreModel) (t : ℕ) (when other : When) (test : Row → Bool) (found : List answer.Version)
    → AsksAt p when other → has_table (pinned (Some p) h) t ≡ true → AreBounded (slice_index_or h.versions t [])
    → IsFound h t other test found → IsFound (pinned (Some p) h) t when test (map (answer_capped p) found)
found-at p h t when other test found asks there bounded is =
    let kept = kept-at (Some p) h t there in
    let bag = found-bag p h t when other test found asks kept bounded is in
    record {
      versions = bag;
      ids = found-ids p h t when other test found asks kept bounded is;
      once = found-once p h t when other test found asks kept bounded is;
      copies = answers-by (pinned (Some p) h) t when test _ (is_past (Some p) h t when kept) bag;
    }

-- before any commit nothing is found
pub none-found : (h : StoreModel) (t : ℕ) (when : When) (test : Row → Bool) → has_table (pinned None h) t ≡ true
    → IsFound (pinned None h) t when test []
none-found h t when test there =
    let kept = kept-at None h t there in
    record {
      versions = bag kept;
      ids = λ k d l. absurd (omega arith);
      once = λ id w name. by_name w (named h t id) (sym (named-pinned None h t id kept) ∙ name);
      copies = answers-by (pinned None h) t when test [] (is_past None h t when kept) (bag kept);
    }
  where
    bag : is_kept (slot_at h.tables t) ≡ true → SameBag [] (filter (both when test) (live (pinned None h) t))
    bag kept = same-list (sym (
        ap (filter (both when test)) (live-pinned None h t
        ∙ ap (λ (b : Bool). filter alive (if b then map (shown_at None) (slice_index_or h.versions t []) else [])) kept
        ∙ none-live (slice_index_or h.versions t []))
        ))

    same : (w : Version) → Some nothing ≡ Some w → nothing ≡ w
    same w e = cc

    by_name : (w : Version) (o : Option Version) → option_map (shown_at None) o ≡ Some w
        → ◌≡◌ {A = ℕ} 0 (if alive w && both when test w then 1 else 0)
    by_name w None f = absurd (cc)
    by_name w (Some v) f =
        subst (λ (x : Version). ◌≡◌ {A = ℕ} 0 (if alive x && both when test x then 1 else 0)) (same w f) refl
