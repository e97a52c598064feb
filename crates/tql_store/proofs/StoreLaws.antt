-- A store represents the copies through beginnings, changes, commits and rollbacks, and its readings agree with them.
use Rattle.std.proofs.Common.{◌≡◌, ℕ, Bool, true, false, filter, List, [], ◌∷◌, arith, inl, inr, refl, sym, ap, subst}
use Rattle.std.proofs.Common.{◌∙◌}
use Rattle.std.specs.Prelude.{ℤ, pos, ◌+ℤ◌, ◌<ℤ◌, ◌≤ℤ◌, ◌&&◌, ◌||◌, cond, int_lt, int_le, nat_eq, slice_index_or}
use Rattle.std.specs.Prelude.{if◌then◌else◌}
use Rattle.std.specs.Prelude.{Option, Some, None}
use Rattle.std.proofs.lemmas.Bool.Decides.{nat_tests}
use Rattle.std.proofs.lemmas.Int.{ints}
use Rattle.tql_spec.proofs.Bags.{same-refl, same-sym, same-trans}
use Rattle.tql_spec.proofs.Members.{by_bool, le_tells, lt_tells}
use Rattle.tql_spec.specs.Bag.{SameBag}
use Rattle.tql_spec.specs.Calendar.{high}
use Rattle.tql_spec.specs.Datum.{Datum}
use Rattle.tql_spec.specs.Definition.{Stamped, Version}
use Rattle.tql_spec.specs.History.{TableEntry, meets}
use Rattle.tql_spec.specs.History as history
use Rattle.tql_store.proofs.Apply.{lt_true, lt_false}
use Rattle.tql_store.proofs.Begin.{new-stands, as_of-stands, from_to-stands, current-stands}
use Rattle.tql_store.proofs.Laws.{commit-law, brief-commit-law, rollback-law, begin-law, apply-law, same-stands}
use Rattle.tql_store.proofs.Laws.{same-undone}
use Rattle.tql_store.proofs.Kept.{brief-keeps-law, keeps-law, kept-more, kept_under, newest-forgotten, within_kept}
use Rattle.tql_versions.specs.Readings.{asked}
use Rattle.tql_versions.specs.Changes.{alive, left_by, undone, pruned, replaced, Under, holds, is_current}
use Rattle.tql_store.specs.Changes.{InTransaction, last_rows, rows_after}
use Rattle.tql_store.specs.StoreModel.{StoreModel, is_versioned, live}
use Rattle.tql_store.specs.TableSlots.{slot_at, is_kept, is_brief}
use Rattle.tql_store.specs.Represents.{Copies, Working, horizon_of, StandsWith, Represents, CommitAppends}
use Rattle.tql_store.specs.Represents.{RollbackRestores, BeginCopies, ChangeReplaces, ReplacesVersions, with_rows}
use Rattle.tql_store.specs.Represents.{appended, seen_by, Answers, PrunesCopies}
use Rattle.tql_store.specs.Kept.{forgotten, kept_of}
use Rattle.tql_store.specs.Stands.{Within, StandsFor}
use Rattle.tql_store.specs.declared.tables.TableSlot.{TableSlot}
use Rattle.tql_store.specs.declared.tables.TableSlot.TheVariants.{Free, Versioned, Unversioned}
use Rattle.tql_value.specs.When.{is_now, when_of}
use Rattle.tql_value.specs.declared.when.When.{When}
use Rattle.tql_value.specs.declared.when.When.TheVariants.{Now, AsOf, FromTo, Between}

pub same-list : {X : Type 0} {xs ys : List X} → xs ≡ ys → SameBag xs ys
same-list {X} {xs} {ys} e = subst (SameBag xs) e (same-refl xs)

-- ---- horizons

-- the horizon of a table with history, or of a free number
pub kept_horizon : (places : List TableSlot) (last : Option ℤ) (k : ℤ) (entries : List TableEntry) (t : ℕ)
    → is_brief (slot_at places t) ≡ false → horizon_of places last k entries t ≡ kept_of k entries
kept_horizon places last k entries t e = ap (λ (b : Bool). if b then last else kept_of k entries) e

-- the horizon of a table that keeps only its last copy
pub last_horizon : (places : List TableSlot) (last : Option ℤ) (k : ℤ) (entries : List TableEntry) (t : ℕ)
    → is_brief (slot_at places t) ≡ true → horizon_of places last k entries t ≡ last
last_horizon places last k entries t e = ap (λ (b : Bool). if b then last else kept_of k entries) e

kept_not_brief : (p : TableSlot) → is_kept p ≡ true → is_brief p ≡ false
kept_not_brief Free e = refl
kept_not_brief Versioned e = refl
kept_not_brief Unversioned e = cc

not_before : (m k : ℤ) → int_lt m k ≡ false → k ≤ℤ m
not_before m k e = elim (lt_tells m k) [ inl s ↦ absurd (let f = s.0 in cc) | inr s ↦ s.1 ]

-- a moment that is not before the horizon is within what a versioned table keeps
pub versioned-within : (h : StoreModel) (entries : List TableEntry) (t : ℕ) (m : ℤ) → is_versioned h t ≡ true
    → int_lt m h.horizon ≡ false → Within (horizon_of h.tables h.last h.horizon entries t) m
versioned-within h entries t m e ask =
    subst (λ (g : Option ℤ). Within g m)
    (sym (kept_horizon h.tables h.last h.horizon entries t (kept_not_brief (slot_at h.tables t) e)))
    (within_kept h.horizon m entries (not_before m h.horizon ask))

-- ---- transactions

-- each table of a store in a transaction
in_turn : (old : StoreModel) (copies : Copies) (working : Working) (m : ℤ) → old.working ≡ Some m
    → Represents old copies working → (t : ℕ)
    → InTransaction (horizon_of old.tables old.last old.horizon (copies t) t) (live old t)
    (record { moment = m; rows = working t }) (copies t)
in_turn old copies working m e r t =
    subst (λ (o : Option ℤ). StandsWith (horizon_of old.tables old.last old.horizon (copies t) t) o (live old t)
    (copies t) (working t)) e (r.stands t)

-- each table of a store without a transaction
pub at_rest : (old : StoreModel) (copies : Copies) (working : Working) → old.working ≡ None
    → Represents old copies working
    → (t : ℕ) → StandsFor (horizon_of old.tables old.last old.horizon (copies t) t) (live old t) (copies t)
at_rest old copies working e r t =
    subst (λ (o : Option ℤ). StandsWith (horizon_of old.tables old.last old.horizon (copies t) t) o (live old t)
    (copies t) (working t)) e (r.stands t)

-- a store represents copies, from its parts
pub of_parts : (versions : List Version) (entries : List TableEntry) (rows : List Stamped) {places : List TableSlot}
    {last o : Option ℤ} {k : ℤ} (h : StoreModel) → h.tables ≡ places → h.last ≡ last → h.horizon ≡ k
    → h.working ≡ o → (t : ℕ) → StandsWith (horizon_of places last k entries t) o versions entries rows
    → StandsWith (horizon_of h.tables h.last h.horizon entries t) h.working versions entries rows
of_parts versions entries rows {places} {last} {o} {k} h tables dates reach opened t s =
    subst (λ (ps : List TableSlot). StandsWith (horizon_of ps h.last h.horizon entries t) h.working versions entries
    rows) (sym tables)
    (subst (λ (l : Option ℤ). StandsWith (horizon_of places l h.horizon entries t) h.working versions entries rows)
    (sym dates)
    (subst (λ (x : ℤ). StandsWith (horizon_of places last x entries t) h.working versions entries rows) (sym reach)
    (subst (λ (w : Option ℤ). StandsWith (horizon_of places last k entries t) w versions entries rows) (sym opened) s)))

pub commit-appends : (old new : StoreModel) → new.tables ≡ old.tables → new.working ≡ None → new.last ≡ old.working
    → new.horizon ≡ old.horizon
    → ((t : ℕ) (m : ℤ) → old.working ≡ Some m
    → SameBag (live new t) (if is_brief (slot_at old.tables t) then pruned m (live old t) else live old t))
    → CommitAppends old new
commit-appends old new tables closed last reach versions = λ copies working m is r. record {
  dated = λ t. sym (last ∙ is);
  stands = λ t. of_parts _ _ _ new tables (last ∙ is) reach closed t
      (by_bool (is_brief (slot_at old.tables t))
      (λ brief. subst (λ (g : Option ℤ). StandsFor g (live new t) (record {
        moment = m;
        rows = working t;
      } ∷ copies t)) (sym (last_horizon old.tables (Some m) old.horizon (appended m working copies t) t brief))
      (brief-commit-law _ (live old t) _ (record {
        moment = m;
        rows = working t;
      }) (copies t) (in_turn old copies working m is r t) (chosen t m is true brief)))
      (λ kept. subst (λ (g : Option ℤ). StandsFor g (live new t) (record {
        moment = m;
        rows = working t;
      } ∷ copies t)) (sym (kept_horizon old.tables (Some m) old.horizon (appended m working copies t) t kept))
      (kept-more old.horizon (live new t) (record {
        moment = m;
        rows = working t;
      }) (copies t)
      (subst (λ (g : Option ℤ). StandsFor g (live new t) (record {
        moment = m;
        rows = working t;
      } ∷ copies t)) (kept_horizon old.tables old.last old.horizon (copies t) t kept)
      (commit-law _ (live old t) _ (record {
        moment = m;
        rows = working t;
      }) (copies t) (in_turn old copies working m is r t) (chosen t m is false kept))))));
}
  where
    chosen : (t : ℕ) (m : ℤ) → old.working ≡ Some m → (b : Bool) → is_brief (slot_at old.tables t) ≡ b
        → SameBag (live new t) (if b then pruned m (live old t) else live old t)
    chosen t m is b e = subst (λ (c : Bool). SameBag (live new t) (if c then pruned m (live old t) else live old t))
        e (versions t m is)

pub rollback-restores : (old new : StoreModel) → new.tables ≡ old.tables → new.working ≡ None → new.last ≡ old.last
    → new.horizon ≡ old.horizon
    → ((t : ℕ) (m : ℤ) → old.working ≡ Some m → SameBag (live new t) (undone m (live old t))) → RollbackRestores old new
rollback-restores old new tables closed last reach versions = λ copies working m is r. record {
  dated = λ t. r.dated t ∙ sym last;
  stands = λ t. of_parts _ _ _ new tables last reach closed t
      (rollback-law _ (live old t) (live new t) _ _ (in_turn old copies working m is r t) (versions t m is));
}

-- the horizon is before a moment later than the last commit
horizon_under : (places : List TableSlot) (last : Option ℤ) (k : ℤ) (entries : List TableEntry) (t : ℕ) (m : ℤ)
    → Under last m → Under (kept_of k entries) m → Under (horizon_of places last k entries t) m
horizon_under places last k entries t m later early = by_bool (is_brief (slot_at places t))
    (λ brief. subst (λ (g : Option ℤ). Under g m) (sym (last_horizon places last k entries t brief)) later)
    (λ kept. subst (λ (g : Option ℤ). Under g m) (sym (kept_horizon places last k entries t kept)) early)

pub begin-copies : (m : ℤ) (old new : StoreModel) → old.working ≡ None → Under old.last m → m <ℤ high
    → new.tables ≡ old.tables → new.working ≡ Some m → new.last ≡ old.last → new.horizon ≡ old.horizon
    → ((t : ℕ) → live new t ≡ live old t) → BeginCopies old new
begin-copies m old new is later below tables opened last reach versions = λ copies working r. record {
  dated = λ t. r.dated t ∙ sym last;
  stands = λ t. of_parts _ _ _ new tables last reach opened t
      (subst (λ (vs : List Version). InTransaction (horizon_of old.tables old.last old.horizon (copies t) t) vs
      (record { moment = m; rows = last_rows (copies t) }) (copies t)) (sym (versions t))
      (begin-law _ (live old t) (copies t) m (at_rest old copies working is r t)
      (horizon_under old.tables old.last old.horizon (copies t) t m later
      (kept_under _ old.horizon m (live old t) (copies t) (at_rest old copies working is r t)
      (subst (λ (o : Option ℤ). Under o m) (sym (r.dated t)) later)))
      (subst (λ (o : Option ℤ). Under o m) (sym (r.dated t)) later) below));
}

-- ---- readings

-- the versions represent the copies that queries see
stands_seen : (horizon o : Option ℤ) (versions : List Version) (copies : Copies) (working : Working) (t : ℕ)
    → StandsWith horizon o versions (copies t) (working t) → StandsFor horizon versions (seen_by o copies working t)
stands_seen horizon None versions copies working t s = s
stands_seen horizon (Some m) versions copies working t s = s.now

stands_now : (h : StoreModel) (copies : Copies) (working : Working) (t : ℕ) → Represents h copies working
    → StandsFor (horizon_of h.tables h.last h.horizon (copies t) t) (live h t) (seen_by h.working copies working t)
stands_now h copies working t r = stands_seen _ h.working (live h t) copies working t (r.stands t)

answers-as_of : (h : StoreModel) (t : ℕ) (m : ℤ) (found : List Version) → is_versioned h t ≡ true
    → SameBag found (filter (holds m) (live h t)) → Answers h t (history.AsOf m) found
answers-as_of h t m found kept e =
    λ ask copies working r. same-trans e
    (same-sym (as_of-stands _ _ _ m (stands_now h copies working t r) (versioned-within h (copies t) t m kept ask)))

answers-from_to : (h : StoreModel) (t : ℕ) (a b : ℤ) (found : List Version) → is_versioned h t ≡ true
    → SameBag found (filter (λ v. meets a b v.row.start v.end) (live h t))
    → Answers h t (history.FromTo a b) found
answers-from_to h t a b found kept e =
    λ ask copies working r. same-trans e
    (same-sym (from_to-stands _ _ _ a b (stands_now h copies working t r)
    (versioned-within h (copies t) t a kept ask)))

answers-now : (h : StoreModel) (t : ℕ) (found : List Version) → SameBag found (filter is_current (live h t))
    → Answers h t history.Now found
answers-now h t found e =
    λ ask copies working r. same-trans e (same-sym (current-stands _ _ _ (stands_now h copies working t r)))

-- ---- changes

pub change-replaces : (t : ℕ) (removed : List ℕ) (added : List (List Datum)) (old new : StoreModel)
    → ReplacesVersions t removed added old new → ChangeReplaces t removed added old new
change-replaces t removed added old new e = λ copies working m gone is j r. record {
  dated = λ u. r.dated u ∙ sym e.last;
  stands = λ u. let turn = in_turn old copies working m is r in
      of_parts _ _ _ new e.tables e.last e.horizon (e.working ∙ is) u
      (by_bool (nat_eq u t)
      (λ same. at_table copies working m gone (e.versions m gone is j) turn u (decided u t same))
      (λ other. subst (λ (b : Bool). InTransaction (horizon_of old.tables old.last old.horizon (copies u) u)
      (live new u) (record { moment = m; rows = if b then rows_after m gone added (working t) else working u })
      (copies u))
      (sym other)
      (same-turn (e.others u other) (turn u))));
}
  where
    decided : (u t : ℕ) → nat_eq u t ≡ true → t ≡ u
    decided u t e = grind (arith, nat_tests)

    same-turn : {horizon : Option ℤ} {versions others : List Version} {working : TableEntry}
        {older : List TableEntry} → SameBag others versions → InTransaction horizon versions working older
        → InTransaction horizon others working older
    same-turn {horizon} {versions} {others} {working} {older} h t = record {
      since = t.since;
      below = t.below;
      now = same-stands h t.now;
      before = same-stands (same-undone working.moment h) t.before;
    }

    at_table : (copies : Copies) (working : Working) (m : ℤ) (gone : Stamped → Bool)
        → SameBag (live new t) (replaced m gone added (live old t))
        → ((u : ℕ) → InTransaction (horizon_of old.tables old.last old.horizon (copies u) u) (live old u) (record {
          moment = m;
          rows = working u;
        }) (copies u)) → (u : ℕ) → t ≡ u
        → InTransaction (horizon_of old.tables old.last old.horizon (copies u) u) (live new u) (record {
          moment = m;
          rows = with_rows t (rows_after m gone added (working t)) working u;
        }) (copies u)
    at_table copies working m gone bag turn u e =
        subst (λ (n : ℕ). InTransaction (horizon_of old.tables old.last old.horizon (copies n) n) (live new n) (record {
          moment = m;
          rows = with_rows t (rows_after m gone added (working t)) working n;
        }) (copies n)) e
        (let self : nat_eq t t ≡ true = grind (arith, nat_tests) in
        apply-law _ m gone added (live old t) _ (working t) _ (copies t) (turn t) bag
        (same-list (ap (λ (b : Bool). if b then rows_after m gone added (working t) else working t) self)))

-- ---- ranges as the store tests them

-- filtering twice by the same test
filter-twice : (p : Version → Bool) (vs : List Version) → filter p (filter p vs) ≡ filter p vs
filter-twice p [] = refl
filter-twice p (v ∷ vs) = by_bool (p v)
    (λ e. rw e (rw e (ap (λ us. v ∷ us) (filter-twice p vs))))
    (λ e. rw e (filter-twice p vs))

alive-live : (h : StoreModel) (t : ℕ) → filter alive (live h t) ≡ live h t
alive-live h t = filter-twice alive (slice_index_or h.versions t [])

-- tests that agree on non-empty versions
filter-alive : (p q : Version → Bool) → ((v : Version) → alive v ≡ true → p v ≡ q v) → (vs : List Version)
    → filter p (filter alive vs) ≡ filter q (filter alive vs)
filter-alive p q h [] = refl
filter-alive p q h (v ∷ vs) = by_bool (alive v)
    (λ e. rw e (ap (λ b. cond b (v ∷ filter p (filter alive vs)) (filter p (filter alive vs))) (h v e)
    ∙ ap (λ us. cond (q v) (v ∷ us) us) (filter-alive p q h vs)))
    (λ e. rw e (filter-alive p q h vs))

filter-live : (p q : Version → Bool) → ((v : Version) → alive v ≡ true → p v ≡ q v) → (h : StoreModel) (t : ℕ)
    → filter p (live h t) ≡ filter q (live h t)
filter-live p q same h t = ap (filter p) (sym (alive-live h t)) ∙ filter-alive p q same (live h t)
    ∙ ap (filter q) (alive-live h t)

as_meets : (a b : ℤ) (v : Version) → alive v ≡ true
    → (int_lt a b && (int_lt v.row.start b && int_lt a v.end)) ≡ meets a b v.row.start v.end
as_meets a b v e = rw e (shift (int_lt a b) _)
  where
    shift : (c d : Bool) → (c && d) ≡ ((c && true) && d)
    shift true d = refl
    shift false d = refl

below_next : (x b : ℤ) → int_le x b ≡ int_lt x (b +ℤ pos 1)
below_next x b = elim (le_tells x b) as (λ y. int_le x b ≡ int_lt x (b +ℤ pos 1)) [
  | inl s ↦ s.0 ∙ sym (lt_true {a = x} {b = b +ℤ pos 1} (let t = s.1 in omega (arith, ints)))
  | inr s ↦ s.0 ∙ sym (lt_false {a = x} {b = b +ℤ pos 1} (let t = s.1 in omega (arith, ints)))
]

answers-range : (h : StoreModel) (t : ℕ) (a b : ℤ) (found : List Version) → is_versioned h t ≡ true
    → SameBag found (filter (asked (FromTo a b)) (live h t)) → Answers h t (history.FromTo a b) found
answers-range h t a b found kept e =
    answers-from_to h t a b found kept
    (same-trans e (same-list (filter-live (asked (FromTo a b)) (λ v. meets a b v.row.start v.end) (as_meets a b) h t)))

answers-between : (h : StoreModel) (t : ℕ) (a b : ℤ) (found : List Version) → is_versioned h t ≡ true
    → SameBag found (filter (asked (Between a b)) (live h t)) → Answers h t (history.Between a b) found
answers-between h t a b found kept e = answers-from_to h t a (b +ℤ pos 1) found kept
    (same-trans e (same-list (filter-live (asked (Between a b)) (λ v. meets a (b +ℤ pos 1) v.row.start v.end)
    (λ v l. ap (λ c. c && (int_le v.row.start b && int_lt a v.end)) (below_next a b)
    ∙ ap (λ c. int_lt a (b +ℤ pos 1) && (c && int_lt a v.end)) (below_next v.row.start b)
    ∙ as_meets a (b +ℤ pos 1) v l) h t)))

-- the selected versions are the ones that the definitions find
pub answers-found : (h : StoreModel) (t : ℕ) (when : When) (found : List Version)
    → (is_now (when_of when) || is_versioned h t) ≡ true → SameBag found (filter (asked when) (live h t))
    → Answers h t (when_of when) found
answers-found h t Now found kept e = answers-now h t found e
answers-found h t (AsOf m) found kept e = answers-as_of h t m found kept e
answers-found h t (FromTo a b) found kept e = answers-range h t a b found kept e
answers-found h t (Between a b) found kept e = answers-between h t a b found kept e

-- ---- a new store

pub new-represents : (new : StoreModel) → new.working ≡ None → new.last ≡ None → ((t : ℕ) → live new t ≡ [])
    → Represents new (λ t. []) (λ t. [])
new-represents new closed last versions = record {
  dated = λ t. sym last;
  stands = λ t. subst (λ (o : Option ℤ). StandsWith (horizon_of new.tables new.last new.horizon [] t) o (live new t)
      [] [])
      (sym closed)
      (subst (λ (g : Option ℤ). StandsFor g (live new t) []) (sym (none t))
      (subst (λ (vs : List Version). StandsFor None vs []) (sym (versions t)) new-stands));
}
  where
    chosen : {X : Type 0} (b : Bool) (x : X) → (if b then x else x) ≡ x
    chosen true x = refl
    chosen false x = refl

    none : (t : ℕ) → horizon_of new.tables new.last new.horizon [] t ≡ None
    none t = ap (λ (l : Option ℤ). horizon_of new.tables l new.horizon [] t) last
        ∙ chosen (is_brief (slot_at new.tables t)) None

-- ---- a horizon

pub prunes-copies : (k : ℤ) (old new : StoreModel) → old.working ≡ None → old.horizon ≤ℤ k → new.tables ≡ old.tables
    → new.working ≡ old.working → new.last ≡ old.last → new.horizon ≡ k
    → ((t : ℕ) → SameBag (live new t)
    (if is_brief (slot_at old.tables t) then live old t else left_by k (live old t))) → PrunesCopies k old new
prunes-copies k old new closed later tables working_same last reach versions = λ copies working r. record {
  dated = λ t. newest-forgotten k (copies t) ∙ r.dated t ∙ sym last;
  stands = λ t. of_parts _ _ _ new tables last reach (working_same ∙ closed) t
      (by_bool (is_brief (slot_at old.tables t))
      (λ brief. subst (λ (g : Option ℤ). StandsFor g (live new t) (forgotten k (copies t)))
      (sym (last_horizon old.tables old.last k (forgotten k (copies t)) t brief))
      (same-stands (chosen t true brief)
      (brief-keeps-law k old.last (live old t) (copies t) (r.dated t)
      (subst (λ (g : Option ℤ). StandsFor g (live old t) (copies t))
      (last_horizon old.tables old.last old.horizon (copies t) t brief) (at_rest old copies working closed r t)))))
      (λ kept. subst (λ (g : Option ℤ). StandsFor g (live new t) (forgotten k (copies t)))
      (sym (kept_horizon old.tables old.last k (forgotten k (copies t)) t kept))
      (same-stands (chosen t false kept)
      (keeps-law old.horizon k (live old t) (copies t) later
      (subst (λ (g : Option ℤ). StandsFor g (live old t) (copies t))
      (kept_horizon old.tables old.last old.horizon (copies t) t kept) (at_rest old copies working closed r t))))));
}
  where
    chosen : (t : ℕ) (b : Bool) → is_brief (slot_at old.tables t) ≡ b
        → SameBag (live new t) (if b then live old t else left_by k (live old t))
    chosen t b e = subst (λ (c : Bool). SameBag (live new t) (if c then live old t else left_by k (live old t))) e
        (versions t)
