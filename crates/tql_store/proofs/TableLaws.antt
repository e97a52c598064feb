-- A store represents the copies after a table is added or dropped.
use Rattle.std.proofs.Common.{◌≡◌, ℕ, Bool, true, false, List, [], ◌∷◌, arith, inl, inr, refl, sym, ap, subst, ◌∙◌}
use Rattle.std.specs.Prelude.{ℤ, ◌<ℤ◌, nat_eq, if◌then◌else◌, Option, Some, None}
use Rattle.std.proofs.lemmas.Bool.Decides.{nat_tests}
use Rattle.std.proofs.lemmas.Int.{ints}
use Rattle.tql_spec.proofs.Members.{by_bool}
use Rattle.tql_spec.proofs.Bags.{same-trans}
use Rattle.tql_spec.specs.Bag.{SameBag}
use Rattle.tql_spec.specs.Calendar.{high}
use Rattle.tql_spec.specs.Definition.{Stamped, Version}
use Rattle.tql_spec.specs.History.{TableEntry, still}
use Rattle.tql_store.proofs.Kept.{kept_past, kept_under}
use Rattle.tql_store.proofs.Laws.{stands-later, same-stands}
use Rattle.tql_store.proofs.StoreLaws.{at_rest, kept_horizon, of_parts}
use Rattle.tql_store.specs.Changes.{newest, emptied}
use Rattle.tql_store.specs.Represents.{Copies, Working, horizon_of, StandsWith, Represents, Takes, AddsTable}
use Rattle.tql_store.specs.Represents.{AddKeepsCopies, copies_without, DropEmpties}
use Rattle.tql_store.specs.StoreModel.{StoreModel, live}
use Rattle.tql_store.specs.TableSlots.{slot_at, place_for, is_brief}
use Rattle.tql_versions.specs.Changes.{Past, Under}
use Rattle.tql_store.specs.Kept.{kept_of}
use Rattle.tql_store.specs.Stands.{Told, StandsFor}
use Rattle.tql_store.specs.declared.tables.TableSlot.{TableSlot}
use Rattle.tql_store.specs.declared.tables.TableSlot.TheVariants.{Free}

decided : (u t : ℕ) → nat_eq u t ≡ true → u ≡ t
decided u t e = grind (arith, nat_tests)

-- ---- a new table

-- the newest copy is earlier than the moment until which it lasts
newest-under : (horizon : Option ℤ) (rows : List Stamped) (ends : Stamped
    → ℤ) (until : ℤ) (entries : List TableEntry) → Told horizon rows ends until entries → Under (newest entries) until
newest-under horizon rows ends until [] told = tt
newest-under horizon rows ends until (e ∷ older) told = told.0

under_more : (last : Option ℤ) (m n : ℤ) → Under last m → m <ℤ n → Under last n
under_more None m n u h = tt
under_more (Some l) m n u h = omega (arith, ints)

-- versions that represent the copies as far as these are kept also do so from the last commit on
from_last : (k : ℤ) (last o : Option ℤ) (versions : List Version) (entries : List TableEntry) (rows : List Stamped)
    → newest entries ≡ last → StandsWith (kept_of k entries) o versions entries rows
    → StandsWith last o versions entries rows
from_last k last None versions entries rows e s =
    stands-later (kept_of k entries) last versions entries
    (λ u past. subst (λ (g : Option ℤ). Past g u) e (kept_past _ k u versions entries s past))
    (subst (λ (g : Option ℤ). Under g high) e (newest-under _ s.rows s.ends high entries s.told)) s
from_last k last (Some m) versions entries rows e s =
    let early : Under last m =
    subst (λ (g : Option ℤ). Under g m) e (newest-under _ s.now.rows s.now.ends m entries s.now.told.1.1) in
    let top : Under last high = under_more last m high early s.below in
    let far = λ (u : ℤ) (past : Past (kept_of k entries) u).
    subst (λ (g : Option ℤ). Past g u) e (kept_past _ k u _ entries s.before past) in
    record {
      since = early;
      below = s.below;
      now = stands-later (kept_of k entries) last versions _ far top s.now;
      before = stands-later (kept_of k entries) last _ entries far top s.before;
    }

-- a versioned table or an unversioned one
from_either : (b : Bool) (k : ℤ) (last o : Option ℤ) (versions : List Version) (entries : List TableEntry)
    (rows : List Stamped) → newest entries ≡ last → StandsWith (kept_of k entries) o versions entries rows
    → StandsWith (if b then last else kept_of k entries) o versions entries rows
from_either true k last o versions entries rows e s = from_last k last o versions entries rows e s
from_either false k last o versions entries rows e s = s

horizon_at : (t : ℕ) (p : TableSlot) (old new : List TableSlot) (last : Option ℤ) (k : ℤ) (entries : List TableEntry)
    (u : ℕ) → Takes t p old new → (b : Bool) → nat_eq u t ≡ b
    → horizon_of new last k entries u
    ≡ (if is_brief (if b then p else slot_at old u) then last else kept_of k entries)
horizon_at t p old new last k entries u takes b e =
    ap (λ (q : TableSlot). if is_brief q then last else kept_of k entries) (takes.places u
    ∙ ap (λ (c : Bool). if c then p else slot_at old u) e)

pub add-keeps : (versioned : Bool) (t : ℕ) (old new : StoreModel) → AddsTable versioned t old new
    → AddKeepsCopies old new
add-keeps versioned t old new a = λ copies working r. record {
  dated = λ u. r.dated u ∙ sym a.last;
  stands = λ u. of_parts (live new u) (copies u) (working u) new refl a.last a.horizon a.working u
      (subst (λ (vs : List Version). StandsWith (horizon_of new.tables old.last old.horizon (copies u) u) old.working vs
      (copies u) (working u)) (sym (a.versions u))
      (by_bool (nat_eq u t)
      (λ same. subst (λ (g : Option ℤ). StandsWith g old.working (live old u) (copies u) (working u))
      (sym (horizon_at t (place_for versioned) old.tables new.tables old.last old.horizon (copies u) u a.takes true
      same))
      (from_either (is_brief (place_for versioned)) old.horizon old.last old.working (live old u) (copies u) (working u)
      (r.dated u)
      (subst (λ (g : Option ℤ). StandsWith g old.working (live old u) (copies u) (working u))
      (kept_horizon old.tables old.last old.horizon (copies u) u
      (ap is_brief (ap (slot_at old.tables) (decided u t same) ∙ a.free)))
      (r.stands u))))
      (λ other. subst (λ (g : Option ℤ). StandsWith g old.working (live old u) (copies u) (working u))
      (sym (horizon_at t (place_for versioned) old.tables new.tables old.last old.horizon (copies u) u a.takes false
      other)) (r.stands u))));
}

-- ---- a dropped table

pub newest-emptied : (entries : List TableEntry) → newest (emptied entries) ≡ newest entries
newest-emptied [] = refl
newest-emptied (e ∷ older) = refl

pub told-emptied : (horizon : Option ℤ) (rows : List Stamped) (ends : Stamped
    → ℤ) (until : ℤ) (entries : List TableEntry) → Told horizon rows ends until entries
    → Told None [] still until (emptied entries)
told-emptied horizon rows ends until [] told = inr (λ r m. absurd m)
told-emptied horizon rows ends until (e ∷ older) told = (
  told.0,
  (
    inr (record { copy = record { totals = λ w. refl }; starts = λ r m. absurd m; stops = λ r m. absurd m }),
    told-emptied horizon rows ends e.moment older told.1.1,
  ),
)

-- the empty list of versions represents copies without rows
pub none-stands : (k : ℤ) (entries : List TableEntry) → Told None [] still high (emptied entries)
    → StandsFor (kept_of k (emptied entries)) [] (emptied entries)
none-stands k entries told =
    stands-later None (kept_of k (emptied entries)) [] (emptied entries) (λ u past. absurd past)
    (kept_under None k high [] (emptied entries) all (newest-under None [] still high (emptied entries) told)) all
  where
    all : StandsFor None [] (emptied entries)
    all = record {
      rows = [];
      ends = still;
      top = tt;
      made = record { totals = λ w. refl };
      proper = λ r m. absurd m;
      told = told;
    }

emptied-stands : (horizon : Option ℤ) (k : ℤ) (versions : List Version) (entries : List TableEntry)
    → StandsFor horizon versions entries → StandsFor (kept_of k (emptied entries)) [] (emptied entries)
emptied-stands horizon k versions entries s =
    none-stands k entries (told-emptied horizon s.rows s.ends high entries s.told)

pub drop-empties : (t : ℕ) (old new : StoreModel) → old.working ≡ None → Takes t Free old.tables new.tables
    → new.working ≡ old.working → new.last ≡ old.last → new.horizon ≡ old.horizon
    → ((u : ℕ) → SameBag (live new u) (if nat_eq u t then [] else live old u)) → DropEmpties t old new
drop-empties t old new closed takes working_same last reach versions = λ copies working r. record {
  dated = λ u. dated (nat_eq u t) (copies u) ∙ r.dated u ∙ sym last;
  stands = λ u. of_parts _ _ _ new refl last reach (working_same ∙ closed) u
      (by_bool (nat_eq u t)
      (λ same. gone copies u same (at_rest old copies working closed r u))
      (λ other. stays copies u other (at_rest old copies working closed r u)));
}
  where
    dated : (b : Bool) (entries : List TableEntry) → newest (if b then emptied entries else entries) ≡ newest entries
    dated true entries = newest-emptied entries
    dated false entries = refl

    left : (u : ℕ) (b : Bool) → nat_eq u t ≡ b → SameBag (live new u) (if b then [] else live old u)
    left u b e = subst (λ (c : Bool). SameBag (live new u) (if c then [] else live old u)) e (versions u)

    gone : (copies : Copies) (u : ℕ) → nat_eq u t ≡ true
        → StandsFor (horizon_of old.tables old.last old.horizon (copies u) u) (live old u) (copies u)
        → StandsFor (horizon_of new.tables old.last old.horizon (copies_without t copies u) u) (live new u)
        (copies_without t copies u)
    gone copies u same s =
        rw (same, horizon_at t Free old.tables new.tables old.last old.horizon (emptied (copies u)) u takes true same)
        (same-stands (left u true same) (emptied-stands _ old.horizon (live old u) (copies u) s))

    stays : (copies : Copies) (u : ℕ) → nat_eq u t ≡ false
        → StandsFor (horizon_of old.tables old.last old.horizon (copies u) u) (live old u) (copies u)
        → StandsFor (horizon_of new.tables old.last old.horizon (copies_without t copies u) u) (live new u)
        (copies_without t copies u)
    stays copies u other s =
        rw (other, horizon_at t Free old.tables new.tables old.last old.horizon (copies u) u takes false other)
        (same-stands (left u false other) s)

-- ---- equal copies and working copies

same_first : {horizon : Option ℤ} {versions : List Version} (m : ℤ) (rows others : List Stamped)
    (older : List TableEntry) → SameBag others rows
    → StandsFor horizon versions (record { moment = m; rows = rows } ∷ older)
    → StandsFor horizon versions (record { moment = m; rows = others } ∷ older)
same_first m rows others older h s = record {
  rows = s.rows;
  ends = s.ends;
  top = s.top;
  made = s.made;
  proper = s.proper;
  told = (
    s.told.0,
    (
      elim (s.told.1.0) [
        | inl past ↦ inl past
        | inr f ↦ inr (record { copy = same-trans h f.copy; starts = f.starts; stops = f.stops })
      ],
      s.told.1.1,
    ),
  );
}

same_with : (horizon o : Option ℤ) (versions : List Version) (entries : List TableEntry) (rows others : List Stamped)
    → SameBag others rows → StandsWith horizon o versions entries rows → StandsWith horizon o versions entries others
same_with horizon None versions entries rows others h s = s
same_with horizon (Some m) versions entries rows others h s = record {
  since = s.since;
  below = s.below;
  now = same_first m rows others entries h s.now;
  before = s.before;
}

-- a store also represents equal copies, and working rows in another order
pub represents-same : (h : StoreModel) (copies others : Copies) (working changed : Working)
    → ((t : ℕ) → copies t ≡ others t) → ((t : ℕ) → SameBag (changed t) (working t)) → Represents h copies working
    → Represents h others changed
represents-same h copies others working changed same bags r = record {
  dated = λ t. ap newest (sym (same t)) ∙ r.dated t;
  stands = λ t. subst (λ (entries : List TableEntry). StandsWith (horizon_of h.tables h.last h.horizon entries t)
      h.working (live h t) entries (changed t)) (same t)
      (same_with _ h.working (live h t) (copies t) (working t) (changed t) (bags t) (r.stands t));
}
