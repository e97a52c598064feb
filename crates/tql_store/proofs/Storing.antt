-- What a store shows of its tables, and that its invariant holds after tables are added, dropped and changed.
use Rattle.std.proofs.Common.{◌≡◌, ℕ, ◌+◌, ◌≤◌, Bool, true, false, List, [], ◌++◌, map, filter}
use Rattle.std.proofs.Common.{length, refl, sym, ap, subst, ◌∙◌, arith}
use Rattle.std.specs.Prelude.{ℤ, All, IsTrue, nat_eq, slice_get, slice_index_or, Option, Some}
use Rattle.std.specs.Prelude.{None, if◌then◌else◌}
use Rattle.std.proofs.lemmas.Int.{ints}
use Rattle.tql_spec.proofs.Bags.{same-refl}
use Rattle.tql_spec.proofs.Members.{by_bool}
use Rattle.tql_spec.specs.Bag.{SameBag}
use Rattle.tql_spec.specs.Calendar.{high}
use Rattle.tql_spec.specs.Datum.{Row}
use Rattle.tql_spec.specs.Definition.{Stamped, Version}
use Rattle.tql_store_rows.proofs.Beginning.{begin-turn}
use Rattle.tql_versions.specs.Changes.{alive, closing, fresh, is_current, pruned, replaced, undone}
use Rattle.tql_store_rows.specs.TableModel as rows
use Rattle.tql_store_rows.specs.TableModel.{AtRest, InTurn, IsJudged, Since, versions}
use Rattle.tql_store_rows.specs.Readings.{AreEnded}
use Rattle.tql_store.proofs.Numbers.{one_number, self_number, versions-at}
use Rattle.tql_store.proofs.Turning.{before, empty-rest, by_number, each-committed, each-undone, commit-bag}
use Rattle.tql_store.proofs.Removing.{judged-rows, removable-rows, counted-rows}
use Rattle.tql_store.specs.StoreModel.{StoreModel, AreRemovable, is_open, live}
use Rattle.tql_store.specs.Orderly.{empty, table_at, IsUntouched, IsPut, AreReady}
use Rattle.tql_store.specs.Orderly.{IsOrderly, IsCommitted, IsUndone, HaveEnded, HasTurned}
use Rattle.tql_store.specs.TableSlots.{slot_at, place_for, is_kept, is_brief}
use Rattle.tql_store.specs.Represents.{ReplacesVersions, Takes}
use Rattle.tql_store.specs.declared.tables.TableSlot.{TableSlot}
use Rattle.tql_store.specs.declared.tables.TableSlot.TheVariants.{Free}

pub same-list : {X : Type 0} {xs ys : List X} → xs ≡ ys → SameBag xs ys
same-list {X} {xs} {ys} e = subst (SameBag xs) e (same-refl xs)

-- ---- what a store shows

abbrev pub shown : List TableSlot → List rows.TableModel → Option ℤ → Option ℤ → ℤ → StoreModel
shown places tables working last horizon = record {
  tables = places;
  versions = map versions tables;
  working = working;
  last = last;
  horizon = horizon;
}

-- the same, as the code states it
pub shows : (places : List TableSlot) (tables : List rows.TableModel) (working last : Option ℤ) (horizon : ℤ)
    (h : StoreModel)
    → shown places tables working last horizon ≡ h → shown places tables working last horizon ≡ h
shows places tables working last horizon h e = e

pub versions-of : {places : List TableSlot} {working last : Option ℤ} {horizon : ℤ} (tables : List rows.TableModel)
    (h : StoreModel) (t : ℕ) (x : rows.TableModel) → shown places tables working last horizon ≡ h
    → x ≡ table_at tables t
    → slice_index_or h.versions t [] ≡ versions x
versions-of tables h t x is e = ap (λ (k : StoreModel). slice_index_or k.versions t []) (sym is) ∙ versions-at tables t
    ∙ ap versions (sym e)

pub live-of : {places : List TableSlot} {working last : Option ℤ} {horizon : ℤ} (tables : List rows.TableModel)
    (h : StoreModel) (t : ℕ) → shown places tables working last horizon ≡ h → live h t ≡ rows.live (table_at tables t)
live-of tables h t is = ap (filter alive) (versions-of tables h t (table_at tables t) is refl)

-- ---- what the readings of its tables need

-- the closed versions of a table have ended
pub record IsReadable (h : rows.TableModel) : Type 0 where
  pub ended : AreEnded h

pub readable-at : (places : List TableSlot) (tables : List rows.TableModel) (touched : List ℕ) (working last : Option ℤ)
    → IsOrderly places tables touched working last → (t : ℕ) → IsReadable (table_at tables t)
readable-at places tables touched None last o t = record {
  ended = λ v i. before last high v.end o.ready.below ((o.ready.rest t).since.ended v i);
}
readable-at places tables touched (Some m) last o t = record {
  ended = λ v i. let p = (o.ready.turn t).past v i in let b = o.ready.below in omega (arith, ints, p.1, b);
}

-- a table with the versions that the store shows at its number
pub record IsRead (h : StoreModel) (t : ℕ) (x : rows.TableModel) : Type 0 where
  pub shown : slice_index_or h.versions t [] ≡ versions x
  pub readable : IsReadable x

-- ---- adding and dropping tables

pub put-orderly : (keeps : Bool) (p : TableSlot) (n : ℕ) (places next : List TableSlot) (old new : List rows.TableModel)
    (touched : List ℕ) (working last : Option ℤ) (x : rows.TableModel) → IsOrderly places old touched working last
    → keeps ≡ is_kept p → Takes n p places next
    → length new ≡ length next → length old ≤ length new → IsPut n x old new → x ≡ empty keeps
    → IsOrderly next new touched working last
put-orderly keeps p n places next old new touched working last x o match takes even more put is = record {
  even = even;
  keeps = λ t. by_number (λ (u : ℕ). (table_at new u).keeps ≡ is_kept (slot_at next u)) t n
      (ap (λ (h : rows.TableModel). h.keeps) here ∙ match
      ∙ sym (ap is_kept (takes.places n ∙ ap (λ (b : Bool). if b then p else slot_at places n) (self_number n))))
      (λ e. ap (λ (h : rows.TableModel). h.keeps) (put.others t e) ∙ o.keeps t
      ∙ sym (ap is_kept (takes.places t ∙ ap (λ (b : Bool). if b then p else slot_at places t) e)));
  gone = λ t. by_number (λ (u : ℕ). slot_at next u ≡ Free → rows.live (table_at new u) ≡ []) t n
      (λ f. ap rows.live here)
      (λ e f. ap rows.live (put.others t e)
      ∙ o.gone t (sym (takes.places t ∙ ap (λ (b : Bool). if b then p else slot_at places t) e) ∙ f));
  ready = ready working o.ready;
}
  where
    here : table_at new n ≡ empty keeps
    here = put.here ∙ is

    ready : (w : Option ℤ) → AreReady w last old touched → AreReady w last new touched
    ready None r = record {
      none = r.none;
      below = r.below;
      rest = λ t. by_number (λ (u : ℕ). AtRest last (table_at new u)) t n
          (subst (AtRest last) (sym here) (empty-rest keeps last))
          (λ e. subst (AtRest last) (sym (put.others t e)) (r.rest t));
    }
    ready (Some m) r = record {
      below = r.below;
      under = r.under;
      turn = λ t. by_number (λ (u : ℕ). InTurn m (table_at new u)) t n
          (subst (InTurn m) (sym here) (begin-turn last m (empty keeps) (empty-rest keeps last) r.under r.below))
          (λ e. subst (InTurn m) (sym (put.others t e)) (r.turn t));
      since = λ t. by_number (λ (u : ℕ). Since last (table_at new u)) t n
          (subst (Since last) (sym here) (empty-rest keeps last).since)
          (λ e. subst (Since last) (sym (put.others t e)) (r.since t));
      rest = λ t. by_number (λ (u : ℕ). IsUntouched touched u → AtRest last (table_at new u)) t n
          (λ away. subst (AtRest last) (sym here) (empty-rest keeps last))
          (λ e away. subst (AtRest last) (sym (put.others t e)) (r.rest t away));
      within = λ k l. let w = r.within k l in omega (arith, w, more);
      apart = r.apart;
    }

-- the new table at a number has only empty versions, and the others do not change
pub put-live : (keeps : Bool) (n : ℕ) (old new : List rows.TableModel) (x : rows.TableModel) → IsPut n x old new
    → x ≡ empty keeps → (t : ℕ) → rows.live (table_at new t) ≡ (if nat_eq t n then [] else rows.live (table_at old t))
put-live keeps n old new x put is t = by_bool (nat_eq t n)
    (λ e. ap (λ (u : ℕ). rows.live (table_at new u)) (one_number t n e) ∙ ap rows.live (put.here ∙ is)
    ∙ sym (ap (λ (b : Bool). if b then [] else rows.live (table_at old t)) e))
    (λ e. ap rows.live (put.others t e) ∙ sym (ap (λ (b : Bool). if b then [] else rows.live (table_at old t)) e))

-- if the old one had only empty versions, the non-empty versions of no table change
pub added-live : (n : ℕ) (old new : List rows.TableModel) → rows.live (table_at old n) ≡ []
    → ((t : ℕ) → rows.live (table_at new t) ≡ (if nat_eq t n then [] else rows.live (table_at old t))) → (t : ℕ)
    → rows.live (table_at new t) ≡ rows.live (table_at old t)
added-live n old new none h t = h t ∙ by_bool (nat_eq t n)
    (λ e. ap (λ (b : Bool). if b then [] else rows.live (table_at old t)) e ∙ sym none
    ∙ ap (λ (u : ℕ). rows.live (table_at old u)) (sym (one_number t n e)))
    (λ e. ap (λ (b : Bool). if b then [] else rows.live (table_at old t)) e)

-- ---- transactions

pub in_turn : {places : List TableSlot} {tables : List rows.TableModel} {touched : List ℕ} {last : Option ℤ}
    (working : Option ℤ) (m : ℤ) → working ≡ Some m → IsOrderly places tables touched working last
    → IsOrderly places tables touched (Some m) last
in_turn {places} {tables} {touched} {last} working m e o =
    subst (λ (w : Option ℤ). IsOrderly places tables touched w last) e o

one_moment : (o : Option ℤ) (m n : ℤ) → o ≡ Some m → o ≡ Some n → m ≡ n
one_moment o m n e f = same (sym e ∙ f)
  where
    same : {x y : ℤ} → Some x ≡ Some y → x ≡ y
    same {x} {y} e = cc

pub committed-versions : (m horizon : ℤ) (working last : Option ℤ) (places : List TableSlot)
    (old new : List rows.TableModel) (touched : List ℕ) (h g : StoreModel) → working ≡ Some m
    → IsOrderly places old touched working last
    → HaveEnded (IsCommitted m) (length touched) touched old new
    → shown places old working last horizon ≡ h → g.versions ≡ map versions new → (t : ℕ) (n : ℤ) → h.working ≡ Some n
    → SameBag (live g t) (if is_brief (slot_at h.tables t) then pruned n (live h t) else live h t)
committed-versions m horizon working last places old new touched h g at o e is now t n w =
    let turn = in_turn working m at o in
    let same : m ≡ n = one_moment working m n at (ap (λ (k : StoreModel). k.working) is ∙ w) in
    subst (λ (k : StoreModel). SameBag (live g t)
    (if is_brief (slot_at k.tables t) then pruned n (live k t) else live k t)) is
    (subst (λ (x : ℤ). SameBag (live g t)
    (if is_brief (slot_at places t) then pruned x (live (shown places old working last horizon) t) else live
    (shown places old working last horizon) t)) same
    (subst (λ vs. SameBag (live g t) (if is_brief (slot_at places t) then pruned m vs else vs))
    (sym (live-of old (shown places old working last horizon) t refl))
    (subst (λ vs. SameBag vs
    (if is_brief (slot_at places t) then pruned m (rows.live (table_at old t)) else rows.live (table_at old t)))
    (sym (ap (λ (vss : List (List Version)). filter alive (slice_index_or vss t [])) now
    ∙ ap (filter alive) (versions-at new t)))
    (commit-bag m places t (table_at old t) (table_at new t) (turn.keeps t) (turn.gone t)
    (each-committed m last old new touched turn.ready e t)))))

pub undone-versions : (m horizon : ℤ) (working last : Option ℤ) (places : List TableSlot)
    (old new : List rows.TableModel) (touched : List ℕ) (h g : StoreModel) → working ≡ Some m
    → IsOrderly places old touched working last
    → HaveEnded (IsUndone m) (length touched) touched old new
    → shown places old working last horizon ≡ h → g.versions ≡ map versions new → (t : ℕ) (n : ℤ) → h.working ≡ Some n
    → SameBag (live g t) (undone n (live h t))
undone-versions m horizon working last places old new touched h g at o e is now t n w =
    let turn = in_turn working m at o in
    let same : m ≡ n = one_moment working m n at (ap (λ (k : StoreModel). k.working) is ∙ w) in
    subst (λ (x : ℤ). SameBag (live g t) (undone x (live h t))) same
    (subst (λ vs. SameBag (live g t) (undone m vs)) (sym (live-of old h t is))
    (subst (λ vs. SameBag vs (undone m (rows.live (table_at old t))))
    (sym (ap (λ (vss : List (List Version)). filter alive (slice_index_or vss t [])) now
    ∙ ap (filter alive) (versions-at new t)))
    (each-undone m last old new touched turn.ready e t).versions))

-- ---- changes

-- ids that are removable in the store are removable in its table
pub removable-at : (m horizon : ℤ) (working last : Option ℤ) (places : List TableSlot) (tables : List rows.TableModel)
    (touched : List ℕ) (h : StoreModel) (t : ℕ) (removed : List ℕ) → working ≡ Some m
    → IsOrderly places tables touched working last → shown places tables working last horizon ≡ h
    → AreRemovable h t removed → rows.AreRemovable (table_at tables t) removed
removable-at m horizon working last places tables touched h t removed at o is r =
    let s = subst (λ (k : StoreModel). AreRemovable k t removed) (sym is) r in
    let s' = subst (λ (vs : List Version). All (λ id. IsTrue (is_open (slice_get vs id))) removed)
    (versions-at tables t) s.current in
    removable-rows m (table_at tables t) removed ((in_turn working m at o).ready.turn t) s' s.once

pub replaces-at : (added : List Row) (m horizon : ℤ) (working last : Option ℤ) (places : List TableSlot)
    (old new : List rows.TableModel)
    (touched : List ℕ) (h g : StoreModel) (n : ℕ) (removed : List ℕ) → working ≡ Some m
    → IsOrderly places old touched working last → shown places old working last horizon ≡ h
    → shown places new working last horizon ≡ g → AreRemovable h n removed → HasTurned m n old new
    → SameBag (rows.live (table_at new n))
    (filter alive (closing m removed (table_at old n).current ++ (table_at old n).closed) ++ map (fresh m) added)
    → ((gone : Stamped → Bool) → IsJudged gone removed (table_at old n)
    → SameBag (rows.live (table_at new n)) (replaced m gone added (rows.live (table_at old n))))
    → ReplacesVersions n removed added h g
replaces-at added m horizon working last places old new touched h g n removed at o is now r turned bag
    judged =
    record {
      tables = ap (λ (k : StoreModel). k.tables) (sym now) ∙ ap (λ (k : StoreModel). k.tables) is;
      working = ap (λ (k : StoreModel). k.working) (sym now) ∙ ap (λ (k : StoreModel). k.working) is;
      last = ap (λ (k : StoreModel). k.last) (sym now) ∙ ap (λ (k : StoreModel). k.last) is;
      horizon = ap (λ (k : StoreModel). k.horizon) (sym now) ∙ ap (λ (k : StoreModel). k.horizon) is;
      others = λ u e. same-list (live-of new g u now ∙ ap rows.live (turned.others u e) ∙ sym (live-of old h u is));
      versions = λ x gone w j.
          let same : m ≡ x = one_moment working m x at (ap (λ (k : StoreModel). k.working) is ∙ w) in
          subst (λ (y : ℤ). SameBag (live g n) (replaced y gone added (live h n))) same
          (subst (λ vs. SameBag vs (replaced m gone added (live h n))) (sym (live-of new g n now))
          (subst (λ vs. SameBag (rows.live (table_at new n)) (replaced m gone added vs))
          (sym (live-of old h n is))
          (judged gone (judged-rows m (table_at old n) gone removed turn
          (λ id v e. j id v (ap (λ (vs : List Version). slice_get vs id) (versions-of old h n (table_at old n) is refl)
          ∙ e))))));
      counted = subst (λ vs. length (filter is_current vs) + length removed ≡ length (filter is_current (live h n)) +
          length added) (sym (live-of new g n now))
          (subst (λ vs. length (filter is_current (rows.live (table_at new n))) + length removed ≡ length
          (filter is_current vs) + length added) (sym (live-of old h n is))
          (counted-rows m added removed (table_at old n) (table_at new n) turn
          (removable-at m horizon working last places old touched h n removed at o is r) bag));
    }
  where
    turn : InTurn m (table_at old n)
    turn = (in_turn working m at o).ready.turn n

-- ---- what a store shows after tables are added and dropped

pub kept_for : (b : Bool) → b ≡ is_kept (place_for b)
kept_for true = refl
kept_for false = refl

pub live-shown : (new : List rows.TableModel) (g : StoreModel) (t : ℕ) → g.versions ≡ map versions new
    → live g t ≡ rows.live (table_at new t)
live-shown new g t now = ap (λ (vss : List (List Version)). filter alive (slice_index_or vss t [])) now
    ∙ ap (filter alive) (versions-at new t)

pub dropped-versions : (n : ℕ) (places : List TableSlot) (working last : Option ℤ) (horizon : ℤ)
    (old new : List rows.TableModel) (x : rows.TableModel) (h g : StoreModel)
    → shown places old working last horizon ≡ h → IsPut n x old new → x ≡ empty false
    → g.versions ≡ map versions new
    → (t : ℕ) → SameBag (live g t) (if nat_eq t n then [] else live h t)
dropped-versions n places working last horizon old new x h g is put e now t = same-list (live-shown new g t now
    ∙ put-live false n old new x put e t
    ∙ ap (λ (vs : List Version). if nat_eq t n then [] else vs) (sym (live-of old h t is)))

pub added-versions : (keeps : Bool) (n : ℕ) (places : List TableSlot) (working last : Option ℤ) (horizon : ℤ)
    (old new : List rows.TableModel) (x : rows.TableModel) (h g : StoreModel)
    → shown places old working last horizon ≡ h → rows.live (table_at old n) ≡ [] → IsPut n x old new
    → x ≡ empty keeps → g.versions ≡ map versions new
    → (t : ℕ) → live g t ≡ live h t
added-versions keeps n places working last horizon old new x h g is none put e now t = live-shown new g t now
    ∙ added-live n old new none (put-live keeps n old new x put e) t ∙ sym (live-of old h t is)
