-- An engine also represents the state with the rows of a table in another order.
use Rattle.std.proofs.Common.{◌≡◌, ◌<◌, cond, refl, sym, subst, ◌∙◌, ℕ, Bool, true, false, List, [], ◌∷◌, length}
use Rattle.std.proofs.Common.{Option, Some, None, inl, inr}
use Rattle.std.specs.Prelude.{ℤ, ◌⊎◌, nat_eq, slice_get, slice_set, if◌then◌else◌}
use Rattle.std.specs.List.{AllByRecursion}
use Rattle.std.proofs.lemmas.List.{length-map}
use Rattle.tql_spec.specs.Bag.{SameBag, In}
use Rattle.tql_spec.specs.Calendar.{high}
use Rattle.tql_spec.proofs.Bags.{same-refl, same-sym, same-trans}
use Rattle.tql_spec.proofs.MemberLists.{times_some, there_if}
use Rattle.tql_spec.specs.Definition.{Stamped, TableDef, Version, same_stamped}
use Rattle.tql_spec.specs.History.{Copy, Entry, TableEntry}
use Rattle.tql_spec.specs.Machine.{State, newest_copy}
use Rattle.tql_store.specs.StoreModel.{StoreModel, live}
use Rattle.tql_store.specs.Stands.{Told, Fits, StandsFor as StandFor}
use Rattle.tql_store.specs.Changes.{InTransaction}
use Rattle.tql_store.specs.Kept.{kept_of}
use Rattle.tql_store.specs.TableSlots.{slot_at, is_brief}
use Rattle.tql_store.specs.Represents.{Copies, Working, Represents, StandsWith, horizon_of}
use Rattle.tql_catalog.specs.Tables.{definitions_of}
use Rattle.tql_catalog.specs.declared.catalog.Table.{Table}
use Rattle.tql_engine_state.specs.Fitting.{RowFits, RowsFit, CopyFits}
use Rattle.tql_engine_state.specs.Readers.{AreReaders}
use Rattle.tql_engine_state.specs.Stands.{EngineModel, StandsFor, ArePlaced, rows_of_id, copies_of, working_of}
use Rattle.tql_engine_state.proofs.Copies.{rows_set, fits_length}
use Rattle.tql_engine_state.proofs.ChangeKeeps.{working_now, with_table_rows, set_fits}

-- ---- rows that fit

-- a property of each row of a list is a property of its members
pub of_members : (P : Stamped → Type 0) (xs : List Stamped) → AllByRecursion P xs → (r : Stamped) → In r xs → P r
of_members P [] a r m = absurd m
of_members P (x ∷ xs) a r (inl e) = subst P (sym e) a.0
of_members P (x ∷ xs) a r (inr m) = of_members P xs a.1 r m

all_members : (P : Stamped → Type 0) (xs : List Stamped) → ((r : Stamped) → In r xs → P r) → AllByRecursion P xs
all_members P [] k = tt
all_members P (x ∷ xs) k = (k x (inl refl), all_members P xs (λ r m. k r (inr m)))

-- a member of a bag is in any list with the same bag
pub member_of_same : {xs ys : List Stamped} (r : Stamped) → SameBag xs ys → In r xs → In r ys
member_of_same {xs} {ys} r b m =
    there_if r ys (subst (λ n. 0 < n) (b.totals (λ s. cond (same_stamped r s) 1 0)) (times_some r xs m))

-- rows fit in any order
pub rows_fit_same : (d : TableDef) (xs ys : List Stamped) → SameBag xs ys → RowsFit d xs → RowsFit d ys
rows_fit_same d xs ys b f =
    all_members (RowFits d) ys (λ r m. of_members (RowFits d) xs f r (member_of_same r (same-sym b) m))

-- ---- the newest copy with its rows in another order

fits_same : (rows : List Stamped) (ends : Stamped → ℤ) (until m : ℤ) (xs ys : List Stamped) → SameBag xs ys
    → Fits rows ends (record { moment = m; rows = xs }) until → Fits rows ends (record { moment = m; rows = ys }) until
fits_same rows ends until m xs ys b f = record {
  copy = same-trans (same-sym b) f.copy;
  starts = f.starts;
  stops = f.stops;
}

either_same : {P : Type 0} (rows : List Stamped) (ends : Stamped → ℤ) (until m : ℤ) (xs ys : List Stamped)
    → SameBag xs ys
    → P ⊎ Fits rows ends (record { moment = m; rows = xs }) until
    → P ⊎ Fits rows ends (record { moment = m; rows = ys }) until
either_same rows ends until m xs ys b (inl past) = inl past
either_same rows ends until m xs ys b (inr f) = inr (fits_same rows ends until m xs ys b f)

told_same : (horizon : Option ℤ) (rows : List Stamped) (ends : Stamped
    → ℤ) (until m : ℤ) (xs ys : List Stamped) (older : List TableEntry) → SameBag xs ys
    → Told horizon rows ends until (record { moment = m; rows = xs } ∷ older)
    → Told horizon rows ends until (record { moment = m; rows = ys } ∷ older)
told_same horizon rows ends until m xs ys older b k = (k.0, (either_same rows ends until m xs ys b k.1.0, k.1.1))

stands_same : (horizon : Option ℤ) (versions : List Version) (m : ℤ) (xs ys : List Stamped) (older : List TableEntry)
    → SameBag xs ys
    → StandFor horizon versions (record { moment = m; rows = xs } ∷ older)
    → StandFor horizon versions (record { moment = m; rows = ys } ∷ older)
stands_same horizon versions m xs ys older b f = record {
  rows = f.rows;
  ends = f.ends;
  top = f.top;
  made = f.made;
  proper = f.proper;
  told = told_same horizon f.rows f.ends high m xs ys older b f.told;
}

-- what pruning keeps depends only on the moments of the copies
kept_same : (k m : ℤ) (xs ys : List Stamped) (older : List TableEntry)
    → kept_of k (record { moment = m; rows = xs } ∷ older) ≡ kept_of k (record { moment = m; rows = ys } ∷ older)
kept_same k m xs ys [] = refl
kept_same k m xs ys (e ∷ older) = refl

-- in the newest copies, with no transaction open
pub copies_same : (r : StoreModel) (m : ℤ) (xs ys : Working) (older : Copies) (working : Working) → r.working ≡ None
    → ((t : ℕ) → SameBag (xs t) (ys t))
    → Represents r (λ t. record { moment = m; rows = xs t } ∷ older t) working
    → Represents r (λ t. record { moment = m; rows = ys t } ∷ older t) working
copies_same r m xs ys older working idle b f = record {
  dated = f.dated;
  stands = λ t. subst (λ o. StandsWith (horizon_of r.tables r.last r.horizon (new t) t) o (live r t) (new t)
      (working t)) (sym idle)
      (stands_same (horizon_of r.tables r.last r.horizon (new t) t) (live r t) m (xs t) (ys t) (older t) (b t)
      (subst (λ (g : Option ℤ). StandFor (if is_brief (slot_at r.tables t) then r.last else g) (live r t) (old t))
      (kept_same r.horizon m (xs t) (ys t) (older t))
      (subst (λ o. StandsWith (horizon_of r.tables r.last r.horizon (old t) t) o (live r t) (old t) (working t)) idle
      (f.stands t))));
}
  where
    old : Copies
    old t = record { moment = m; rows = xs t } ∷ older t

    new : Copies
    new t = record { moment = m; rows = ys t } ∷ older t

-- in the working copy of an open transaction
pub working_same : (r : StoreModel) (m : ℤ) (xs ys : Working) (copies : Copies) → r.working ≡ Some m
    → ((t : ℕ) → SameBag (xs t) (ys t)) → Represents r copies xs → Represents r copies ys
working_same r m xs ys copies is_open b f = record {
  dated = f.dated;
  stands = λ t. subst (λ o. StandsWith (horizon_of r.tables r.last r.horizon (copies t) t) o (live r t) (copies t)
      (ys t)) (sym is_open)
      (within t (subst (λ o. StandsWith (horizon_of r.tables r.last r.horizon (copies t) t) o (live r t) (copies t)
      (xs t)) is_open (f.stands t)));
}
  where
    within : (t : ℕ) → InTransaction (horizon_of r.tables r.last r.horizon (copies t) t) (live r t)
        (record { moment = m; rows = xs t }) (copies t)
        → InTransaction (horizon_of r.tables r.last r.horizon (copies t) t) (live r t)
        (record { moment = m; rows = ys t }) (copies t)
    within t k = record {
      since = k.since;
      below = k.below;
      now = stands_same (horizon_of r.tables r.last r.horizon (copies t) t) (live r t) m (xs t) (ys t) (copies t) (b t)
          k.now;
      before = k.before;
    }

-- ---- a state with the rows of one table in another order

-- the rows of each table, by table id
rows_same : (h : StoreModel) (ps : List Table) (t : ℕ) (p : Table) → ArePlaced h ps → slice_get ps t ≡ Some p
    → (copy : Copy) → CopyFits (definitions_of ps) copy → (xs ys : List Stamped) → SameBag xs ys
    → (id : ℕ) → SameBag (rows_of_id ps (slice_set copy t xs) id) (rows_of_id ps (slice_set copy t ys) id)
rows_same h ps t p a there copy fits xs ys b id =
    let long : length copy ≡ length ps = fits_length (definitions_of ps) copy fits
    ∙ length-map ps (λ (q : Table). q.definition) in
    subst (λ zs. SameBag zs (rows_of_id ps (slice_set copy t ys) id)) (sym (rows_set h ps t p a there copy long xs id))
    (subst (SameBag (if nat_eq id p.id then xs else rows_of_id ps copy id))
    (sym (rows_set h ps t p a there copy long ys id))
    (either (nat_eq id p.id)))
  where
    either : (c : Bool) → SameBag (if c then xs else rows_of_id ps copy id) (if c then ys else rows_of_id ps copy id)
    either true = b
    either false = same-refl (rows_of_id ps copy id)

module _ (h : EngineModel) (t : ℕ) (p : Table) (there : slice_get h.tables t ≡ Some p) (xs ys : List Stamped)
    (b : SameBag xs ys) (ok : RowsFit p.definition ys) where
  swapped_by : (base : State) (defs : _) (es : List Entry) (next : ℤ) (o : Option Entry)
      → (let s : State = record base { definitions = defs; history = es; next = next; transaction = o } in
      CopyFits (definitions_of h.tables) (working_now s).copy → AreReaders h.readers (with_table_rows s t ys)
      → StandsFor h (with_table_rows s t xs)
      → StandsFor h (with_table_rows s t ys))
  swapped_by base defs es next None fits readers f =
      let copy : Copy = newest_copy defs es in
      record {
        fits = record {
          definitions = f.fits.definitions;
          defined = f.fits.defined;
          narrow = f.fits.narrow;
          rows = (set_fits h.tables t p there copy fits ys ok, f.fits.rows.1);
          working = f.fits.working;
        };
        clock = f.clock;
        horizon = f.horizon;
        not_before = f.not_before;
        not_after = f.not_after;
        falls = f.falls;
        since = f.since;
        opened = f.opened;
        dated = f.dated;
        stands = copies_same h.store next (rows_of_id h.tables (slice_set copy t xs))
            (rows_of_id h.tables (slice_set copy t ys)) (copies_of h.tables es) (working_of h.tables None) f.opened
            (rows_same h.store h.tables t p f.placed there copy fits xs ys b) f.stands;
        placed = f.placed;
        count = f.count;
        readers = readers;
      }
  swapped_by base defs es next (Some e) fits readers f = record {
    fits = record {
      definitions = f.fits.definitions;
      defined = f.fits.defined;
      narrow = f.fits.narrow;
      rows = f.fits.rows;
      working = set_fits h.tables t p there e.copy fits ys ok;
    };
    clock = f.clock;
    horizon = f.horizon;
    not_before = f.not_before;
    not_after = f.not_after;
    falls = f.falls;
    since = f.since;
    opened = f.opened;
    dated = f.dated;
    stands = working_same h.store e.moment (rows_of_id h.tables (slice_set e.copy t xs))
        (rows_of_id h.tables (slice_set e.copy t ys)) (copies_of h.tables es) f.opened
        (rows_same h.store h.tables t p f.placed there e.copy fits xs ys b) f.stands;
    placed = f.placed;
    count = f.count;
    readers = readers;
  }

  -- the law
  pub swapped : (s : State) → CopyFits (definitions_of h.tables) (working_now s).copy
      → AreReaders h.readers (with_table_rows s t ys)
      → StandsFor h (with_table_rows s t xs) → StandsFor h (with_table_rows s t ys)
  swapped s = swapped_by s s.definitions s.history s.next s.transaction
