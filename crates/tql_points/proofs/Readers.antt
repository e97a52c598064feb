-- The readers of a state, and those of the state of a point.
use Rattle.std.proofs.Common.{◌≡◌, ◌<◌, refl, sym, ap, subst, ◌∙◌, ℕ, Bool, true, false, List, [], ◌∷◌, ◌++◌, length}
use Rattle.std.proofs.Common.{filter, inl, inr, cond}
use Rattle.std.specs.Prelude.{◌⊎◌, not, ◌||◌, ℤ, int_lt}
use Rattle.tql_spec.specs.Words.{same_text}
use Rattle.tql_spec.specs.Bag.{SameBag}
use Rattle.tql_spec.specs.Calendar.{high}
use Rattle.tql_spec.specs.Definition.{Name, TableDef, table_at}
use Rattle.tql_spec.specs.History.{Entry, When, Now, AsOf, still, versions}
use Rattle.tql_spec.specs.Machine.{State}
use Rattle.tql_spec.specs.Readers.{Reader, names_of, pinned_of, is_any_open, passes, passes_some}
use Rattle.tql_points.specs.Slice.{slice, payloads}
use Rattle.tql_points.specs.PointTable.{point_table}
use Rattle.tql_points.specs.PointMachine.{ReadAgrees, ReadsAgree, SlicesAgree}
use Rattle.tql_points.proofs.Related.{SameEntries, SameReader, SameReaders, Related, point_table_at}
use Rattle.tql_points.proofs.Related.{now_answers, as_of_answers, now_agrees, as_of_agrees}

module _ (defs : List TableDef) (p : ℤ) where
  -- ---- the faults by readers

  -- the same readers are related
  pub readers_themselves : (rs : List Reader) → SameReaders defs p rs rs
  readers_themselves [] = tt
  readers_themselves (r ∷ rs) = (record { name = refl; pinned = inl refl }, readers_themselves rs)

  pub names_same : (rs os : List Reader) → SameReaders defs p rs os → names_of os ≡ names_of rs
  names_same [] [] h = refl
  names_same (r ∷ rs) (o ∷ os) h =
      ap (λ (n : Name). n ∷ names_of os) h.0.name ∙ ap (λ ns. r.name ∷ ns) (names_same rs os h.1)
  names_same [] (o ∷ os) h = absurd h
  names_same (r ∷ rs) [] h = absurd h

  pub any_open_same : (rs os : List Reader) → SameReaders defs p rs os → is_any_open os ≡ is_any_open rs
  any_open_same [] [] h = refl
  any_open_same (r ∷ rs) (o ∷ os) h = refl
  any_open_same [] (o ∷ os) h = absurd h
  any_open_same (r ∷ rs) [] h = absurd h

  -- the newest moments are the same
  entries_pass : (m : ℤ) (es fs : List Entry) → SameEntries defs p es fs → passes m fs ≡ passes m es
  entries_pass m [] [] h = refl
  entries_pass m (e ∷ es) (f ∷ fs) h = ap (λ z. int_lt z m) h.0.moment
  entries_pass m [] (f ∷ fs) h = absurd h
  entries_pass m (e ∷ es) [] h = absurd h

  one_passes : (m : ℤ) (r o : Reader) → SameReader defs p r o → passes m o.pinned ≡ passes m r.pinned
  one_passes m r o h = elim h.pinned [ inl e ↦ ap (passes m) e | inr e ↦ entries_pass m r.pinned o.pinned e ]

  pub passes_same : (m : ℤ) (rs os : List Reader) → SameReaders defs p rs os → passes_some m os ≡ passes_some m rs
  passes_same m [] [] h = refl
  passes_same m (r ∷ rs) (o ∷ os) h =
      ap (λ b. b || passes_some m os) (one_passes m r o h.0)
      ∙ ap (λ b. passes m r.pinned || b) (passes_same m rs os h.1)
  passes_same m [] (o ∷ os) h = absurd h
  passes_same m (r ∷ rs) [] h = absurd h

  -- ---- opening and closing

  pub opened_readers : (r o : Reader) → SameReader defs p r o → (rs os : List Reader) → SameReaders defs p rs os
      → SameReaders defs p (rs ++ r ∷ []) (os ++ o ∷ [])
  opened_readers r o k [] [] h = (k, tt)
  opened_readers r o k (x ∷ rs) (y ∷ os) h = (h.0, opened_readers r o k rs os h.1)
  opened_readers r o k [] (y ∷ os) h = absurd h
  opened_readers r o k (x ∷ rs) [] h = absurd h

  pub closed_readers : (n : Name) (rs os : List Reader) → SameReaders defs p rs os
      → SameReaders defs p (filter (λ (r : Reader). not (same_text n r.name)) rs)
      (filter (λ (r : Reader). not (same_text n r.name)) os)
  closed_readers n [] [] h = tt
  closed_readers n (r ∷ rs) (o ∷ os) h =
      by_test (not (same_text n r.name)) (not (same_text n o.name)) (ap (λ z. not (same_text n z)) h.0.name)
      (closed_readers n rs os h.1)
    where
      by_test : (a b : Bool) → b ≡ a
          → SameReaders defs p (filter (λ (x : Reader). not (same_text n x.name)) rs)
          (filter (λ (x : Reader). not (same_text n x.name)) os)
          → SameReaders defs p (cond a (r ∷ filter (λ (x : Reader). not (same_text n x.name)) rs)
          (filter (λ (x : Reader). not (same_text n x.name)) rs))
          (cond b (o ∷ filter (λ (x : Reader). not (same_text n x.name)) os)
          (filter (λ (x : Reader). not (same_text n x.name)) os))
      by_test true true e k = (h.0, k)
      by_test false false e k = k
      by_test true false e k = absurd (cc)
      by_test false true e k = absurd (cc)
  closed_readers n [] (o ∷ os) h = absurd h
  closed_readers n (r ∷ rs) [] h = absurd h

  -- ---- the copies that a reader pinned

  pinned_same : (n : Name) (rs os : List Reader) → SameReaders defs p rs os
      → (pinned_of n os ≡ pinned_of n rs) ⊎ SameEntries defs p (pinned_of n rs) (pinned_of n os)
  pinned_same n [] [] h = inl refl
  pinned_same n (r ∷ rs) (o ∷ os) h =
      by_test (same_text n r.name) (same_text n o.name) (ap (same_text n) h.0.name) (pinned_same n rs os h.1)
    where
      by_test : (a b : Bool) → b ≡ a
          → (pinned_of n os ≡ pinned_of n rs) ⊎ SameEntries defs p (pinned_of n rs) (pinned_of n os)
          → (cond b o.pinned (pinned_of n os) ≡ cond a r.pinned (pinned_of n rs))
          ⊎ SameEntries defs p (cond a r.pinned (pinned_of n rs)) (cond b o.pinned (pinned_of n os))
      by_test true true e k = h.0.pinned
      by_test false false e k = k
      by_test true false e k = absurd (cc)
      by_test false true e k = absurd (cc)
  pinned_same n [] (o ∷ os) h = absurd h
  pinned_same n (r ∷ rs) [] h = absurd h

  read_agrees : (s other : State) → Related defs p s other → (n : Name) (when : When) (t : ℕ) → t < length defs
      → SameBag (slice (table_at defs t) p (versions (table_at defs t) t when (pinned_of n s.readers)))
      (payloads (point_table defs (table_at defs t))
      (versions (point_table defs (table_at defs t)) t when (pinned_of n other.readers)))
      → ReadAgrees p s other n when t
  read_agrees s other r n when t l h =
      subst (λ ds. SameBag (slice (table_at ds t) p (versions (table_at ds t) t when (pinned_of n s.readers)))
      (payloads (table_at other.definitions t)
      (versions (table_at other.definitions t) t when (pinned_of n other.readers))))
      (sym r.definitions)
      (subst (λ z. SameBag
      (slice (table_at defs t) p (versions (table_at defs t) t when (pinned_of n s.readers)))
      (payloads z (versions z t when (pinned_of n other.readers))))
      (sym (ap (λ ds. table_at ds t) r.definitions_then ∙ point_table_at defs defs t l)) h)

  reads_agree : (s other : State) → Related defs p s other → (n : Name)
      → (pinned_of n other.readers ≡ pinned_of n s.readers) ⊎ ReadsAgree defs p s other n
  reads_agree s other r n = elim (pinned_same n s.readers other.readers r.readers) [
    | inl e ↦ inl e
    | inr e ↦ inr (record {
      now = λ t l. read_agrees s other r n Now t l
          (now_answers defs p t l (pinned_of n s.readers) (pinned_of n other.readers) e);
      as_of = λ m t l. read_agrees s other r n (AsOf m) t l
          (as_of_answers defs p t l m (pinned_of n s.readers) (pinned_of n other.readers) e high high refl still still);
    })
  ]

  -- the slices of related states agree
  pub slices_agree : (s other : State) → Related defs p s other → SlicesAgree defs p s other
  slices_agree s other r = record {
    now = λ t l. now_agrees defs p t l s other r;
    as_of = λ m t l. as_of_agrees defs p t l m s other r;
    reads = reads_agree s other r;
  }
