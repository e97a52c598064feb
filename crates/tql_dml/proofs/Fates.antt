-- The effect on versions, by the fates of the definitions and by the removed and added rows.
use Rattle.std.specs.Prelude.{◌≡◌, refl, ℕ, suc, ◌+◌, ◌<◌, ℤ, Bool, true, false, cond, List, [], ◌∷◌, ◌++◌, map}
use Rattle.std.specs.Prelude.{filter, length, slice_index_or, Option, Some, None, ⊤}
use Rattle.std.proofs.Common.{sym, ap, subst, append_assoc, ◌∙◌, drop}
use Rattle.std.proofs.lemmas.List.{drop_more, map-append}
use Rattle.tql_spec.specs.Words.{◌>>=◌, with_front, map_all}
use Rattle.tql_spec.specs.Datum.{Row}
use Rattle.tql_spec.specs.Period.{Period}
use Rattle.tql_spec.specs.Definition.{TableDef, Stamped, stamped, without_generated, shown}
use Rattle.tql_spec.specs.Expression.{Cond}
use Rattle.tql_spec.specs.Change.{Work, Fate, Replaced, made_of, is_touched, pieces, fate, fate_where, new_rows}
use Rattle.tql_spec.specs.Change.{touched_count}
use Rattle.tql_versions.specs.Readings.{version_shown as version_of}
use Rattle.tql_versions.specs.declared.version.Version.{Version}
use Rattle.tql_dml.specs.Alters.{is_yes, rows_in}
use Rattle.tql_dml.specs.Parts.{Parts, before, part_where, part_of, parts}

-- ---- version by version

pub joined : (p : Parts) (d r : Option Parts) → before p (d >>= λ q. before q r) ≡ before p d >>= λ n. before n r
joined p None r = refl
joined p (Some q) None = refl
joined p (Some q) (Some r) =
    λ i. Some (record {
      gone = sym (append_assoc p.gone q.gone r.gone) i;
      come = sym (append_assoc p.come q.come r.come) i;
    })

-- one more version
pub one_more_version : (d : TableDef) (portion : Option Period) (work : Work) (conds : List Cond) (vs : List Version)
    (i : ℕ) (v : Version) (p n : Parts) (all : Option Parts)
    → i < length vs → v ≡ slice_index_or vs i v
    → before p (part_of d portion work conds v.id (shown d (version_of v).row)) ≡ Some n
    → before p (parts d portion work conds (drop i vs)) ≡ all
    → before n (parts d portion work conds (drop (i + 1) vs)) ≡ all
one_more_version d portion work conds vs i v p n all l is e h =
    let rest = parts d portion work conds (drop (i + 1) vs) in
    let this : drop i vs ≡ v ∷ drop (i + 1) vs = drop_more vs i v l
    ∙ ap {B = List Version} (λ w. w ∷ drop (i + 1) vs) (sym is) in
    ap (λ o. o >>= λ x. before x rest) (sym e)
    ∙ sym (joined p (part_of d portion work conds v.id (shown d (version_of v).row)) rest)
    ∙ ap (λ ws. before p (parts d portion work conds ws)) (sym this) ∙ h

-- ---- the fates

-- the removed ids and the added rows are those of the fates
pub record Told (fs : List Fate) (ids : List ℕ) (p : Parts) : Type 0 where
  pub come : map (λ (r : Stamped). r.cells) (new_rows fs) ≡ p.come
  pub gone : ids ≡ p.gone
  pub count : touched_count fs ≡ length p.gone

abbrev pub Agree : Option (List Fate) → List ℕ → Option Parts → Type 0
Agree None ids None = ⊤
Agree (Some fs) ids (Some p) = Told fs ids p
Agree _ _ _ = ⊥

-- the ids of versions
abbrev ids_of : List Version → List ℕ
ids_of vs = map (λ (v : Version). v.id) vs

stamped_cells : (d : TableDef) (m : ℤ) (rows : List Row)
    → map (λ (r : Stamped). r.cells) (map (stamped d m) rows) ≡ map (without_generated d.system) rows
stamped_cells d m [] = refl
stamped_cells d m (row ∷ rows) = ap {B = List Row} (λ rs. without_generated d.system row ∷ rs) (stamped_cells d m rows)

touched : (d : TableDef) (m : ℤ) (made : List Row) (id : ℕ) (fs : List Fate) (ids : List ℕ) (p : Parts) → Told fs ids p
    → Told (Replaced (map (stamped d m) made) ∷ fs) (id ∷ ids)
    (record { gone = (id ∷ []) ++ p.gone; come = map (without_generated d.system) made ++ p.come })
touched d m made id fs ids p t = record {
  come = map-append (λ (r : Stamped). r.cells) (map (stamped d m) made) (new_rows fs)
      ∙ (λ i. stamped_cells d m made i ++ t.come i);
  gone = ap (λ xs. id ∷ xs) t.gone;
  count = ap suc t.count;
}

step : (d : TableDef) (m : ℤ) (cut : List Row
    → List Row) (v : Version) (kept : List Version) (t : Option Bool) (made : Option (List Row))
    (fs : Option (List Fate)) (q : Option Parts) → Agree fs (ids_of kept) q
    → Agree (with_front (t >>= λ b. fate_where b (made >>= λ rs. Some (Replaced (map (stamped d m) (cut rs))))) fs)
    (ids_of (cond (is_yes t) (v ∷ kept) kept))
    ((t >>= λ b. part_where b
    (made >>= λ rs. Some (record { gone = v.id ∷ []; come = map (without_generated d.system) (cut rs) }))) >>= λ p.
    before p q)
step d m cut v kept None made fs q h = tt
step d m cut v kept (Some true) None fs q h = tt
step d m cut v kept (Some true) (Some rs) None None h = tt
step d m cut v kept (Some true) (Some rs) None (Some q) h = absurd h
step d m cut v kept (Some true) (Some rs) (Some fs) None h = absurd h
step d m cut v kept (Some true) (Some rs) (Some fs) (Some q) h = touched d m (cut rs) v.id fs (ids_of kept) q h
step d m cut v kept (Some false) made None None h = tt
step d m cut v kept (Some false) made None (Some q) h = absurd h
step d m cut v kept (Some false) made (Some fs) None h = absurd h
step d m cut v kept (Some false) made (Some fs) (Some q) h = record { come = h.come; gone = h.gone; count = h.count }

-- the fates of the versions' rows agree with the effect
pub fates_agree : (d : TableDef) (m : ℤ) (portion : Option Period) (work : Work) (conds : List Cond) (vs : List Version)
    → Agree (map_all (λ r. fate d m portion work conds (shown d r)) (rows_in vs))
    (ids_of (filter (λ (v : Version). is_yes (is_touched d portion conds (shown d (version_of v).row))) vs))
    (parts d portion work conds vs)
fates_agree d m portion work conds [] = record { come = refl; gone = refl; count = refl }
fates_agree d m portion work conds (v ∷ vs) =
    let row : Row = shown d (version_of v).row in
    step d m (pieces d portion row) v
    (filter (λ (w : Version). is_yes (is_touched d portion conds (shown d (version_of w).row))) vs)
    (is_touched d portion conds row) (made_of work row)
    (map_all (λ r. fate d m portion work conds (shown d r)) (rows_in vs)) (parts d portion work conds vs)
    (fates_agree d m portion work conds vs)

-- if all evaluations are in range, so are the fates
pub agreed : (fs : Option (List Fate)) (ids : List ℕ) (q : Option Parts) (p : Parts) → q ≡ Some p → Agree fs ids q
    → (gs : List Fate) × ((fs ≡ Some gs) × Told gs ids p)
agreed None ids None p e h = absurd cc
agreed None ids (Some q) p e h = absurd h
agreed (Some gs) ids None p e h = absurd h
agreed (Some gs) ids (Some q) p e h = let same : q ≡ p = cc in (gs, (refl, subst (λ x. Told gs ids x) same h))

-- if an evaluation is out of range, so are the fates
pub disagreed : (fs : Option (List Fate)) (ids : List ℕ) (q : Option Parts) → q ≡ None → Agree fs ids q → fs ≡ None
disagreed None ids q e h = refl
disagreed (Some gs) ids None e h = absurd h
disagreed (Some gs) ids (Some q) e h = absurd cc
