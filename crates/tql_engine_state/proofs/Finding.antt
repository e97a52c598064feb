-- The meaning of a plan over a store is the answer of the reference model.
use Rattle.std.proofs.Common.{◌≡◌, ◌<◌, refl, sym, ap, subst, ◌∙◌, ℕ, zero, suc, List, [], ◌∷◌, ◌++◌, map, length}
use Rattle.std.proofs.Common.{Option, Some, None, arith, Bool, true, false, inl, inr}
use Rattle.std.specs.Prelude.{◌||◌, IsTrue, is_some, slice_get, All}
use Rattle.std.specs.List.{AllByRecursion, flat_map}
use Rattle.std.proofs.lemmas.List.{map-append}
use Rattle.std.proofs.lemmas.List.Elements.{All-from_recursion, All-map}
use Rattle.tql_spec.specs.Bag.{In}
use Rattle.tql_spec.specs.Datum.{Row}
use Rattle.tql_spec.specs.Definition.{TableDef, full, table_at}
use Rattle.tql_spec.specs.History.{TableEntry, found, table_history}
use Rattle.tql_spec.specs.Horizon.{chain_refs, is_before, joined_ref, refs}
use Rattle.tql_spec.specs.Machine.{State, bag_of, entries}
use Rattle.tql_spec.specs.Query.{Chain, Cross, Inner, Join, Left, Query, Ref, answer}
use Rattle.tql_spec.specs.Typing.{IsTypedState}
use Rattle.tql_spec.proofs.Horizons.{answer_same, none_asks}
use Rattle.tql_spec.proofs.MemberLists.{in_either, in_map}
use Rattle.tql_bound.specs.Placed.{AreChainsPlaced, AreJoinsPlaced, IsPlacedQuery, IsPlacedRef, ref_of}
use Rattle.tql_bound.specs.Queries.{chain_of, join_by, join_of, bound_query_of, references_in, references_of}
use Rattle.tql_bound.specs.References.{reference_of}
use Rattle.tql_bound.specs.declared.query.Chain as code
use Rattle.tql_bound.specs.declared.query.Join as joined
use Rattle.tql_bound.specs.declared.query.JoinKind.{JoinKind}
use Rattle.tql_bound.specs.declared.query.JoinKind.TheVariants as kind
use Rattle.tql_bound.specs.declared.query.BoundQuery.{BoundQuery}
use Rattle.tql_bound.specs.declared.reference.Reference.{Reference}
use Rattle.tql_catalog.specs.Tables.{definitions_of}
use Rattle.tql_catalog.specs.declared.catalog.Table.{Table}
use Rattle.tql_exec_read.specs.Found.{AreRows, IsReadable, bags_in, completed}
use Rattle.tql_expr.specs.Meaning.{cond}
use Rattle.tql_expr.specs.declared.terms.Terms.{Terms}
use Rattle.tql_plan_access.specs.Access.{IsRow, period_columns}
use Rattle.tql_plan.specs.Meaning.{Bags, meaning, source_for, sources_of, table_number_at}
use Rattle.tql_plan.specs.Nodes.{Scan}
use Rattle.tql_plan.specs.declared.plan.Plan.{Plan}
use Rattle.tql_store.specs.Represents.{seen_by}
use Rattle.tql_store.specs.StoreModel.{StoreModel, has_table, is_versioned}
use Rattle.tql_value.specs.When.{is_now}
use Rattle.tql_engine_state.specs.Showing.{CanAnswer, Shows}
use Rattle.tql_engine_state.proofs.Shown.{found_rows}

-- ---- a table

-- the table at an index
pub table_there : (ps : List Table) (t : ℕ) → t < length (definitions_of ps) → (p : Table) × (slice_get ps t ≡ Some p)
table_there [] t h = absurd (omega (arith, h))
table_there (p ∷ ps) zero h = (p, refl)
table_there (p ∷ ps) (suc t) h = table_there ps t (omega (arith, h))

pub number_is : (ps : List Table) (t : ℕ) (p : Table) → slice_get ps t ≡ Some p → table_number_at ps t ≡ p.id
number_is [] t p e = absurd (cc)
number_is (q ∷ ps) zero p e = ap (λ (x : Table). x.id) (inside q p e)
  where
    inside : (q p : Table) → Some q ≡ Some p → q ≡ p
    inside q p e = cc
number_is (q ∷ ps) (suc t) p e = number_is ps t p e

pub defined_as : (ps : List Table) (t : ℕ) (p : Table) → slice_get ps t ≡ Some p
    → table_at (definitions_of ps) t ≡ p.definition
defined_as [] t p e = absurd (cc)
defined_as (q ∷ ps) zero p e = ap (λ (x : Table). x.definition) (inside q p e)
  where
    inside : (q p : Table) → Some q ≡ Some p → q ≡ p
    inside q p e = cc
defined_as (q ∷ ps) (suc t) p e = defined_as ps t p e

-- ---- references

-- the table references of a query are the bound ones
joined_to : (t : Terms) (j : joined.Join) → joined_ref (join_of t j) ≡ reference_of j.reference
joined_to t j = by_kind j.kind
  where
    by_kind : (k : JoinKind)
        → joined_ref (join_by k (reference_of j.reference) (map (cond t) j.on.items)) ≡ reference_of j.reference
    by_kind kind.Inner = refl
    by_kind kind.Left = refl
    by_kind kind.Cross = refl

joins_refs : (t : Terms) (js : List joined.Join)
    → map joined_ref (map (join_of t) js) ≡ map reference_of (map (λ (j : joined.Join). j.reference) js)
joins_refs t [] = refl
joins_refs t (j ∷ js) = λ i. joined_to t j i ∷ joins_refs t js i

chains_refs : (t : Terms) (cs : List code.Chain)
    → flat_map chain_refs (map (chain_of t) cs) ≡ map reference_of (flat_map references_in cs)
chains_refs t [] = refl
chains_refs t (c ∷ cs) =
    (λ i. (reference_of c.first ∷ joins_refs t c.joins.items i) ++ chains_refs t cs i)
    ∙ sym (map-append reference_of (references_in c) (flat_map references_in cs))

-- a property of all references of a query is a property of all bound ones
pub each_reference : (x : BoundQuery) (P : Reference → Type 0)
    → ((r : Reference) → In (reference_of r) (refs (bound_query_of x)) → P r) → All P (references_of x)
each_reference x P k =
    All-from_recursion P (references_of x) (members (references_of x)
    (λ r i. k r (subst (In (reference_of r)) (sym (chains_refs x.terms x.chains.items))
    (in_map reference_of r (references_of x) i))))
  where
    members : (rs : List Reference) → ((r : Reference) → In r rs → P r) → AllByRecursion P rs
    members [] f = tt
    members (r ∷ rs) f = (f r (inl refl), members rs (λ q i. f q (inr i)))

-- each references an existing table
module _ (defs : List TableDef) where
  join_placed : (j : Join) → IsPlacedRef defs (ref_of j) → IsPlacedRef defs (joined_ref j)
  join_placed (Inner r on) h = h
  join_placed (Left r on) h = h
  join_placed (Cross r) h = h

  joins_placed : (js : List Join) → AreJoinsPlaced defs js → (r : Ref) → In r (map joined_ref js) → IsPlacedRef defs r
  joins_placed [] h r m = absurd m
  joins_placed (j ∷ js) h r (inl q) = subst (IsPlacedRef defs) (sym q) (join_placed j h.0)
  joins_placed (j ∷ js) h r (inr m) = joins_placed js h.1 r m

  chain_placed : (c : Chain) → IsPlacedRef defs c.first × AreJoinsPlaced defs c.joins → (r : Ref)
      → In r (chain_refs c) → IsPlacedRef defs r
  chain_placed c h r (inl q) = subst (IsPlacedRef defs) (sym q) h.0
  chain_placed c h r (inr m) = joins_placed c.joins h.1 r m

  chains_placed : (cs : List Chain) → AreChainsPlaced defs cs → (r : Ref) → In r (flat_map chain_refs cs)
      → IsPlacedRef defs r
  chains_placed [] h r m = absurd m
  chains_placed (c ∷ cs) h r m = elim (in_either r (chain_refs c) (flat_map chain_refs cs) m) [
    | inl i ↦ chain_placed c h.0 r i
    | inr i ↦ chains_placed cs h.1 r i
  ]

  pub placed_ref : (q : Query) → IsPlacedQuery defs q → (r : Ref) → In r (refs q) → IsPlacedRef defs r
  placed_ref q placed = chains_placed q.chains placed.references

-- a reference of the code to an existing table
abbrev pub IsThere : List TableDef → Reference → Type 0
IsThere defs r = IsPlacedRef defs (reference_of r)

pub references_there : (defs : List TableDef) (x : BoundQuery) → IsPlacedQuery defs (bound_query_of x)
    → All (IsThere defs) (references_of x)
references_there defs x placed =
    each_reference x (IsThere defs) (λ r i. placed_ref defs (bound_query_of x) placed (reference_of r) i)

-- a property of the scans of all references is a property of all sources of a plan
sources_all : (tables : List Table) (x : BoundQuery) (p : Plan) (P : Scan → Type 0)
    → sources_of p ≡ map (λ (r : Reference). source_for tables (reference_of r)) (references_of x)
    → ((r : Reference) → In (reference_of r) (refs (bound_query_of x)) → P (source_for tables (reference_of r)))
    → All P (sources_of p)
sources_all tables x p P same k =
    subst (All P) (sym same)
    (All-map P (λ (r : Reference). source_for tables (reference_of r)) (references_of x)
    (each_reference x (λ r. P (source_for tables (reference_of r))) k))

-- ---- what a store shows

module _ (tables : List Table) (r : StoreModel) (s : State) (k : Shows tables r s) where
  -- the rows that each scan returns
  abbrev pub bags_of : Bags
  bags_of = bags_in r k.copies k.working

  -- a reference finds the same rows as in the reference model
  bag_is : (q : Ref) → IsPlacedRef (definitions_of tables) q → IsTrue (has_table r (table_number_at tables q.table))
      → bags_of (source_for tables q) ≡ bag_of s q
  bag_is q placed there =
      let t = table_there tables q.table placed.table in
      let p : Table = t.0 in
      let number = number_is tables q.table p t.1 in
      let seen : seen_by r.working k.copies k.working (table_number_at tables q.table)
      ≡ table_history q.table (entries s) =
      ap (seen_by r.working k.copies k.working) number
      ∙ k.seen q.table p t.1 (subst (λ n. IsTrue (has_table r n)) number there) in
      ap (λ (es : List TableEntry). map (completed (table_at (definitions_of tables) q.table).system)
      (found q.when es)) seen
      ∙ ap (λ (ds : List TableDef). map (full (table_at ds q.table))
      (found q.when (table_history q.table (entries s)))) (sym k.fits.definitions)

  -- so the meaning of a plan is the answer of the reference model
  pub meaning_is : (x : BoundQuery) (p : Plan) → IsPlacedQuery (definitions_of tables) (bound_query_of x)
      → ((q : Ref) → In q (refs (bound_query_of x)) → IsTrue (has_table r (table_number_at tables q.table)))
      → ((bag : Ref → List Row) (bags : Bags) → ((q : Ref) → bags (source_for tables q) ≡ bag q)
      → meaning bags p ≡ answer bag (bound_query_of x))
      → meaning bags_of p ≡ answer (bag_of s) (bound_query_of x)
  meaning_is x p placed there means =
      means (λ q. bags_of (source_for tables q)) bags_of (λ q. refl)
      ∙ answer_same (λ q. bags_of (source_for tables q)) (bag_of s) (bound_query_of x)
      (λ q i. bag_is q (placed_ref (definitions_of tables) (bound_query_of x) placed q i) (there q i))

  -- the table of a scan is versioned if its past is read
  kept_there : (q : Ref) → IsPlacedRef (definitions_of tables) q
      → IsTrue (has_table r (table_number_at tables q.table))
      → IsTrue (is_now q.when || is_versioned r (table_number_at tables q.table))
  kept_there q placed there =
      let t = table_there tables q.table placed.table in
      let p : Table = t.0 in
      let number = number_is tables q.table p t.1 in
      subst (λ n. IsTrue (is_now q.when || is_versioned r n)) (sym number)
      (subst (λ b. IsTrue (is_now q.when || b))
      (sym (k.versioned q.table p t.1 (subst (λ n. IsTrue (has_table r n)) number there)))
      (subst (λ (d : TableDef). IsTrue (is_now q.when || is_some d.system)) (defined_as tables q.table p t.1)
      placed.versioned))

-- ---- what a plan reads

module _ (tables : List Table) (r : StoreModel) (x : BoundQuery) (p : Plan)
    (placed : IsPlacedQuery (definitions_of tables) (bound_query_of x)) (can : CanAnswer tables r (bound_query_of x))
    (same : sources_of p ≡ map (λ (q : Reference). source_for tables (reference_of q)) (references_of x)) where
  placed_here : (q : Reference) → In (reference_of q) (refs (bound_query_of x)) → IsThere (definitions_of tables) q
  placed_here q i = placed_ref (definitions_of tables) (bound_query_of x) placed (reference_of q) i

  within_here : (q : Reference) → In (reference_of q) (refs (bound_query_of x))
      → is_before r.horizon (reference_of q).when ≡ false
  within_here q i =
      none_asks (λ (k : Ref). is_before r.horizon k.when) (refs (bound_query_of x)) can.within (reference_of q) i

  -- each source can be read
  pub sources_readable : All (IsReadable r) (sources_of p)
  sources_readable = sources_all tables x p (IsReadable r) same (λ q i. record {
    there = can.there (reference_of q) i;
    versioned = kept_there tables r can.state can.shows (reference_of q) (placed_here q i)
        (can.there (reference_of q) i);
    within = within_here q i;
  })

  -- each source returns rows of its table, with the types of its columns
  pub sources_rows : (s : State) (k : Shows tables r s) → AreRows (bags_of tables r s k) (sources_of p)
  sources_rows s k =
      sources_all tables x p (λ (c : Scan). All (IsRow c.period c.width) (bags_of tables r s k c)) same scan_rows
    where
      scan_rows : (q : Reference) → In (reference_of q) (refs (bound_query_of x))
          → All (IsRow (period_columns (table_at (definitions_of tables) q.table)) q.width)
          (bags_of tables r s k (source_for tables (reference_of q)))
      scan_rows q i =
          let here = placed_here q i in
          let there = can.there (reference_of q) i in
          let t = table_there tables q.table here.table in
          let o : Table = t.0 in
          let is = defined_as tables q.table o t.1 in
          let number = number_is tables q.table o t.1 in
          subst (All (IsRow (period_columns (table_at (definitions_of tables) q.table)) q.width))
          (sym (bag_is tables r s k (reference_of q) here there))
          (subst (λ n. All (IsRow (period_columns (table_at (definitions_of tables) q.table)) n)
          (bag_of s (reference_of q)))
          (sym (here.width ∙ ap (λ (d : TableDef). length d.columns) is))
          (subst (λ (d : TableDef). All (IsRow (period_columns d) (length o.definition.columns))
          (bag_of s (reference_of q))) (sym is)
          (found_rows tables r s can.state k can.shows can.typed q.table o t.1 q.when
          (subst (λ n. IsTrue (has_table r n)) number there)
          (subst (λ n. IsTrue (is_now (reference_of q).when || is_versioned r n)) number
          (kept_there tables r s k (reference_of q) here there)) (within_here q i))))
