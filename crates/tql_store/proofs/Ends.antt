-- The versions of a store end by the highest moment.
use Rattle.std.proofs.Common.{◌≡◌, ℕ, List, subst, arith, inl, inr}
use Rattle.std.specs.Prelude.{ℤ, ◌≤ℤ◌, Option, Some, None}
use Rattle.std.proofs.lemmas.Bool.Decides.{Decides-int_eq}
use Rattle.std.proofs.lemmas.Int.{ints}
use Rattle.tql_spec.specs.Bag.{In}
use Rattle.tql_spec.specs.Calendar.{high}
use Rattle.tql_spec.specs.Definition.{Version}
use Rattle.tql_store_rows.specs.TableModel as rows
use Rattle.tql_store_rows.specs.TableModel.{AtRest, InTurn, named, versions}
use Rattle.tql_store.proofs.Storing.{readable-at}
use Rattle.tql_store.proofs.Turning.{in-append, in-place}
use Rattle.tql_store.specs.Orderly.{table_at, IsOrderly}
use Rattle.tql_store.specs.declared.tables.TableSlot.{TableSlot}

-- versions end by the highest moment
abbrev pub AreBounded : List Version → Type 0
AreBounded vs = (v : Version) → In v vs → v.end ≤ℤ high

-- those stored as current in a table at rest
rest-ends : (last : Option ℤ) (h : rows.TableModel) → AtRest last h → AreBounded h.current
rest-ends last h r v i =
    let s = in-place v h.current i in
    let e : v.end ≡ high =
    subst (λ (w : Version). w.end ≡ high) s.is
    ((Decides-int_eq (named h s.place).end high).0 (r.is_open s.place s.within)) in
    omega (arith, ints, e)

-- those stored as current in a table in a transaction
turn-ends : (m : ℤ) (h : rows.TableModel) → InTurn m h → AreBounded h.current
turn-ends m h t v i =
    let s = in-place v h.current i in
    let below = t.below in
    subst (λ (w : Version). w.end ≤ℤ high) s.is (elim (t.marked s.place s.within) [
      | inl e ↦ omega (arith, ints, e)
      | inr e ↦ let a = e.0 in omega (arith, ints, a, below)
    ])

-- those of each table of a store
pub are-bounded : (places : List TableSlot) (tables : List rows.TableModel) (touched : List ℕ) (working last : Option ℤ)
    → IsOrderly places tables touched working last → (t : ℕ) → AreBounded (versions (table_at tables t))
are-bounded places tables touched working last o t v i =
    elim (in-append v (table_at tables t).current (table_at tables t).closed i) [
      | inl a ↦ current working o a
      | inr b ↦ let l = (readable-at places tables touched working last o t).ended v b in omega (arith, ints, l)
    ]
  where
    current : (w : Option ℤ) → IsOrderly places tables touched w last → In v (table_at tables t).current
        → v.end ≤ℤ high
    current None k a = rest-ends last (table_at tables t) (k.ready.rest t) v a
    current (Some m) k a = turn-ends m (table_at tables t) (k.ready.turn t) v a
