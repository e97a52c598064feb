-- If the open transaction has ended no version, all versions stored as current are current rows.
use Rattle.std.proofs.Common.{◌≡◌, ℕ, suc, ◌<◌, true, cond, List}
use Rattle.std.proofs.Common.{[], ◌∷◌, filter, length, refl, sym, ap, subst, ◌∙◌}
use Rattle.std.proofs.Common.{arith, inl, inr}
use Rattle.std.specs.Prelude.{◌&&◌, Bool, Contains, ℤ, ◌<ℤ◌, Option, Some, None, slice_index_or}
use Rattle.std.proofs.lemmas.Bool.{cases_lt}
use Rattle.std.proofs.lemmas.Bool.Decides.{Decides-int_eq}
use Rattle.std.proofs.lemmas.Int.{ints}
use Rattle.tql_spec.proofs.BagFolds.{same_length}
use Rattle.tql_spec.proofs.Bags.{same-refl}
use Rattle.tql_spec.proofs.Members.{lt_tells}
use Rattle.tql_spec.specs.Calendar.{high}
use Rattle.tql_spec.specs.Definition.{Version}
use Rattle.tql_value.specs.declared.when.When.TheVariants.{Now}
use Rattle.tql_versions.specs.Changes.{Under, alive, is_current, nothing}
use Rattle.tql_versions.specs.Readings.{asked, is_answer, open_ones}
use Rattle.tql_store_rows.proofs.Lending.{are-current}
use Rattle.tql_store_rows.specs.Readings.{AreEnded, IsCount}
use Rattle.tql_store_rows.specs.TableModel as rows
use Rattle.tql_store_rows.specs.TableModel.{AtRest, InTurn, IsMarked, named}
use Rattle.tql_store.proofs.Removing.{alive-current}
use Rattle.tql_store.proofs.StoreLaws.{answers-found}
use Rattle.tql_store.proofs.Turning.{before}
use Rattle.tql_store.specs.Orderly.{IsOrderly, table_at}
use Rattle.tql_store.specs.StoreModel.{StoreModel, live}
use Rattle.tql_store.specs.Views.{CountsNow}
use Rattle.tql_store.specs.declared.tables.TableSlot.{TableSlot}

-- ---- all versions stored as current are open

all_open : (vs : List Version) → ((k : ℕ) → k < length vs → is_answer Now (slice_index_or vs k nothing) ≡ true)
    → open_ones vs ≡ vs
all_open [] h = refl
all_open (v ∷ vs) h =
    ap (λ (b : Bool). cond b (v ∷ open_ones vs) (open_ones vs)) (h 0 (omega (arith)))
    ∙ ap (λ us. v ∷ us) (all_open vs (λ k l. h (suc k) (omega (arith, l))))

both : (v : Version) → is_current v ≡ true → alive v ≡ true → is_answer Now v ≡ true
both v current a = ap (λ (b : Bool). b && is_current v) a ∙ current

-- between transactions
alive_at_rest : (last : Option ℤ) (h : rows.TableModel) → Under last high → AtRest last h → (k : ℕ)
    → k < length h.current → is_current (named h k) ≡ true → alive (named h k) ≡ true
alive_at_rest last h below r k l e =
    let ends : (named h k).end ≡ high = (Decides-int_eq (named h k).end high).0 e in
    let starts : (named h k).row.start <ℤ high =
    before last high (named h k).row.start below (r.since.began k (subst (λ (n : ℕ). k < n) (sym r.all_based) l)) in
    elim (lt_tells (named h k).row.start (named h k).end) [
      | inl s ↦ s.0
      | inr s ↦ absurd (omega (arith, ints, ends, starts, s.1))
    ]

-- in a transaction that has ended none
current_in_turn : (m : ℤ) (h : rows.TableModel) → InTurn m h → h.ended ≡ [] → h.dead ≡ [] → (k : ℕ)
    → k < length h.current → is_current (named h k) ≡ true
current_in_turn m h t none_ended none_dead k l =
    elim (t.marked k l) [
      | inl e ↦ (Decides-int_eq (named h k).end high).1 e
      | inr e ↦ absurd (elim (cases_lt k h.base) [
        | inl a ↦ nowhere h.ended none_ended (e.1.0 a)
        | inr a ↦ nowhere h.dead none_dead (e.1.1 a)
      ])
    ]
  where
    nowhere : (js : List ℕ) → js ≡ [] → Contains js k → ⊥
    nowhere js none (j, within, is) = omega (arith, within, ap length none)

pub open_current : (places : List TableSlot) (tables : List rows.TableModel) (touched : List ℕ)
    (working last : Option ℤ) → IsOrderly places tables touched working last → (t n : ℕ)
    → IsCount (table_at tables t) n → open_ones (table_at tables t).current ≡ (table_at tables t).current
open_current places tables touched None last o t n c =
    let h = table_at tables t in
    let r = o.ready.rest t in
    all_open h.current (λ k l. both (named h k) (r.is_open k l)
    (alive_at_rest last h o.ready.below r k l (r.is_open k l)))
open_current places tables touched (Some m) last o t n c =
    let h = table_at tables t in
    let turn = o.ready.turn t in
    let current : (k : ℕ) → k < length h.current → is_current (named h k) ≡ true =
    current_in_turn m h turn c.none_ended c.none_dead in
    all_open h.current (λ k l. both (named h k) (current k l) (alive-current m h turn k l (current k l)))

-- ---- their number

pub rows_counted : (h : rows.TableModel) (n : ℕ) → AreEnded h → open_ones h.current ≡ h.current → n ≡ length h.current
    → n ≡ length (filter (asked Now) (rows.live h))
rows_counted h n ended all is =
    is ∙ sym (ap length all) ∙ same_length ((are-current h h.current refl).bag ended)

pub counts_now : (h : StoreModel) (t n : ℕ) → n ≡ length (filter (asked Now) (live h t)) → CountsNow h t n
counts_now h t n is = record {
  versions = is;
  copies = λ within copies working r. is ∙ same_length
      (answers-found h t Now (filter (asked Now) (live h t)) refl (same-refl (filter (asked Now) (live h t))) within
      copies working r);
}
