-- Pruning each table of a store.
use Rattle.std.proofs.Common.{◌≡◌, ℕ, zero, suc, ◌+◌, ◌<◌, ◌≤◌, Bool, true, false, List, [], ◌∷◌, map, length}
use Rattle.std.proofs.Common.{get_or, set, refl, sym, ap, subst, ◌∙◌, arith, inl, inr}
use Rattle.std.specs.Prelude.{ℤ, IsNone, Option, None, Some, if◌then◌else◌}
use Rattle.std.proofs.lemmas.Bool.{cases_lt}
use Rattle.std.proofs.lemmas.List.{get_or_default, get_or-set_other, get_or-set_same, length-set}
use Rattle.tql_spec.proofs.Members.{by_bool}
use Rattle.tql_spec.specs.Bag.{SameBag}
use Rattle.tql_spec.specs.Definition.{Version}
use Rattle.tql_store_rows.proofs.Leaving.{kept_pruned}
use Rattle.tql_versions.specs.Changes.{left_by}
use Rattle.tql_store_rows.specs.Pruned.{IsPruned}
use Rattle.tql_store_rows.specs.TableModel.{TableModel, versions}
use Rattle.tql_store_rows.specs.TableModel as rows
use Rattle.tql_store.proofs.Storing.{live-of, live-shown, same-list, shown}
use Rattle.tql_store.specs.Orderly.{empty, table_at, ArePruned, IsOrderly}
use Rattle.tql_store.specs.StoreModel.{StoreModel, live}
use Rattle.tql_store.specs.TableSlots.{slot_at, is_brief, is_kept}
use Rattle.tql_store.specs.declared.tables.TableSlot.{TableSlot}
use Rattle.tql_store.specs.declared.tables.TableSlot.TheVariants.{Free, Versioned, Unversioned}

-- ---- one table after another is pruned

-- the first `n` tables are pruned
pub record HavePruned (h : ℤ) (n : ℕ) (old new : List TableModel) : Type 0 where
  pub even : length new ≡ length old
  pub done : (t : ℕ) → t < n → IsPruned h (table_at old t) (table_at new t)
  pub others : (t : ℕ) → n ≤ t → table_at new t ≡ table_at old t

pub none_pruned : (h : ℤ) (tables : List TableModel) → HavePruned h 0 tables tables
none_pruned h tables = record {
  even = refl;
  done = λ t l. absurd (omega (arith, l));
  others = λ t l. refl;
}

-- no version of the next table is recorded as ended
pub ended_here : (h : ℤ) (n : ℕ) (old now : List TableModel) (x d : TableModel)
    → ((t : ℕ) → (table_at old t).ended ≡ []) → HavePruned h n old now → n < length now → x ≡ get_or now n d
    → x.ended ≡ []
ended_here h n old now x d none k l read =
    ap (λ (y : TableModel). y.ended) (read ∙ get_or_default now n d (empty false) l ∙ k.others n (omega arith)) ∙ none n

pub one_pruned : (h : ℤ) (n : ℕ) (old now : List TableModel) (x d : TableModel) → n < length now
    → IsPruned h (get_or now n d) x → HavePruned h n old now → HavePruned h (n + 1) old (set now n x)
one_pruned h n old now x d l pruned k = record {
  even = length-set now n x ∙ k.even;
  done = λ t a. elim (cases_lt t n) [
    | inl b ↦ subst (IsPruned h (table_at old t))
        (sym (get_or-set_other now n t x (empty false) (λ e. omega (arith, e, b)))) (k.done t b)
    | inr b ↦
        let here : n ≡ t = omega (arith, a, b) in
        subst (λ (i : ℕ). IsPruned h (table_at old i) (table_at (set now n x) i)) here
        (subst (IsPruned h (table_at old n)) (sym (get_or-set_same now n x (empty false) l))
        (subst (λ (y : TableModel). IsPruned h y x)
        (get_or_default now n d (empty false) l ∙ k.others n (omega arith)) pruned))
  ];
  others = λ t a. get_or-set_other now n t x (empty false) (λ e. omega (arith, e, a)) ∙ k.others t (omega (arith, a));
}

beyond : (ts : List TableModel) (t : ℕ) → length ts ≤ t → table_at ts t ≡ empty false
beyond [] t l = refl
beyond (x ∷ ts) zero l = absurd (omega (arith, l))
beyond (x ∷ ts) (suc t) l = beyond ts t (omega (arith, l))

pub all_pruned : (h h' : ℤ) (n : ℕ) (old new : List TableModel) → h' ≡ h → length new ≤ n → HavePruned h' n old new
    → ArePruned h old new
all_pruned h h' n old new at l k = subst (λ (x : ℤ). ArePruned x old new) at (record {
  even = k.even;
  each = λ t. elim (cases_lt t n) [
    | inl a ↦ k.done t a
    | inr b ↦ kept_pruned h' (table_at old t) (table_at new t) (k.others t b)
        (subst (λ (x : TableModel). left_by h' x.closed ≡ x.closed)
        (sym (beyond old t (let e = k.even in omega (arith, e, b, l)))) refl)
  ];
})

-- ---- the store

pub none_open : (working : Option ℤ) → IsNone working → working ≡ None
none_open None e = refl
none_open (Some m) e = cc

-- without a transaction, under an equal argument
pub resting : {places : List TableSlot} {tables : List TableModel} {touched : List ℕ} {last : Option ℤ}
    (working : Option ℤ) → working ≡ None → IsOrderly places tables touched working last
    → IsOrderly places tables touched None last
resting {places} {tables} {touched} {last} working e o =
    subst (λ (w : Option ℤ). IsOrderly places tables touched w last) e o

pub prune-orderly : (h : ℤ) (working last : Option ℤ) (places : List TableSlot) (old new : List TableModel)
    (touched : List ℕ) → working ≡ None → IsOrderly places old touched working last → ArePruned h old new
    → IsOrderly places new touched working last
prune-orderly h working last places old new touched none ordered p =
    subst (λ (w : Option ℤ). IsOrderly places new touched w last) (sym none) (record {
      even = p.even ∙ o.even;
      keeps = λ t. (p.each t).keeps ∙ o.keeps t;
      gone = λ t free. (p.each t).brief last (o.ready.rest t) (o.keeps t ∙ ap is_kept free) ∙ o.gone t free;
      ready = record {
        none = o.ready.none;
        below = o.ready.below;
        rest = λ t. (p.each t).rest last (o.ready.rest t);
      };
    })
  where
    o : IsOrderly places old touched None last
    o = resting working none ordered

brief_not_kept : (p : TableSlot) → is_brief p ≡ true → is_kept p ≡ false
brief_not_kept Free e = refl
brief_not_kept Versioned e = absurd (let f : false ≡ true = e in cc)
brief_not_kept Unversioned e = refl

pub pruned-versions : (k horizon : ℤ) (working last : Option ℤ) (places : List TableSlot) (old new : List TableModel)
    (touched : List ℕ) (h g : StoreModel) → working ≡ None → IsOrderly places old touched working last
    → ArePruned k old new → shown places old working last horizon ≡ h → g.versions ≡ map versions new → (t : ℕ)
    → SameBag (live g t) (if is_brief (slot_at h.tables t) then live h t else left_by k (live h t))
pruned-versions k horizon working last places old new touched h g none ordered p is now t =
    subst (λ (vs : List Version). SameBag vs (if is_brief (slot_at h.tables t) then live h t else left_by k (live h t)))
    (sym (live-shown new g t now))
    (subst (λ (vs : List Version). SameBag (rows.live (table_at new t))
    (if is_brief (slot_at h.tables t) then vs else left_by k vs)) (sym (live-of old h t is))
    (subst (λ (s : StoreModel). SameBag (rows.live (table_at new t))
    (if is_brief (slot_at s.tables t) then rows.live (table_at old t) else left_by k (rows.live (table_at old t)))) is
    (by_bool (is_brief (slot_at places t))
    (λ brief. subst (λ (b : Bool). SameBag (rows.live (table_at new t))
    (if b then rows.live (table_at old t) else left_by k (rows.live (table_at old t)))) (sym brief)
    (same-list ((p.each t).brief last (o.ready.rest t)
    (o.keeps t ∙ brief_not_kept (slot_at places t) brief))))
    (λ kept. subst (λ (b : Bool). SameBag (rows.live (table_at new t))
    (if b then rows.live (table_at old t) else left_by k (rows.live (table_at old t)))) (sym kept)
    ((p.each t).versions last (o.ready.rest t))))))
  where
    o : IsOrderly places old touched None last
    o = resting working none ordered
