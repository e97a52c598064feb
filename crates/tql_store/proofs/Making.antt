-- What a change of one table's rows does to the list of all tables, from the contract clauses of the code.
use Rattle.std.proofs.Common.{◌≡◌, ℕ, ◌<◌, Bool, true, List, ◌++◌, map, filter, length, Result, Ok, Err, sym}
use Rattle.std.proofs.Common.{ap, subst, ◌∙◌}
use Rattle.std.specs.Prelude.{ℤ, slice_set, Option, Some, OnErr}
use Rattle.tql_spec.specs.Bag.{SameBag}
use Rattle.tql_spec.specs.Datum.{Row}
use Rattle.tql_spec.specs.Definition.{Stamped}
use Rattle.tql_versions.specs.Changes.{alive, closing, fresh, replaced}
use Rattle.tql_store_rows.specs.TableModel.{TableModel, AtRest, InTurn, IsJudged, versions, live}
use Rattle.tql_store.proofs.Numbers.{put-here, put-versions}
use Rattle.tql_store.proofs.Turning.{refused-rest, change-orderly, refused-orderly}
use Rattle.tql_store.proofs.Storing.{in_turn}
use Rattle.tql_store.specs.Orderly.{table_at, IsNoted, IsOrderly, HasTurned}
use Rattle.tql_store.specs.TableSlots.{slot_at, is_taken}
use Rattle.tql_store.specs.declared.tables.TableSlot.{TableSlot}

pub on_err : {A E P : Type 0} (r : Result A E) → P → OnErr r P
on_err (Ok a) p = tt
on_err (Err e) p = p

here-at : (ts : List TableModel) (i n : ℕ) (new : TableModel) → i ≡ n → n < length ts
    → table_at (slice_set ts i new) n ≡ new
here-at ts i n new q l = ap (λ (j : ℕ). table_at (slice_set ts j new) n) q ∙ put-here ts n new l

pub kept-versions : (i n : ℕ) (ts : List TableModel) (old new : TableModel) → i ≡ n → old ≡ table_at ts n
    → versions new ≡ versions old → map versions (slice_set ts i new) ≡ map versions ts
kept-versions i n ts old new q is e = put-versions ts i new (e ∙ ap versions is
    ∙ ap (λ (j : ℕ). versions (table_at ts j)) (sym q))

pub kept-rest : (m : ℤ) (i n : ℕ) (ts : List TableModel) (old new : TableModel) → i ≡ n → n < length ts
    → old ≡ table_at ts n
    → InTurn m new → new ≡ record old { room = new.room }
    → (last : Option ℤ) → AtRest last (table_at ts n) → AtRest last (table_at (slice_set ts i new) n)
kept-rest m i n ts old new q l is t e last r =
    subst (AtRest last) (sym (here-at ts i n new q l))
    (refused-rest m last old new t e (subst (AtRest last) (sym is) r))

pub ok-versions : (rs : List Row) (m m' : ℤ) (i n : ℕ) (ts : List TableModel) (old new : TableModel)
    (removed is : List ℕ) → m' ≡ m → i ≡ n → n < length ts → old ≡ table_at ts n → is ≡ removed
    → SameBag (live new) (filter alive (closing m' is old.current ++ old.closed) ++ map (fresh m') rs)
    → SameBag (live (table_at (slice_set ts i new) n))
    (filter alive (closing m removed (table_at ts n).current ++ (table_at ts n).closed) ++ map (fresh m) rs)
ok-versions rs m m' i n ts old new removed is at q l start same bag =
    subst (λ (x : ℤ). SameBag (live (table_at (slice_set ts i new) n))
    (filter alive (closing x removed (table_at ts n).current ++ (table_at ts n).closed) ++ map (fresh x) rs)) at
    (subst (λ (js : List ℕ). SameBag (live (table_at (slice_set ts i new) n))
    (filter alive (closing m' js (table_at ts n).current ++ (table_at ts n).closed) ++ map (fresh m') rs)) same
    (subst (λ (h : TableModel). SameBag (live (table_at (slice_set ts i new) n))
    (filter alive (closing m' is h.current ++ h.closed) ++ map (fresh m') rs)) start
    (subst (λ (h : TableModel). SameBag (live h)
    (filter alive (closing m' is old.current ++ old.closed) ++ map (fresh m') rs))
    (sym (here-at ts i n new q l)) bag)))

pub ok-judged : (rows : List Row) (m m' : ℤ) (i n : ℕ) (ts : List TableModel) (old new : TableModel)
    (removed is : List ℕ) → m' ≡ m → i ≡ n → n < length ts → old ≡ table_at ts n → is ≡ removed
    → ((gone : Stamped → Bool) → IsJudged gone is old → SameBag (live new) (replaced m' gone rows (live old)))
    → (gone : Stamped → Bool) → IsJudged gone removed (table_at ts n)
    → SameBag (live (table_at (slice_set ts i new) n)) (replaced m gone rows (live (table_at ts n)))
ok-judged rows m m' i n ts old new removed is at q l start same all gone j =
    subst (λ (x : ℤ). SameBag (live (table_at (slice_set ts i new) n)) (replaced x gone rows (live (table_at ts n)))) at
    (subst (λ (h : TableModel). SameBag (live (table_at (slice_set ts i new) n)) (replaced m' gone rows (live h))) start
    (subst (λ (h : TableModel). SameBag (live h) (replaced m' gone rows (live old))) (sym (here-at ts i n new q l))
    (all gone (subst (λ (js : List ℕ). IsJudged gone js old) (sym same)
    (subst (IsJudged gone removed) (sym start) j)))))

pub noted-at : (i n : ℕ) (first old new : List ℕ) → i ≡ n → first ≡ old → IsNoted i first new → IsNoted n old new
noted-at i n first old new q e h =
    subst (λ (xs : List ℕ). IsNoted n xs new) e (subst (λ (j : ℕ). IsNoted j first new) q h)

-- ---- in the store

pub in-moment : (inside working : Option ℤ) (m r : ℤ) → inside ≡ working → m ≡ r → working ≡ Some r → inside ≡ Some m
in-moment inside working m r e at is = e ∙ is ∙ ap (λ (x : ℤ). Some x) (sym at)

pub change-store : (m : ℤ) (working last : Option ℤ) (n : ℕ) (places : List TableSlot)
    (old first new all : List TableModel)
    (touched next : List ℕ) → working ≡ Some m → first ≡ old → is_taken (slot_at places n) ≡ true → n < length old
    → IsOrderly places old touched working last
    → HasTurned m n first new → IsNoted n touched next → all ≡ new → IsOrderly places all next working last
change-store m working last n places old first new all touched next at e there l o h is same =
    subst (λ (w : Option ℤ). IsOrderly places all next w last) (sym at)
    (subst (λ (ts : List TableModel). IsOrderly places ts next (Some m) last) (sym same)
    (change-orderly m last n places old new touched next there l (in_turn working m at o)
    (subst (λ (ts : List TableModel). HasTurned m n ts new) e h) is))

pub refused-store : (m : ℤ) (working last : Option ℤ) (n : ℕ) (places : List TableSlot)
    (old first new all : List TableModel)
    (touched next : List ℕ) → working ≡ Some m → first ≡ old → is_taken (slot_at places n) ≡ true
    → IsOrderly places old touched working last
    → HasTurned m n first new → next ≡ touched
    → ((l : Option ℤ) → AtRest l (table_at first n) → AtRest l (table_at new n)) → all ≡ new
    → IsOrderly places all next working last
refused-store m working last n places old first new all touched next at e there o h is rest same =
    subst (λ (w : Option ℤ). IsOrderly places all next w last) (sym at)
    (subst (λ (ts : List TableModel). IsOrderly places ts next (Some m) last) (sym same)
    (refused-orderly m last n places old new touched next there (in_turn working m at o)
    (subst (λ (ts : List TableModel). HasTurned m n ts new) e h) is
    (subst (λ (ts : List TableModel). (l : Option ℤ) → AtRest l (table_at ts n) → AtRest l (table_at new n)) e rest)))
