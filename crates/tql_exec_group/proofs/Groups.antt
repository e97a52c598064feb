-- One more row in the groups.
use Rattle.std.specs.Prelude.{◌≡◌, refl, ℕ, zero, suc, ◌+◌, ◌<◌, ◌≤◌, Bool, true, false, ◌||◌, not, List, [], ◌∷◌}
use Rattle.std.specs.Prelude.{◌++◌, map}
use Rattle.std.specs.Prelude.{filter, length, nat_eq, Option, Some, slice_get, slice_index_or, slice_set}
use Rattle.std.specs.Prelude.{MatchResult, Result, Ok, Err}
use Rattle.std.specs.List.{AllZip, list_any}
use Rattle.std.proofs.Common.{sym, ap, subst, ◌∙◌, cond, arith, drop, take}
use Rattle.std.proofs.Math.Nat.{zero-mul}
use Rattle.std.proofs.lemmas.Bool.{eqb-true}
use Rattle.std.proofs.lemmas.List.{append-nil, drop_all, drop_more, get_or-map, length-map, map-append}
use Rattle.std.proofs.lemmas.List.Elements.{filter-append}
use Rattle.std.proofs.lemmas.Option.{slice_get-get_or}
use Rattle.std.proofs.lemmas.Slice.Zip.{all_zipped_more, AllZip-long}
use Rattle.tql_spec.specs.Datum.{Row, same_row}
use Rattle.tql_spec.specs.Expression.{Cond, Expr}
use Rattle.tql_spec.specs.Query.{cells_at, distinct_rows, of_group, Scope, scopes}
use Rattle.tql_spec.specs.QueryLaws.{shown}
use Rattle.tql_spec.proofs.Members.{by_bool, same_row-self, same_row-is}
use Rattle.tql_value.specs.declared.refusal.Refusal.{Refusal}
use Rattle.tql_value.specs.declared.refusal.Refusal.TheVariants.{OutOfMemory}
use Rattle.tql_expr.proofs.Evaluations.{no_memory}
use Rattle.tql_expr.specs.Evaluated.{Fails, behind}
use Rattle.tql_expr.specs.declared.terms.Aggregate.{Aggregate}
use Rattle.tql_expr.specs.declared.terms.Terms.{Terms}
use Rattle.tql_expr.specs.declared.terms.Terms.{Terms}
use Rattle.tql_exec_group.specs.Begun.{Begins, Enters, IsPart, TakesAt}
use Rattle.tql_exec_fold.specs.Folded.{HasFolded, HaveFolded}
use Rattle.tql_exec_group.specs.Grouped.{joined, kept_keys, keys_of, scope_at, with_key, AreGrouped, HasGrouped}
use Rattle.tql_exec_numbered.specs.Numbered.{with_row}
use Rattle.tql_exec_fold.specs.declared.fold.Accumulator.{Accumulator}
use Rattle.tql_exec_group.specs.declared.grouping.Groups.{Groups}
use Rattle.tql_exec_numbered.proofs.Known.{found_known, row_known, row_new}
use Rattle.tql_exec_group.proofs.Parts.{inside, joined_more, long_before, parted, replaced, zip_get}
use Rattle.tql_exec_group.proofs.Repeats.{distinct_with}

-- ---- tests

or_parts : (a b : Bool) → (a || b) ≡ false → (a ≡ false) × (b ≡ false)
or_parts false b e = (refl, e)
or_parts true b e = absurd (cc)

not_both : (b : Bool) → b ≡ true → b ≡ false → ⊥
not_both b e f = cc

apart_back : (x y : Row) → same_row x y ≡ false → same_row y x ≡ false
apart_back x y e = by_bool (same_row y x)
    (λ k. absurd (not_both (same_row x x) (same_row-self x)
    (subst (λ z. same_row x z ≡ false) (same_row-is y x k) e)))
    (λ k. k)

-- ---- filters

kept : {X : Type 0} (p : X → Bool) (x : X) (xs : List X) → p x ≡ true → filter p (x ∷ xs) ≡ x ∷ filter p xs
kept p x xs e = ap (λ b. cond b (x ∷ filter p xs) (filter p xs)) e

left_out : {X : Type 0} (p : X → Bool) (x : X) (xs : List X) → p x ≡ false → filter p (x ∷ xs) ≡ filter p xs
left_out p x xs e = ap (λ b. cond b (x ∷ filter p xs) (filter p xs)) e

all_kept : {X : Type 0} (p : X → Bool) (xs : List X) → ((x : X) → p x ≡ true) → filter p xs ≡ xs
all_kept p [] h = refl
all_kept {X} p (x ∷ xs) h = kept p x xs (h x) ∙ ap {B = List X} (λ ys. x ∷ ys) (all_kept p xs h)

any_kept : (q p : Row → Bool) (xs : List Row) → list_any q xs ≡ false → list_any q (filter p xs) ≡ false
any_kept q p [] e = refl
any_kept q p (x ∷ xs) e =
    let parts = or_parts (q x) (list_any q xs) e in
    by_bool (p x)
    (λ k. ap (list_any q) (kept p x xs k) ∙ ap (λ b. b || list_any q (filter p xs)) parts.0
    ∙ any_kept q p xs parts.1)
    (λ k. ap (list_any q) (left_out p x xs k) ∙ any_kept q p xs parts.1)

-- ---- rows that all differ

abbrev AllDiffer : List Row → Type 0
AllDiffer [] = Unit {0}
AllDiffer (x ∷ xs) = (list_any (same_row x) xs ≡ false) × AllDiffer xs

abbrev others : Row → List Row → List Row
others r xs = filter (λ s. not (same_row r s)) xs

kept_differ : (p : Row → Bool) (xs : List Row) → AllDiffer xs → AllDiffer (filter p xs)
kept_differ p [] h = tt
kept_differ p (x ∷ xs) h = by_bool (p x)
    (λ k. subst AllDiffer (sym (kept p x xs k)) (any_kept (same_row x) p xs h.0, kept_differ p xs h.1))
    (λ k. subst AllDiffer (sym (left_out p x xs k)) (kept_differ p xs h.1))

none_among : (r : Row) (xs : List Row) → list_any (same_row r) (others r xs) ≡ false
none_among r [] = refl
none_among r (x ∷ xs) = by_bool (same_row r x)
    (λ is. ap (list_any (same_row r)) (left_out (λ s. not (same_row r s)) x xs (ap not is)) ∙ none_among r xs)
    (λ apart. ap (list_any (same_row r)) (kept (λ s. not (same_row r s)) x xs (ap not apart))
    ∙ ap (λ b. b || list_any (same_row r) (others r xs)) apart ∙ none_among r xs)

distinct_differ : (rows : List Row) → AllDiffer (distinct_rows rows)
distinct_differ [] = tt
distinct_differ (r ∷ rows) = (
  none_among r (distinct_rows rows),
  kept_differ (λ s. not (same_row r s)) (distinct_rows rows) (distinct_differ
      rows),
)

pub keys_differ : (columns : List ℕ) (rows : List Row) → AllDiffer (keys_of columns rows)
keys_differ [] rows = (refl, tt)
keys_differ (c ∷ cs) rows = distinct_differ (map (cells_at (c ∷ cs)) rows)

-- ---- the keys

pub keys_grow : (columns : List ℕ) (rows : List Row) (r : Row)
    → with_row (keys_of columns rows) (cells_at columns r) ≡ keys_of columns (rows ++ r ∷ [])
keys_grow [] rows r = refl
keys_grow (c ∷ cs) rows r =
    sym (ap distinct_rows (map-append (cells_at (c ∷ cs)) rows (r ∷ []))
    ∙ distinct_with (map (cells_at (c ∷ cs)) rows) (cells_at (c ∷ cs) r))

-- a row other than q is among the others than q if it is among all
none_of_all : (q k : Row) (xs : List Row) → same_row k q ≡ false → list_any (same_row k) (others q xs) ≡ false
    → list_any (same_row k) xs ≡ false
none_of_all q k [] apart e = refl
none_of_all q k (x ∷ xs) apart e = by_bool (same_row q x)
    (λ is. ap (λ b. b || list_any (same_row k) xs) (subst (λ z. same_row k z ≡ false) (same_row-is q x is) apart)
    ∙ none_of_all q k xs apart
    (sym (ap (list_any (same_row k)) (left_out (λ s. not (same_row q s)) x xs (ap not is))) ∙ e))
    (λ far.
    let parts = or_parts (same_row k x) (list_any (same_row k) (others q xs))
    (sym (ap (list_any (same_row k)) (kept (λ s. not (same_row q s)) x xs (ap not far))) ∙ e) in
    ap (λ b. b || list_any (same_row k) xs) parts.0 ∙ none_of_all q k xs apart parts.1)

none_of_rows : (k : Row) (ts : List Row) → list_any (same_row k) (distinct_rows ts) ≡ false
    → list_any (same_row k) ts ≡ false
none_of_rows k [] e = refl
none_of_rows k (t ∷ ts) e =
    let parts = or_parts (same_row k t) (list_any (same_row k) (others t (distinct_rows ts))) e in
    ap (λ b. b || list_any (same_row k) ts) parts.0
    ∙ none_of_rows k ts (none_of_all t k (distinct_rows ts) parts.0 parts.1)

none_with : (columns : List ℕ) (k : Row) (rows : List Row) → list_any (same_row k) (map (cells_at columns) rows) ≡ false
    → with_key columns rows k ≡ []
none_with columns k [] e = refl
none_with columns k (q ∷ rows) e =
    let parts = or_parts (same_row k (cells_at columns q)) (list_any (same_row k) (map (cells_at columns) rows)) e in
    left_out (λ r. same_row (cells_at columns r) k) q rows (apart_back k (cells_at columns q) parts.0)
    ∙ none_with columns k rows parts.1

-- a group that is new has no rows
pub no_rows : (columns : List ℕ) (rows : List Row) (r : Row)
    → list_any (same_row (cells_at columns r)) (keys_of columns rows) ≡ false
    → with_key columns rows (cells_at columns r) ≡ []
no_rows [] rows r e = absurd (cc)
no_rows (c ∷ cs) rows r e =
    none_with (c ∷ cs) (cells_at (c ∷ cs) r) rows
    (none_of_rows (cells_at (c ∷ cs) r) (map (cells_at (c ∷ cs)) rows) e)

-- ---- the rows of a group

module _ (columns : List ℕ) (rows : List Row) (r : Row) where
  pub taken : with_key columns (rows ++ r ∷ []) (cells_at columns r)
      ≡ with_key columns rows (cells_at columns r) ++ r ∷ []
  taken =
      let test : Row → Bool = λ q. same_row (cells_at columns q) (cells_at columns r) in
      filter-append test rows (r ∷ [])
      ∙ ap (λ rs. with_key columns rows (cells_at columns r) ++ rs) (kept test r [] (same_row-self (cells_at columns
      r)))

  pub stays : (key : Row) → same_row (cells_at columns r) key ≡ false
      → with_key columns (rows ++ r ∷ []) key ≡ with_key columns rows key
  stays key apart =
      let test : Row → Bool = λ q. same_row (cells_at columns q) key in
      filter-append test rows (r ∷ []) ∙ ap (λ rs. with_key columns rows key ++ rs) (left_out test r [] apart)
      ∙ append-nil (with_key columns rows key)

-- ---- a number among keys

pub number_below : {X : Type 0} (keys : List X) (k : X) (n : ℕ) → slice_get keys n ≡ Some k → n < length keys
number_below [] k zero e = absurd (cc)
number_below [] k (suc n) e = absurd (cc)
number_below (x ∷ keys) k zero e = omega arith
number_below (x ∷ keys) k (suc n) e = let l : n < length keys = number_below keys k n e in omega arith

pub number_behind : (keys : List Row) (k : Row) (n : ℕ) → list_any (same_row k) keys ≡ false
    → slice_get (keys ++ k ∷ []) n ≡ Some k → n ≡ length keys
number_behind [] k zero e at = refl
number_behind [] k (suc n) e at = absurd (cc)
number_behind (x ∷ keys) k zero e at =
    let parts = or_parts (same_row k x) (list_any (same_row k) keys) e in
    absurd (not_both (same_row k k) (same_row-self k)
    (subst (λ z. same_row k z ≡ false) (inside x k at) parts.0))
number_behind (x ∷ keys) k (suc n) e at =
    let parts = or_parts (same_row k x) (list_any (same_row k) keys) e in
    let m : n ≡ length keys = number_behind keys k n parts.1 at in omega arith

-- a key other than that at a number
member_apart : (key k : Row) (keys : List Row) (n : ℕ) → list_any (same_row key) keys ≡ false
    → slice_get keys n ≡ Some k → same_row k key ≡ false
member_apart key k keys n e at = by_bool (same_row k key)
    (λ is. absurd (not_both (list_any (same_row k) keys) (found_known keys k n at)
    (subst (λ z. list_any (same_row z) keys ≡ false) (sym (same_row-is k key is)) e)))
    (λ f. f)

-- ---- the accumulators of the groups

module _ {X : Type 0} (R R' : Row → X → Type 0) (k : Row)
    (others_stay : (key : Row) (f : X) → same_row k key ≡ false → R key f → R' key f) where
  all_stay : (keys : List Row) (folds : List X) → list_any (same_row k) keys ≡ false → AllZip R keys folds
      → AllZip R' keys folds
  all_stay [] [] e h = tt
  all_stay [] (f ∷ fs) e h = absurd h
  all_stay (key ∷ keys) [] e h = absurd h
  all_stay (key ∷ keys) (f ∷ fs) e h =
      let parts = or_parts (same_row k key) (list_any (same_row k) keys) e in
      (others_stay key f parts.0 h.0, all_stay keys fs parts.1 h.1)

  -- the accumulators of the group at a number take a row
  pub one_takes : (n : ℕ) (keys : List Row) (folds : List X) (g : X) → AllDiffer keys → slice_get keys n ≡ Some k
      → R' k g → AllZip R keys folds → AllZip R' keys (slice_set folds n g)
  one_takes zero [] folds g a at next h = absurd (cc)
  one_takes (suc n) [] folds g a at next h = absurd (cc)
  one_takes zero (key ∷ keys) [] g a at next h = absurd h
  one_takes (suc n) (key ∷ keys) [] g a at next h = absurd h
  one_takes zero (key ∷ keys) (f ∷ fs) g a at next h =
      let is : key ≡ k = inside key k at in
      (subst (λ z. R' z g) (sym is) next, all_stay keys fs (subst (λ z. list_any (same_row z) keys ≡ false) is a.0) h.1)
  one_takes (suc n) (key ∷ keys) (f ∷ fs) g a at next h =
      (others_stay key f (member_apart key k keys n a.0 at) h.0, one_takes n keys fs g a.1 at next h.1)

-- accumulators of no rows, where the group is new
entered : (R : Row → List Accumulator → Type 0) (columns : List ℕ) (aggregates : List Aggregate) (old new : Groups)
    (r : Row) (n : ℕ) (keys : List Row) (parts : List (List Accumulator)) → Enters columns aggregates old new r n
    → old.keys ≡ keys → old.folds.items ≡ joined parts → AllZip R keys parts
    → (list_any (same_row (cells_at columns r)) keys ≡ false → (f : List Accumulator)
    → ((t : Terms) → HaveFolded t aggregates f []) → R (cells_at columns r) f)
    → (parts' : List (List Accumulator)) × (new.folds.items ≡ joined parts')
    × AllZip R (with_row keys (cells_at columns r)) parts'
entered R columns aggregates old new r n keys parts enters same flat h fresh =
    let k : Row = cells_at columns r in
    let is : new.keys ≡ with_row keys k = enters.keys ∙ ap (λ ks. with_row ks k) same in
    let at : slice_get (with_row keys k) n ≡ Some k = ap (λ ks. slice_get ks n) (sym is) ∙ enters.number in
    by_bool (list_any (same_row k) keys)
    (λ known.
    let below : n < length keys =
    number_below keys k n (ap (λ ks. slice_get ks n) (sym (row_known keys k known)) ∙ at) in
    let kept = enters.kept (λ e. absurd (omega (arith, e, below, ap length same))) in
    (parts, kept ∙ flat, subst (λ ks. AllZip R ks parts) (sym (row_known keys k known)) h))
    (λ new.
    let next : n ≡ length keys =
    number_behind keys k n new (ap (λ ks. slice_get ks n) (sym (row_new keys k new)) ∙ at) in
    let begun = enters.begun (next ∙ sym (ap length same)) in (
      parts ++ begun.0 ∷ [],
      begun.1 ∙ ap (λ fs. fs ++ begun.0) flat ∙ sym (joined_more parts begun.0),
      subst (λ ks. AllZip R ks (parts ++ begun.0 ∷ [])) (sym (row_new keys k new))
          (all_zipped_more R keys parts k begun.0 h (fresh new begun.0 begun.2)),
    ))

-- as many accumulators as aggregates
pub folds_long : (t : Terms) (columns : List ℕ) (aggregates : List Aggregate) (rows : List Row) (key : Row)
    (part : List Accumulator) → HaveFolded t aggregates part (with_key columns rows key)
    → length part ≡ length aggregates
folds_long t columns aggregates rows key part h =
    AllZip-long (λ which a. HasFolded t which a (with_key columns rows key)) aggregates part h

-- one more row
grouped_by_more : (t : Terms) (c : ℕ) (cs : List ℕ) (aggregates : List Aggregate) (old new : Groups)
    (last : List Accumulator) (rows : List Row) (r : Row) (n : ℕ)
    → Enters (c ∷ cs) aggregates old new r n → TakesAt t aggregates n new.folds.items last r
    → AreGrouped t (c ∷ cs) aggregates old.keys old.folds.items rows
    → AreGrouped t (c ∷ cs) aggregates new.keys last (rows ++ r ∷ [])
grouped_by_more t c cs aggregates old new last rows r n enters takes h =
    let columns : List ℕ = c ∷ cs in
    let k : Row = cells_at columns r in
    let later : List Row = keys_of columns (rows ++ r ∷ []) in
    let grown : with_row (keys_of columns rows) k ≡ later = keys_grow columns rows r in
    let is : new.keys ≡ later = enters.keys ∙ ap (λ ks. with_row ks k) h.keys ∙ grown in
    let at : slice_get later n ≡ Some k = ap (λ ks. slice_get ks n) (sym is) ∙ enters.number in
    let of_rows : Row → List Accumulator → Type 0 =
    λ key part. HaveFolded t aggregates part (with_key columns rows key) in
    let of_more : Row → List Accumulator → Type 0 =
    λ key part. HaveFolded t aggregates part (with_key columns (rows ++ r ∷ []) key) in
    let begun = entered of_rows columns aggregates old new r n (keys_of columns rows) h.parts enters h.keys h.flat
    h.folds
    (λ fresh f none. subst (HaveFolded t aggregates f) (sym (no_rows columns rows r fresh)) (none t)) in
    let parts : List (List Accumulator) = begun.0 in
    let all : AllZip of_rows later parts = subst (λ ks. AllZip of_rows ks parts) grown begun.2 in
    let mine = zip_get of_rows n later parts k all at in
    let inside : n < length parts = number_below parts mine.0 n mine.1 in
    let took = takes (joined (take n parts)) mine.0 (joined (drop (suc n) parts)) (with_key columns rows k)
    (begun.1 ∙ parted n parts mine.0 mine.1)
    (long_before of_rows (length aggregates) (folds_long t columns aggregates rows) n later parts all
    (omega (arith, inside)))
    mine.2 in
    record {
      keys = is;
      parts = slice_set parts n took.0;
      flat = took.1 ∙ sym (replaced n parts took.0 inside);
      folds = one_takes of_rows of_more k
          (λ key f apart g. subst (HaveFolded t aggregates f) (sym (stays columns rows r key apart)) g)
          n later parts took.0 (keys_differ columns (rows ++ r ∷ [])) at
          (subst (HaveFolded t aggregates took.0) (sym (taken columns rows r)) took.2) all;
    }

-- one more row, without grouping columns
all_in_one_more : (t : Terms) (aggregates : List Aggregate) (keys : List Row) (folds last : List Accumulator)
    (rows : List Row) (r : Row)
    → TakesAt t aggregates 0 folds last r
    → AreGrouped t [] aggregates keys folds rows → AreGrouped t [] aggregates keys last (rows ++ r ∷ [])
all_in_one_more t aggregates keys folds last rows r takes h =
    let took = takes [] folds [] (with_key [] rows []) (sym (append-nil folds))
    (sym (zero-mul (length aggregates)))
    (only_part h.parts h.flat h.folds) in
    record {
      keys = h.keys;
      parts = took.0 ∷ [];
      flat = took.1;
      folds = (subst (HaveFolded t aggregates took.0) (sym (taken [] rows r)) took.2, tt);
    }
  where
    only_part : (parts : List (List Accumulator)) → folds ≡ joined parts
        → AllZip (λ key part. HaveFolded t aggregates part (with_key [] rows key)) ([] ∷ []) parts
        → HaveFolded t aggregates folds (with_key [] rows [])
    only_part [] flat zip = absurd zip
    only_part (p ∷ []) flat zip =
        subst (λ fs. HaveFolded t aggregates fs (with_key [] rows [])) (sym (flat ∙ append-nil p)) zip.0
    only_part (p ∷ q ∷ parts) flat zip = absurd zip.1

pub grouped_more : (t : Terms) (columns : List ℕ) (aggregates : List Aggregate) (old new : Groups)
    (last : List Accumulator) (r : Row) (n : ℕ) → nat_eq (length columns) 0 ≡ false
    → Enters columns aggregates old new r n → TakesAt t aggregates n new.folds.items last r
    → (rows : List Row) → HasGrouped t columns aggregates old rows
    → AreGrouped t columns aggregates new.keys last (rows ++ r ∷ [])
grouped_more t [] aggregates old new last r n e enters takes rows h = absurd (cc)
grouped_more t (c ∷ cs) aggregates old new last r n e enters takes rows h =
    grouped_by_more t c cs aggregates old new last rows r n enters takes h.grouped

pub all_more : (t : Terms) (columns : List ℕ) (aggregates : List Aggregate) (keys : List Row)
    (folds last : List Accumulator) (r : Row) → nat_eq (length columns) 0 ≡ true
    → TakesAt t aggregates 0 folds last r
    → (rows : List Row) → AreGrouped t columns aggregates keys folds rows
    → AreGrouped t columns aggregates keys last (rows ++ r ∷ [])
all_more t [] aggregates keys folds last r e takes rows h = all_in_one_more t aggregates keys folds last rows r takes h
all_more t (c ∷ cs) aggregates keys folds last r e takes rows h =
    absurd (omega (arith, eqb-true (suc (length cs)) 0 e))

-- the groups of no rows
pub none_begun : (t : Terms) (columns : List ℕ) (aggregates : List Aggregate) → nat_eq (length columns) 0 ≡ false
    → AreGrouped t columns aggregates [] [] []
none_begun t [] aggregates e = absurd (cc)
none_begun t (c ∷ cs) aggregates e = record { keys = refl; parts = []; flat = refl; folds = tt }

pub one_begun : (t : Terms) (columns : List ℕ) (aggregates : List Aggregate) (folds : List Accumulator)
    → nat_eq (length columns) 0 ≡ true → Begins aggregates [] folds → AreGrouped t columns aggregates [] folds []
one_begun t [] aggregates folds e begins = record {
  keys = refl;
  parts = begins.0 ∷ [];
  flat = begins.1 ∙ sym (append-nil begins.0);
  folds = (begins.2 t, tt);
}
one_begun t (c ∷ cs) aggregates folds e begins =
    absurd (omega (arith, eqb-true (suc (length cs)) 0 e))

-- the number of groups
pub count_one : (columns : List ℕ) (rows : List Row) → nat_eq (length columns) 0 ≡ true
    → 1 ≡ length (keys_of columns rows)
count_one [] rows e = refl
count_one (c ∷ cs) rows e =
    absurd (omega (arith, eqb-true (suc (length cs)) 0 e))

pub count_kept : (columns : List ℕ) (rows keys : List Row) → nat_eq (length columns) 0 ≡ false
    → keys ≡ kept_keys columns rows → length keys ≡ length (keys_of columns rows)
count_kept [] rows keys e is = absurd (cc)
count_kept (c ∷ cs) rows keys e is = ap length is

-- the result of a step that only memory can refuse
pub takes_if : {U P Q : Type 0} (o : Option (List Row)) (result : Result U Refusal) → (P → Q)
    → MatchResult result (λ _. P) (λ e. e ≡ OutOfMemory) → MatchResult result (λ _. Q) (Fails o)
takes_if o (Ok u) f h = f h
takes_if o (Err e) f h = no_memory o e h

-- the accumulators of the group with a number
module _ (t : Terms) (columns : List ℕ) (aggregates : List Aggregate) (s : Groups) (rows : List Row)
    (h : HasGrouped t columns aggregates s rows) (n : ℕ) (part : List Accumulator)
    (is : IsPart n (length aggregates) part s.folds.items) (below : n < length (keys_of columns rows)) where
  abbrev key_here : Row
  key_here = slice_index_or (keys_of columns rows) n []

  pub part_folded : HaveFolded t aggregates part (with_key columns rows key_here)
  part_folded =
      let of_rows : Row → List Accumulator → Type 0 =
      λ key part. HaveFolded t aggregates part (with_key columns rows key) in
      let g = h.grouped in
      let mine = zip_get of_rows n (keys_of columns rows) g.parts key_here g.folds
      (slice_get-get_or (keys_of columns rows) n [] below) in
      let inside : n < length g.parts = number_below g.parts mine.0 n mine.1 in
      subst (λ fs. HaveFolded t aggregates fs (with_key columns rows key_here))
      (sym (is (joined (take n g.parts)) mine.0 (joined (drop (suc n) g.parts))
      (g.flat ∙ parted n g.parts mine.0 mine.1)
      (long_before of_rows (length aggregates) (folds_long t columns aggregates rows) n (keys_of columns rows) g.parts
      g.folds (omega (arith, inside)))
      (folds_long t columns aggregates rows key_here mine.0 mine.2))) mine.2

-- a kept key is that of its group
pub kept_key : (columns : List ℕ) (rows : List Row) (n : ℕ) → n < length (keys_of columns rows)
    → slice_index_or (kept_keys columns rows) n [] ≡ slice_index_or (keys_of columns rows) n []
kept_key [] rows zero l = refl
kept_key [] rows (suc n) l = absurd (omega (arith, l))
kept_key (c ∷ cs) rows n l = refl

-- ---- the groups of rows

pub scopes_are : (columns : List ℕ) (rows : List Row)
    → scopes (Some columns) rows ≡ map of_group (map (with_key columns rows) (keys_of columns rows))
scopes_are [] rows = ap (λ rs. of_group rs ∷ []) (sym (all_kept (λ r. same_row (cells_at [] r) []) rows (λ r. refl)))
scopes_are (c ∷ cs) rows = refl

-- the group with a number among them
module _ (columns : List ℕ) (rows : List Row) where
  pub scopes_long : length (scopes (Some columns) rows) ≡ length (keys_of columns rows)
  scopes_long = ap length (scopes_are columns rows)
      ∙ length-map (map (with_key columns rows) (keys_of columns rows)) of_group
      ∙ length-map (keys_of columns rows) (with_key columns rows)

  pub scope_is : (n : ℕ) (d : Scope) → n < length (keys_of columns rows)
      → slice_index_or (scopes (Some columns) rows) n d ≡ scope_at columns rows n
  scope_is n d l =
      let keys : List Row = keys_of columns rows in
      ap (λ ss. slice_index_or ss n d) (scopes_are columns rows)
      ∙ get_or-map of_group (map (with_key columns rows) keys) n [] d
      (omega (arith, l, length-map keys (with_key columns rows)))
      ∙ ap of_group (get_or-map (with_key columns rows) keys n [] [] l)

  -- the groups from a number on
  pub scopes_from : (n : ℕ) → n < length (keys_of columns rows)
      → drop n (scopes (Some columns) rows) ≡ scope_at columns rows n ∷ drop (n + 1) (scopes (Some columns) rows)
  scopes_from n l =
      let d : Scope = scope_at columns rows n in
      drop_more (scopes (Some columns) rows) n d (omega (arith, l, scopes_long))
      ∙ ap (λ s. s ∷ drop (n + 1) (scopes (Some columns) rows)) (scope_is n d l)

-- no group remains
pub all_shown : (having : List Cond) (items : List Expr) (ss : List Scope) (n : ℕ) (made : List Row)
    (all : Option (List Row)) → length ss ≤ n → behind made (shown having items (drop n ss)) ≡ all → all ≡ Some made
all_shown having items ss n made all past so_far =
    sym so_far ∙ ap (λ rest. behind made (shown having items rest)) (drop_all n ss past)
    ∙ ap {B = Option (List Row)} (λ rs. Some rs) (append-nil made)
