-- Rows stay of a table's kinds if cells are set, generated cells are inserted, or periods are changed.
use Rattle.std.proofs.Common.{◌≡◌, ◌<◌, refl, sym, ap, subst, ◌∙◌, ℕ, zero, suc, Bool, true, false, List, [], ◌∷◌, ◌++◌}
use Rattle.std.proofs.Common.{map, get_or, length, inl, inr, arith}
use Rattle.std.specs.Prelude.{◌&&◌, insert, remove, replicate, slice_set, nat_lt, ℤ, Option, Some, None}
use Rattle.std.proofs.lemmas.Bool.Decides.{nat_tests}
use Rattle.tql_spec.specs.Words.{◌>>=◌}
use Rattle.tql_spec.specs.Bag.{In}
use Rattle.tql_spec.specs.Datum.{Datum, Null, Int, Text, Day, Moment, Row, Kind, Ints, Texts, Days, Moments, kind_of}
use Rattle.tql_spec.specs.Datum.{is_null}
use Rattle.tql_spec.specs.Period.{Period}
use Rattle.tql_spec.specs.Refusal.{ValueOutOfRange, NullNotAllowed, fault_if}
use Rattle.tql_spec.specs.Expression.{eval}
use Rattle.tql_spec.specs.Definition.{Column, TableDef, Application, System, cell, point_like, with_period}
use Rattle.tql_spec.specs.Definition.{with_period_by, with_generated, without_generated}
use Rattle.tql_spec.specs.Creation.{kinds_of, are_ends}
use Rattle.tql_spec.specs.Change.{Assignment, assigned, filled, cell_faults, is_too_long}
use Rattle.tql_spec.specs.Typing.{Takes, IsOfKind, AreOfKinds, column_kind, is_required, IsSystemOf, IsApplicationOf}
use Rattle.tql_spec.specs.Typing.{IsTypedDefinition, HasPeriod}
use Rattle.tql_spec.proofs.Members.{by_bool}
use Rattle.tql_spec.proofs.RunKeeps.{no_left, no_right}
use Rattle.tql_spec.proofs.InOrder.{no_fault}

-- ---- cells

-- a cell is of its column's kind
pub cell_kind : (ks : List Kind) (row : Row) → AreOfKinds ks row → (i : ℕ)
    → IsOfKind (Some (get_or ks i Ints)) (cell row i)
cell_kind [] [] h i = tt
cell_kind [] (v ∷ row) h i = absurd h
cell_kind (k ∷ ks) [] h i = absurd h
cell_kind (k ∷ ks) (v ∷ row) h zero = h.0
cell_kind (k ∷ ks) (v ∷ row) h (suc i) = cell_kind ks row h.1 i

-- a row stays of the kinds if a cell is set to a value of its column's kind
pub set_kinds : (ks : List Kind) (row : Row) → AreOfKinds ks row → (i : ℕ) (v : Datum)
    → IsOfKind (Some (get_or ks i Ints)) v
    → AreOfKinds ks (slice_set row i v)
set_kinds [] [] h i v k = tt
set_kinds [] (x ∷ row) h i v k = absurd h
set_kinds (l ∷ ks) [] h i v k = absurd h
set_kinds (l ∷ ks) (x ∷ row) h zero v k = (k, h.1)
set_kinds (l ∷ ks) (x ∷ row) h (suc i) v k = (h.0, set_kinds ks row h.1 i v k)

-- nulls are of every kind
pub null_kinds : (ks : List Kind) → AreOfKinds ks (replicate (length ks) Null)
null_kinds [] = tt
null_kinds (k ∷ ks) = (tt, null_kinds ks)

-- a row of these kinds has as many cells as there are kinds
pub kinds_length : (ks : List Kind) (row : Row) → AreOfKinds ks row → length row ≡ length ks
kinds_length [] [] h = refl
kinds_length [] (v ∷ row) h = absurd h
kinds_length (k ∷ ks) [] h = absurd h
kinds_length (k ∷ ks) (v ∷ row) h = ap suc (kinds_length ks row h.1)

-- a row stays of the kinds if cells are filled with values of their kinds
pub filled_kinds : (ks : List Kind) (row : Row) → AreOfKinds ks row → (columns : List ℕ) (values : List Datum)
    → AreOfKinds (map (λ i. get_or ks i Ints) columns) values → AreOfKinds ks (filled row columns values)
filled_kinds ks row h [] values k = h
filled_kinds ks row h (c ∷ cs) [] k = absurd k
filled_kinds ks row h (c ∷ cs) (v ∷ vs) k = filled_kinds ks (slice_set row c v) (set_kinds ks row h c v k.0) cs vs k.1

-- a row stays of the kinds if assigned values are of their columns' kinds
pub assigned_kinds : (ks : List Kind) (old row : Row) (sets : List Assignment) → AreOfKinds ks row
    → ((a : Assignment) → In a sets → (v : Datum) → eval [] old a.value ≡ Some v
    → IsOfKind (Some (get_or ks a.column Ints)) v)
    → (new : Row) → assigned old row sets ≡ Some new → AreOfKinds ks new
assigned_kinds ks old row [] h k new e = let q : row ≡ new = cc in subst (AreOfKinds ks) q h
assigned_kinds ks old row (a ∷ more) h k new e = at_value (eval [] old a.value) refl
    (λ v q. assigned_kinds ks old (slice_set row a.column v) more (set_kinds ks row h a.column v (k a (inl refl) v q))
    (λ b m. k b (inr m)) new) e
  where
    at_value : (o : Option Datum) → eval [] old a.value ≡ o
        → ((v : Datum) → eval [] old a.value ≡ Some v → assigned old (slice_set row a.column v) more ≡ Some new
        → AreOfKinds ks new)
        → (o >>= λ v. assigned old (slice_set row a.column v) more) ≡ Some new → AreOfKinds ks new
    at_value None q ih p = absurd (cc)
    at_value (Some v) q ih p = ih v q p

-- setting a cell does not change another cell
pub set_other : (row : Row) (c i : ℕ) (v : Datum) → (c ≡ i → ⊥) → cell (slice_set row c v) i ≡ cell row i
set_other [] c i v h = refl
set_other (x ∷ row) zero zero v h = absurd (h refl)
set_other (x ∷ row) zero (suc i) v h = refl
set_other (x ∷ row) (suc c) zero v h = refl
set_other (x ∷ row) (suc c) (suc i) v h = set_other row c i v (λ e. h (ap suc e))

-- assignments do not change a cell that none of them names
pub assigned_other : (old row : Row) (sets : List Assignment) (i : ℕ)
    → ((a : Assignment) → In a sets → a.column ≡ i → ⊥)
    → (new : Row) → assigned old row sets ≡ Some new → cell new i ≡ cell row i
assigned_other old row [] i h new e = let q : row ≡ new = cc in ap (λ (x : Row). cell x i) (sym q)
assigned_other old row (a ∷ more) i h new e = at_value (eval [] old a.value)
    (λ v. assigned_other old (slice_set row a.column v) more i (λ b m. h b (inr m)) new) e
  where
    at_value : (o : Option Datum)
        → ((v : Datum) → assigned old (slice_set row a.column v) more ≡ Some new
        → cell new i ≡ cell (slice_set row a.column v) i)
        → (o >>= λ v. assigned old (slice_set row a.column v) more) ≡ Some new → cell new i ≡ cell row i
    at_value None ih p = absurd (cc)
    at_value (Some v) ih p = ih v p ∙ set_other row a.column i v (h a (inl refl))

-- ---- generated cells

-- inserting an element where one was removed replaces it
pub put_back : {X : Type 0} (xs : List X) (i : ℕ) (x : X) → i < length xs → insert (remove xs i) i x ≡ slice_set xs i x
put_back [] i x h = absurd (omega arith)
put_back (y ∷ []) zero x h = refl
put_back (y ∷ z ∷ xs) zero x h = refl
put_back (y ∷ xs) (suc i) x h = ap (λ l. y ∷ l) (put_back xs i x (omega arith))

-- the same for two elements
pub put_both : {X : Type 0} (xs : List X) (i j : ℕ) (x y : X) → i < j → j < length xs
    → insert (insert (remove (remove xs j) i) i x) j y ≡ slice_set (slice_set xs i x) j y
put_both [] i j x y h k = absurd (omega arith)
put_both (z ∷ xs) zero zero x y h k = absurd (omega arith)
put_both (z ∷ xs) zero (suc j) x y h k = ap (λ l. x ∷ l) (put_back xs j y (omega arith))
put_both (z ∷ xs) (suc i) zero x y h k = absurd (omega arith)
put_both (z ∷ xs) (suc i) (suc j) x y h k = ap (λ l. z ∷ l) (put_both xs i j x y (omega arith) (omega arith))

-- a row with moments in its generated columns is of the table's kinds
pub generated_kinds : (d : TableDef) → IsTypedDefinition d → (row : Row) → AreOfKinds (kinds_of d) row → (a b : ℤ)
    → length d.columns ≡ length row
    → AreOfKinds (kinds_of d) (with_generated d.system (without_generated d.system row) a b)
generated_kinds d t row h a b n = by_system d.system t.system
  where
    by_system : (o : Option System) → ((s : System) → o ≡ Some s → IsSystemOf d s)
        → AreOfKinds (kinds_of d) (with_generated o (without_generated o row) a b)
    by_system None k = h
    by_system (Some s) k = let p : IsSystemOf d s = k s refl in
        by_bool (nat_lt s.start s.end)
        (λ e. rw e (
        let one = p.end_there in
        let low : s.start < s.end = grind (arith, nat_tests) in
        subst (AreOfKinds (kinds_of d)) (sym (put_both row s.start s.end (Moment a) (Moment b) low (omega arith)))
        (set_kinds (kinds_of d) (slice_set row s.start (Moment a))
        (set_kinds (kinds_of d) row h s.start (Moment a) (ap Some (sym p.start_kind))) s.end (Moment b)
        (ap Some (sym p.end_kind)))))
        (λ e. rw e (
        let one = p.start_there in
        let other = p.apart in
        let low : s.end < s.start = grind (arith, nat_tests) in
        subst (AreOfKinds (kinds_of d)) (sym (put_both row s.end s.start (Moment b) (Moment a) low (omega arith)))
        (set_kinds (kinds_of d) (slice_set row s.end (Moment b))
        (set_kinds (kinds_of d) row h s.end (Moment b) (ap Some (sym p.end_kind))) s.start (Moment a)
        (ap Some (sym p.start_kind)))))

-- ---- rows of the same kinds

-- if the cells of two rows have the same kinds and one row is of the kinds ks, so is the other
pub same_kinds : (ks : List Kind) (xs ys : Row) → map kind_of xs ≡ map kind_of ys → AreOfKinds ks xs → AreOfKinds ks ys
same_kinds [] [] [] e h = tt
same_kinds [] [] (y ∷ ys) e h = absurd (cc)
same_kinds [] (x ∷ xs) ys e h = absurd h
same_kinds (k ∷ ks) [] ys e h = absurd h
same_kinds (k ∷ ks) (x ∷ xs) [] e h = absurd (cc)
same_kinds (k ∷ ks) (x ∷ xs) (y ∷ ys) e h =
    let one : kind_of x ≡ kind_of y = cc in
    let more : map kind_of xs ≡ map kind_of ys = cc in
    (subst (Takes (Some k)) one h.0, same_kinds ks xs ys more h.1)

-- the kinds of a row with one more cell
kinds_inserted : (xs : Row) (i : ℕ) (v : Datum) → map kind_of (insert xs i v) ≡ insert (map kind_of xs) i (kind_of v)
kinds_inserted [] zero v = refl
kinds_inserted [] (suc i) v = refl
kinds_inserted (x ∷ xs) zero v = refl
kinds_inserted (x ∷ xs) (suc i) v = ap (λ l. kind_of x ∷ l) (kinds_inserted xs i v)

-- rows with different moments in the generated columns have the same kinds
pub generated_same : (o : Option System) (cells : Row) (a b c d : ℤ)
    → map kind_of (with_generated o cells a b) ≡ map kind_of (with_generated o cells c d)
generated_same None cells a b c d = refl
generated_same (Some s) cells a b c d = by_bool (nat_lt s.start s.end)
    (λ e. rw e (twice cells s.start s.end (Moment a) (Moment b) (Moment c) (Moment d) refl refl))
    (λ e. rw e (twice cells s.end s.start (Moment b) (Moment a) (Moment d) (Moment c) refl refl))
  where
    twice : (xs : Row) (i j : ℕ) (v w x y : Datum) → kind_of v ≡ kind_of x → kind_of w ≡ kind_of y
        → map kind_of (insert (insert xs i v) j w) ≡ map kind_of (insert (insert xs i x) j y)
    twice xs i j v w x y p q =
        kinds_inserted (insert xs i v) j w
        ∙ ap (λ l. insert l j (kind_of w))
        (kinds_inserted xs i v ∙ ap (λ k. insert (map kind_of xs) i k) p ∙ sym (kinds_inserted xs i x))
        ∙ ap (λ k. insert (map kind_of (insert xs i x)) j k) q
        ∙ sym (kinds_inserted (insert xs i x) j y)

-- ---- periods

-- the two ends of a period are of the same kind
pub ends_agree : (k l : Kind) → are_ends k l ≡ true → k ≡ l
ends_agree Days Days e = refl
ends_agree Moments Moments e = refl
ends_agree Days Ints e = absurd (cc)
ends_agree Days Texts e = absurd (cc)
ends_agree Days Moments e = absurd (cc)
ends_agree Moments Ints e = absurd (cc)
ends_agree Moments Texts e = absurd (cc)
ends_agree Moments Days e = absurd (cc)
ends_agree Ints l e = absurd (cc)
ends_agree Texts l e = absurd (cc)

-- a point as a value like one of a kind of points is of that kind
pub point_kept : (k l : Kind) → are_ends k l ≡ true → (v : Datum) → IsOfKind (Some k) v → is_null v ≡ false → (p : ℤ)
    → IsOfKind (Some k) (point_like v p)
point_kept Ints l e v h n p = absurd (cc)
point_kept Texts l e v h n p = absurd (cc)
point_kept Days l e Null h n p = absurd (cc)
point_kept Days l e (Int x) h n p = absurd (cc)
point_kept Days l e (Text x) h n p = absurd (cc)
point_kept Days l e (Day x) h n p = refl
point_kept Days l e (Moment x) h n p = absurd (cc)
point_kept Moments l e Null h n p = absurd (cc)
point_kept Moments l e (Int x) h n p = absurd (cc)
point_kept Moments l e (Text x) h n p = absurd (cc)
point_kept Moments l e (Day x) h n p = absurd (cc)
point_kept Moments l e (Moment x) h n p = refl

-- a row with another period stays of the table's kinds
pub period_kinds : (d : TableDef) → IsTypedDefinition d → (p : Period) (row : Row) → AreOfKinds (kinds_of d) row
    → HasPeriod d row
    → AreOfKinds (kinds_of d) (with_period d p row)
period_kinds d t p row h k = by_application d.application t.application k
  where
    by_application : (o : Option Application) → ((a : Application) → o ≡ Some a → IsApplicationOf d a)
        → ((a : Application) → o ≡ Some a → (is_null (cell row a.start) ≡ false) × (is_null (cell row a.end) ≡ false))
        → AreOfKinds (kinds_of d) (with_period_by o p row)
    by_application None f g = h
    by_application (Some a) f g =
        let x : IsApplicationOf d a = f a refl in
        let y = g a refl in
        let same : column_kind d a.start ≡ column_kind d a.end = ends_agree (column_kind d a.start)
        (column_kind d a.end) x.kinds in
        set_kinds (kinds_of d) (slice_set row a.start (point_like (cell row a.start) p.start))
        (set_kinds (kinds_of d) row h a.start (point_like (cell row a.start) p.start)
        (point_kept (column_kind d a.start) (column_kind d a.end) x.kinds (cell row a.start)
        (cell_kind (kinds_of d) row h a.start) y.0 p.start))
        a.end (point_like (cell row a.end) p.end)
        (point_kept (column_kind d a.end) (column_kind d a.end)
        (subst (λ c. are_ends c (column_kind d a.end) ≡ true) same x.kinds)
        (cell row a.end) (cell_kind (kinds_of d) row h a.end) y.1 p.end)

-- ---- null

-- a row without faults has no null in required columns
there_required : (cs : List Column) (row : Row) → AreOfKinds (map (λ (c : Column). c.kind) cs) row
    → cell_faults cs row ≡ []
    → (i : ℕ) → is_required cs i ≡ true → is_null (cell row i) ≡ false
there_required [] row h e i r = absurd (cc)
there_required (c ∷ cs) [] h e i r = absurd h
there_required (c ∷ cs) (v ∷ row) h e zero r = not_null c.required r (is_null v)
    (no_fault (c.required && is_null v) NullNotAllowed (no_right (fault_if (is_too_long c.limit v) ValueOutOfRange)
    (fault_if (c.required && is_null v) NullNotAllowed) (no_left
    (fault_if (is_too_long c.limit v) ValueOutOfRange ++ fault_if (c.required && is_null v) NullNotAllowed)
    (cell_faults cs row) e)))
  where
    not_null : (a : Bool) → a ≡ true → (b : Bool) → a && b ≡ false → b ≡ false
    not_null true q b w = w
    not_null false q b w = absurd (cc)
there_required (c ∷ cs) (v ∷ row) h e (suc i) r = there_required cs row h.1 (no_right
    (fault_if (is_too_long c.limit v) ValueOutOfRange ++ fault_if (c.required && is_null v) NullNotAllowed)
    (cell_faults cs row) e) i r

-- a row without faults has no null in the columns of its application period
pub period_there : (d : TableDef) → IsTypedDefinition d → (row : Row) → AreOfKinds (kinds_of d) row
    → cell_faults d.columns row ≡ []
    → HasPeriod d row
period_there d t row h e a q =
    let x : IsApplicationOf d a = t.application a q in
    (there_required d.columns row h e a.start x.start_required, there_required d.columns row h e a.end x.end_required)
