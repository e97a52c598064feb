-- Bound INSERT, UPDATE and DELETE statements give each column values of its kind.
use Rattle.std.proofs.Common.{◌≡◌, refl, sym, ap, subst, ◌∙◌, ℕ, ◌+◌, zero, suc, Bool, true, false, List, [], ◌∷◌, ◌++◌}
use Rattle.std.proofs.Common.{map, get_or, inl, inr, arith}
use Rattle.std.specs.Prelude.{Option, Some, None, is_some}
use Rattle.std.specs.List.{list_any}
use Rattle.tql_spec.specs.Bag.{In}
use Rattle.tql_spec.specs.Datum.{Datum, Null, Row, Kind, Ints, kind_of, same_kind}
use Rattle.tql_spec.specs.Refusal.{Refusal, TypesDoNotFit, FormNotAllowedHere, fault_if}
use Rattle.tql_spec.specs.Expression.{Expr, Cond, eval}
use Rattle.tql_spec.specs.Period.{Period}
use Rattle.tql_spec.specs.Definition as definition
use Rattle.tql_spec.specs.Definition.{Name, TableDef, table_at}
use Rattle.tql_spec.specs.Change.{Assignment}
use Rattle.tql_spec.specs.Syntax.{CellTree, NullCell, ValueCell, Tuple, SetTree, PortionTree, Condition}
use Rattle.tql_spec.specs.Names.{Checked, check_each, Known, Typed, is_other_kind, kind_at}
use Rattle.tql_spec.specs.Creation.{kinds_of, names_of, column_number, has_number, period_columns}
use Rattle.tql_spec.specs.Binding.{table_number, insert_columns, assigned_columns, insert_values, kinds_for, cell}
use Rattle.tql_spec.specs.Binding.{cells_misfit, tuple, own_scope, assignment, portion, sets_period, plain_filter}
use Rattle.tql_spec.specs.Binding.{update}
use Rattle.tql_spec.specs.Typing.{Takes, IsOfKind, AreOfKinds, GiveKinds, column_kind}
use Rattle.tql_spec.specs.TypingLaws.{IsTypedAssignment, IsTypedBound}
use Rattle.tql_spec.proofs.RunKeeps.{no_left, no_right}
use Rattle.tql_spec.proofs.InOrder.{no_fault}
use Rattle.tql_spec.proofs.MemberLists.{in_map}
use Rattle.tql_spec.proofs.ExprKinds.{FitsKnown, FitsScope, Keeps, literal_keeps, expr_keeps}
use Rattle.tql_spec.proofs.RowKinds.{cell_kind}
use Rattle.tql_spec.proofs.CreateKinds.{same_kind_is, not_false, or_first_false, or_second_false}

-- ---- lists of checked values

-- if no check has a fault, each value of the checked list is the value of an element without faults
pub in_checked : {A B : Type 0} (f : A → Checked B) (y : B) (xs : List A) → In y (check_each f xs).value
    → (check_each f xs).faults ≡ []
    → (x : A) × In x xs × (y ≡ (f x).value) × ((f x).faults ≡ [])
in_checked f y [] m e = absurd m
in_checked f y (x ∷ xs) (inl q) e = (x, inl refl, q, no_left (f x).faults ((check_each f xs).faults ++ []) e)
in_checked f y (x ∷ xs) (inr m) e =
    let r = in_checked f y xs m (no_left (check_each f xs).faults []
    (no_right (f x).faults ((check_each f xs).faults ++ []) e)) in
    (r.0, inr r.1, r.2, r.3)

-- the value of an element is in the checked list
checked_in : {A B : Type 0} (f : A → Checked B) (x : A) (xs : List A) → In x xs → In (f x).value (check_each f xs).value
checked_in f x [] m = absurd m
checked_in f x (y ∷ xs) (inl e) = inl (ap (λ z. (f z).value) e)
checked_in f x (y ∷ xs) (inr m) = inr (checked_in f x xs m)

-- if no member passes a test, a given member does not
pub none_any : {X : Type 0} (p : X → Bool) (x : X) (xs : List X) → In x xs → list_any p xs ≡ false → p x ≡ false
none_any p x [] m e = absurd m
none_any p x (y ∷ xs) (inl q) e = ap p q ∙ or_first_false (p y) (list_any p xs) e
none_any p x (y ∷ xs) (inr m) e = none_any p x xs m (or_second_false (p y) (list_any p xs) e)

-- ---- kinds

-- a value allowed for one known kind is allowed for an equal kind
takes_more : (k : Kind) (o l : Option Kind) → is_other_kind k o ≡ false → Takes o l → Takes (Some k) l
takes_more k o None e h = tt
takes_more k None (Some l) e h = absurd (cc)
takes_more k (Some j) (Some l) e h = h ∙ ap Some (sym (same_kind_is k j (not_false (same_kind k j) e)))

-- expressions whose values are allowed in columns of these kinds, one for each
abbrev pub Fit : List Kind → List Typed → Type 0
Fit [] [] = Unit {0}
Fit (k ∷ ks) (c ∷ cs) = ((v : Datum) → IsOfKind c.kind v → IsOfKind (Some k) v) × Fit ks cs
Fit _ _ = ⊥

-- if the test finds no misfit, the cells fit
pub no_misfit : (ks : List Kind) (cells : List Typed) → cells_misfit ks (map (λ (c : Typed). c.kind) cells) ≡ false
    → Fit ks cells
no_misfit [] [] e = tt
no_misfit [] (c ∷ cells) e = absurd (cc)
no_misfit (k ∷ ks) [] e = absurd (cc)
no_misfit (k ∷ ks) (c ∷ cells) e =
    let more : List (Option Kind) = map (λ (x : Typed). x.kind) cells in (
      λ v. takes_more k c.kind (kind_of v) (or_first_false (is_other_kind k c.kind) (cells_misfit ks more) e),
      no_misfit ks cells (or_second_false (is_other_kind k c.kind) (cells_misfit ks more) e),
    )

-- ---- tuples

cell_keeps : (scope : List Known) (c : CellTree) → Keeps scope (cell scope c).value
cell_keeps scope NullCell = literal_keeps scope None Null tt
cell_keeps scope (ValueCell e) = expr_keeps scope e

-- the cells of a tuple give values of the kinds that they fit
cells_give : (ks : List Kind) (cells : List CellTree) → Fit ks (check_each (cell []) cells).value
    → GiveKinds ks (map (λ (c : Typed). c.expr) (check_each (cell []) cells).value)
cells_give [] [] h = tt
cells_give [] (c ∷ cells) h = absurd h
cells_give (k ∷ ks) [] h = absurd h
cells_give (k ∷ ks) (c ∷ cells) h = (
  λ v e. h.0 v ((cell_keeps [] c).of_kind [] [] (λ r m. absurd m) (record { each = λ x m. absurd m }) v e),
  cells_give ks cells h.1,
)

tuple_gives : (ks : List Kind) (t : Tuple) → (tuple ks t).faults ≡ [] → GiveKinds ks (tuple ks t).value
tuple_gives ks t e =
    let cells : Checked (List Typed) = check_each (cell []) (t.first ∷ t.more) in
    let misfit : Bool = cells_misfit ks (map (λ (c : Typed). c.kind) cells.value) in
    cells_give ks (t.first ∷ t.more)
    (no_misfit ks cells.value (no_fault misfit TypesDoNotFit (no_right cells.faults (fault_if misfit TypesDoNotFit) e)))

-- INSERT with tuples is typed
pub insert_typed : (defs : List TableDef) (n : Name) (ns : List Name) (tuples : List Tuple)
    → (insert_values defs n ns tuples).faults ≡ [] → IsTypedBound defs (insert_values defs n ns tuples).value
insert_typed defs n ns tuples e x m =
    let t : Checked ℕ = table_number defs n in
    let is : Checked (List ℕ) = insert_columns (table_at defs t.value) ns in
    let ks : List Kind = kinds_for (table_at defs t.value) is.value in
    let rows : Checked (List (List Expr)) = check_each (tuple ks) tuples in
    let second : is.faults ++ (rows.faults ++ []) ≡ [] = no_right t.faults (is.faults ++ (rows.faults ++ [])) e in
    let third = no_left rows.faults [] (no_right is.faults (rows.faults ++ []) second) in
    let k = in_checked (tuple ks) x tuples m third in
    subst (GiveKinds ks) (sym k.2) (tuple_gives ks k.0 k.3)

-- ---- assignments

-- the two ways to find the kind of a column agree
pub kind_at_is : (cs : List definition.Column) (i : ℕ)
    → kind_at cs i ≡ get_or (map (λ (c : definition.Column). c.kind) cs) i Ints
kind_at_is [] i = refl
kind_at_is (c ∷ cs) zero = refl
kind_at_is (c ∷ cs) (suc i) = kind_at_is cs i

-- a row of the table's kinds fits the scope of a change
own_fits : (d : TableDef) (row : Row) → AreOfKinds (kinds_of d) row → FitsScope (own_scope d) row
own_fits d row h = record { each = known }
  where
    known : (k : Known) → In k (own_scope d) → FitsKnown row k
    known k (inl e) = subst (FitsKnown row) (sym e)
        (λ i l. subst (λ c. IsOfKind (Some c) (definition.cell row (0 + i))) (sym (kind_at_is d.columns i))
        (subst (λ j. IsOfKind (Some (column_kind d i)) (definition.cell row j)) (omega arith)
        (cell_kind (kinds_of d) row h i)))
    known k (inr m) = absurd m

-- the value of an assignment is of its column's kind
assigned_value : (d : TableDef) (s : SetTree) → (assignment d s).faults ≡ []
    → (row : Row) → AreOfKinds (kinds_of d) row → (v : Datum) → eval [] row (assignment d s).value.value ≡ Some v
    → IsOfKind (Some (column_kind d (assignment d s).value.column)) v
assigned_value d s e row h v q =
    let i : Checked ℕ = column_number (names_of d) s.column in
    let c : Checked Typed = cell (own_scope d) s.value in
    let other : Bool = is_other_kind (column_kind d i.value) c.value.kind in
    let second : c.faults ++ (fault_if other TypesDoNotFit ++ []) ≡ [] = no_right i.faults
    (c.faults ++ (fault_if other TypesDoNotFit ++ [])) e in
    let third = no_left (fault_if other TypesDoNotFit) []
    (no_right c.faults (fault_if other TypesDoNotFit ++ []) second) in
    takes_more (column_kind d i.value) c.value.kind (kind_of v) (no_fault other TypesDoNotFit third)
    ((cell_keeps (own_scope d) s.value).of_kind [] row (λ r m. absurd m) (own_fits d row h) v q)

-- in a change of a portion, an assignment sets no column of the period
assigned_column : (d : TableDef) (p : Option PortionTree) (sets : List SetTree) (s : SetTree) → In s sets
    → sets_period d p (assigned_columns d (map (λ (x : SetTree). x.column) sets)).value ≡ false
    → is_some (portion d p).value ≡ true
    → has_number (assignment d s).value.column (period_columns d.application) ≡ false
assigned_column d None sets s m e q = absurd (cc)
assigned_column d (Some p) sets s m e q =
    let numbers : List ℕ = (check_each (column_number (names_of d)) (map (λ (x : SetTree). x.column) sets)).value in
    none_any (λ i. has_number i (period_columns d.application)) (column_number (names_of d) s.column).value numbers
    (checked_in (column_number (names_of d)) s.column (map (λ (x : SetTree). x.column) sets)
    (in_map (λ (x : SetTree). x.column) s sets m)) e

-- UPDATE is typed
pub update_typed : (defs : List TableDef) (n : Name) (p : Option PortionTree) (sets : List SetTree)
    (c : Option Condition)
    → (update defs n p sets c).faults ≡ [] → IsTypedBound defs (update defs n p sets c).value
update_typed defs n p sets c e a m =
    let t : Checked ℕ = table_number defs n in
    let d : TableDef = table_at defs t.value in
    let r : Checked (Option Period) = portion d p in
    let is : Checked (List ℕ) = assigned_columns d (map (λ (x : SetTree). x.column) sets) in
    let own : Bool = sets_period d p is.value in
    let as' : Checked (List Assignment) = check_each (assignment d) sets in
    let conds : Checked (List Cond) = plain_filter (own_scope d) c in
    let five : List Refusal = as'.faults ++ (conds.faults ++ []) in
    let four : List Refusal = fault_if own FormNotAllowedHere ++ five in
    let e1 : r.faults ++ (is.faults ++ four) ≡ [] = no_right t.faults (r.faults ++ (is.faults ++ four)) e in
    let e2 : four ≡ [] = no_right is.faults four (no_right r.faults (is.faults ++ four) e1) in
    let e3 : five ≡ [] = no_right (fault_if own FormNotAllowedHere) five e2 in
    let k = in_checked (assignment d) a sets m (no_left as'.faults (conds.faults ++ []) e3) in
    subst (IsTypedAssignment d r.value) (sym k.2) (record {
      value = assigned_value d k.0 k.3;
      column = assigned_column d p sets k.0 k.1
          (no_fault own FormNotAllowedHere (no_left (fault_if own FormNotAllowedHere) five e2));
    })
