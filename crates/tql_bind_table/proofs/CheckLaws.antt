-- Checks: the generated columns, the faults of each check, and the properties of checks without a fault.
use Rattle.std.specs.Prelude.{◌≡◌, refl, ℕ, suc, Bool, true, false, not, ◌&&◌, ◌||◌, ◌==◌, ◌≤◌, ◌++◌}
use Rattle.std.specs.Prelude.{if◌then◌else◌, List, [], ◌∷◌, map, length, Option, Some, None, option_map, is_some, All}
use Rattle.std.specs.List.{list_all}
use Rattle.std.specs.Option.{ForSome}
use Rattle.std.proofs.Common.{ap, ◌∙◌, sym, subst, arith}
use Rattle.std.proofs.lemmas.List.{length-map}
use Rattle.std.proofs.lemmas.List.Elements.{All-nil, All-cons, All-head}
use Rattle.tql_spec.specs.Refusal.{FormNotAllowedHere}
use Rattle.tql_spec.specs.Expression.{Expr, Literal, Column, Negate, Binary, CountRows, Aggregate, Cond, Compare}
use Rattle.tql_spec.specs.Expression.{IsNull, Related, ContainsPoint, Not, And, Or}
use Rattle.tql_spec.specs.Definition as definition
use Rattle.tql_spec.specs.Definition.{Name, TableDef}
use Rattle.tql_spec.specs.Names.{Checked, check_each, condition, Known}
use Rattle.tql_spec.specs.Syntax.{ColumnTree, Condition, Generated, RowStart, RowEnd}
use Rattle.tql_spec.specs.Creation.{PeriodPart, number_in, column, column_number, or_first, has_number, numbers_where}
use Rattle.tql_spec.specs.Creation.{is_row_start, is_row_end, first_of, has_aggregate, uses_column, has_expr}
use Rattle.tql_spec.specs.Binding.{is_generated}
use Rattle.tql_catalog.specs.Defined.{is_check}
use Rattle.tql_catalog.specs.Definitions as catalog
use Rattle.tql_catalog.specs.Definitions.{application_of, system_of}
use Rattle.tql_catalog.specs.declared.definition.Column as code_column
use Rattle.tql_catalog.specs.declared.definition.Application as code
use Rattle.tql_catalog.specs.declared.definition.System as code_system
use Rattle.tql_bind_expr.specs.Within.{HasEnds, HasSystem}
use Rattle.tql_bind_check.specs.Checking.{check_by, is_wrong_check}
use Rattle.tql_bind_draft.specs.Drafts.{names_in, is_generated_in, Written, application_in, system_in, implied_in}
use Rattle.tql_bind_table.specs.NewTables.{generated_in, defined_in}
use Rattle.tql_bind_table.proofs.ColumnNumbers.{within}
use Rattle.tql_bind_table.proofs.NoFault.{front_none, behind_none, not_present, or_none}

-- ---- the generated columns

-- a number is present as that of a ROW START column, or as that of a ROW END column
number_split : (g : Option Generated) (here : Bool) (k : ℕ) (either starts ends : List ℕ) (i : ℕ)
    → has_number i either ≡ has_number i starts || has_number i ends
    → has_number i ((if is_some g then k ∷ [] else []) ++ either)
    ≡ has_number i ((if is_row_start g then k ∷ [] else []) ++ starts)
    || has_number i ((if is_row_end g then k ∷ [] else []) ++ ends)
number_split None here k either starts ends i same = same
number_split (Some RowStart) here k either starts ends i same =
    ap (λ (b : Bool). (i == k) || b) same ∙ first_or (i == k) (has_number i starts) (has_number i ends)
  where
    first_or : (a b c : Bool) → a || (b || c) ≡ (a || b) || c
    first_or true b c = refl
    first_or false b c = refl
number_split (Some RowEnd) here k either starts ends i same =
    ap (λ (b : Bool). (i == k) || b) same ∙ later_or (i == k) (has_number i starts) (has_number i ends)
  where
    later_or : (a b c : Bool) → a || (b || c) ≡ b || (a || c)
    later_or true true c = refl
    later_or true false c = refl
    later_or false b c = refl

numbers_same : (k : ℕ) (cs : List ColumnTree) (i : ℕ)
    → has_number i (numbers_where (λ c. is_some c.generated) k cs)
    ≡ has_number i (numbers_where (λ c. is_row_start c.generated) k cs)
    || has_number i (numbers_where (λ c. is_row_end c.generated) k cs)
numbers_same k [] i = refl
numbers_same k (c ∷ cs) i =
    number_split c.generated true k (numbers_where (λ d. is_some d.generated) (suc k) cs)
    (numbers_where (λ d. is_row_start d.generated) (suc k) cs) (numbers_where (λ d. is_row_end d.generated) (suc k) cs)
    i (numbers_same (suc k) cs i)

-- the numbers of the generated columns decide which are generated
pub generated_same : (cs : List ColumnTree) → (λ i. has_number i (generated_in cs)) ≡ is_generated_in cs
generated_same cs = λ j i. numbers_same 0 cs i j

-- ---- a check without a fault

-- if no column passes a test, none passes a stricter one
no_column : (p q : ℕ → Bool) → ((i : ℕ) → p i ≡ false → q i ≡ false) → (e : Expr) → uses_column p e ≡ false
    → uses_column q e ≡ false
no_column p q harder (Literal v) h = refl
no_column p q harder (Column i) h = harder i h
no_column p q harder (Negate e) h = no_column p q harder e h
no_column p q harder (Binary op a b) h =
    let both = or_none (uses_column p a) (uses_column p b) h in
    let left = no_column p q harder a both.0 in
    let right = no_column p q harder b both.1 in
    λ j. left j || right j
no_column p q harder CountRows h = refl
no_column p q harder (Aggregate f e) h = refl

no_column_in : (p q : ℕ → Bool) → ((i : ℕ) → p i ≡ false → q i ≡ false) → (c : Cond)
    → has_expr (uses_column p) c ≡ false → has_expr (uses_column q) c ≡ false
no_column_in p q harder (Compare op a b) h =
    let both = or_none (uses_column p a) (uses_column p b) h in
    let left = no_column p q harder a both.0 in
    let right = no_column p q harder b both.1 in
    λ j. left j || right j
no_column_in p q harder (IsNull a) h = no_column p q harder a h
no_column_in p q harder (Related r a b c d) h =
    let front = or_none (uses_column p a || uses_column p b || uses_column p c) (uses_column p d) h in
    let middle = or_none (uses_column p a || uses_column p b) (uses_column p c) front.0 in
    let both = or_none (uses_column p a) (uses_column p b) middle.0 in
    let e1 = no_column p q harder a both.0 in
    let e2 = no_column p q harder b both.1 in
    let e3 = no_column p q harder c middle.1 in
    let e4 = no_column p q harder d front.1 in
    λ j. e1 j || e2 j || e3 j || e4 j
no_column_in p q harder (ContainsPoint a b c) h =
    let front = or_none (uses_column p a || uses_column p b) (uses_column p c) h in
    let both = or_none (uses_column p a) (uses_column p b) front.0 in
    let e1 = no_column p q harder a both.0 in
    let e2 = no_column p q harder b both.1 in
    let e3 = no_column p q harder c front.1 in
    λ j. e1 j || e2 j || e3 j
no_column_in p q harder (Not c) h = no_column_in p q harder c h
no_column_in p q harder (And c d) h =
    let both = or_none (has_expr (uses_column p) c) (has_expr (uses_column p) d) h in
    let left = no_column_in p q harder c both.0 in
    let right = no_column_in p q harder d both.1 in
    λ j. left j || right j
no_column_in p q harder (Or c d) h =
    let both = or_none (has_expr (uses_column p) c) (has_expr (uses_column p) d) h in
    let left = no_column_in p q harder c both.0 in
    let right = no_column_in p q harder d both.1 in
    λ j. left j || right j

-- checks without a fault can be those of the table, if it has no other generated columns
pub checks_right : (cs : List ColumnTree) (d : TableDef)
    → ((i : ℕ) → is_generated_in cs i ≡ false → is_generated d i ≡ false) → (scope : List Known)
    → (bs : List Condition) → (check_each (check_by (is_generated_in cs) scope) bs).faults ≡ []
    → list_all (is_check d) (check_each (check_by (is_generated_in cs) scope) bs).value ≡ true
checks_right cs d free scope [] none = refl
checks_right cs d free scope (b ∷ bs) none =
    let gen : ℕ → Bool = is_generated_in cs in
    let one : Checked Cond = condition scope b in
    let here : Checked Cond = check_by gen scope b in
    let faultless = front_none here.faults _ none in
    let wrong = not_present (is_wrong_check gen one.value) FormNotAllowedHere (behind_none one.faults _ faultless) in
    let both = or_none (has_expr has_aggregate one.value) (has_expr (uses_column gen) one.value) wrong in
    let used = no_column_in gen (is_generated d) free one.value both.1 in
    let rest = front_none (check_each (check_by gen scope) bs).faults [] (behind_none here.faults _ none) in
    let later = checks_right cs d free scope bs rest in
    λ j. not (both.0 j || used j) && later j

-- ---- the columns of periods

-- the number of a name is at most the number of names
number_within : (names : List Name) (n : Name) → (column_number names n).value ≤ length names
number_within names n = at (number_in n names) refl
  where
    at : (o : Option ℕ) → number_in n names ≡ o → (or_first (number_in n names)).value ≤ length names
    at None e = subst (λ (p : Option ℕ). (or_first p).value ≤ length names) (sym e) (omega arith)
    at (Some i) e =
        subst (λ (p : Option ℕ). (or_first p).value ≤ length names) (sym e)
        (let h = within n names i e in omega (arith, h))

-- the same for columns
column_within : (cs : List ColumnTree) (n : Name) (width : ℕ) → length cs ≡ width
    → (column_number (names_in cs) n).value ≤ width
column_within cs n width e =
    let h = number_within (names_in cs) n in
    let count : length (names_in cs) ≡ length cs = length-map cs (λ (c : ColumnTree). c.name) in
    omega (arith, h, count, e)

-- the ends of the application periods lie within a table of this width
pub ends_within : (cs : List ColumnTree) (width : ℕ) → length cs ≡ width → (ps : List PeriodPart)
    (as' : List code.Application) → map application_of as' ≡ (check_each (application_in cs) ps).value
    → All (HasEnds width) as'
ends_within cs width e ps [] is = All-nil (HasEnds width)
ends_within cs width e [] (a ∷ as') is = absurd (cc)
ends_within cs width e (p ∷ ps) (a ∷ as') is =
    let here : application_of a ≡ (application_in cs p).value = head_same is in
    All-cons (HasEnds width) a as'
    (record {
      start = subst (λ (i : ℕ). i ≤ width) (sym (ap (λ (x : definition.Application). x.start) here))
          (column_within cs p.start width e);
      end = subst (λ (i : ℕ). i ≤ width) (sym (ap (λ (x : definition.Application). x.end) here))
          (column_within cs p.end width e);
    })
    (ends_within cs width e ps as' (tail_same is))
  where
    head_same : {A : Type 0} {x y : A} {xs ys : List A} → x ∷ xs ≡ y ∷ ys → x ≡ y
    head_same h = cc

    tail_same : {A : Type 0} {x y : A} {xs ys : List A} → x ∷ xs ≡ y ∷ ys → xs ≡ ys
    tail_same h = cc

-- so do those of the system periods
pub systems_within : (cs : List ColumnTree) (width : ℕ) → length cs ≡ width → (ps : List PeriodPart)
    (ss : List code_system.System) → map system_of ss ≡ (check_each (system_in cs) ps).value
    → All (HasSystem width) ss
systems_within cs width e ps [] is = All-nil (HasSystem width)
systems_within cs width e [] (s ∷ ss) is = absurd (cc)
systems_within cs width e (p ∷ ps) (s ∷ ss) is =
    let here : system_of s ≡ (system_in cs p).value = head_same is in
    All-cons (HasSystem width) s ss
    (record {
      start = subst (λ (i : ℕ). i ≤ width) (sym (ap (λ (x : definition.System). x.start) here))
          (column_within cs p.start width e);
      end = subst (λ (i : ℕ). i ≤ width) (sym (ap (λ (x : definition.System). x.end) here))
          (column_within cs p.end width e);
    })
    (systems_within cs width e ps ss (tail_same is))
  where
    head_same : {A : Type 0} {x y : A} {xs ys : List A} → x ∷ xs ≡ y ∷ ys → x ≡ y
    head_same h = cc

    tail_same : {A : Type 0} {x y : A} {xs ys : List A} → x ∷ xs ≡ y ∷ ys → xs ≡ ys
    tail_same h = cc

-- so does the first of them
pub first_within : (width : ℕ) (ss : List code_system.System) (o : Option code_system.System)
    → option_map system_of o ≡ first_of (map system_of ss) → All (HasSystem width) ss → ForSome o (HasSystem width)
first_within width ss None is all = λ x e. absurd (cc)
first_within width [] (Some s) is all = λ x e. absurd (cc)
first_within width (t ∷ ss) (Some s) is all = λ x e.
    let same : system_of x ≡ system_of t = ap system_of (sym (some_same e)) ∙ some_same is in
    let h = All-head (HasSystem width) t ss all in
    record {
      start = subst (λ (i : ℕ). i ≤ width) (sym (ap (λ (y : definition.System). y.start) same)) h.start;
      end = subst (λ (i : ℕ). i ≤ width) (sym (ap (λ (y : definition.System). y.end) same)) h.end;
    }
  where
    some_same : {A : Type 0} {x y : A} → Some x ≡ Some y → x ≡ y
    some_same h = cc

-- a table has as many columns as are written
pub width_same : (w : Written) (cs : List code_column.Column) → map catalog.column_of cs ≡ defined_in w
    → length w.columns ≡ length cs
width_same w cs is =
    sym (length-map w.columns (column (implied_in w.applications w.keys))) ∙ sym (ap length is)
    ∙ length-map cs catalog.column_of
