-- A CREATE TABLE in scope without a fault creates a table that can be considered at each point.
use Rattle.std.proofs.Common.{◌≡◌, ◌≤◌, ◌<◌, ◌+◌, refl, sym, ap, subst, ◌∙◌, ℕ, zero, suc, Bool, true, false, List}
use Rattle.std.proofs.Common.{[], ◌∷◌, ◌++◌}
use Rattle.std.proofs.Common.{map, filter, get_or, length, inl, inr, arith}
use Rattle.std.specs.Prelude.{◌⊎◌, not, ◌||◌, ◌&&◌, ◌==◌, nat_lt, nat_le, if◌then◌else◌, Option, Some, None, is_some}
use Rattle.std.specs.Prelude.{is_none}
use Rattle.std.specs.List.{list_all, list_any, flat_map}
use Rattle.std.proofs.lemmas.Bool.Decides.{nat_tests}
use Rattle.std.proofs.lemmas.List.{length-map, length-append}
use Rattle.std.proofs.Math.ListN.{get_or-append}
use Rattle.tql_spec.specs.Words.{same_text, listed, is_empty}
use Rattle.tql_spec.specs.Limits.{most_tables}
use Rattle.tql_spec.specs.Bag.{In}
use Rattle.tql_spec.specs.Datum.{Moments, same_kind}
use Rattle.tql_spec.specs.Refusal.{Refusal, TypesDoNotFit, FormNotAllowedHere, TableUnknownOrAlreadyThere, fault_if}
use Rattle.tql_spec.specs.Refusal.{NameUnknownAmbiguousOrRepeated, TooManyTablesOrReaders}
use Rattle.tql_spec.specs.Definition as definition
use Rattle.tql_spec.specs.Definition.{Name, TableDef, Application, System, Key, Reference, no_table, table_at, place_of}
use Rattle.tql_spec.specs.Definition.{next_place}
use Rattle.tql_spec.specs.AtPoints.{parent_at}
use Rattle.tql_spec.specs.Syntax.{Element, ColumnTree, Constraint, KeyTree, ForeignTree, CheckTree, RefList}
use Rattle.tql_spec.specs.Names.{Checked, check_each, Known}
use Rattle.tql_spec.specs.Creation.{PeriodPart, application_parts, system_parts, application_period, system_period}
use Rattle.tql_spec.specs.Creation.{whole_faults, column_names, columns_of, column_number, column_numbers, kind_in}
use Rattle.tql_spec.specs.Creation.{has_name, has_number, is_generated_at, starts, stops, first_of, part_names, column}
use Rattle.tql_spec.specs.Creation.{periods_of, period_names, period_number, period_called, period_columns}
use Rattle.tql_spec.specs.Creation.{shares_number, listed_columns, keys, references, reference, reference_in, checks}
use Rattle.tql_spec.specs.Creation.{is_declared_key, same_numbers, names_of, repeats, has_bad_number, several}
use Rattle.tql_spec.specs.Creation.{primary_count, primary_names, constraints_of, are_ends, create, check_scope}
use Rattle.tql_spec.specs.Creation.{application_name, application_kind, kinds_differ, kinds_at, kinds_in}
use Rattle.tql_spec.specs.Creation.{kinds_of, periods_differ}
use Rattle.tql_spec.specs.Binding.{generated_columns}
use Rattle.tql_spec.proofs.BoundKinds.{in_checked, none_any}
use Rattle.tql_spec.proofs.CreateKinds.{or_first_false, or_second_false}
use Rattle.tql_spec.proofs.Constraints.{same_text-self}
use Rattle.tql_spec.proofs.InOrder.{no_fault}
use Rattle.tql_spec.proofs.MemberLists.{in_kept, in_left, in_right, in_either}
use Rattle.tql_spec.proofs.Members.{by_bool}
use Rattle.tql_spec.proofs.RunKeeps.{no_left, no_right}
use Rattle.tql_spec.proofs.WidthRuns.{IsAt, number_found, period_is_pair}
use Rattle.tql_spec.proofs.Widths.{IsPair}
use Rattle.tql_points.specs.Slice.{own_columns}
use Rattle.tql_points.specs.Scope.{AreApart, IsPointTable, ArePointTables, is_payload, is_free_cond}
use Rattle.tql_points.specs.StatementScope.{written_names, is_point_constraint}
use Rattle.tql_points.proofs.Avoided.{IsClear, AreClear, condition_free}
use Rattle.tql_points.proofs.Numbers.{equal, in_number, not_in, not_number}
use Rattle.tql_points.proofs.Tables.{some_there, to_payload}
use Rattle.tql_points.proofs.Views.{both_true}

-- ---- names in lists

-- a name that is a member
pub name_in : (n : Name) (ns : List Name) → In n ns → has_name n ns ≡ true
name_in n [] m = absurd m
name_in n (x ∷ ns) (inl e) = ap (λ b. b || has_name n ns) (ap (same_text n) (sym e) ∙ same_text-self n)
name_in n (x ∷ ns) (inr m) = by_bool (same_text n x)
    (λ b. ap (λ c. c || has_name n ns) b)
    (λ b. ap (λ c. c || has_name n ns) b ∙ name_in n ns m)

-- a member of one of the lists
pub in_flat_map : {X Y : Type 0} (f : X → List Y) (y : Y) (xs : List X) (x : X) → In x xs → In y (f x)
    → In y (flat_map f xs)
in_flat_map f y [] x m k = absurd m
in_flat_map f y (z ∷ xs) x (inl e) k = in_left y (f z) (flat_map f xs) (subst (λ v. In y (f v)) e k)
in_flat_map f y (z ∷ xs) x (inr m) k = in_right y (f z) (flat_map f xs) (in_flat_map f y xs x m k)

-- the first element of a list is a member
first_in : {X : Type 0} (xs : List X) (x : X) → first_of xs ≡ Some x → In x xs
first_in [] x e = absurd (cc)
first_in (y ∷ xs) x e = let same : x ≡ y = cc in inl same

-- a list with exactly one member
one_member : {X : Type 0} (xs : List X) → is_empty xs ≡ false → several xs ≡ false → (x : X) × (xs ≡ x ∷ [])
one_member [] e k = absurd (cc)
one_member (x ∷ []) e k = (x, refl)
one_member (x ∷ y ∷ xs) e k =
    let many : nat_lt 1 (length (x ∷ y ∷ xs)) ≡ true = grind (arith, nat_tests) in
    let never : true ≡ false = sym many ∙ k in absurd (cc)

-- if all elements pass a test, a member does
pub all_member : {X : Type 0} (p : X → Bool) (xs : List X) → list_all p xs ≡ true → (x : X) → In x xs → p x ≡ true
all_member p [] e x m = absurd m
all_member p (y ∷ xs) e x (inl q) = ap p q ∙ (both_true (p y) (list_all p xs) e).0
all_member p (y ∷ xs) e x (inr m) = all_member p xs (both_true (p y) (list_all p xs) e).1 x m

-- the converse
pub member_all : {X : Type 0} (p : X → Bool) (xs : List X) → ((x : X) → In x xs → p x ≡ true) → list_all p xs ≡ true
member_all p [] h = refl
member_all p (x ∷ xs) h = ap (λ b. b && list_all p xs) (h x (inl refl)) ∙ member_all p xs (λ y m. h y (inr m))

-- some member passes a test
some_member : {X : Type 0} (p : X → Bool) (xs : List X) → list_any p xs ≡ true → (x : X) × In x xs × (p x ≡ true)
some_member p [] e = absurd (cc)
some_member p (y ∷ xs) e = by_bool (p y)
    (λ b. (y, inl refl, b))
    (λ b. let k = some_member p xs (sym (ap (λ c. c || list_any p xs) b) ∙ e) in (k.0, inr k.1, k.2))

-- ---- the table of a CREATE TABLE statement

-- the names of the defined columns are the written names
names_written : (implied : List Name) (cs : List ColumnTree)
    → map (λ (c : definition.Column). c.name) (map (column implied) cs) ≡ map (λ (c : ColumnTree). c.name) cs
names_written implied [] = refl
names_written implied (c ∷ cs) = ap (λ ns. c.name ∷ ns) (names_written implied cs)

-- an application period without a fault
record IsApplication (es : List Element) (p : PeriodPart) (a : Application) : Type 0 where
  start : IsAt p.start (column_names es) a.start
  end : IsAt p.end (column_names es) a.end
  apart : a.start ≡ a.end → ⊥
  start_own : is_generated_at es a.start ≡ false
  end_own : is_generated_at es a.end ≡ false

is_application : (es : List Element) (p : PeriodPart) → (application_period es p).faults ≡ []
    → IsApplication es p (application_period es p).value
is_application es p e =
    let names : List Name = column_names es in
    let s : Checked ℕ = column_number names p.start in
    let t : Checked ℕ = column_number names p.end in
    let kinds : List Refusal = fault_if (not (are_ends (kind_in es s.value) (kind_in es t.value))) TypesDoNotFit in
    let same : Bool = same_text p.start p.end in
    let one : Bool = is_generated_at es s.value in
    let two : Bool = is_generated_at es t.value in
    let forms : List Refusal = fault_if (same || one || two) FormNotAllowedHere in
    let second : t.faults ++ (kinds ++ (forms ++ [])) ≡ [] = no_right s.faults
    (t.faults ++ (kinds ++ (forms ++ []))) e in
    let third : kinds ++ (forms ++ []) ≡ [] = no_right t.faults (kinds ++ (forms ++ [])) second in
    let form : same || one || two ≡ false = no_fault (same || one || two) FormNotAllowedHere
    (no_left forms [] (no_right kinds (forms ++ []) third)) in
    let first : same || one ≡ false = or_first_false (same || one) two form in
    let a : IsAt p.start names s.value = number_found names p.start
    (no_left s.faults (t.faults ++ (kinds ++ (forms ++ []))) e) in
    let b : IsAt p.end names t.value = number_found names p.end (no_left t.faults (kinds ++ (forms ++ [])) second) in
    record {
      start = a;
      end = b;
      apart = λ q.
          let equal : p.start ≡ p.end = sym a.named ∙ ap (λ i. get_or names i []) q ∙ b.named in
          never (sym (same_text-self p.start) ∙ ap (same_text p.start) equal ∙ or_first_false same one first);
      start_own = or_second_false same one first;
      end_own = or_second_false (same || one) two form;
    }
  where
    never : true ≡ false → ⊥
    never q = cc

-- a system period without a fault
record IsSystem (es : List Element) (p : PeriodPart) (s : System) : Type 0 where
  start : IsAt p.start (column_names es) s.start
  end : IsAt p.end (column_names es) s.end
  pair : IsPair (length (columns_of es)) s
  started : has_number s.start (starts es) ≡ true
  stopped : has_number s.end (stops es) ≡ true

is_system : (es : List Element) (p : PeriodPart) → (system_period es p).faults ≡ []
    → IsSystem es p (system_period es p).value
is_system es p e =
    let names : List Name = column_names es in
    let s : Checked ℕ = column_number names p.start in
    let t : Checked ℕ = column_number names p.end in
    let kinds : List Refusal = fault_if
    (not (same_kind (kind_in es s.value) Moments) || not (same_kind (kind_in es t.value) Moments)) TypesDoNotFit in
    let same : Bool = same_text p.start p.end in
    let one : Bool = not (has_number s.value (starts es)) in
    let two : Bool = not (has_number t.value (stops es)) in
    let forms : List Refusal = fault_if (same || one || two) FormNotAllowedHere in
    let second : t.faults ++ (kinds ++ (forms ++ [])) ≡ [] = no_right s.faults
    (t.faults ++ (kinds ++ (forms ++ []))) e in
    let third : kinds ++ (forms ++ []) ≡ [] = no_right t.faults (kinds ++ (forms ++ [])) second in
    let form : same || one || two ≡ false = no_fault (same || one || two) FormNotAllowedHere
    (no_left forms [] (no_right kinds (forms ++ []) third)) in
    let first : same || one ≡ false = or_first_false (same || one) two form in
    record {
      start = number_found names p.start (no_left s.faults (t.faults ++ (kinds ++ (forms ++ []))) e);
      end = number_found names p.end (no_left t.faults (kinds ++ (forms ++ [])) second);
      pair = period_is_pair es p e;
      started = not_not (has_number s.value (starts es)) (or_second_false same one first);
      stopped = not_not (has_number t.value (stops es)) (or_second_false (same || one) two form);
    }
  where
    not_not : (b : Bool) → not b ≡ false → b ≡ true
    not_not true q = refl
    not_not false q = absurd (cc)

-- lists of columns without a fault
record AreListed (es : List Element) (as' : List Application) (p : Option Name) (is : List ℕ) : Type 0 where
  there : (i : ℕ) → In i is → i < length (column_names es)
  own : (i : ℕ) → In i is → is_generated_at es i ≡ false
  beside : (i : ℕ) → In i is → has_number i (period_columns (period_called p as')) ≡ false
  called : (n : Name) → p ≡ Some n → IsAt n (period_names es) (period_number es n).value

numbers_there : (names ns : List Name) → (column_numbers names ns).faults ≡ [] → (i : ℕ)
    → In i (column_numbers names ns).value → i < length names
numbers_there names ns e i m =
    let each : Checked (List ℕ) = check_each (column_number names) ns in
    let k = in_checked (column_number names) i ns m
    (no_left each.faults (fault_if (repeats ns) NameUnknownAmbiguousOrRepeated) e) in
    subst (λ j. j < length names) (sym k.2) (number_found names k.0 k.3).within

are_listed : (es : List Element) (as' : List Application) (ns : List Name) (p : Option Name)
    → (listed_columns es as' ns p).faults ≡ [] → AreListed es as' p (listed_columns es as' ns p).value
are_listed es as' ns p e =
    let is : Checked (List ℕ) = column_numbers (column_names es) ns in
    let q : Checked (List ℕ) = check_each (period_number es) (listed p) in
    let one : Bool = list_any (is_generated_at es) is.value in
    let two : Bool = shares_number is.value (period_columns (period_called p as')) in
    let forms : List Refusal = fault_if (one || two) FormNotAllowedHere in
    let second : q.faults ++ forms ≡ [] = no_right is.faults (q.faults ++ forms) e in
    let form : one || two ≡ false = no_fault (one || two) FormNotAllowedHere (no_right q.faults forms second) in
    record {
      there = numbers_there (column_names es) ns (no_left is.faults (q.faults ++ forms) e);
      own = λ i m. none_any (is_generated_at es) i is.value m (or_first_false one two form);
      beside = λ i m. none_any (λ j. has_number j (period_columns (period_called p as'))) i is.value m
          (or_second_false one two form);
      called = λ n w. by_name p w (no_left q.faults forms second);
    }
  where
    by_name : (o : Option Name) → {n : Name} → o ≡ Some n → (check_each (period_number es) (listed o)).faults ≡ []
        → IsAt n (period_names es) (period_number es n).value
    by_name None w f = absurd (cc)
    by_name (Some m) {n} w f =
        let same : m ≡ n = cc in
        subst (λ x. IsAt x (period_names es) (period_number es x).value) same
        (number_found (period_names es) m (no_left (period_number es m).faults [] f))

-- ---- tables found by name

-- an index found by name is that of a table
pub place_within : (n : Name) (defs : List TableDef) (t : ℕ) → place_of n defs ≡ Some t → t < length defs
place_within n [] t e = absurd (cc)
place_within n (x ∷ defs) t e = by_bool (same_text n x.name)
    (λ b. let q : 0 ≡ t = some_is (sym (ap (λ c. if c then Some 0 else next_place (place_of n defs)) b) ∙ e) in
    omega (arith, q))
    (λ b. further (place_of n defs) (place_within n defs)
    (sym (ap (λ c. if c then Some 0 else next_place (place_of n defs)) b) ∙ e))
  where
    some_is : {a b : ℕ} → Some a ≡ Some b → a ≡ b
    some_is q = cc

    further : (o : Option ℕ) → ((k : ℕ) → o ≡ Some k → k < length defs) → next_place o ≡ Some t
        → t < suc (length defs)
    further None h q = absurd (cc)
    further (Some k) h q =
        let l = h k refl in
        let s : suc k ≡ t = some_is q in omega (arith, l, s)

-- that table has the name
pub place_named : (n : Name) (defs : List TableDef) (t : ℕ) → place_of n defs ≡ Some t
    → same_text n (table_at defs t).name ≡ true
place_named n [] t e = absurd (cc)
place_named n (x ∷ defs) t e = by_bool (same_text n x.name)
    (λ b. let q : 0 ≡ t = some_is (sym (ap (λ c. if c then Some 0 else next_place (place_of n defs)) b) ∙ e) in
    subst (λ i. same_text n (table_at (x ∷ defs) i).name ≡ true) q b)
    (λ b. further (place_of n defs) (place_named n defs)
    (sym (ap (λ c. if c then Some 0 else next_place (place_of n defs)) b) ∙ e))
  where
    some_is : {a b : ℕ} → Some a ≡ Some b → a ≡ b
    some_is q = cc

    further : (o : Option ℕ) → ((k : ℕ) → o ≡ Some k → same_text n (table_at defs k).name ≡ true)
        → next_place o ≡ Some t → same_text n (table_at (x ∷ defs) t).name ≡ true
    further None h q = absurd (cc)
    further (Some k) h q = subst (λ i. same_text n (table_at (x ∷ defs) i).name ≡ true) (some_is q) (h k refl)

-- the index remains the same if tables are appended
pub place_more : (n : Name) (defs more : List TableDef) (t : ℕ) → place_of n defs ≡ Some t
    → place_of n (defs ++ more) ≡ Some t
place_more n [] more t e = absurd (cc)
place_more n (x ∷ defs) more t e = by_bool (same_text n x.name)
    (λ b. ap (λ c. if c then Some 0 else next_place (place_of n (defs ++ more))) b
    ∙ sym (ap (λ c. if c then Some 0 else next_place (place_of n defs)) b) ∙ e)
    (λ b. ap (λ c. if c then Some 0 else next_place (place_of n (defs ++ more))) b
    ∙ further (place_of n defs) (place_more n defs more)
    (sym (ap (λ c. if c then Some 0 else next_place (place_of n defs)) b) ∙ e))
  where
    further : (o : Option ℕ) → ((k : ℕ) → o ≡ Some k → place_of n (defs ++ more) ≡ Some k) → next_place o ≡ Some t
        → next_place (place_of n (defs ++ more)) ≡ Some t
    further None h q = absurd (cc)
    further (Some k) h q = ap next_place (h k refl) ∙ q

-- the last table
at_last : (defs : List TableDef) (d : TableDef) → table_at (defs ++ d ∷ []) (length defs) ≡ d
at_last [] d = refl
at_last (x ∷ defs) d = at_last defs d

-- lists of numbers that compare as equal are equal
same_list : (is js : List ℕ) → same_numbers is js ≡ true → is ≡ js
same_list [] [] e = refl
same_list [] (j ∷ js) e = absurd (cc)
same_list (i ∷ is) [] e = absurd (cc)
same_list (i ∷ is) (j ∷ js) e =
    let s = both_true (i == j) (same_numbers is js) e in
    ap (λ k. k ∷ is) (equal i j s.0) ∙ ap (λ ks. j ∷ ks) (same_list is js s.1)

module _ (defs : List TableDef) (n : Name) (es : List Element) (versioned : Bool)
    (sound : (create defs n es versioned).faults ≡ []) (some : is_empty (application_parts es) ≡ false)
    (scope : list_all (is_point_constraint (written_names es)) (constraints_of es) ≡ true) where
  abbrev d : TableDef
  d = (create defs n es versioned).value

  abbrev as' : List Application
  as' = (check_each (application_period es) (application_parts es)).value

  -- ---- the application period

  -- there is exactly one application period
  one_part : (p : PeriodPart) × (application_parts es ≡ p ∷ [])
  one_part =
      let f1 : List Refusal = fault_if (is_some (place_of n defs)) TableUnknownOrAlreadyThere in
      let f2 : List Refusal = fault_if (repeats (column_names es ++ period_names es)) NameUnknownAmbiguousOrRepeated in
      let f3 : List Refusal = fault_if (list_any (λ (c : ColumnTree). has_bad_number c.type_name) (columns_of es))
      TypesDoNotFit in
      let f4 : List Refusal = fault_if (list_all (λ (c : ColumnTree). is_some c.generated) (columns_of es))
      FormNotAllowedHere in
      let many : Bool = several (application_parts es) in
      let f5 : List Refusal = fault_if (many || several (system_parts es)) FormNotAllowedHere in
      let f6 : List Refusal = fault_if (not (length (system_parts es) == (if versioned then 1 else 0)))
      FormNotAllowedHere in
      let f7 : List Refusal = fault_if (not (length (starts es) == length (system_parts es)) || not
      (length (stops es) == length (system_parts es))) FormNotAllowedHere in
      let f8 : List Refusal = fault_if (nat_lt 1 (primary_count (constraints_of es))) FormNotAllowedHere in
      let f9 : List Refusal = fault_if (nat_le most_tables (length defs)) TooManyTablesOrReaders in
      let whole : whole_faults defs n es versioned ≡ [] = no_left (whole_faults defs n es versioned) _ sound in
      let w8 = no_left (f1 ++ f2 ++ f3 ++ f4 ++ f5 ++ f6 ++ f7 ++ f8) f9 whole in
      let w7 = no_left (f1 ++ f2 ++ f3 ++ f4 ++ f5 ++ f6 ++ f7) f8 w8 in
      let w6 = no_left (f1 ++ f2 ++ f3 ++ f4 ++ f5 ++ f6) f7 w7 in
      let w5 = no_left (f1 ++ f2 ++ f3 ++ f4 ++ f5) f6 w6 in
      let fifth = no_right (f1 ++ f2 ++ f3 ++ f4) f5 w5 in
      one_member (application_parts es) some
      (or_first_false many (several (system_parts es)) (no_fault (many || several (system_parts es))
      FormNotAllowedHere fifth))

  abbrev part : PeriodPart
  part = one_part.0

  abbrev own : Application
  own = (application_period es part).value

  one_application : as' ≡ own ∷ []
  one_application = ap (λ ps. (check_each (application_period es) ps).value) one_part.1

  is_own : d.application ≡ Some own
  is_own = ap first_of one_application

  -- the faults of the parts
  after_whole : (check_each (application_period es) (application_parts es)).faults
      ++ ((check_each (system_period es) (system_parts es)).faults
      ++ ((keys es as' (constraints_of es)).faults
      ++ ((references defs es as' (constraints_of es)).faults
      ++ ((checks es (check_scope as' (record d { checks = [] })) (constraints_of es)).faults ++ [])))) ≡ []
  after_whole = no_right (whole_faults defs n es versioned) _ sound

  own_is : IsApplication es part own
  own_is =
      let k = no_left (check_each (application_period es) (application_parts es)).faults _ after_whole in
      is_application es part
      (no_left (application_period es part).faults []
      (sym (ap (λ ps. (check_each (application_period es) ps).faults) one_part.1) ∙ k))

  part_kept : In part (periods_of es) × (is_some part.name ≡ true)
  part_kept = in_kept (λ (p : PeriodPart). is_some p.name) part (periods_of es)
      (subst (λ ps. In part ps) (sym one_part.1) (inl refl))

  own_called : (m : Name) × (part.name ≡ Some m)
  own_called = some_there part.name part_kept.1

  -- ---- the system period

  record SystemOf (s : System) : Type 0 where
    from : PeriodPart
    among : In from (periods_of es)
    is : IsSystem es from s

  after_application : (check_each (system_period es) (system_parts es)).faults
      ++ ((keys es as' (constraints_of es)).faults
      ++ ((references defs es as' (constraints_of es)).faults
      ++ ((checks es (check_scope as' (record d { checks = [] })) (constraints_of es)).faults ++ []))) ≡ []
  after_application = no_right (check_each (application_period es) (application_parts es)).faults _ after_whole

  system_of : (s : System) → d.system ≡ Some s → SystemOf s
  system_of s e =
      let k = in_checked (system_period es) s (system_parts es)
      (first_in (check_each (system_period es) (system_parts es)).value s e)
      (no_left (check_each (system_period es) (system_parts es)).faults _ after_application) in
      record {
        from = k.0;
        among = (in_kept (λ (p : PeriodPart). is_none p.name) k.0 (periods_of es) k.1).0;
        is = subst (IsSystem es k.0) (sym k.2) (is_system es k.0 k.3);
      }

  -- ---- which columns belong to which period

  as_wide : length d.columns ≡ length (columns_of es)
  as_wide = length-map (columns_of es) _

  as_named : length (column_names es) ≡ length (columns_of es)
  as_named = length-map (columns_of es) _

  -- a column that is not written as generated is not one of the generated columns
  not_generated : (o : Option System) → d.system ≡ o → (i : ℕ) → is_generated_at es i ≡ false
      → In i (generated_columns o) → ⊥
  not_generated None e i f m = absurd m
  not_generated (Some s) e i f (inl q) = never
      (sym (system_of s e).is.started ∙ ap (λ j. has_number j (starts es)) (sym q)
      ∙ or_first_false (has_number i (starts es)) (has_number i (stops es)) f)
    where
      never : true ≡ false → ⊥
      never q = cc
  not_generated (Some s) e i f (inr (inl q)) = never
      (sym (system_of s e).is.stopped ∙ ap (λ j. has_number j (stops es)) (sym q)
      ∙ or_second_false (has_number i (starts es)) (has_number i (stops es)) f)
    where
      never : true ≡ false → ⊥
      never q = cc
  not_generated (Some s) e i f (inr (inr m)) = absurd m

  in_own : (i : ℕ) → In i (own_columns d) → (In i (own.start ∷ own.end ∷ [])) ⊎ (In i (generated_columns d.system))
  in_own i m = in_either i (own.start ∷ own.end ∷ []) (generated_columns d.system)
      (subst (λ o. In i (period_columns o ++ generated_columns d.system)) is_own m)

  -- a column in a list without a fault belongs to neither period
  listed_payload : (p : Name) (is : List ℕ) → AreListed es as' (Some p) is → list_all (is_payload d) is ≡ true
  listed_payload p is h = member_all (is_payload d) is (λ i m.
      let l = h.there i m in
      in_number i _ (to_payload d i (omega (arith, l, as_wide, as_named)) (λ k. elim (in_own i k) [
        | inl y ↦ not_in i (own.start ∷ own.end ∷ [])
            (sym (ap (λ o. has_number i (period_columns o)) called_own) ∙ h.beside i m) y
        | inr y ↦ not_generated d.system refl i (h.own i m) y
      ])))
    where
      names_are : period_names es ≡ own_called.0 ∷ []
      names_are = ap (flat_map (λ (x : PeriodPart). listed x.name)) one_part.1 ∙ ap (λ o. listed o ++ []) own_called.1

      is_first : (ns : List Name) → ns ≡ own_called.0 ∷ [] → (i : ℕ) → IsAt p ns i → own_called.0 ≡ p
      is_first ns e zero at = sym (ap (λ xs. get_or xs 0 []) e) ∙ at.named
      is_first ns e (suc i) at =
          let l = at.within in let k = ap length e in absurd (omega (arith, l, k))

      same : own.name ≡ p
      same = ap (λ o. get_or (listed o) 0 []) own_called.1
          ∙ is_first (period_names es) names_are (period_number es p).value (h.called p refl)

      called_own : period_called (Some p) as' ≡ Some own
      called_own = ap (λ xs. first_of (filter (λ (a : Application). same_text p a.name) xs)) one_application
          ∙ ap (λ b. first_of (if b then own ∷ [] else [])) (ap (same_text p) same ∙ same_text-self p)

  -- ---- keys

  in_keys : (cs : List Constraint) → list_all (is_point_constraint (written_names es)) cs ≡ true
      → (keys es as' cs).faults ≡ [] → (k : Key) → In k (keys es as' cs).value
      → (k.by_period ≡ true) × (list_all (is_payload d) k.columns ≡ true)
  in_keys [] e f k m = absurd m
  in_keys (KeyTree primary x ns None ∷ cs) e f k m = absurd (cc)
  in_keys (KeyTree primary x ns (Some p) ∷ cs) e f k (inl q) =
      let is : Checked (List ℕ) = listed_columns es as' (x ∷ ns) (Some p) in
      let ok = no_left is.faults ((keys es as' cs).faults ++ []) f in (
        ap (λ (z : Key). z.by_period) q,
        ap (λ (z : Key). list_all (is_payload d) z.columns) q
            ∙ listed_payload p is.value (are_listed es as' (x ∷ ns) (Some p) ok),
      )
  in_keys (KeyTree primary x ns (Some p) ∷ cs) e f k (inr m) =
      let is : Checked (List ℕ) = listed_columns es as' (x ∷ ns) (Some p) in
      in_keys cs e (no_left (keys es as' cs).faults [] (no_right is.faults ((keys es as' cs).faults ++ []) f)) k m
  in_keys (ForeignTree c x ns ∷ cs) e f k m = in_keys cs
      (both_true (is_some c.period) (list_all (is_point_constraint (written_names es)) cs) e).1 f k m
  in_keys (CheckTree c ∷ cs) e f k m = in_keys cs (both_true _ _ e).1 f k m

  -- ---- references

  -- a reference in scope
  abbrev IsPointReference : Reference → Type 0
  IsPointReference f = (f.by_period ≡ true) × (is_some (place_of f.parent defs) ≡ true)
      × (list_all (is_payload d) f.columns ≡ true)
      × (list_all (is_payload (parent_at defs (place_of f.parent defs))) f.parent_columns ≡ true)

  module _ (all : ArePointTables defs) where
    -- the columns of a declared key WITHOUT OVERLAPS of a table in scope belong to neither period
    declared : (parent : TableDef) → IsPointTable defs parent → (is : List ℕ)
        → is_declared_key parent true is ≡ true → list_all (is_payload parent) is ≡ true
    declared parent h is e =
        let k = some_member (λ (x : Key). same_numbers x.columns is && x.by_period) parent.keys e in
        let both = both_true (same_numbers k.0.columns is) k.0.by_period k.2 in
        subst (λ xs. list_all (is_payload parent) xs ≡ true) (same_list k.0.columns is both.0) (h.keys k.0 k.1).1

    one_reference : (c : RefList) (x : Name) (ns : RefList) → is_some c.period ≡ true → (o : Option ℕ)
        → place_of x defs ≡ o → (reference_in defs es as' c x ns o).faults ≡ []
        → (f : Reference) → In f (reference_in defs es as' c x ns o).value → IsPointReference f
    one_reference c x ns e None w z f m = absurd m
    one_reference c x ns e (Some t) w z f (inr m) = absurd m
    one_reference c x ns e (Some t) w z f (inl q) =
        let parent : TableDef = table_at defs t in
        let cs : Checked (List ℕ) = listed_columns es as' (c.first ∷ c.more) c.period in
        let ps : Checked (List ℕ) = column_numbers (names_of parent) (ns.first ∷ ns.more) in
        let p : Checked (List ℕ) =
        check_each (column_number (application_name parent.application)) (listed ns.period) in
        let kinds : List Refusal = fault_if (kinds_differ (kinds_at (kinds_in es) cs.value)
        (kinds_at (kinds_of parent) ps.value)) TypesDoNotFit in
        let periods : List Refusal = fault_if (periods_differ
        (application_kind (kinds_in es) (period_called c.period as'))
        (application_kind (kinds_of parent) parent.application) c.period ns.period) TypesDoNotFit in
        let one : Bool = not (if is_some c.period then is_some ns.period else is_none ns.period) in
        let two : Bool = not (is_declared_key parent (is_some ns.period) ps.value) in
        let forms : List Refusal = fault_if (one || two) FormNotAllowedHere in
        let e0 : cs.faults ++ (ps.faults ++ (p.faults ++ (kinds ++ (periods ++ (forms ++ []))))) ≡ [] =
        no_left (reference es as' c x parent ns).faults [] z in
        let e1 = no_right cs.faults (ps.faults ++ (p.faults ++ (kinds ++ (periods ++ (forms ++ []))))) e0 in
        let e2 = no_right ps.faults (p.faults ++ (kinds ++ (periods ++ (forms ++ [])))) e1 in
        let e3 = no_right p.faults (kinds ++ (periods ++ (forms ++ []))) e2 in
        let e4 = no_right kinds (periods ++ (forms ++ [])) e3 in
        let form = no_fault (one || two) FormNotAllowedHere (no_left forms [] (no_right periods (forms ++ []) e4)) in
        let named = some_there c.period e in
        let dated : is_some ns.period ≡ true =
        sym (ap (λ b. if b then is_some ns.period else is_none ns.period) e)
        ∙ not_not (if is_some c.period then is_some ns.period else is_none ns.period) (or_first_false one two form) in
        let key = sym (ap (λ b. is_declared_key parent b ps.value) dated)
        ∙ not_not (is_declared_key parent (is_some ns.period) ps.value) (or_second_false one two form) in
        let there = place_within x defs t w in
        subst IsPointReference (sym q) (
          e,
          ap is_some w,
          listed_payload named.0 cs.value
              (subst (λ o. AreListed es as' o cs.value) named.1
              (are_listed es as' (c.first ∷ c.more) c.period (no_left cs.faults _ e0))),
          subst (λ o. list_all (is_payload (parent_at defs o)) ps.value ≡ true) (sym w)
              (declared parent (all t there) ps.value key),
        )
      where
        not_not : (b : Bool) → not b ≡ false → b ≡ true
        not_not true y = refl
        not_not false y = absurd (cc)

    in_references : (cs : List Constraint) → list_all (is_point_constraint (written_names es)) cs ≡ true
        → (references defs es as' cs).faults ≡ [] → (f : Reference) → In f (references defs es as' cs).value
        → IsPointReference f
    in_references [] e z f m = absurd m
    in_references (KeyTree primary x ns p ∷ cs) e z f m = in_references cs (both_true _ _ e).1 z f m
    in_references (CheckTree c ∷ cs) e z f m = in_references cs (both_true _ _ e).1 z f m
    in_references (ForeignTree c x ns ∷ cs) e z f m =
        let s = both_true (is_some c.period) (list_all (is_point_constraint (written_names es)) cs) e in
        let one : Checked (List Reference) = reference_in defs es as' c x ns (place_of x defs) in
        let more : Checked (List Reference) = references defs es as' cs in
        elim (in_either f one.value more.value m) [
          | inl y ↦ one_reference c x ns s.0 (place_of x defs) refl (no_left one.faults (more.faults ++ []) z) f y
          | inr y ↦ in_references cs s.1 (no_left more.faults [] (no_right one.faults (more.faults ++ []) z)) f y
        ]

  -- ---- CHECKs

  -- the table as seen by its CHECKs
  abbrev bare : TableDef
  bare = record d { checks = [] }

  own_name : (i : ℕ) → In i (own_columns d) → has_name (get_or (column_names es) i []) (written_names es) ≡ true
  own_name i m = elim (in_own i m) [
    | inl y ↦ by_own i y
    | inr y ↦ by_system d.system refl i y
  ]
    where
      written : (p : PeriodPart) → In p (periods_of es) → (x : Name) → In x (part_names p) → (i : ℕ)
          → IsAt x (column_names es) i → has_name (get_or (column_names es) i []) (written_names es) ≡ true
      written p k x n i at = ap (λ y. has_name y (written_names es)) at.named
          ∙ name_in x (written_names es) (in_right x (period_names es) (flat_map part_names (periods_of es))
          (in_flat_map part_names x (periods_of es) p k n))

      by_own : (i : ℕ) → In i (own.start ∷ own.end ∷ [])
          → has_name (get_or (column_names es) i []) (written_names es) ≡ true
      by_own i (inl q) = ap (λ j. has_name (get_or (column_names es) j []) (written_names es)) q
          ∙ written part part_kept.0 part.start (inl refl) own.start own_is.start
      by_own i (inr (inl q)) = ap (λ j. has_name (get_or (column_names es) j []) (written_names es)) q
          ∙ written part part_kept.0 part.end (inr (inl refl)) own.end own_is.end
      by_own i (inr (inr n)) = absurd n

      by_system : (o : Option System) → d.system ≡ o → (i : ℕ) → In i (generated_columns o)
          → has_name (get_or (column_names es) i []) (written_names es) ≡ true
      by_system None e i n = absurd n
      by_system (Some s) e i (inl q) =
          let k = system_of s e in
          ap (λ j. has_name (get_or (column_names es) j []) (written_names es)) q
          ∙ written k.from k.among k.from.start (inl refl) s.start k.is.start
      by_system (Some s) e i (inr (inl q)) =
          let k = system_of s e in
          ap (λ j. has_name (get_or (column_names es) j []) (written_names es)) q
          ∙ written k.from k.among k.from.end (inr (inl refl)) s.end k.is.end
      by_system (Some s) e i (inr (inr n)) = absurd n

  check_clear : AreClear (written_names es) (λ i. not (is_payload d i)) (check_scope as' bare)
  check_clear = record { each = known }
    where
      implied : List Name
      implied = flat_map part_names (application_parts es) ++ primary_names (constraints_of es)

      never : {P : Type 0} → true ≡ false → P
      never q = absurd (cc)

      period_there : (a : Application) → In a as' → has_name a.name (written_names es) ≡ true
      period_there a m = elim (subst (λ xs. In a xs) one_application m) [
        | inl q ↦ ap (λ (x : Application). has_name x.name (written_names es)) q
            ∙ ap (λ o. has_name (get_or (listed o) 0 []) (written_names es)) own_called.1
            ∙ name_in own_called.0 (written_names es)
            (in_left own_called.0 (period_names es) (flat_map part_names (periods_of es))
            (in_flat_map (λ (x : PeriodPart). listed x.name) own_called.0 (application_parts es) part
            (subst (λ ps. In part ps) (sym one_part.1) (inl refl))
            (subst (λ o. In own_called.0 (listed o)) (sym own_called.1) (inl refl))))
        | inr k ↦ absurd k
      ]

      column_clear : (i : ℕ) → i < length d.columns
          → has_name (get_or (names_of bare) i []) (written_names es) ≡ false → not (is_payload d (0 + i)) ≡ false
      column_clear i l e =
          ap (λ j. not (is_payload d j)) (zero_plus i)
          ∙ ap not (in_number i _ (to_payload d i l (λ m. never (sym (own_name i m)
          ∙ ap (λ ns. has_name (get_or ns i []) (written_names es))
          (sym (names_written implied (columns_of es))) ∙ e))))
        where
          zero_plus : (k : ℕ) → 0 + k ≡ k
          zero_plus k = omega arith

      known : (k : Known) → In k (check_scope as' bare)
          → IsClear (written_names es) (λ i. not (is_payload d i)) k
      known k (inl q) = subst (IsClear (written_names es) (λ i. not (is_payload d i))) (sym q)
          (record { columns = column_clear; periods = period_there })
      known k (inr m) = absurd m

  in_checks : (cs : List Constraint) → list_all (is_point_constraint (written_names es)) cs ≡ true
      → list_all (is_free_cond d) (checks es (check_scope as' bare) cs).value ≡ true
  in_checks [] e = refl
  in_checks (KeyTree primary x ns p ∷ cs) e = in_checks cs (both_true _ _ e).1
  in_checks (ForeignTree c x ns ∷ cs) e = in_checks cs (both_true _ _ e).1
  in_checks (CheckTree c ∷ cs) e =
      let s = both_true _ (list_all (is_point_constraint (written_names es)) cs) e in
      ap (λ b. not b && list_all (is_free_cond d) (checks es (check_scope as' bare) cs).value)
      (condition_free (written_names es) (λ i. not (is_payload d i))
      (check_scope as' bare) check_clear c s.0)
      ∙ in_checks cs s.1

  -- ---- the table

  are_apart : AreApart (length d.columns) (own_columns d)
  are_apart = subst (λ o. AreApart (length d.columns) (period_columns o ++ generated_columns d.system)) (sym is_own) (
    there own_is.start.within,
    not_number own.start (own.end ∷ generated_columns d.system) (λ m. elim m [
      | inl q ↦ own_is.apart q
      | inr k ↦ not_generated d.system refl own.start own_is.start_own k
    ]),
    (
      there own_is.end.within,
      not_number own.end (generated_columns d.system) (not_generated d.system refl own.end own_is.end_own),
      by_system d.system refl,
    ),
  )
    where
      there : {i : ℕ} → i < length (column_names es) → i < length d.columns
      there {i} l = omega (arith, l, as_wide, as_named)

      by_system : (o : Option System) → d.system ≡ o → AreApart (length d.columns) (generated_columns o)
      by_system None e = tt
      by_system (Some s) e =
          let p = (system_of s e).is.pair in
          let one = p.start_there in
          let two = p.end_there in (
            omega (arith, one, as_wide),
            not_number s.start (s.end ∷ []) (λ m. elim m [ inl q ↦ p.apart q | inr k ↦ k ]),
            (omega (arith, two, as_wide), refl, tt),
          )

  -- the other tables remain in scope, and the new one is in scope
  pub creation_in_scope : ArePointTables defs → ArePointTables (defs ++ d ∷ [])
  creation_in_scope all t l = by_bool (nat_lt t (length defs))
      (λ e. subst (IsPointTable (defs ++ d ∷ [])) (sym (get_or-append defs (d ∷ []) no_table t (below e)))
      (still (table_at defs t) (all t (below e))))
      (λ e. subst (IsPointTable (defs ++ d ∷ [])) (sym (last t (same e))) (record {
        period = ap is_some is_own;
        apart = are_apart;
        checks = in_checks (constraints_of es) scope;
        keys = in_keys (constraints_of es) scope (no_left (keys es as' (constraints_of es)).faults _ after_system);
        references = λ f m.
            let k = in_references all (constraints_of es) scope
            (no_left (references defs es as' (constraints_of es)).faults _
            (no_right (keys es as' (constraints_of es)).faults _ after_system)) f m in
            let p = still_there f k.1 in
            (k.0, p.0, k.2, p.1 f.parent_columns k.3);
      }))
    where
      after_system : (keys es as' (constraints_of es)).faults
          ++ ((references defs es as' (constraints_of es)).faults
          ++ ((checks es (check_scope as' bare) (constraints_of es)).faults ++ [])) ≡ []
      after_system = no_right (check_each (system_period es) (system_parts es)).faults _ after_application

      below : {t : ℕ} → nat_lt t (length defs) ≡ true → t < length defs
      below {t} e = grind (arith, nat_tests, e)

      same : nat_lt t (length defs) ≡ false → t ≡ length defs
      same e =
          let many : length (defs ++ d ∷ []) ≡ length defs + 1 = length-append defs (d ∷ []) in
          let above : length defs ≤ t = grind (arith, nat_tests, e) in
          omega (arith, l, many, above)

      last : (i : ℕ) → i ≡ length defs → table_at (defs ++ d ∷ []) i ≡ d
      last i e = ap (table_at (defs ++ d ∷ [])) e ∙ at_last defs d

      -- the index of a parent table does not change
      still_there : (f : Reference) → is_some (place_of f.parent defs) ≡ true
          → (is_some (place_of f.parent (defs ++ d ∷ [])) ≡ true)
          × ((is : List ℕ) → list_all (is_payload (parent_at defs (place_of f.parent defs))) is ≡ true
          → list_all (is_payload (parent_at (defs ++ d ∷ []) (place_of f.parent (defs ++ d ∷ [])))) is ≡ true)
      still_there f e =
          let t = some_there (place_of f.parent defs) e in
          let o = place_more f.parent defs (d ∷ []) t.0 t.1 in
          let w = place_within f.parent defs t.0 t.1 in (
            ap is_some o,
            λ is k. subst (λ x. list_all (is_payload (parent_at (defs ++ d ∷ []) x)) is ≡ true) (sym o)
                (subst (λ x. list_all (is_payload x) is ≡ true)
                (sym (get_or-append defs (d ∷ []) no_table t.0 w))
                (subst (λ x. list_all (is_payload (parent_at defs x)) is ≡ true) t.1 k)),
          )

      still : (x : TableDef) → IsPointTable defs x → IsPointTable (defs ++ d ∷ []) x
      still x h = record {
        period = h.period;
        apart = h.apart;
        checks = h.checks;
        keys = h.keys;
        references = λ f m.
            let k = h.references f m in
            let p = still_there f k.1 in
            (k.0, p.0, k.2, p.1 f.parent_columns k.3);
      }
