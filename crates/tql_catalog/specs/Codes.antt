-- How the logic encodes expressions, conditions and the definitions of tables: each as a tree of numbers from which it
-- can be decoded.
use Rattle.std.specs.Prelude.{◌≡◌, refl, ℕ, zero, suc, Bool, List, [], ◌∷◌, ℤ, pos, negsuc, Option}
use Rattle.std.specs.Coded.{Coded, code_by, coded×, coded_ℕ, coded_bool, coded_list, coded_option}
use Rattle.std.proofs.Common.{ap}
use base.Stored.{Gv, gnil, gnum, gcons, num}
use Rattle.tql_spec.specs.Datum.{Datum, Null, Int, Text, Day, Moment, Kind, Ints, Texts, Days, Moments, Comparison}
use Rattle.tql_spec.specs.Datum.{Equals, Differs, Below, AtMost, Above, AtLeast, Operation, Plus, Minus, Times}
use Rattle.tql_spec.specs.Period.{Relation, Overlaps, Includes, SameAs, Precedes, Succeeds, ImmediatelyPrecedes}
use Rattle.tql_spec.specs.Period.{ImmediatelySucceeds}
use Rattle.tql_spec.specs.Expression as bound
use Rattle.tql_spec.specs.Expression.{Function, Count, Sum, Min, Max, Expr, Literal, Negate, Binary, CountRows}
use Rattle.tql_spec.specs.Expression.{Aggregate, Cond, Compare, IsNull, Related, ContainsPoint, Not, And, Or}
use Rattle.tql_spec.specs.Definition.{Name, Column, Application, System, Key, Reference, TableDef}

-- a tree of numbers is its own code
abbrev coded_tree : Coded Gv
coded_tree = record { code = λ g. g; inj = λ x y p. p }

-- ---- enumerations

abbrev kind_number : Kind → ℕ
kind_number Ints = 0
kind_number Texts = 1
kind_number Days = 2
kind_number Moments = 3

abbrev kind_at : ℕ → Kind
kind_at zero = Ints
kind_at (suc zero) = Texts
kind_at (suc (suc zero)) = Days
kind_at (suc (suc (suc n))) = Moments

pub kind_back : (k : Kind) → kind_at (kind_number k) ≡ k
kind_back Ints = refl
kind_back Texts = refl
kind_back Days = refl
kind_back Moments = refl

abbrev comparison_number : Comparison → ℕ
comparison_number Equals = 0
comparison_number Differs = 1
comparison_number Below = 2
comparison_number AtMost = 3
comparison_number Above = 4
comparison_number AtLeast = 5

abbrev comparison_at : ℕ → Comparison
comparison_at zero = Equals
comparison_at (suc zero) = Differs
comparison_at (suc (suc zero)) = Below
comparison_at (suc (suc (suc zero))) = AtMost
comparison_at (suc (suc (suc (suc zero)))) = Above
comparison_at (suc (suc (suc (suc (suc n))))) = AtLeast

comparison_back : (c : Comparison) → comparison_at (comparison_number c) ≡ c
comparison_back Equals = refl
comparison_back Differs = refl
comparison_back Below = refl
comparison_back AtMost = refl
comparison_back Above = refl
comparison_back AtLeast = refl

abbrev operation_number : Operation → ℕ
operation_number Plus = 0
operation_number Minus = 1
operation_number Times = 2

abbrev operation_at : ℕ → Operation
operation_at zero = Plus
operation_at (suc zero) = Minus
operation_at (suc (suc n)) = Times

operation_back : (o : Operation) → operation_at (operation_number o) ≡ o
operation_back Plus = refl
operation_back Minus = refl
operation_back Times = refl

abbrev function_number : Function → ℕ
function_number Count = 0
function_number Sum = 1
function_number Min = 2
function_number Max = 3

abbrev function_at : ℕ → Function
function_at zero = Count
function_at (suc zero) = Sum
function_at (suc (suc zero)) = Min
function_at (suc (suc (suc n))) = Max

function_back : (f : Function) → function_at (function_number f) ≡ f
function_back Count = refl
function_back Sum = refl
function_back Min = refl
function_back Max = refl

abbrev relation_number : Relation → ℕ
relation_number Overlaps = 0
relation_number Includes = 1
relation_number SameAs = 2
relation_number Precedes = 3
relation_number Succeeds = 4
relation_number ImmediatelyPrecedes = 5
relation_number ImmediatelySucceeds = 6

abbrev relation_at : ℕ → Relation
relation_at zero = Overlaps
relation_at (suc zero) = Includes
relation_at (suc (suc zero)) = SameAs
relation_at (suc (suc (suc zero))) = Precedes
relation_at (suc (suc (suc (suc zero)))) = Succeeds
relation_at (suc (suc (suc (suc (suc zero))))) = ImmediatelyPrecedes
relation_at (suc (suc (suc (suc (suc (suc n)))))) = ImmediatelySucceeds

relation_back : (r : Relation) → relation_at (relation_number r) ≡ r
relation_back Overlaps = refl
relation_back Includes = refl
relation_back SameAs = refl
relation_back Precedes = refl
relation_back Succeeds = refl
relation_back ImmediatelyPrecedes = refl
relation_back ImmediatelySucceeds = refl

-- ---- values

abbrev integer_tree : ℤ → Gv
integer_tree (pos n) = gcons gnil (gnum n)
integer_tree (negsuc n) = gcons (gnum 0) (gnum n)

abbrev integer_of : Gv → ℤ
integer_of (gcons gnil g) = pos (num g)
integer_of (gcons (gnum n) g) = negsuc (num g)
integer_of _ = pos 0

integer_back : (i : ℤ) → integer_of (integer_tree i) ≡ i
integer_back (pos n) = refl
integer_back (negsuc n) = refl

abbrev text_tree : List ℕ → Gv
text_tree [] = gnil
text_tree (b ∷ bs) = gcons (gnum b) (text_tree bs)

abbrev text_of : Gv → List ℕ
text_of (gcons b bs) = num b ∷ text_of bs
text_of _ = []

text_back : (t : List ℕ) → text_of (text_tree t) ≡ t
text_back [] = refl
text_back (b ∷ bs) = ap {B = List ℕ} (λ t. b ∷ t) (text_back bs)

abbrev datum_tree : Datum → Gv
datum_tree Null = gnil
datum_tree (Int n) = gcons (gnum 0) (integer_tree n)
datum_tree (Text t) = gcons (gnum 1) (text_tree t)
datum_tree (Day d) = gcons (gnum 2) (integer_tree d)
datum_tree (Moment m) = gcons (gnum 3) (integer_tree m)

abbrev datum_of : Gv → Datum
datum_of (gcons (gnum zero) g) = Int (integer_of g)
datum_of (gcons (gnum (suc zero)) g) = Text (text_of g)
datum_of (gcons (gnum (suc (suc zero))) g) = Day (integer_of g)
datum_of (gcons (gnum (suc (suc (suc n)))) g) = Moment (integer_of g)
datum_of _ = Null

datum_back : (v : Datum) → datum_of (datum_tree v) ≡ v
datum_back Null = refl
datum_back (Int n) = ap (λ (i : ℤ). Int i) (integer_back n)
datum_back (Text t) = ap (λ (u : List ℕ). Text u) (text_back t)
datum_back (Day d) = ap (λ (i : ℤ). Day i) (integer_back d)
datum_back (Moment m) = ap (λ (i : ℤ). Moment i) (integer_back m)

-- ---- expressions and conditions

abbrev expr_tree : Expr → Gv
expr_tree CountRows = gnil
expr_tree (Literal v) = gcons (gnum 0) (datum_tree v)
expr_tree (bound.Column i) = gcons (gnum 1) (gnum i)
expr_tree (Negate a) = gcons (gnum 2) (expr_tree a)
expr_tree (Aggregate f a) = gcons (gcons gnil (gnum (function_number f))) (expr_tree a)
expr_tree (Binary op a b) = gcons (gcons (gnum (operation_number op)) (expr_tree a)) (expr_tree b)

abbrev expr_of : Gv → Expr
expr_of (gcons (gnum zero) g) = Literal (datum_of g)
expr_of (gcons (gnum (suc zero)) g) = bound.Column (num g)
expr_of (gcons (gnum (suc (suc n))) g) = Negate (expr_of g)
expr_of (gcons (gcons gnil f) g) = Aggregate (function_at (num f)) (expr_of g)
expr_of (gcons (gcons (gnum n) a) b) = Binary (operation_at n) (expr_of a) (expr_of b)
expr_of _ = CountRows

expr_back : (x : Expr) → expr_of (expr_tree x) ≡ x
expr_back CountRows = refl
expr_back (Literal v) = ap (λ (d : Datum). Literal d) (datum_back v)
expr_back (bound.Column i) = refl
expr_back (Negate a) = ap (λ (x : Expr). Negate x) (expr_back a)
expr_back (Aggregate f a) = λ i. Aggregate (function_back f i) (expr_back a i)
expr_back (Binary op a b) = λ i. Binary (operation_back op i) (expr_back a i) (expr_back b i)

abbrev cond_tree : Cond → Gv
cond_tree (And c d) = gcons gnil (gcons (cond_tree c) (cond_tree d))
cond_tree (IsNull a) = gcons (gnum 0) (expr_tree a)
cond_tree (Not c) = gcons (gnum 1) (cond_tree c)
cond_tree (Or c d) = gcons (gnum 2) (gcons (cond_tree c) (cond_tree d))
cond_tree (ContainsPoint a b p) = gcons (gcons gnil (expr_tree a)) (gcons (expr_tree b) (expr_tree p))
cond_tree (Compare c a b) = gcons (gcons (gnum (comparison_number c)) (expr_tree a)) (expr_tree b)
cond_tree (Related r a b c d) =
    gcons (gcons (gcons (gnum (relation_number r)) (expr_tree a)) (expr_tree b)) (gcons (expr_tree c) (expr_tree d))

abbrev cond_of : Gv → Cond
cond_of (gcons gnil (gcons c d)) = And (cond_of c) (cond_of d)
cond_of (gcons (gnum zero) a) = IsNull (expr_of a)
cond_of (gcons (gnum (suc zero)) c) = Not (cond_of c)
cond_of (gcons (gnum (suc (suc n))) (gcons c d)) = Or (cond_of c) (cond_of d)
cond_of (gcons (gcons gnil a) (gcons b p)) = ContainsPoint (expr_of a) (expr_of b) (expr_of p)
cond_of (gcons (gcons (gnum n) a) b) = Compare (comparison_at n) (expr_of a) (expr_of b)
cond_of (gcons (gcons (gcons (gnum n) a) b) (gcons c d)) =
    Related (relation_at n) (expr_of a) (expr_of b) (expr_of c) (expr_of d)
cond_of _ = IsNull CountRows

pub cond_back : (c : Cond) → cond_of (cond_tree c) ≡ c
cond_back (And c d) = λ i. And (cond_back c i) (cond_back d i)
cond_back (IsNull a) = ap (λ (x : Expr). IsNull x) (expr_back a)
cond_back (Not c) = ap (λ (x : Cond). Not x) (cond_back c)
cond_back (Or c d) = λ i. Or (cond_back c i) (cond_back d i)
cond_back (ContainsPoint a b p) = λ i. ContainsPoint (expr_back a i) (expr_back b i) (expr_back p i)
cond_back (Compare c a b) = λ i. Compare (comparison_back c i) (expr_back a i) (expr_back b i)
cond_back (Related r a b c d) =
    λ i. Related (relation_back r i) (expr_back a i) (expr_back b i) (expr_back c i) (expr_back d i)

-- ---- definitions

abbrev numbers_code : Coded (List ℕ)
numbers_code = coded_list coded_ℕ

abbrev kind_code : Coded Kind
kind_code = code_by ℕ coded_ℕ kind_number kind_at kind_back

abbrev cond_code : Coded Cond
cond_code = code_by Gv coded_tree cond_tree cond_of cond_back

abbrev column_code : Coded Column
column_code =
    code_by (Name × (Kind × (Option ℕ × Bool)))
    (coded× numbers_code (coded× kind_code (coded× (coded_option coded_ℕ) coded_bool)))
    (λ c. (c.name, (c.kind, (c.limit, c.required)))) (λ p. record {
      name = p.0;
      kind = p.1.0;
      limit = p.1.1.0;
      required = p.1.1.1;
    }) (λ _. refl)

abbrev system_code : Coded System
system_code = code_by (ℕ × ℕ) (coded× coded_ℕ coded_ℕ) (λ s. (s.start, s.end)) (λ p. record {
  start = p.0;
  end = p.1;
}) (λ _. refl)

abbrev application_code : Coded Application
application_code =
    code_by (Name × (ℕ × ℕ)) (coded× numbers_code (coded× coded_ℕ coded_ℕ))
    (λ a. (a.name, (a.start, a.end))) (λ p. record { name = p.0; start = p.1.0; end = p.1.1 }) (λ _. refl)

abbrev key_code : Coded Key
key_code = code_by (List ℕ × Bool) (coded× numbers_code coded_bool) (λ k. (k.columns, k.by_period))
    (λ p. record { columns = p.0; by_period = p.1 }) (λ _. refl)

abbrev reference_code : Coded Reference
reference_code =
    code_by (List ℕ × (Bool × (Name × List ℕ)))
    (coded× numbers_code (coded× coded_bool (coded× numbers_code numbers_code)))
    (λ f. (f.columns, (f.by_period, (f.parent, f.parent_columns))))
    (λ p. record { columns = p.0; by_period = p.1.0; parent = p.1.1.0; parent_columns = p.1.1.1 }) (λ _. refl)

-- the parts of a definition, as nested pairs
abbrev Parts : Type 0
Parts = Name × (List Column × (Option System × (Option Application × (List Key × (List Reference × List Cond)))))

abbrev parts_code : Coded Parts
parts_code =
    coded× numbers_code (coded× (coded_list column_code)
    (coded× (coded_option system_code) (coded× (coded_option application_code)
    (coded× (coded_list key_code) (coded× (coded_list reference_code) (coded_list cond_code))))))

-- the definition of a table
abbrev pub table_def_code : Coded TableDef
table_def_code =
    code_by Parts parts_code
    (λ d. (d.name, (d.columns, (d.system, (d.application, (d.keys, (d.references, d.checks)))))))
    (λ p. record {
      name = p.0;
      columns = p.1.0;
      system = p.1.1.0;
      application = p.1.1.1.0;
      keys = p.1.1.1.1.0;
      references = p.1.1.1.1.1.0;
      checks = p.1.1.1.1.1.1;
    })
    (λ _. refl)
