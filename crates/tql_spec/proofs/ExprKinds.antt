-- The value of a bound expression is of its kind, on rows of the kinds of its scope.
use Rattle.std.proofs.Common.{◌≡◌, ◌<◌, refl, sym, subst, ℕ, ◌+◌, suc, Bool, true, false, List, [], ◌∷◌, filter, length}
use Rattle.std.proofs.Common.{inl, inr, arith}
use Rattle.std.specs.Prelude.{map, ℤ, Option, Some, None, pos, neg_ℤ, not, nat_le, if◌then◌else◌}
use Rattle.std.specs.List.{flat_map}
use Rattle.tql_spec.specs.Words.{◌>>=◌, map_all, same_text}
use Rattle.tql_spec.specs.Bag.{In}
use Rattle.tql_spec.specs.Calendar.{number_of, read_date, read_timestamp}
use Rattle.tql_spec.specs.Datum.{Datum, Null, Int, Text, Day, Moment, Row, Kind, Ints, Days, Moments, Operation, Plus}
use Rattle.tql_spec.specs.Datum.{Minus, Times, calculate, exact, fits, result_of, is_null}
use Rattle.tql_spec.specs.Expression.{Expr, Literal, Negate, Binary, CountRows, Aggregate, Function, Count, Sum, Min}
use Rattle.tql_spec.specs.Expression.{Max, eval, best, total, present, if_countable}
use Rattle.tql_spec.specs.Expression as bound
use Rattle.tql_spec.specs.Definition.{Name, Column, Application, cell}
use Rattle.tql_spec.specs.Syntax as tree
use Rattle.tql_spec.specs.Syntax.{Product, MoreTerms, NoTerm, PlusTerm, MinusTerm, Terms, MoreFactors, NoFactor}
use Rattle.tql_spec.specs.Syntax.{TimesFactor, Factors, Signed, Unsigned, Positive, Negative, Primary, NumberLiteral}
use Rattle.tql_spec.specs.Syntax.{TextLiteral, DateLiteral, TimestampLiteral, ColumnNamed, Enclosed, CountStar, Over}
use Rattle.tql_spec.specs.Syntax.{Named}
use Rattle.tql_spec.specs.Names.{Checked, Known, Thing, AColumn, APeriod, columns_named, periods_named, things_in}
use Rattle.tql_spec.specs.Names.{things, is_meant, Typed, typed, one_column, number, literal, arithmetic, negation}
use Rattle.tql_spec.specs.Names.{aggregate, negative, kind_at, expr, more_terms, product, more_factors, signed, primary}
use Rattle.tql_spec.specs.Typing.{IsOfKind}
use Rattle.tql_spec.proofs.MemberLists.{in_either, in_kept}
use Rattle.tql_spec.proofs.Steady.{front_is}

-- ---- rows of a scope

-- the kinds of columns
abbrev pub column_kinds : List Column → List Kind
column_kinds cs = map (λ (c : Column). c.kind) cs

-- the row has values of the right kinds in the columns of a reference
abbrev pub FitsKnown : Row → Known → Type 0
FitsKnown row k = (i : ℕ) → i < length k.columns → IsOfKind (Some (kind_at k.columns i))
    (cell row (k.offset + i))

-- the row has them for each reference in scope
pub record FitsScope (scope : List Known) (row : Row) : Type 0 where
  pub each : (k : Known) → In k scope → FitsKnown row k

-- the value of an expression on rows like these is of its kind
pub record Keeps (scope : List Known) (t : Typed) : Type 0 where
  pub of_kind : (group : List Row) (row : Row) → ((r : Row) → In r group → FitsScope scope r) → FitsScope scope row
      → (v : Datum) → eval group row t.expr ≡ Some v → IsOfKind t.kind v

-- ---- values

-- a result of arithmetic is an integer
exact_kind : (n : ℤ) (v : Datum) → exact n ≡ Some v → IsOfKind (Some Ints) v
exact_kind n v e = by_fit (fits n) e
  where
    by_fit : (b : Bool) → (if b then Some (Int n) else None) ≡ Some v → IsOfKind (Some Ints) v
    by_fit true q = let same : Int n ≡ v = cc in subst (IsOfKind (Some Ints)) same refl
    by_fit false q = absurd (cc)

null_kind : (k : Option Kind) (v : Datum) → Some Null ≡ Some v → IsOfKind k v
null_kind k v e = let same : Null ≡ v = cc in subst (IsOfKind k) same tt

calculated : (op : Operation) (a b v : Datum) → calculate op a b ≡ Some v → IsOfKind (Some Ints) v
calculated op (Int a) (Int b) v e = exact_kind (result_of op a b) v e
calculated op (Int a) Null v e = null_kind _ v e
calculated op (Int a) (Text t) v e = null_kind _ v e
calculated op (Int a) (Day d) v e = null_kind _ v e
calculated op (Int a) (Moment m) v e = null_kind _ v e
calculated op Null b v e = null_kind _ v e
calculated op (Text t) b v e = null_kind _ v e
calculated op (Day d) b v e = null_kind _ v e
calculated op (Moment m) b v e = null_kind _ v e

-- if a sequence of two steps has a value, the first step has one
pub after : {A B : Type 0} {P : Type 0} (o : Option A) (f : A → Option B) (b : B) → o >>= f ≡ Some b
    → ((a : A) → o ≡ Some a → f a ≡ Some b → P) → P
after None f b e h = absurd (cc)
after (Some a) f b e h = h a refl e

-- ---- aggregates

-- each value is of the kind
abbrev AllOf : Option Kind → List Datum → Type 0
AllOf k vs = (v : Datum) → In v vs → IsOfKind k v

-- the best value by any test is of the kind
best_kind : (k : Option Kind) (better : Datum → Datum → Bool) (vs : List Datum) → AllOf k vs
    → IsOfKind k (best better vs)
best_kind k better [] h = tt
best_kind k better (v ∷ []) h = h v (inl refl)
best_kind k better (v ∷ w ∷ vs) h = either (better (best better (w ∷ vs)) v)
    (best_kind k better (w ∷ vs) (λ x m. h x (inr m)))
  where
    either : (b : Bool) → IsOfKind k (best better (w ∷ vs)) → IsOfKind k (if b then best better (w ∷ vs) else v)
    either true ih = ih
    either false ih = h v (inl refl)

-- the values of an expression over the rows of a group are of the kind
each_value : (k : Option Kind) (e : Expr) (group : List Row)
    → ((r : Row) → In r group → (v : Datum) → eval [] r e ≡ Some v → IsOfKind k v)
    → (vs : List Datum) → map_all (λ r. eval [] r e) group ≡ Some vs → AllOf k vs
each_value k e [] h vs q v m = let same : [] ≡ vs = cc in absurd (subst (λ (xs : List Datum). In v xs) (sym same) m)
each_value k e (r ∷ group) h vs q v m =
    let f = front_is (eval [] r e) (map_all (λ r. eval [] r e) group) vs q in
    elim (subst (λ xs. In v xs) f.whole m) [
      | inl same ↦ subst (IsOfKind k) (sym same) (h r (inl refl) f.head f.one)
      | inr n ↦ each_value k e group (λ x i. h x (inr i)) f.tail f.more v n
    ]

-- the same value is of the same kind
given : (k : Option Kind) (x v : Datum) → IsOfKind k x → Some x ≡ Some v → IsOfKind k v
given k x v h e = let same : x ≡ v = cc in subst (IsOfKind k) same h

-- an aggregate is an integer or of its operand's kind
aggregate_kind : (f : Function) (a : Typed) (vs : List Datum) → AllOf a.kind vs → (v : Datum)
    → bound.aggregate f vs ≡ Some v
    → IsOfKind (aggregate f a).value.kind v
aggregate_kind Count a vs h v e = given (Some Ints) _ v refl e
aggregate_kind Sum a [] h v e = null_kind (Some Ints) v e
aggregate_kind Sum a (x ∷ xs) h v e = exact_kind (total (x ∷ xs)) v e
aggregate_kind Min a vs h v e = given a.kind _ v (best_kind a.kind _ vs h) e
aggregate_kind Max a vs h v e = given a.kind _ v (best_kind a.kind _ vs h) e

-- the values that are not null are of the kind
present_kind : (k : Option Kind) (vs : List Datum) → AllOf k vs → AllOf k (present vs)
present_kind k vs h v m = h v (in_kept (λ x. not (is_null x)) v vs m).0

aggregated : (scope : List Known) (f : Function) (a : Typed) → Keeps scope a → Keeps scope (aggregate f a).value
aggregated scope f a h = record {
  of_kind = λ group row each own v e. by_count group each v (fits (pos (length group)))
      (subst (λ x. eval group row x ≡ Some v) (shape f) e);
}
  where
    shape : (g : Function) → (aggregate g a).value.expr ≡ Aggregate g a.expr
    shape Count = refl
    shape Sum = refl
    shape Min = refl
    shape Max = refl

    by_count : (group : List Row) → ((r : Row) → In r group → FitsScope scope r) → (v : Datum) → (b : Bool)
        → (if b then (map_all (λ r. eval [] r a.expr) group >>= λ vs. bound.aggregate f
        (present vs)) else None) ≡ Some v
        → IsOfKind (aggregate f a).value.kind v
    by_count group each v false e = absurd (cc)
    by_count group each v true e = after (map_all (λ r. eval [] r a.expr) group)
        (λ vs. bound.aggregate f (present vs)) v e
        (λ vs q p. aggregate_kind f a (present vs)
        (present_kind a.kind vs
        (each_value a.kind a.expr group (λ r m w z. h.of_kind [] r (λ x n. absurd n) (each r m) w z) vs q)) v p)

-- ---- steps of binding

pub literal_keeps : (scope : List Known) (k : Option Kind) (x : Datum) → IsOfKind k x
    → Keeps scope (record { expr = Literal x; kind = k })
literal_keeps scope k x h = record { of_kind = λ group row each own v e. given k x v h e }

arithmetic_keeps : (scope : List Known) (op : Operation) (a b : Typed) → Keeps scope (arithmetic op a b).value
arithmetic_keeps scope op a b = record {
  of_kind = λ group row each own v e.
      after (eval group row a.expr) (λ x. eval group row b.expr >>= λ y. calculate op x y) v e
      (λ x q p. after (eval group row b.expr) (λ y. calculate op x y) v p (λ y z w. calculated op x y v w));
}

negation_keeps : (scope : List Known) (a : Typed) → Keeps scope (negation a).value
negation_keeps scope a = record {
  of_kind = λ group row each own v e.
      after (eval group row a.expr) (λ x. calculate Minus (Int (pos 0)) x) v e
      (λ x q p. calculated Minus (Int (pos 0)) x v p);
}

number_keeps : (scope : List Known) (limit : ℕ) (signed : ℕ → ℤ) (ds : List ℕ)
    → Keeps scope (number limit signed ds).value
number_keeps scope limit signed ds = by_limit (nat_le (number_of ds) limit)
  where
    by_limit : (b : Bool) → Keeps scope (typed (Literal (if b then Int (signed (number_of ds)) else Null)) Ints)
    by_limit true = literal_keeps scope (Some Ints) _ refl
    by_limit false = literal_keeps scope (Some Ints) _ tt

literal_read : (scope : List Known) (k : Kind) (f : ℤ → Datum) (o : Option ℤ) → ((n : ℤ) → IsOfKind (Some k) (f n))
    → Keeps scope (literal k f o).value
literal_read scope k f None h = literal_keeps scope (Some k) Null tt
literal_read scope k f (Some p) h = literal_keeps scope (Some k) (f p) (h p)

negative_keeps : (scope : List Known) (p : Primary) (c : Checked Typed) → Keeps scope (negative p c).value
negative_keeps scope (NumberLiteral ds) c = number_keeps scope _ (λ n. neg_ℤ (pos n)) ds
negative_keeps scope _ c = negation_keeps scope c.value

-- ---- columns

-- if the meaning of a name is a column, rows that fit the scope have values of its kind in it
abbrev FitsThing : List Known → Thing → Type 0
FitsThing scope (AColumn i c) = (row : Row) → FitsScope scope row → IsOfKind (Some c.kind) (cell row i)
FitsThing scope (APeriod s e k) = Unit {0}

-- this holds for each column of a list with this name
columns_fit : (scope : List Known) (n : Name) (o : ℕ) (cs : List Column)
    → ((row : Row) → FitsScope scope row → (i : ℕ) → i < length cs → IsOfKind (Some (kind_at cs i)) (cell row (o + i)))
    → (t : Thing) → In t (columns_named n o cs) → FitsThing scope t
columns_fit scope n o [] h t m = absurd m
columns_fit scope n o (c ∷ cs) h t m = elim
    (in_either t (if same_text n c.name then AColumn o c ∷ [] else []) (columns_named n (suc o) cs) m) [
      | inl i ↦ here (same_text n c.name) i
      | inr i ↦ columns_fit scope n (suc o) cs
          (λ row f j l. subst (λ k. IsOfKind (Some (kind_at cs j)) (cell row k)) (omega arith)
          (h row f (suc j) (omega arith))) t i
    ]
  where
    here : (b : Bool) → In t (if b then AColumn o c ∷ [] else []) → FitsThing scope t
    here true (inl e) = subst (FitsThing scope) (sym e)
        (λ row f. subst (λ k. IsOfKind (Some c.kind) (cell row k)) (omega arith) (h row f 0 (omega arith)))
    here true (inr i) = absurd i
    here false i = absurd i

periods_fit : (scope : List Known) (n : Name) (o : ℕ) (cs : List Column) (as' : List Application) (t : Thing)
    → In t (periods_named n o cs as') → FitsThing scope t
periods_fit scope n o cs [] t m = absurd m
periods_fit scope n o cs (a ∷ as') t m = elim
    (in_either t (if same_text n a.name then APeriod (o + a.start) (o + a.end) (kind_at cs a.start) ∷ [] else [])
    (periods_named n o cs as') m) [
      | inl i ↦ here (same_text n a.name) i
      | inr i ↦ periods_fit scope n o cs as' t i
    ]
  where
    here : (b : Bool) → In t (if b then APeriod (o + a.start) (o + a.end) (kind_at cs a.start) ∷ [] else [])
        → FitsThing scope t
    here true (inl e) = subst (FitsThing scope) (sym e) tt
    here true (inr i) = absurd i
    here false i = absurd i

-- a member of the flattened list is in one of the lists
pub in_flat : {X Y : Type 0} (f : X → List Y) (y : Y) (xs : List X) → In y (flat_map f xs)
    → (x : X) × In x xs × In y (f x)
in_flat f y [] m = absurd m
in_flat f y (x ∷ xs) m = elim (in_either y (f x) (flat_map f xs) m) [
  | inl i ↦ (x, inl refl, i)
  | inr i ↦ let r = in_flat f y xs i in (r.0, inr r.1, r.2)
]

things_fit : (scope : List Known) (r : Named) (t : Thing) → In t (things scope r) → FitsThing scope t
things_fit scope r t m =
    let k = in_flat (things_in r.name) t (filter (is_meant r.qualifier) scope) m in
    let there = (in_kept (is_meant r.qualifier) k.0 scope k.1).0 in
    elim (in_either t (columns_named r.name k.0.offset k.0.columns)
    (periods_named r.name k.0.offset k.0.columns k.0.applications) k.2) [
      | inl i ↦ columns_fit scope r.name k.0.offset k.0.columns (λ row f. f.each k.0 there) t i
      | inr i ↦ periods_fit scope r.name k.0.offset k.0.columns k.0.applications t i
    ]

one_keeps : (scope : List Known) (ts : List Thing) → ((t : Thing) → In t ts → FitsThing scope t)
    → Keeps scope (one_column ts).value
one_keeps scope [] h = literal_keeps scope None Null tt
one_keeps scope (AColumn i c ∷ []) h = record {
  of_kind = λ group row each own v e. given (Some c.kind) _ v
      (h (AColumn i c) (inl refl) row own) e;
}
one_keeps scope (AColumn i c ∷ t ∷ ts) h = literal_keeps scope None Null tt
one_keeps scope (APeriod s e k ∷ ts) h = literal_keeps scope None Null tt

-- ---- expressions

mutual
  pub expr_keeps : (scope : List Known) (e : tree.Sum) → Keeps scope (expr scope e).value
  expr_keeps scope (Terms t more) = more_terms_keep scope more (product scope t).value (product_keeps scope t)

  more_terms_keep : (scope : List Known) (more : MoreTerms) (a : Typed) → Keeps scope a
      → Keeps scope (more_terms scope more a).value
  more_terms_keep scope NoTerm a h = h
  more_terms_keep scope (PlusTerm t more) a h =
      more_terms_keep scope more (arithmetic Plus a (product scope t).value).value
      (arithmetic_keeps scope Plus a (product scope t).value)
  more_terms_keep scope (MinusTerm t more) a h =
      more_terms_keep scope more (arithmetic Minus a (product scope t).value).value
      (arithmetic_keeps scope Minus a (product scope t).value)

  product_keeps : (scope : List Known) (t : Product) → Keeps scope (product scope t).value
  product_keeps scope (Factors s more) = more_factors_keep scope more (signed scope s).value (signed_keeps scope s)

  more_factors_keep : (scope : List Known) (more : MoreFactors) (a : Typed) → Keeps scope a
      → Keeps scope (more_factors scope more a).value
  more_factors_keep scope NoFactor a h = h
  more_factors_keep scope (TimesFactor s more) a h =
      more_factors_keep scope more (arithmetic Times a (signed scope s).value).value
      (arithmetic_keeps scope Times a (signed scope s).value)

  signed_keeps : (scope : List Known) (s : Signed) → Keeps scope (signed scope s).value
  signed_keeps scope (Unsigned p) = primary_keeps scope p
  signed_keeps scope (Positive p) = primary_keeps scope p
  signed_keeps scope (Negative p) = negative_keeps scope p (primary scope p)

  primary_keeps : (scope : List Known) (p : Primary) → Keeps scope (primary scope p).value
  primary_keeps scope (NumberLiteral ds) = number_keeps scope _ pos ds
  primary_keeps scope (TextLiteral t) = literal_keeps scope (Some _) (Text t) refl
  primary_keeps scope (DateLiteral t) = literal_read scope Days Day (read_date t) (λ n. refl)
  primary_keeps scope (TimestampLiteral t) = literal_read scope Moments Moment (read_timestamp t) (λ n. refl)
  primary_keeps scope (ColumnNamed r) = one_keeps scope (things scope r) (things_fit scope r)
  primary_keeps scope (Enclosed e) = expr_keeps scope e
  primary_keeps scope CountStar = record { of_kind = λ group row each own v e. exact_kind (pos (length group)) v e }
  primary_keeps scope (Over f e) = aggregated scope f (expr scope e).value (expr_keeps scope e)
