-- An expression or a condition that avoids the names of periods is bound to one that reads no column of them.
use Rattle.std.proofs.Common.{◌≡◌, ◌<◌, refl, sym, ap, subst, ◌∙◌, ℕ, ◌+◌, suc, Bool, true, false, List, [], ◌∷◌}
use Rattle.std.proofs.Common.{map, filter, get_or, length, inl, inr, arith}
use Rattle.std.specs.Prelude.{ℤ, not, ◌||◌, ◌&&◌, if◌then◌else◌, Option, Some, None}
use Rattle.std.specs.List.{list_all}
use Rattle.tql_spec.specs.Words.{same_text}
use Rattle.tql_spec.specs.Bag.{In}
use Rattle.tql_spec.specs.Calendar.{read_date, read_timestamp}
use Rattle.tql_spec.specs.Datum.{Datum, Kind, Plus, Minus, Times}
use Rattle.tql_spec.specs.Expression.{Function, Count, Sum, Min, Max, Cond}
use Rattle.tql_spec.specs.Definition.{Name, Column, Application}
use Rattle.tql_spec.specs.Syntax as tree
use Rattle.tql_spec.specs.Syntax.{Named, Product, MoreTerms, NoTerm, PlusTerm, MinusTerm, Terms, MoreFactors, NoFactor}
use Rattle.tql_spec.specs.Syntax.{TimesFactor, Factors, Signed, Unsigned, Positive, Negative, Primary, NumberLiteral}
use Rattle.tql_spec.specs.Syntax.{TextLiteral, DateLiteral, TimestampLiteral, ColumnNamed, Enclosed, CountStar, Over}
use Rattle.tql_spec.specs.Syntax.{Marked, FromEnds, SystemTime, Operand, ByMark, ByName, Condition, AnyOf, MoreConjs}
use Rattle.tql_spec.specs.Syntax.{NoConj, OrConj, Conj, AllOf, MoreTests, NoTest, AndTest, Factor, Straight, Negated}
use Rattle.tql_spec.specs.Syntax.{Test, Grouped, Compared, NullTest, BetweenTest, InTest, RelationTest, ContainsPeriod}
use Rattle.tql_spec.specs.Syntax.{ContainsPoint}
use Rattle.tql_spec.specs.Names.{Checked, check_each, Known, Thing, AColumn, APeriod, columns_named, periods_named}
use Rattle.tql_spec.specs.Names.{things_in, things, is_meant, kind_at, Typed, one_column, literal, arithmetic}
use Rattle.tql_spec.specs.Names.{aggregate, negative, expr, more_terms, product, more_factors, signed, primary}
use Rattle.tql_spec.specs.Names.{sole_name, Ends, one_period, marked, operand, negated_if, in_list, contained_point}
use Rattle.tql_spec.specs.Names.{contained_named, contained, condition, more_conjs, conj, more_tests, factor, test}
use Rattle.tql_spec.specs.Names.{factors_of, conjuncts}
use Rattle.tql_spec.specs.Creation.{has_name, uses_column, has_expr}
use Rattle.tql_spec.specs.Binding.{plain_filter}
use Rattle.tql_spec.proofs.Constraints.{same_text-is}
use Rattle.tql_spec.proofs.ExprKinds.{in_flat}
use Rattle.tql_spec.proofs.MemberLists.{in_either, in_kept}
use Rattle.tql_points.specs.NamesAvoided.{sum_avoids, terms_avoid, product_avoids, factors_avoid, signed_avoids}
use Rattle.tql_points.specs.NamesAvoided.{primary_avoids, marked_avoids, operand_avoids, condition_avoids, conjs_avoid}
use Rattle.tql_points.specs.NamesAvoided.{conj_avoids, tests_avoid, factor_avoids, test_avoids, filter_avoids}
use Rattle.tql_points.proofs.Tables.{not_true}
use Rattle.tql_points.proofs.Views.{both_true}

-- if neither part is true, the disjunction is false
pub or_false : (a b : Bool) → a ≡ false → b ≡ false → a || b ≡ false
or_false a b e f = ap (λ c. c || b) e ∙ f

module _ (names : List Name) (q : ℕ → Bool) where
  -- a reference in scope: columns with other names fail the test, and each of its periods has one of these names
  pub record IsClear (k : Known) : Type 0 where
    pub columns : (i : ℕ) → i < length k.columns
        → has_name (get_or (map (λ (c : Column). c.name) k.columns) i []) names ≡ false → q (k.offset + i) ≡ false
    pub periods : (a : Application) → In a k.applications → has_name a.name names ≡ true

  -- each reference of the scope is clear
  pub record AreClear (scope : List Known) : Type 0 where
    pub each : (k : Known) → In k scope → IsClear k

  -- ---- names

  -- not a period, and not a column that passes the test
  abbrev FreeThing : Thing → Type 0
  FreeThing (AColumn i c) = q i ≡ false
  FreeThing (APeriod s e k) = ⊥

  columns_free : (n : Name) (o : ℕ) (cs : List Column) → has_name n names ≡ false
      → ((i : ℕ) → i < length cs → has_name (get_or (map (λ (c : Column). c.name) cs) i []) names ≡ false
      → q (o + i) ≡ false)
      → (t : Thing) → In t (columns_named n o cs) → FreeThing t
  columns_free n o [] e h t m = absurd m
  columns_free n o (c ∷ cs) e h t m = elim
      (in_either t (if same_text n c.name then AColumn o c ∷ [] else []) (columns_named n (suc o) cs) m) [
        | inl i ↦ here (same_text n c.name) refl i
        | inr i ↦ columns_free n (suc o) cs e
            (λ j l f. subst (λ k. q k ≡ false) (omega arith) (h (suc j) (omega arith) f)) t i
      ]
    where
      here : (b : Bool) → same_text n c.name ≡ b → In t (if b then AColumn o c ∷ [] else []) → FreeThing t
      here true s (inl w) = subst FreeThing (sym w)
          (subst (λ k. q k ≡ false) (omega arith)
          (h 0 (omega arith) (ap (λ x. has_name x names) (sym (same_text-is n c.name s)) ∙ e)))
      here true s (inr i) = absurd i
      here false s i = absurd i

  periods_free : (n : Name) (o : ℕ) (cs : List Column) (as' : List Application) → has_name n names ≡ false
      → ((a : Application) → In a as' → has_name a.name names ≡ true)
      → (t : Thing) → In t (periods_named n o cs as') → FreeThing t
  periods_free n o cs [] e h t m = absurd m
  periods_free n o cs (a ∷ as') e h t m = elim
      (in_either t (if same_text n a.name then APeriod (o + a.start) (o + a.end) (kind_at cs a.start) ∷ [] else [])
      (periods_named n o cs as') m) [
        | inl i ↦ here (same_text n a.name) refl i
        | inr i ↦ periods_free n o cs as' e (λ x j. h x (inr j)) t i
      ]
    where
      here : (b : Bool) → same_text n a.name ≡ b
          → In t (if b then APeriod (o + a.start) (o + a.end) (kind_at cs a.start) ∷ [] else []) → FreeThing t
      here true s i =
          let there : has_name n names ≡ true = ap (λ x. has_name x names) (same_text-is n a.name s) ∙ h a (inl refl) in
          let never : true ≡ false = sym there ∙ e in absurd (cc)
      here false s i = absurd i

  things_free : (scope : List Known) → AreClear scope → (r : Named) → has_name r.name names ≡ false
      → (t : Thing) → In t (things scope r) → FreeThing t
  things_free scope clear r e t m =
      let k = in_flat (things_in r.name) t (filter (is_meant r.qualifier) scope) m in
      let there = (in_kept (is_meant r.qualifier) k.0 scope k.1).0 in
      let c = clear.each k.0 there in
      elim (in_either t (columns_named r.name k.0.offset k.0.columns)
      (periods_named r.name k.0.offset k.0.columns k.0.applications) k.2) [
        | inl i ↦ columns_free r.name k.0.offset k.0.columns e c.columns t i
        | inr i ↦ periods_free r.name k.0.offset k.0.columns k.0.applications e c.periods t i
      ]

  one_free : (ts : List Thing) → ((t : Thing) → In t ts → FreeThing t)
      → uses_column q (one_column ts).value.expr ≡ false
  one_free [] h = refl
  one_free (AColumn i c ∷ []) h = h (AColumn i c) (inl refl)
  one_free (AColumn i c ∷ t ∷ ts) h = refl
  one_free (APeriod s e k ∷ ts) h = refl

  -- ---- expressions

  literal_free : (k : Kind) (f : ℤ → Datum) (o : Option ℤ) → uses_column q (literal k f o).value.expr ≡ false
  literal_free k f None = refl
  literal_free k f (Some p) = refl

  aggregate_free : (f : Function) (a : Typed) → uses_column q (aggregate f a).value.expr ≡ false
  aggregate_free Count a = refl
  aggregate_free Sum a = refl
  aggregate_free Min a = refl
  aggregate_free Max a = refl

  negative_free : (p : Primary) (c : Checked Typed) → uses_column q c.value.expr ≡ false
      → uses_column q (negative p c).value.expr ≡ false
  negative_free (NumberLiteral ds) c h = refl
  negative_free (TextLiteral t) c h = h
  negative_free (DateLiteral t) c h = h
  negative_free (TimestampLiteral t) c h = h
  negative_free (ColumnNamed r) c h = h
  negative_free (Enclosed e) c h = h
  negative_free CountStar c h = h
  negative_free (Over f e) c h = h

  module _ (scope : List Known) (clear : AreClear scope) where
    mutual
      pub sum_free : (e : tree.Sum) → sum_avoids names e ≡ true → uses_column q (expr scope e).value.expr ≡ false
      sum_free (Terms t more) e =
          let s = both_true (product_avoids names t) (terms_avoid names more) e in
          terms_free more (product scope t).value (product_free t s.0) s.1

      terms_free : (more : MoreTerms) (a : Typed) → uses_column q a.expr ≡ false → terms_avoid names more ≡ true
          → uses_column q (more_terms scope more a).value.expr ≡ false
      terms_free NoTerm a h e = h
      terms_free (PlusTerm t more) a h e =
          let s = both_true (product_avoids names t) (terms_avoid names more) e in
          terms_free more (arithmetic Plus a (product scope t).value).value
          (or_false (uses_column q a.expr) (uses_column q (product scope t).value.expr) h (product_free t s.0)) s.1
      terms_free (MinusTerm t more) a h e =
          let s = both_true (product_avoids names t) (terms_avoid names more) e in
          terms_free more (arithmetic Minus a (product scope t).value).value
          (or_false (uses_column q a.expr) (uses_column q (product scope t).value.expr) h (product_free t s.0)) s.1

      product_free : (t : Product) → product_avoids names t ≡ true
          → uses_column q (product scope t).value.expr ≡ false
      product_free (Factors s more) e =
          let z = both_true (signed_avoids names s) (factors_avoid names more) e in
          factors_free more (signed scope s).value (signed_free s z.0) z.1

      factors_free : (more : MoreFactors) (a : Typed) → uses_column q a.expr ≡ false
          → factors_avoid names more ≡ true → uses_column q (more_factors scope more a).value.expr ≡ false
      factors_free NoFactor a h e = h
      factors_free (TimesFactor s more) a h e =
          let z = both_true (signed_avoids names s) (factors_avoid names more) e in
          factors_free more (arithmetic Times a (signed scope s).value).value
          (or_false (uses_column q a.expr) (uses_column q (signed scope s).value.expr) h (signed_free s z.0)) z.1

      signed_free : (s : Signed) → signed_avoids names s ≡ true → uses_column q (signed scope s).value.expr ≡ false
      signed_free (Unsigned p) e = primary_free p e
      signed_free (Positive p) e = primary_free p e
      signed_free (Negative p) e = negative_free p (primary scope p) (primary_free p e)

      primary_free : (p : Primary) → primary_avoids names p ≡ true
          → uses_column q (primary scope p).value.expr ≡ false
      primary_free (NumberLiteral ds) e = refl
      primary_free (TextLiteral t) e = refl
      primary_free (DateLiteral t) e = literal_free _ _ (read_date t)
      primary_free (TimestampLiteral t) e = literal_free _ _ (read_timestamp t)
      primary_free (ColumnNamed r) e =
          one_free (things scope r) (things_free scope clear r (not_true (has_name r.name names) e))
      primary_free (Enclosed x) e = sum_free x e
      primary_free CountStar e = refl
      primary_free (Over f x) e = aggregate_free f (expr scope x).value

    -- ---- periods as operands

    record FreeEnds (x : Ends) : Type 0 where
      start : uses_column q x.start ≡ false
      end : uses_column q x.end ≡ false

    one_period_free : (ts : List Thing) → ((t : Thing) → In t ts → FreeThing t) → FreeEnds (one_period ts).value
    one_period_free [] h = record { start = refl; end = refl }
    one_period_free (AColumn i c ∷ ts) h = record { start = refl; end = refl }
    one_period_free (APeriod s e k ∷ []) h = absurd (h (APeriod s e k) (inl refl))
    one_period_free (APeriod s e k ∷ t ∷ ts) h = record { start = refl; end = refl }

    marked_free : (m : Marked) → marked_avoids names m ≡ true → FreeEnds (marked scope m).value
    marked_free (FromEnds s t) e =
        let z = both_true (sum_avoids names s) (sum_avoids names t) e in
        record { start = sum_free s z.0; end = sum_free t z.1 }
    marked_free (SystemTime r) e = absurd (cc)

    operand_free : (x : Operand) → operand_avoids names x ≡ true → FreeEnds (operand scope x).value
    operand_free (ByMark m) e = marked_free m e
    operand_free (ByName r) e =
        one_period_free (things scope r) (things_free scope clear r (not_true (has_name r.name names) e))

    -- ---- conditions

    abbrev Free : Cond → Type 0
    Free c = has_expr (uses_column q) c ≡ false

    negated_free : (n : Bool) (c : Cond) → Free c → Free (negated_if n c)
    negated_free true c h = h
    negated_free false c h = h

    list_free : (a : Typed) → uses_column q a.expr ≡ false → (e : tree.Sum) (es : List tree.Sum)
        → sum_avoids names e ≡ true → list_all (sum_avoids names) es ≡ true → Free (in_list scope a e es).value
    list_free a h e [] x y = or_false (uses_column q a.expr) (uses_column q (expr scope e).value.expr) h (sum_free e x)
    list_free a h e (f ∷ es) x y =
        let z = both_true (sum_avoids names f) (list_all (sum_avoids names) es) y in
        or_false (uses_column q a.expr || uses_column q (expr scope e).value.expr)
        (has_expr (uses_column q) (in_list scope a f es).value)
        (or_false (uses_column q a.expr) (uses_column q (expr scope e).value.expr) h (sum_free e x))
        (list_free a h f es z.0 z.1)

    -- three or four parts of a disjunction
    or_three : (a b c : Bool) → a ≡ false → b ≡ false → c ≡ false → a || b || c ≡ false
    or_three a b c e f g = ap (λ x. x || b || c) e ∙ or_false b c f g

    or_four : (a b c d : Bool) → a ≡ false → b ≡ false → c ≡ false → d ≡ false → a || b || c || d ≡ false
    or_four a b c d e f g h = ap (λ x. x || b || c || d) e ∙ or_three b c d f g h

    related_free : (x y : Ends) → FreeEnds x → FreeEnds y
        → uses_column q x.start || uses_column q x.end || uses_column q y.start || uses_column q y.end ≡ false
    related_free x y h k = or_four _ _ _ _ h.start h.end k.start k.end

    point_free : (x : Ends) → FreeEnds x → (e : tree.Sum) → sum_avoids names e ≡ true
        → Free (contained_point scope x e).value
    point_free x h e f = or_three _ _ _ h.start h.end (sum_free e f)

    named_free : (x : Ends) → FreeEnds x → (e : tree.Sum) → sum_avoids names e ≡ true → (ts : List Thing)
        → ((t : Thing) → In t ts → FreeThing t) → Free (contained_named scope x e ts).value
    named_free x h e f [] k = point_free x h e f
    named_free x h e f (AColumn i c ∷ ts) k = point_free x h e f
    named_free x h e f (APeriod s t d ∷ []) k = absurd (k (APeriod s t d) (inl refl))
    named_free x h e f (APeriod s t d ∷ u ∷ ts) k = point_free x h e f

    contained_free : (x : Ends) → FreeEnds x → (e : tree.Sum) → sum_avoids names e ≡ true → (o : Option Named)
        → ((r : Named) → o ≡ Some r → has_name r.name names ≡ false) → Free (contained scope x e o).value
    contained_free x h e f None k = point_free x h e f
    contained_free x h e f (Some r) k = named_free x h e f (things scope r) (things_free scope clear r (k r refl))

    -- the name that an expression consists of
    sole_free : (e : tree.Sum) → sum_avoids names e ≡ true → (r : Named) → sole_name e ≡ Some r
        → has_name r.name names ≡ false
    sole_free (Terms (Factors (Positive p) f) m) e r w = absurd (cc)
    sole_free (Terms (Factors (Negative p) f) m) e r w = absurd (cc)
    sole_free (Terms (Factors (Unsigned (NumberLiteral ds)) f) m) e r w = absurd (cc)
    sole_free (Terms (Factors (Unsigned (TextLiteral t)) f) m) e r w = absurd (cc)
    sole_free (Terms (Factors (Unsigned (DateLiteral t)) f) m) e r w = absurd (cc)
    sole_free (Terms (Factors (Unsigned (TimestampLiteral t)) f) m) e r w = absurd (cc)
    sole_free (Terms (Factors (Unsigned (Enclosed x)) f) m) e r w = absurd (cc)
    sole_free (Terms (Factors (Unsigned CountStar) f) m) e r w = absurd (cc)
    sole_free (Terms (Factors (Unsigned (Over g x)) f) m) e r w = absurd (cc)
    sole_free (Terms (Factors (Unsigned (ColumnNamed s)) (TimesFactor t f)) m) e r w = absurd (cc)
    sole_free (Terms (Factors (Unsigned (ColumnNamed s)) NoFactor) (PlusTerm t m)) e r w = absurd (cc)
    sole_free (Terms (Factors (Unsigned (ColumnNamed s)) NoFactor) (MinusTerm t m)) e r w = absurd (cc)
    sole_free (Terms (Factors (Unsigned (ColumnNamed s)) NoFactor) NoTerm) e r w =
        let same : s ≡ r = cc in
        let one = (both_true (not (has_name s.name names) && true) true e).0 in
        let two = (both_true (not (has_name s.name names)) true one).0 in
        subst (λ (z : Named). has_name z.name names ≡ false) same (not_true (has_name s.name names) two)

    mutual
      pub condition_free : (c : Condition) → condition_avoids names c ≡ true → Free (condition scope c).value
      condition_free (AnyOf c more) e =
          let z = both_true (conj_avoids names c) (conjs_avoid names more) e in
          conjs_free more (conj scope c).value (conj_free c z.0) z.1

      conjs_free : (more : MoreConjs) (c : Cond) → Free c → conjs_avoid names more ≡ true
          → Free (more_conjs scope more c).value
      conjs_free NoConj c h e = h
      conjs_free (OrConj d more) c h e =
          let z = both_true (conj_avoids names d) (conjs_avoid names more) e in
          conjs_free more _ (or_false (has_expr (uses_column q) c) (has_expr (uses_column q) (conj scope d).value) h
          (conj_free d z.0)) z.1

      conj_free : (c : Conj) → conj_avoids names c ≡ true → Free (conj scope c).value
      conj_free (AllOf f more) e =
          let z = both_true (factor_avoids names f) (tests_avoid names more) e in
          tests_free more (factor scope f).value (factor_free f z.0) z.1

      tests_free : (more : MoreTests) (c : Cond) → Free c → tests_avoid names more ≡ true
          → Free (more_tests scope more c).value
      tests_free NoTest c h e = h
      tests_free (AndTest f more) c h e =
          let z = both_true (factor_avoids names f) (tests_avoid names more) e in
          tests_free more _ (or_false (has_expr (uses_column q) c) (has_expr (uses_column q) (factor scope f).value) h
          (factor_free f z.0)) z.1

      pub factor_free : (f : Factor) → factor_avoids names f ≡ true → Free (factor scope f).value
      factor_free (Straight t) e = test_free t e
      factor_free (Negated t) e = test_free t e

      test_free : (t : Test) → test_avoids names t ≡ true → Free (test scope t).value
      test_free (Grouped c) e = condition_free c e
      test_free (Compared op a b) e =
          let z = both_true (sum_avoids names a) (sum_avoids names b) e in
          or_false (uses_column q (expr scope a).value.expr) (uses_column q (expr scope b).value.expr) (sum_free a z.0)
          (sum_free b z.1)
      test_free (NullTest n a) e = negated_free n _ (sum_free a e)
      test_free (BetweenTest n a b c) e =
          let z = both_true (sum_avoids names a && sum_avoids names b) (sum_avoids names c) e in
          let y = both_true (sum_avoids names a) (sum_avoids names b) z.0 in
          let x : Bool = uses_column q (expr scope a).value.expr in
          let low : Bool = uses_column q (expr scope b).value.expr in
          let up : Bool = uses_column q (expr scope c).value.expr in
          negated_free n _ (or_false (x || low) (x || up) (or_false x low (sum_free a y.0) (sum_free b y.1))
          (or_false x up (sum_free a y.0) (sum_free c z.1)))
      test_free (InTest n a b bs) e =
          let z = both_true (sum_avoids names a && sum_avoids names b) (list_all (sum_avoids names) bs) e in
          let y = both_true (sum_avoids names a) (sum_avoids names b) z.0 in
          negated_free n _ (list_free (expr scope a).value (sum_free a y.0) b bs y.1 z.1)
      test_free (RelationTest x r y) e =
          let z = both_true (operand_avoids names x) (operand_avoids names y) e in
          related_free (operand scope x).value (operand scope y).value (operand_free x z.0) (operand_free y z.1)
      test_free (ContainsPeriod x m) e =
          let z = both_true (operand_avoids names x) (marked_avoids names m) e in
          related_free (operand scope x).value (marked scope m).value (operand_free x z.0) (marked_free m z.1)
      test_free (ContainsPoint x a) e =
          let z = both_true (operand_avoids names x) (sum_avoids names a) e in
          contained_free (operand scope x).value (operand_free x z.0) a z.1 (sole_name a) (sole_free a z.1)

    -- ---- WHERE

    abbrev AllFree : List Cond → Type 0
    AllFree cs = list_all (λ c. not (has_expr (uses_column q) c)) cs ≡ true

    front_free : (c : Cond) (cs : List Cond) → Free c → AllFree cs → AllFree (c ∷ cs)
    front_free c cs h k =
        ap (λ b. not b && list_all (λ x. not (has_expr (uses_column q) x)) cs) h ∙ k

    factors_all : (more : MoreTests) → tests_avoid names more ≡ true
        → AllFree (check_each (factor scope) (factors_of more)).value
    factors_all NoTest e = refl
    factors_all (AndTest f more) e =
        let z = both_true (factor_avoids names f) (tests_avoid names more) e in
        front_free (factor scope f).value (check_each (factor scope) (factors_of more)).value (factor_free f z.0)
        (factors_all more z.1)

    conjuncts_free : (c : Condition) → condition_avoids names c ≡ true → AllFree (conjuncts scope c).value
    conjuncts_free (AnyOf (AllOf f more) NoConj) e =
        let z = both_true (factor_avoids names f && tests_avoid names more) true e in
        let y = both_true (factor_avoids names f) (tests_avoid names more) z.0 in
        front_free (factor scope f).value (check_each (factor scope) (factors_of more)).value (factor_free f y.0)
        (factors_all more y.1)
    conjuncts_free (AnyOf (AllOf f more) (OrConj d rest)) e =
        front_free (condition scope (AnyOf (AllOf f more) (OrConj d rest))).value []
        (condition_free (AnyOf (AllOf f more) (OrConj d rest)) e) refl

    pub filter_free : (c : Option Condition) → filter_avoids names c ≡ true → AllFree (plain_filter scope c).value
    filter_free None e = refl
    filter_free (Some c) e = conjuncts_free c e
