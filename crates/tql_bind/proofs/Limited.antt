-- The faults of the limits: collected after those of names, and reported before them.
use Rattle.std.proofs.Common.{◌≡◌, Bool, true, false, List, [], ◌∷◌, ◌++◌, Option, Some, None, map, refl, sym, ap, ◌∙◌}
use Rattle.std.proofs.Common.{◌<◌, length, arith, append-nil}
use Rattle.std.specs.Prelude.{◌||◌, not, nat_le, IsTrue, is_some, is_none}
use Rattle.std.specs.List.{list_any, flat_map}
use Rattle.std.proofs.lemmas.Bool.{leb-false}
use Rattle.std.proofs.lemmas.List.Folds.{list_any-append}
use Rattle.std.proofs.lemmas.List.Concat.{flat_map-cons}
use Rattle.std.proofs.lemmas.List.Sums.{sum_by-append}
use Rattle.tql_spec.specs.Bag.{In, SameBag}
use Rattle.tql_spec.specs.Definition.{Name, TableDef, table_at}
use Rattle.tql_spec.specs.Horizon.{asks_before, joined_ref, chain_refs, refs}
use Rattle.tql_spec.specs.Limits.{most_readers}
use Rattle.tql_spec.specs.Machine.{Bound, CreateTable, DropTable, SetClock, Start, Commit, Rollback, ChangeRows}
use Rattle.tql_spec.specs.Machine.{AnswerQuery, Prune, OpenReader, Read, CloseReader, InsertTuples, InsertQuery, Modify}
use Rattle.tql_spec.specs.Machine.{bound_faults}
use Rattle.tql_spec.specs.Names.{Checked, ◌>>=◌, refuse_if, refuse_for}
use Rattle.tql_spec.specs.Query.{Query, Ref}
use Rattle.tql_spec.specs.Readers.{Limits, is_named, reads_plain}
use Rattle.tql_spec.specs.Refusal as spec
use Rattle.tql_spec.specs.Refusal.{TooManyTablesOrReaders, ReaderNotUsable, BeforeTheHorizon, fault_if, first}
use Rattle.tql_spec.specs.Syntax.{Statement, SelectTree, OrderTree, QueryTree, ReadTree}
use Rattle.tql_spec.specs.Binding.{bind}
use Rattle.tql_spec.specs.Words.{same_text}
use Rattle.tql_spec.proofs.BoundKinds.{none_any}
use Rattle.tql_spec.proofs.FaultBags.{first_by_bag}
use Rattle.tql_expr.specs.Meaning.{cond}
use Rattle.tql_expr.specs.declared.terms.Terms.{Terms}
use Rattle.tql_bound.specs.Queries.{chain_of, join_by, join_of, references_in}
use Rattle.tql_bound.specs.References.{reference_of}
use Rattle.tql_bound.specs.declared.query.Chain.{Chain}
use Rattle.tql_bound.specs.declared.query.Join.{Join}
use Rattle.tql_bound.specs.declared.query.JoinKind.{JoinKind}
use Rattle.tql_bound.specs.declared.query.JoinKind.TheVariants.{Inner, Left, Cross}
use Rattle.tql_bound.specs.declared.reference.Reference.{Reference}
use Rattle.tql_bind_expr.specs.Gathered.{after, Gathers}
use Rattle.tql_bind_expr.proofs.Gathering.{after_append, bound, first_is}
use Rattle.tql_bind.specs.Limited.{bind_under, opens_too_many, is_unusable, is_too_early}
use Rattle.tql_bind.proofs.PlacedQueries.{behind_none, front_none, none_present, not_present}

-- ---- faults

-- the faults of the limits, appended to the others
abbrev bind_late : Limits → List TableDef → Statement → Checked Bound
bind_late l defs s = bind defs s >>= λ b. record { value = b; faults = bound_faults l defs b }

-- the first fault of two lists does not depend on their order
either_way : (xs ys : List spec.Refusal) → SameBag (xs ++ ys) (ys ++ xs)
either_way xs ys = record { totals = λ w. omega (arith, sum_by-append w xs ys, sum_by-append w ys xs) }

first_either_way : (l : Limits) (defs : List TableDef) (s : Statement)
    → first (bind_under l defs s).faults ≡ first (bind_late l defs s).faults
first_either_way l defs s =
    first_by_bag (bind_under l defs s).faults (bind_late l defs s).faults
    (either_way (bound_faults l defs (bind defs s).value) (bind defs s).faults)

-- the faults of the limits are collected last
limited : (l : Limits) (defs : List TableDef) (s : Statement) (old mid new : Option spec.Refusal) (x : Bound)
    → Gathers (bind defs s) old mid x → Gathers (refuse_for (bound_faults l defs x)) mid new tt
    → Gathers (bind_late l defs s) old new x
limited l defs s old mid new x g r =
    bound (bind defs s) (λ y. record { value = y; faults = bound_faults l defs y }) old mid new x x g
    (record { value = refl; least = r.least })

-- so the final fault is the first of all
pub first_under : (l : Limits) (defs : List TableDef) (s : Statement) (old mid new : Option spec.Refusal) (x : Bound)
    → old ≡ None → Gathers (bind defs s) old mid x → Gathers (refuse_for (bound_faults l defs x)) mid new tt
    → first (bind_under l defs s).faults ≡ new
first_under l defs s old mid new x none g r =
    first_either_way l defs s
    ∙ first_is (bind_late l defs s) old new x none (limited l defs s old mid new x g r)

-- without any fault, there is none of names
pub names_clean : (l : Limits) (defs : List TableDef) (s : Statement) → first (bind_under l defs s).faults ≡ None
    → first (bind defs s).faults ≡ None
names_clean l defs s e =
    ap first (behind_none (bound_faults l defs (bind defs s).value) (bind defs s).faults
    (none_present (bind_under l defs s).faults e))

-- nor is there one of the limits
pub limits_clean : (l : Limits) (defs : List TableDef) (s : Statement) → first (bind_under l defs s).faults ≡ None
    → bound_faults l defs (bind defs s).value ≡ []
limits_clean l defs s e =
    front_none (bound_faults l defs (bind defs s).value) (bind defs s).faults
    (none_present (bind_under l defs s).faults e)

-- ---- what the limits allow

present : (b : Bool) (e : spec.Refusal) → fault_if (not b) e ≡ [] → b ≡ true
present true e is = refl
present false e is = absurd (cc)

neither : (a b : Bool) (e : spec.Refusal) → fault_if (not a || b) e ≡ [] → (a ≡ true) × (b ≡ false)
neither true b e is = (refl, not_present b e is)
neither false b e is = absurd (cc)

-- OPEN READER: no reader of this name is open, and fewer are open than are allowed
pub may_open : (l : Limits) (defs : List TableDef) (n : Name) → bound_faults l defs (OpenReader n) ≡ []
    → (is_named n l.names ≡ false) × (length l.names < most_readers)
may_open l defs n is =
    let many = fault_if (nat_le most_readers (length l.names)) TooManyTablesOrReaders in (
      not_present (is_named n l.names) ReaderNotUsable (behind_none many _ is),
      leb-false most_readers (length l.names)
          (not_present (nat_le most_readers (length l.names)) TooManyTablesOrReaders (front_none many _ is)),
    )

-- CLOSE READER: the reader is open
pub may_close : (l : Limits) (defs : List TableDef) (n : Name) → bound_faults l defs (CloseReader n) ≡ []
    → is_named n l.names ≡ true
may_close l defs n is = present (is_named n l.names) ReaderNotUsable is

-- READ: the reader is open, each table of the query is system-versioned, and the query reads nothing before the horizon
pub may_read : (l : Limits) (defs : List TableDef) (n : Name) (q : Query) → bound_faults l defs (Read n q) ≡ []
    → (is_named n l.names ≡ true) × (reads_plain defs q ≡ false) × (asks_before l.horizon q ≡ false)
may_read l defs n q is =
    let unusable = fault_if (not (is_named n l.names) || reads_plain defs q) ReaderNotUsable in
    let used = neither (is_named n l.names) (reads_plain defs q) ReaderNotUsable (front_none unusable _ is) in
    (used.0, used.1, not_present (asks_before l.horizon q) BeforeTheHorizon (behind_none unusable _ is))

-- so the table of each of its references is system-versioned
pub each_versioned : (defs : List TableDef) (q : Query) → reads_plain defs q ≡ false → (r : Ref) → In r (refs q)
    → IsTrue (is_some (table_at defs r.table).system)
each_versioned defs q is r there =
    here (table_at defs r.table).system
    (none_any (λ (x : Ref). is_none (table_at defs x.table).system) r (refs q) there is)
  where
    here : {X : Type 0} (o : Option X) → is_none o ≡ false → IsTrue (is_some o)
    here None e = absurd (cc)
    here (Some x) e = refl

-- ---- each fault by its test

-- the faults of the limits, each by its test
abbrev one_by_one : Limits → List TableDef → Bound → List spec.Refusal
one_by_one l defs b =
    fault_if (opens_too_many l b) TooManyTablesOrReaders
    ++ (fault_if (is_unusable l defs b) ReaderNotUsable ++ fault_if (is_too_early l b) BeforeTheHorizon)

by_tests : (l : Limits) (defs : List TableDef) (b : Bound) → one_by_one l defs b ≡ bound_faults l defs b
by_tests l defs (CreateTable d) = refl
by_tests l defs (DropTable t) = refl
by_tests l defs (SetClock m) = refl
by_tests l defs Start = refl
by_tests l defs Commit = refl
by_tests l defs Rollback = refl
by_tests l defs (ChangeRows (InsertTuples t columns tuples)) = refl
by_tests l defs (ChangeRows (InsertQuery t columns q)) = refl
by_tests l defs (ChangeRows (Modify t portion work conds)) = refl
by_tests l defs (AnswerQuery q) = refl
by_tests l defs (Prune m) = refl
by_tests l defs (OpenReader n) =
    ap (λ fs. fault_if (opens_too_many l (OpenReader n)) TooManyTablesOrReaders ++ fs)
    (append-nil (fault_if (is_named n l.names) ReaderNotUsable))
by_tests l defs (Read n q) = refl
by_tests l defs (CloseReader n) = append-nil (fault_if (is_unusable l defs (CloseReader n)) ReaderNotUsable)

-- three faults in sequence are those of the limits
pub gathered_by_tests : (l : Limits) (defs : List TableDef) (b : Bound) (old first second new : Option spec.Refusal)
    → Gathers (refuse_if (opens_too_many l b) TooManyTablesOrReaders) old first tt
    → Gathers (refuse_if (is_unusable l defs b) ReaderNotUsable) first second tt
    → Gathers (refuse_if (is_too_early l b) BeforeTheHorizon) second new tt
    → Gathers (refuse_for (bound_faults l defs b)) old new tt
gathered_by_tests l defs b old first second new f s t = record {
  value = refl;
  least =
      t.least ∙ ap (λ o. after o early) s.least ∙ ap (λ o. after (after o unusable) early) f.least
      ∙ sym (after_append (after old many) unusable early) ∙ sym (after_append old many (unusable ++ early))
      ∙ ap (after old) (by_tests l defs b);
}
  where
    many : List spec.Refusal
    many = fault_if (opens_too_many l b) TooManyTablesOrReaders

    unusable : List spec.Refusal
    unusable = fault_if (is_unusable l defs b) ReaderNotUsable

    early : List spec.Refusal
    early = fault_if (is_too_early l b) BeforeTheHorizon

-- ---- references

-- the reference of a join
joined : (t : Terms) (j : Join) → joined_ref (join_of t j) ≡ reference_of j.reference
joined t j = by_kind j.kind
  where
    by_kind : (k : JoinKind)
        → joined_ref (join_by k (reference_of j.reference) (map (cond t) j.on.items)) ≡ reference_of j.reference
    by_kind Inner = refl
    by_kind Left = refl
    by_kind Cross = refl

module _ (test : Ref → Bool) where
  -- the test of a bound table reference
  abbrev bound_test : Reference → Bool
  bound_test r = test (reference_of r)

  -- the reference of some join passes it
  joins_tested : (t : Terms) (js : List Join)
      → list_any test (map joined_ref (map (join_of t) js))
      ≡ list_any bound_test (map (λ (j : Join). j.reference) js)
  joins_tested t [] = refl
  joins_tested t (j ∷ js) =
      ap (λ (r : Ref). test r || list_any test (map joined_ref (map (join_of t) js))) (joined t j)
      ∙ ap (λ b. bound_test j.reference || b) (joins_tested t js)

  -- some reference of a chain
  chain_tested : (t : Terms) (c : Chain)
      → list_any test (chain_refs (chain_of t c)) ≡ list_any bound_test (references_in c)
  chain_tested t c = ap (λ b. bound_test c.first || b) (joins_tested t c.joins.items)

  -- some reference of some chain
  pub chains_tested : (t : Terms) (cs : List Chain)
      → list_any (λ (c : Chain). list_any bound_test (references_in c)) cs
      ≡ list_any test (flat_map chain_refs (map (chain_of t) cs))
  chains_tested t [] = refl
  chains_tested t (c ∷ cs) =
      ap (λ b. list_any bound_test (references_in c) || b) (chains_tested t cs)
      ∙ ap (λ b. b || list_any test (flat_map chain_refs (map (chain_of t) cs))) (sym (chain_tested t c))
      ∙ sym (list_any-append test (chain_refs (chain_of t c)) (flat_map chain_refs (map (chain_of t) cs)))
      ∙ ap (list_any test) (sym (flat_map-cons chain_refs (chain_of t c) (map (chain_of t) cs)))

-- a test of each join's reference is a test of the references
pub joins_asked : (test : Reference → Bool) (js : List Join)
    → list_any (λ (j : Join). test j.reference) js ≡ list_any test (map (λ (j : Join). j.reference) js)
joins_asked test [] = refl
joins_asked test (j ∷ js) = ap (λ b. test j.reference || b) (joins_asked test js)

-- ---- readers

-- a name is looked up among the names of some items
pub name_sought : {X : Type 0} (name : X → Name) (n : Name) (xs : List X)
    → list_any (λ x. same_text n (name x)) xs ≡ is_named n (map name xs)
name_sought name n [] = refl
name_sought name n (x ∷ xs) = ap (λ b. same_text n (name x) || b) (name_sought name n xs)

-- a READ is bound as its query is
pub read_bound : (defs : List TableDef) (n : Name) (s : SelectTree) (keys : List OrderTree)
    (old new : Option spec.Refusal) (q : Query) → Gathers (bind defs (QueryTree s keys)) old new (AnswerQuery q)
    → Gathers (bind defs (ReadTree n s keys)) old new (Read n q)
read_bound defs n s keys old new q g = record {
  value = ap (λ (b : Bound). asked_by b) g.value;
  least = g.least;
}
  where
    asked_by : Bound → Bound
    asked_by (AnswerQuery x) = Read n x
    asked_by b = b
