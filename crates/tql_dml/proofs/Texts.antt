-- The values of new rows have texts, if the values from which they are computed have.
use Rattle.std.specs.Prelude.{◌≡◌, refl, ℕ, suc, IsTrue, is_some, Bool, true, false, nat_lt, List, [], ◌∷◌, map}
use Rattle.std.specs.Prelude.{remove, slice_set, take, drop, All, Vec, Option, Some, None, ⊤, if◌then◌else◌}
use Rattle.std.specs.List.{AllByRecursion}
use Rattle.std.proofs.Common.{sym, subst, arith, inl, inr}
use Rattle.std.proofs.lemmas.Int.{ints}
use Rattle.std.proofs.lemmas.List.Elements.{All-head, All-tail, All-append, All-nil, All-set, All-take, All-drop}
use Rattle.std.proofs.lemmas.List.Elements.{All-from_recursion}
use Rattle.tql_spec.specs.Words.{◌>>=◌, map_all}
use Rattle.tql_spec.specs.Datum.{Row}
use Rattle.tql_spec.specs.Calendar.{high}
use Rattle.tql_spec.specs.Definition.{System, TableDef, without_generated, shown, period_of}
use Rattle.tql_spec.specs.Expression.{Cond, eval, passes}
use Rattle.tql_spec.specs.Change.{Work, assigned, is_touched, made_of, pieces}
use Rattle.tql_spec.specs.Bag.{In}
use Rattle.tql_spec.specs.Creation.{kinds_of}
use Rattle.tql_spec.specs.Period.{Period, share_a_point}
use Rattle.tql_spec.specs.Typing.{AreOfKinds, HasPeriod, IsTypedDefinition}
use Rattle.tql_spec.specs.TypingLaws.{IsTypedWork}
use Rattle.tql_spec.specs.Refusal.{first}
use Rattle.tql_bound.specs.Changes.{tuple_of}
use Rattle.tql_bound.specs.Works.{assignment_of, work_of}
use Rattle.tql_bound.specs.declared.change.Assignment.{Assignment}
use Rattle.tql_bound.specs.declared.change.Work as code
use Rattle.tql_bound.specs.declared.change.Work.TheVariants as work
use Rattle.tql_catalog.specs.Defined.{IsDefinition}
use Rattle.tql_catalog.specs.Rows.{IsRowOf, RisesBy}
use Rattle.tql_expr.specs.Meaning.{expr}
use Rattle.tql_expr.specs.declared.terms.ExprId.{ExprId}
use Rattle.tql_expr.specs.declared.terms.Terms.{Terms}
use Rattle.tql_versions.specs.Readings.{version_shown as version_of}
use Rattle.tql_versions.specs.declared.version.Version.{Version}
use Rattle.tql_value.specs.Points.{IsPrintable, IsMoment}
use Rattle.tql_dml.specs.Alters.{IsVersionOf, IsTypedFor}
use Rattle.tql_dml.specs.Cells.{rows_faults}
use Rattle.tql_dml.specs.Parts.{Parts, before, touched_part, part_where, part_of, parts}
use Rattle.tql_expr.proofs.Printing.{OptionPrints, RowPrints, RowsPrint, expr_prints, eval_prints, values_print}
use Rattle.tql_expr.proofs.Printing.{rows_front_print, generated_prints}
use Rattle.tql_dml.proofs.PieceTexts.{pieces_print}
use Rattle.tql_dml.proofs.Rising.{rows_fit}
use Rattle.tql_dml.proofs.Rows.{AreRows, PartsFit, parts_fit}

-- ---- INSERT

-- the values of expressions without columns have texts
pub tuples_print : {A : Type 0} (t : Terms) (tuples : List (Vec ExprId A))
    → RowsPrint (map_all (map_all (eval [] [])) (map (tuple_of t) tuples))
tuples_print t [] = All-nil (All IsPrintable)
tuples_print t (x ∷ xs) =
    rows_front_print (map_all (eval [] []) (tuple_of t x)) _ (values_print t [] x.items (All-nil IsPrintable))
    (tuples_print t xs)

-- ---- UPDATE and DELETE

high_is_moment : IsMoment high
high_is_moment = (omega (arith, ints), omega (arith, ints))

-- the row that assignments make
assigned_prints : (t : Terms) (old row : Row) (sets : List Assignment) → All IsPrintable old → All IsPrintable row
    → RowPrints (assigned old row (map (assignment_of t) sets))
assigned_prints t old row [] h k = k
assigned_prints t old row (a ∷ rest) h k =
    let set : OptionPrints (eval [] old (expr t a.value))
    → RowPrints (eval [] old (expr t a.value) >>= λ v. assigned old (slice_set row a.column v)
    (map (assignment_of t) rest)) =
    elim (eval [] old (expr t a.value)) as (λ o. OptionPrints o
    → RowPrints (o >>= λ v. assigned old (slice_set row a.column v) (map (assignment_of t) rest))) [
      | None ↦ λ p. tt
      | Some v ↦ λ p. assigned_prints t old (slice_set row a.column v) rest h (All-set IsPrintable row a.column v p k)
    ] in
    set (eval_prints old (expr t a.value) h (expr_prints t a.value))

removed_prints : (row : Row) (i : ℕ) → All IsPrintable row → All IsPrintable (remove row i)
removed_prints row i h =
    All-append IsPrintable (take i row) (drop (suc i) row) (All-take IsPrintable i row h)
    (All-drop IsPrintable (suc i) row h)

either_removed : (s : System) (row : Row) (b : Bool) → All IsPrintable row
    → All IsPrintable (if b then remove (remove row s.end) s.start else remove (remove row s.start) s.end)
either_removed s row true h = removed_prints (remove row s.end) s.start (removed_prints row s.end h)
either_removed s row false h = removed_prints (remove row s.start) s.end (removed_prints row s.start h)

without_prints : (s : Option System) (row : Row) → All IsPrintable row → All IsPrintable (without_generated s row)
without_prints None row h = h
without_prints (Some s) row h = either_removed s row (nat_lt s.start s.end) h

-- the added rows, if they are in range
abbrev PartsPrint : Option Parts → Type 0
PartsPrint None = ⊤
PartsPrint (Some p) = All (All IsPrintable) p.come

both_print : (p q : Option Parts) → PartsPrint p → PartsPrint q → PartsPrint (p >>= λ x. before x q)
both_print None q h k = tt
both_print (Some x) None h k = tt
both_print (Some x) (Some y) h k = All-append (All IsPrintable) x.come y.come h k

-- the rows that are made
made_print : (t : Terms) (w : code.Work) (row : Row) (made : List Row) → All IsPrintable row
    → made_of (work_of t w) row ≡ Some made → (x : Row) → In x made → All IsPrintable x
made_print t work.Remove row made h e x m = let q : [] ≡ made =
    cc in absurd (subst (λ (xs : List Row). In x xs) (sym q) m)
made_print t (work.Set sets) row made h e x m =
    at_row (assigned row row (map (assignment_of t) sets.items)) (assigned_prints t row row sets.items h h) e
  where
    at_row : (o : Option Row) → RowPrints o → (o >>= λ new. Some (new ∷ [])) ≡ Some made → All IsPrintable x
    at_row None k q = absurd (cc)
    at_row (Some new) k q =
        let same : new ∷ [] ≡ made = cc in
        elim (subst (λ (xs : List Row). In x xs) (sym same) m)
        [ inl z ↦ subst (All IsPrintable) (sym z) k | inr z ↦ absurd z ]

-- full rows without their generated columns
all_print : (d : TableDef) (rows : List Row) → ((x : Row) → In x rows → All IsPrintable x)
    → AllByRecursion (All IsPrintable) (map (without_generated d.system) rows)
all_print d [] h = tt
all_print d (x ∷ xs) h = (without_prints d.system x (h x (inl refl)), all_print d xs (λ y m. h y (inr m)))

-- the rows that replace a touched row
touched_print : (d : TableDef) (portion : Option Period) (work : Work) (id : ℕ) (row : Row)
    → ((made : List Row) → made_of work row ≡ Some made → (x : Row) → In x (pieces d portion row made)
    → All IsPrintable x)
    → PartsPrint (touched_part d portion work id row)
touched_print d portion work id row h = by_made (made_of work row) h
  where
    by_made : (o : Option (List Row))
        → ((made : List Row) → o ≡ Some made → (x : Row) → In x (pieces d portion row made) → All IsPrintable x)
        → PartsPrint (o >>= λ made. Some
        (record { gone = id ∷ []; come = map (without_generated d.system) (pieces d portion row made) }))
    by_made None k = tt
    by_made (Some made) k =
        All-from_recursion (All IsPrintable) (map (without_generated d.system) (pieces d portion row made))
        (all_print d (pieces d portion row made) (k made refl))

where_prints : (t : Option Bool) (o : Option Parts) → (t ≡ Some true → PartsPrint o)
    → PartsPrint (t >>= λ b. part_where b o)
where_prints None o h = tt
where_prints (Some true) o h = h refl
where_prints (Some false) o h = All-nil (All IsPrintable)

-- a row that a change of a portion touches shares a point with it
shares : (d : TableDef) (portion : Period) (conds : List Cond) (row : Row)
    → is_touched d (Some portion) conds row ≡ Some true → share_a_point (period_of d row) portion ≡ true
shares d portion conds row e = by_point (share_a_point (period_of d row) portion) e
  where
    by_point : (b : Bool) → (if b then passes [] row conds else Some false) ≡ Some true → b ≡ true
    by_point true q = refl
    by_point false q = absurd (cc)

-- the row of a version has no NULL in its period
has_period : (d : TableDef) (v : Version) → IsVersionOf d v → HasPeriod d (shown d (version_of v).row)
has_period d v f a q =
    let rising : RisesBy (Some a) (shown d (version_of v).row) =
    subst (λ o. RisesBy o (shown d (version_of v).row)) q (f.cells.rising v.kept.now.start high) in
    (rising.start, rising.end)

version_prints : (d : TableDef) (portion : Option Period) (t : Terms) (w : code.Work) (conds : List Cond)
    (v : Version) → IsVersionOf d v
    → (IsTrue (is_some portion)
    → IsTypedDefinition d × IsTypedWork d portion (work_of t w) × AreOfKinds (kinds_of d) (shown d (version_of v).row))
    → PartsPrint (part_of d portion (work_of t w) conds v.id (shown d (version_of v).row))
version_prints d portion t w conds v f k =
    where_prints (is_touched d portion conds row) (touched_part d portion (work_of t w) v.id row)
    (λ q. touched_print d portion (work_of t w) v.id row (by_portion portion k q))
  where
    row : Row
    row = shown d (version_of v).row

    prints : All IsPrintable row
    prints =
        generated_prints d.system (version_of v).row.cells v.kept.now.start high f.cells.printable f.start
        high_is_moment

    by_portion : (p : Option Period)
        → (IsTrue (is_some p) → IsTypedDefinition d × IsTypedWork d p (work_of t w) × AreOfKinds (kinds_of d) row)
        → is_touched d p conds row ≡ Some true → (made : List Row) → made_of (work_of t w) row ≡ Some made
        → (x : Row) → In x (pieces d p row made) → All IsPrintable x
    by_portion None k q made e x m = made_print t w row made prints e x m
    by_portion (Some p) k q made e x m =
        let typed = k refl in
        pieces_print d typed.0 p (work_of t w) typed.1 row
        (record { kinds = typed.2; period = has_period d v f; prints = prints }) (shares d p conds row q) made e
        (made_print t w row made prints e) x m

parts_print : (d : TableDef) (portion : Option Period) (t : Terms) (w : code.Work) (conds : List Cond)
    (found : List Version) → All (IsVersionOf d) found
    → (IsTrue (is_some portion) → IsTypedFor d found portion (work_of t w))
    → PartsPrint (parts d portion (work_of t w) conds found)
parts_print d portion t w conds [] h k = All-nil (All IsPrintable)
parts_print d portion t w conds (v ∷ vs) h k =
    let row : Row = shown d (version_of v).row in
    let typed : Version → Type 0 = λ (u : Version). AreOfKinds (kinds_of d) (shown d (version_of u).row) in
    both_print (part_of d portion (work_of t w) conds v.id row) (parts d portion (work_of t w) conds vs)
    (version_prints d portion t w conds v (All-head (IsVersionOf d) v vs h)
    (λ s. ((k s).definition, (k s).gives, All-head typed v vs (k s).rows)))
    (parts_print d portion t w conds vs (All-tail (IsVersionOf d) v vs h)
    (λ s. record { definition = (k s).definition; gives = (k s).gives; rows = All-tail typed v vs (k s).rows }))

-- the added rows fit the table if the removed ones do
pub coming_fit : (d : TableDef) (portion : Option Period) (t : Terms) (w : code.Work) (conds : List Cond)
    (found : List Version) (p : Parts) → IsDefinition d → AreRows d found
    → parts d portion (work_of t w) conds found ≡ Some p → None ≡ first (rows_faults d p.come)
    → All (IsVersionOf d) found
    → (IsTrue (is_some portion) → IsTypedFor d found portion (work_of t w)) → All (IsRowOf d) p.come
coming_fit d portion t w conds found p s r e none h k =
    let wide : PartsFit d (Some p) = subst (PartsFit d) e (parts_fit d portion (work_of t w) conds found s r) in
    let prints : PartsPrint (Some p) = subst PartsPrint e (parts_print d portion t w conds found h k) in
    rows_fit d p.come s wide prints none
