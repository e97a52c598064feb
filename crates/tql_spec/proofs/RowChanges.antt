-- A change without a fault leaves rows of its table's kinds, with values in the columns of the application period.
use Rattle.std.proofs.Common.{◌≡◌, refl, sym, ap, subst, ◌∙◌, ℕ, Bool, true, false, List, [], ◌∷◌, ◌++◌, map, length}
use Rattle.std.proofs.Common.{inl, inr, arith}
use Rattle.std.specs.Prelude.{◌⊎◌, ◌==◌, ◌||◌, replicate, ℤ, Option, Some, None}
use Rattle.std.specs.List.{flat_map}
use Rattle.std.proofs.lemmas.Bool.Decides.{nat_tests}
use Rattle.std.proofs.lemmas.List.{length-map}
use Rattle.tql_spec.specs.Words.{◌>>=◌, map_all}
use Rattle.tql_spec.specs.Bag.{In}
use Rattle.tql_spec.specs.Calendar.{high}
use Rattle.tql_spec.specs.Datum.{Datum, Null, Row, is_null}
use Rattle.tql_spec.specs.Refusal.{Refusal}
use Rattle.tql_spec.specs.Period.{Period, before, inside, after, if_any}
use Rattle.tql_spec.specs.Expression.{Cond}
use Rattle.tql_spec.specs.Definition.{TableDef, Stamped, cell, period_of, with_period, shown, stamped}
use Rattle.tql_spec.specs.Creation.{kinds_of, has_number, period_columns}
use Rattle.tql_spec.specs.Change.{Assignment, Fate, Untouched, Replaced, Work, after_fates, new_rows, assigned, new_row}
use Rattle.tql_spec.specs.Change.{row_faults, cell_faults, period_faults, check_fault, fate, fate_where, made_of}
use Rattle.tql_spec.specs.Change.{is_touched, pieces, insert as insertion, modify, outcome_of}
use Rattle.tql_spec.specs.Expression.{judge}
use Rattle.tql_spec.specs.Binding.{kinds_for}
use Rattle.tql_spec.specs.Typing.{AreOfKinds, IsTyped, IsTypedDefinition, HasPeriod}
use Rattle.tql_spec.specs.TypingLaws.{IsTypedWork}
use Rattle.tql_spec.proofs.MemberLists.{in_left, in_right, in_either, in_image}
use Rattle.tql_spec.proofs.RunKeeps.{no_left, no_right}
use Rattle.tql_spec.proofs.Steady.{front_is}
use Rattle.tql_spec.proofs.RowKinds.{null_kinds, kinds_length, filled_kinds, assigned_kinds, assigned_other}
use Rattle.tql_spec.proofs.RowKinds.{generated_kinds, period_kinds, period_there}

-- a row of its table's kinds, with values in the columns of the application period
pub record Good (d : TableDef) (r : Stamped) : Type 0 where
  pub typed : IsTyped d r
  pub period : HasPeriod d (shown d r)

-- each of the rows is good
abbrev pub AllGood : TableDef → List Stamped → Type 0
AllGood d rows = (r : Stamped) → In r rows → Good d r

-- full rows of the table's kinds
abbrev AllOfKinds : TableDef → List Row → Type 0
AllOfKinds d rows = (row : Row) → In row rows → AreOfKinds (kinds_of d) row

-- ---- new rows

-- a full row of the table's kinds is typed when stamped
stamped_typed : (d : TableDef) (m : ℤ) (row : Row) → IsTypedDefinition d → AreOfKinds (kinds_of d) row
    → IsTyped d (stamped d m row)
stamped_typed d m row t h =
    generated_kinds d t row h m high (sym (kinds_length (kinds_of d) row h ∙ length-map d.columns _))

-- several full rows are typed when stamped
all_stamped : (d : TableDef) (m : ℤ) (rows : List Row) → IsTypedDefinition d → AllOfKinds d rows
    → (r : Stamped) → In r (map (stamped d m) rows) → IsTyped d r
all_stamped d m rows t h r n =
    let i = in_image (stamped d m) r rows n in subst (IsTyped d) (sym i.2) (stamped_typed d m i.0 t (h i.0 i.1))

-- if the joined faults are empty, so are the faults of each element
pub part_free : {X : Type 0} (f : X → List Refusal) (x : X) (xs : List X) → In x xs → flat_map f xs ≡ [] → f x ≡ []
part_free f x [] m e = absurd m
part_free f x (y ∷ xs) (inl q) e = ap f q ∙ no_left (f y) (flat_map f xs) e
part_free f x (y ∷ xs) (inr m) e = part_free f x xs m (no_right (f y) (flat_map f xs) e)

-- typed new rows without faults are good
good_new : (d : TableDef) → IsTypedDefinition d → (new : List Stamped) → ((r : Stamped) → In r new → IsTyped d r)
    → flat_map (λ r. row_faults d (shown d r)) new ≡ [] → AllGood d new
good_new d t new h e r m =
    let row : Row = shown d r in
    let free = part_free (λ x. row_faults d (shown d x)) r new m e in
    let cells = no_left (cell_faults d.columns row) (period_faults d row)
    (no_left (cell_faults d.columns row ++ period_faults d row)
    (flat_map (λ c. check_fault (judge [] row c)) d.checks) free) in
    record { typed = h r m; period = period_there d t row (h r m) cells }

-- an INSERT without a fault leaves good rows
pub insert_good : (d : TableDef) (m : ℤ) (rows : List Stamped) (columns : List ℕ) (o : Option (List (List Datum)))
    → IsTypedDefinition d
    → AllGood d rows
    → ((tuples : List (List Datum)) → o ≡ Some tuples → (values : List Datum) → In values tuples
    → AreOfKinds (kinds_for d columns) values)
    → (insertion d m rows columns o).faults ≡ [] → AllGood d (insertion d m rows columns o).rows
insert_good d m rows columns None t g h e r n = g r n
insert_good d m rows columns (Some tuples) t g h e r n = elim
    (in_either r rows (map (λ values. stamped d m (new_row d columns values)) tuples) n) [
      | inl i ↦ g r i
      | inr i ↦ good_new d t (map (λ values. stamped d m (new_row d columns values)) tuples) typed e r i
    ]
  where
    typed : (r : Stamped) → In r (map (λ values. stamped d m (new_row d columns values)) tuples) → IsTyped d r
    typed r i =
        let j = in_image (λ values. stamped d m (new_row d columns values)) r tuples i in
        subst (IsTyped d) (sym j.2) (stamped_typed d m (new_row d columns j.0) t
        (filled_kinds (kinds_of d) (replicate (length d.columns) Null)
        (subst (λ k. AreOfKinds (kinds_of d) (replicate k Null)) (length-map d.columns _) (null_kinds (kinds_of d)))
        columns j.0 (h tuples refl j.0 j.1)))

-- ---- rows replaced

-- a number is found at the front of a list
number_first : (i : ℕ) (is : List ℕ) → has_number i (i ∷ is) ≡ true
number_first i is = let e : (i == i) ≡ true = grind (arith, nat_tests) in rw e refl

-- a number is found at the second position of a list
number_second : (i j : ℕ) (is : List ℕ) → has_number i (j ∷ i ∷ is) ≡ true
number_second i j is = either (i == j)
  where
    either : (b : Bool) → b || has_number i (i ∷ is) ≡ true
    either true = refl
    either false = number_first i is

-- the rows that a row of the table's kinds becomes are of these kinds
pub made_kinds : (d : TableDef) (portion : Option Period) (work : Work) → IsTypedWork d portion work → (row : Row)
    → AreOfKinds (kinds_of d) row
    → (made : List Row) → made_of work row ≡ Some made → AllOfKinds d made
made_kinds d portion Work.Remove w row h made e x m = let q : [] ≡ made = cc in absurd
    (subst (λ (xs : List Row). In x xs) (sym q) m)
made_kinds d portion (Work.Set sets) w row h made e x m = at_row (assigned row row sets)
    (assigned_kinds (kinds_of d) row row sets h (λ a n. (w a n).value row h)) e
  where
    at_row : (o : Option Row) → ((new : Row) → o ≡ Some new → AreOfKinds (kinds_of d) new)
        → (o >>= λ new. Some (new ∷ [])) ≡ Some made → AreOfKinds (kinds_of d) x
    at_row None k q = absurd (cc)
    at_row (Some new) k q =
        let same : new ∷ [] ≡ made = cc in
        elim (subst (λ (xs : List Row). In x xs) (sym same) m) [
          | inl z ↦ subst (AreOfKinds (kinds_of d)) (sym z) (k new refl)
          | inr z ↦ absurd z
        ]

-- in a change of a portion, the rows that a row becomes have no null in the columns of the period
pub made_periods : (d : TableDef) (p : Period) (work : Work) → IsTypedWork d (Some p) work → (row : Row)
    → HasPeriod d row
    → (made : List Row) → made_of work row ≡ Some made → (x : Row) → In x made → HasPeriod d x
made_periods d p Work.Remove w row h made e x m a q = let z : [] ≡ made = cc in absurd
    (subst (λ (xs : List Row). In x xs) (sym z) m)
made_periods d p (Work.Set sets) w row h made e x m a q = at_row (assigned row row sets) refl e
  where
    here : (i : ℕ) → has_number i (period_columns d.application) ≡ true → (b : Assignment) → In b sets → b.column ≡ i
        → ⊥
    here i r b n z =
        let other : has_number b.column (period_columns d.application) ≡ false = (w b n).column refl in
        let same : has_number b.column (period_columns d.application) ≡ true =
        ap (λ k. has_number k (period_columns d.application)) z ∙ r in
        let never : true ≡ false = sym same ∙ other in absurd (cc)

    at_row : (o : Option Row) → assigned row row sets ≡ o → (o >>= λ new. Some (new ∷ [])) ≡ Some made
        → (is_null (cell x a.start) ≡ false) × (is_null (cell x a.end) ≡ false)
    at_row None k f = absurd (cc)
    at_row (Some new) k f =
        let same : new ∷ [] ≡ made = cc in
        let columns : period_columns d.application ≡ a.start ∷ a.end ∷ [] = ap period_columns q in
        let one = assigned_other row row sets a.start
        (here a.start (ap (has_number a.start) columns ∙ number_first a.start (a.end ∷ []))) new k in
        let two = assigned_other row row sets a.end
        (here a.end (ap (has_number a.end) columns ∙ number_second a.end a.start [])) new k in
        elim (subst (λ (xs : List Row). In x xs) (sym same) m) [
          | inl z ↦ (
            ap (λ (y : Row). is_null (cell y a.start)) z ∙ ap is_null one ∙ (h a q).0,
            ap (λ (y : Row). is_null (cell y a.end)) z ∙ ap is_null two ∙ (h a q).1,
          )
          | inr z ↦ absurd z
        ]

-- the pieces of a changed row are of the table's kinds
pieces_kinds : (d : TableDef) → IsTypedDefinition d → (portion : Option Period) (work : Work)
    → IsTypedWork d portion work
    → (row : Row) → AreOfKinds (kinds_of d) row → HasPeriod d row → (made : List Row) → made_of work row ≡ Some made
    → AllOfKinds d (pieces d portion row made)
pieces_kinds d t None work w row h k made e x m = made_kinds d None work w row h made e x m
pieces_kinds d t (Some portion) work w row h k made e x m = elim
    (in_either x (map (λ p. with_period d p row) (if_any (before portion.start y))
    ++ map (λ r. with_period d (inside portion y) r) made) rest m) [
      | inl n ↦ elim (in_either x (map (λ p. with_period d p row) (if_any (before portion.start y)))
          (map (λ r. with_period d (inside portion y) r) made) n) [
            | inl i ↦ own (if_any (before portion.start y)) i
            | inr i ↦ let j = in_image (λ r. with_period d (inside portion y) r) x made i in
                subst (AreOfKinds (kinds_of d)) (sym j.2) (period_kinds d t (inside portion y) j.0
                (made_kinds d (Some portion) work w row h made e j.0 j.1)
                (made_periods d portion work w row k made e j.0 j.1))
          ]
      | inr i ↦ own (if_any (after portion.end y)) i
    ]
  where
    y : Period
    y = period_of d row

    rest : List Row
    rest = map (λ p. with_period d p row) (if_any (after portion.end y))

    own : (ps : List Period) → In x (map (λ p. with_period d p row) ps) → AreOfKinds (kinds_of d) x
    own ps n = let i = in_image (λ p. with_period d p row) x ps n in
        subst (AreOfKinds (kinds_of d)) (sym i.2) (period_kinds d t i.0 row h k)

-- the rows that replace a good row are typed
fate_typed : (d : TableDef) → IsTypedDefinition d → (m : ℤ) (portion : Option Period) (work : Work) (conds : List Cond)
    → IsTypedWork d portion work → (r : Stamped) → Good d r → (new : List Stamped)
    → fate d m portion work conds (shown d r) ≡ Some (Replaced new) → (x : Stamped) → In x new → IsTyped d x
fate_typed d t m portion work conds w r g new q = touched (is_touched d portion conds (shown d r))
    (made_of work (shown d r)) (pieces_kinds d t portion work w (shown d r) g.typed g.period) q
  where
    touched : (o : Option Bool) (made : Option (List Row))
        → ((rows : List Row) → made ≡ Some rows → AllOfKinds d (pieces d portion (shown d r) rows))
        → (o >>= λ b. fate_where b
        (made >>= λ rows. Some (Replaced (map (stamped d m) (pieces d portion (shown d r) rows))))) ≡ Some
        (Replaced new)
        → (x : Stamped) → In x new → IsTyped d x
    touched None made h e = absurd (cc)
    touched (Some false) made h e = absurd (cc)
    touched (Some true) None h e = absurd (cc)
    touched (Some true) (Some rows) h e =
        let same : map (stamped d m) (pieces d portion (shown d r) rows) ≡ new = cc in
        subst (λ (xs : List Stamped). (x : Stamped) → In x xs → IsTyped d x) same
        (all_stamped d m (pieces d portion (shown d r) rows) t (h rows refl))

-- a row after the change is an old row or a new one
old_or_new : (rows : List Stamped) (fates : List Fate) (r : Stamped) → In r (after_fates rows fates)
    → In r rows ⊎ In r (new_rows fates)
old_or_new [] [] r m = absurd m
old_or_new [] (f ∷ fates) r m = absurd m
old_or_new (x ∷ rows) [] r m = absurd m
old_or_new (x ∷ rows) (Untouched ∷ fates) r (inl e) = inl (inl e)
old_or_new (x ∷ rows) (Untouched ∷ fates) r (inr m) = elim
    (old_or_new rows fates r m) [ inl i ↦ inl (inr i) | inr i ↦ inr i ]
old_or_new (x ∷ rows) (Replaced new ∷ fates) r m = elim (in_either r new (after_fates rows fates) m) [
  | inl i ↦ inr (in_first i)
  | inr i ↦ elim (old_or_new rows fates r i) [ inl j ↦ inl (inr j) | inr j ↦ inr (in_second j) ]
]
  where
    in_first : In r new → In r (new ++ new_rows fates)
    in_first i = in_left r new (new_rows fates) i

    in_second : In r (new_rows fates) → In r (new ++ new_rows fates)
    in_second i = in_right r new (new_rows fates) i

-- the new rows are typed
all_new : (d : TableDef) (f : Stamped → Option Fate) (rows : List Stamped)
    → ((r : Stamped) → In r rows → (new : List Stamped) → f r ≡ Some (Replaced new) → (x : Stamped) → In x new
    → IsTyped d x)
    → (fates : List Fate) → map_all f rows ≡ Some fates → (x : Stamped) → In x (new_rows fates) → IsTyped d x
all_new d f [] h fates e x m = let q : [] ≡ fates = cc in absurd (subst (λ fs. In x (new_rows fs)) (sym q) m)
all_new d f (r ∷ rows) h fates e x m =
    let k = front_is (f r) (map_all f rows) fates e in
    by_fate k.head k.tail k.one (all_new d f rows (λ y n. h y (inr n)) k.tail k.more x)
    (subst (λ fs. In x (new_rows fs)) k.whole m)
  where
    by_fate : (y : Fate) (ys : List Fate) → f r ≡ Some y → (In x (new_rows ys) → IsTyped d x)
        → In x (new_rows (y ∷ ys)) → IsTyped d x
    by_fate Untouched ys q ih i = ih i
    by_fate (Replaced new) ys q ih i = elim
        (in_either x new (new_rows ys) i) [ inl j ↦ h r (inl refl) new q x j | inr j ↦ ih j ]

-- an UPDATE or a DELETE without a fault leaves good rows
pub modify_good : (d : TableDef) → IsTypedDefinition d
    → (m : ℤ) (rows : List Stamped) (portion : Option Period) (work : Work) (conds : List Cond)
    → IsTypedWork d portion work → AllGood d rows → (modify d m rows portion work conds).faults ≡ []
    → AllGood d (modify d m rows portion work conds).rows
modify_good d t m rows portion work conds w g = by_fates
    (map_all (λ r. fate d m portion work conds (shown d r)) rows) refl
  where
    by_fates : (o : Option (List Fate)) → map_all (λ r. fate d m portion work conds (shown d r)) rows ≡ o
        → (outcome_of d rows o).faults ≡ [] → AllGood d (outcome_of d rows o).rows
    by_fates None e f r n = absurd (cc)
    by_fates (Some fates) e f r n = elim (old_or_new rows fates r n) [
      | inl i ↦ g r i
      | inr i ↦ good_new d t (new_rows fates) (all_new d (λ x. fate d m portion work conds (shown d x)) rows
          (λ x k new q. fate_typed d t m portion work conds w x (g x k) new q) fates e) f r i
    ]
