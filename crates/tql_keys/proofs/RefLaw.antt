-- A reference after a change to its child table, and to its parent table.
use Rattle.std.proofs.Common.{◌≡◌, refl, sym, ap, ◌∙◌, Bool, true, false, cond, List, [], ◌∷◌, ◌++◌, map, filter}
use Rattle.std.specs.Prelude.{◌&&◌, ◌||◌, not}
use Rattle.std.specs.List.{list_all, list_any}
use Rattle.std.proofs.lemmas.List.Elements.{filter-append}
use Rattle.tql_spec.specs.Datum.{Row}
use Rattle.tql_spec.specs.Definition.{TableDef, Reference, Stamped, period_of, shown}
use Rattle.tql_spec.specs.Constraint.{ReferenceTestIsRight, match_on, parents_of, has_null, is_met, is_met_by}
use Rattle.tql_spec.specs.Constraint.{reference_holds, shown_rows}
use Rattle.tql_spec.proofs.Members.{both, by_bool}
use Rattle.tql_key_rows.specs.Touched.{tuple, has_tuple, is_touched}
use Rattle.tql_keys.specs.Spared.{is_child_of, is_spared}
use Rattle.tql_key_rows.proofs.Bools.{all_app, all_map, all_same, all_kept, all_swap}
use Rattle.tql_key_rows.proofs.Wheres.{all_where}
use Rattle.tql_key_rows.proofs.Tuples.{match_tuple}
use Rattle.tql_keys.proofs.Covering.{met_by_more}
use Rattle.tql_keys.proofs.Near.{met_near_all, touched_turned}

-- ---- the child table

-- rows appended to rows that are met
pub child_joined : (child parent : TableDef) (f : Reference) (parents kept new : List Row)
    → reference_holds child parent f parents kept ≡ true
    → reference_holds child parent f parents (kept ++ new) ≡ reference_holds child parent f parents new
child_joined child parent f parents kept new h =
    all_app (is_met child parent f parents) kept new
    ∙ ap (λ b. b && reference_holds child parent f parents new) h

-- a part of rows that are met
pub child_kept : (child parent : TableDef) (f : Reference) (parents : List Row) (p : Stamped → Bool)
    (rows : List Stamped) → reference_holds child parent f parents (shown_rows child rows) ≡ true
    → reference_holds child parent f parents (shown_rows child (filter p rows)) ≡ true
child_kept child parent f parents p rows h =
    all_map (is_met child parent f parents) (shown child) (filter p rows)
    ∙ all_kept (λ r. is_met child parent f parents (shown child r)) p rows
    (sym (all_map (is_met child parent f parents) (shown child) rows) ∙ h)

-- ---- the parent table

-- a disjunction with a test that is the same for all elements
all_or : {A : Type 0} (t : A → Bool) (b : Bool) (xs : List A)
    → list_all (λ x. not (t x) || b) xs ≡ not (list_any t xs) || b
all_or t b [] = refl
all_or t b (x ∷ xs) = ap (λ c. (not (t x) || b) && c) (all_or t b xs) ∙ joined (t x) (list_any t xs) b
  where
    joined : (a c d : Bool) → (not a || d) && (not c || d) ≡ not (a || c) || d
    joined true true true = refl
    joined true true false = refl
    joined true false true = refl
    joined true false false = refl
    joined false true true = refl
    joined false true false = refl
    joined false false true = refl
    joined false false false = refl

-- two tests that agree if a third passes, which passes for all
pub all_agree : {A : Type 0} (p q r : A → Bool) (xs : List A) → list_all p xs ≡ true
    → ((x : A) → p x ≡ true → q x ≡ r x) → list_all q xs ≡ list_all r xs
all_agree p q r [] e h = refl
all_agree p q r (x ∷ xs) e h =
    let b = both (p x) (list_all p xs) e in
    ap (λ c. c && list_all q xs) (h x b.0) ∙ ap (λ c. r x && c) (all_agree p q r xs b.1 h)

-- the mapped elements of a kind, if no removed one is of it
left_out : {A B : Type 0} (s : A → B) (h : B → Bool) (b c : Bool) (x : A) (ys zs : List A) → h (s x) ≡ c
    → (b ≡ true → c ≡ false) → filter h (map s ys) ≡ filter h (map s zs)
    → filter h (s x ∷ map s ys) ≡ filter h (map s (cond (not b) (x ∷ zs) zs))
left_out s h true true x ys zs e n q = absurd (let w = n refl in cc)
left_out s h true false x ys zs e n q = ap (λ a. cond a (s x ∷ filter h (map s ys)) (filter h (map s ys))) e ∙ q
left_out s h false c x ys zs e n q = ap (λ (rs : List _). cond (h (s x)) (s x ∷ rs) rs) q

pub none_goes : {A B : Type 0} (s : A → B) (h : B → Bool) (gone : A → Bool) (xs : List A)
    → list_any (λ x. h (s x)) (filter gone xs) ≡ false
    → filter h (map s xs) ≡ filter h (map s (filter (λ x. not (gone x)) xs))
none_goes s h gone [] e = refl
none_goes s h gone (x ∷ xs) e =
    let r = parted (gone x) x (filter gone xs) e in
    left_out s h (gone x) (h (s x)) x xs (filter (λ y. not (gone y)) xs) refl r.0
    (none_goes s h gone xs r.1)
  where
    parted : (b : Bool) (y : _) (ys : List _) → list_any (λ z. h (s z)) (cond b (y ∷ ys) ys) ≡ false
        → (b ≡ true → h (s y) ≡ false) × (list_any (λ z. h (s z)) ys ≡ false)
    parted true y ys q = let n = neither (h (s y)) (list_any (λ z. h (s z)) ys) q in ((λ w. n.0), n.1)
      where
        neither : (a c : Bool) → a || c ≡ false → (a ≡ false) × (c ≡ false)
        neither false c w = (refl, w)
        neither true c w = absurd (cc)
    parted false y ys q = ((λ w. absurd (cc)), q)

-- a child row that was met is still met by the unchanged parents and others, if it loses no parent: no removed row has
-- its tuple and, by period, shares a point with it
still_met : ReferenceTestIsRight → (child parent : TableDef) (f : Reference) (gone : Stamped → Bool)
    (old : List Stamped) (new : List Row) (c : Row)
    → list_any (λ g. is_child_of child parent f (shown parent g) c) (filter gone old) ≡ false
    → is_met child parent f (shown_rows parent old) c ≡ true
    → is_met child parent f (shown_rows parent (filter (λ r. not (gone r)) old) ++ new) c ≡ true
still_met law child parent f gone old new c n e = by_bool (has_null f.columns c)
    (λ z. ap (λ b. b || is_met_by child parent f.by_period (parents_of f after c) c) z)
    (λ z. ap (λ b. b || is_met_by child parent f.by_period (parents_of f after c) c) z ∙ met z)
  where
    after : List Row
    after = shown_rows parent (filter (λ r. not (gone r)) old) ++ new

    kept : List Row
    kept = shown_rows parent (filter (λ r. not (gone r)) old)

    of_child : Row → Bool
    of_child s = match_on f.columns c f.parent_columns s

    near : Row → Bool
    near s = of_child s && is_touched parent f.by_period (period_of child c) s

    none_near : list_any (λ g. near (shown parent g)) (filter gone old) ≡ false
    none_near =
        ap (λ (p : Stamped → Bool). list_any p (filter gone old))
        (λ i g.
        (ap (λ b. b && is_touched parent f.by_period (period_of child c) (shown parent g))
        (match_tuple f.columns c f.parent_columns (shown parent g))
        ∙ ap (λ b. has_tuple f.columns (tuple f.parent_columns (shown parent g)) c && b)
        (sym (touched_turned child parent f.by_period c (shown parent g)))) i)
        ∙ n

    before : has_null f.columns c ≡ false
        → is_met_by child parent f.by_period (parents_of f (shown_rows parent old) c) c ≡ true
    before z =
        sym (ap (λ b. b || is_met_by child parent f.by_period (parents_of f (shown_rows parent old) c) c) z) ∙ e

    met : has_null f.columns c ≡ false → is_met_by child parent f.by_period (parents_of f after c) c ≡ true
    met z =
        ap (λ (ps : List Row). is_met_by child parent f.by_period ps c) (filter-append of_child kept new)
        ∙ met_by_more law child parent f.by_period (parents_of f kept c) (parents_of f new c) c
        (sym (met_near_all law child parent of_child kept c f.by_period)
        ∙ ap (λ (ps : List Row). is_met_by child parent f.by_period ps c)
        (sym (none_goes (shown parent) near gone old none_near))
        ∙ met_near_all law child parent of_child (shown_rows parent old) c f.by_period ∙ before z)

-- a reference that held holds after a change to the parent's rows exactly if the child rows that lose a parent are met;
-- these have the tuple of a removed row and, with PERIOD, share a point with its period
pub parent_changed : ReferenceTestIsRight → (child parent : TableDef) (f : Reference) (gone : Stamped → Bool)
    (old : List Stamped) (new children : List Row)
    → reference_holds child parent f (shown_rows parent old) children ≡ true
    → reference_holds child parent f (shown_rows parent (filter (λ r. not (gone r)) old) ++ new) children
    ≡ list_all (λ g. is_spared child parent f (shown_rows parent (filter (λ r. not (gone r)) old) ++ new) children
    (shown parent g)) (filter gone old)
parent_changed law child parent f gone old new children h =
    sym (all_agree (is_met child parent f (shown_rows parent old)) (λ c. not (any_gone c) || met c) met children h
    (λ c e. by_bool (any_gone c)
    (λ a. ap (λ b. not b || met c) a)
    (λ n. ap (λ b. not b || met c) n ∙ sym (still_met law child parent f gone old new c n e))))
    ∙ all_same (λ c. not (any_gone c) || met c)
    (λ c. list_all (λ g. not (is_child_of child parent f (shown parent g) c) || met c) (filter gone old))
    children
    (λ c. sym (all_or (λ g. is_child_of child parent f (shown parent g) c) (met c) (filter gone old)))
    ∙ all_swap (λ c g. not (is_child_of child parent f (shown parent g) c) || met c) children (filter gone old)
    ∙ all_same
    (λ g. list_all (λ c. not (is_child_of child parent f (shown parent g) c) || met c) children)
    (λ g. is_spared child parent f after children (shown parent g)) (filter gone old)
    (λ g. sym (all_where (is_child_of child parent f (shown parent g)) met children))
  where
    after : List Row
    after = shown_rows parent (filter (λ r. not (gone r)) old) ++ new

    met : Row → Bool
    met c = is_met child parent f after c

    any_gone : Row → Bool
    any_gone c = list_any (λ g. is_child_of child parent f (shown parent g) c) (filter gone old)
