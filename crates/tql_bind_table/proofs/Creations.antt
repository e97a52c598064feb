-- CREATE TABLE, from its parts.
use Rattle.std.specs.Prelude.{◌≡◌, refl, ℕ, suc, Bool, true, false, not, ◌||◌, ◌==◌, nat_le, nat_lt, List, [], ◌∷◌}
use Rattle.std.specs.Prelude.{◌++◌, map, length, Option, Some, None, is_some, if◌then◌else◌}
use Rattle.std.specs.List.{flat_map, list_any, list_all}
use Rattle.std.proofs.Common.{ap, ◌∙◌, sym, append-nil, append_assoc, subst}
use Rattle.tql_spec.specs.Refusal.{Refusal, TooManyTablesOrReaders, TableUnknownOrAlreadyThere}
use Rattle.tql_spec.specs.Refusal.{NameUnknownAmbiguousOrRepeated, TypesDoNotFit, FormNotAllowedHere, fault_if}
use Rattle.tql_spec.specs.Expression.{Cond}
use Rattle.tql_spec.specs.Definition as definition
use Rattle.tql_spec.specs.Definition.{Name, TableDef, Application, System, Key, Reference, place_of}
use Rattle.tql_spec.specs.Names.{Checked, ◌>>=◌, sound, unless, refuse_if, refuse_for, check_each, Known, condition}
use Rattle.tql_spec.specs.Syntax.{ColumnTree, Element, Constraint, KeyTree, ForeignTree, CheckTree, RefList}
use Rattle.tql_spec.specs.Syntax.{Condition}
use Rattle.tql_spec.specs.Creation.{columns_of, column_names, period_names, starts, stops, listed_columns}
use Rattle.tql_spec.specs.Creation.{application_parts, system_parts, constraints_of, application_period}
use Rattle.tql_spec.specs.Creation.{system_period, several, first_of, keys, references, reference_in, checks, column}
use Rattle.tql_spec.specs.Creation.{part_names, primary_names, primary_count, has_bad_number, repeats, create}
use Rattle.tql_spec.specs.Creation.{check_scope}
use Rattle.tql_spec.specs.Binding.{bind}
use Rattle.tql_spec.specs.Machine.{Bound, CreateTable}
use Rattle.tql_bind_expr.specs.Gathered.{Gathers}
use Rattle.tql_bind_expr.proofs.Gathering.{bound, sound_here}
use Rattle.tql_syntax_tree.specs.Expressions.{name_of}
use Rattle.tql_syntax_tree.specs.Statements.{create_of}
use Rattle.tql_syntax_tree.specs.declared.statement.CreateTree.{CreateTree}
use Rattle.tql_bind_check.specs.Checking.{check_by, check_parts, checks_in, elements_in, is_wrong_check}
use Rattle.tql_bind_table.specs.NewTables as new
use Rattle.tql_bind_draft.specs.Drafts.{Written, application_in, system_in, list_of, key_parts}
use Rattle.tql_bind_draft.specs.Drafts.{reference_parts, written_in, primary_in, primary_count_in, key_in}
use Rattle.tql_bind_draft.specs.Drafts.{is_generated_in}
use Rattle.tql_bind_table.specs.NewTables.{reference_at, flat_each, whole_in, table_by, create_in, defined_in, scope_by}

-- ---- keys, references and checks

regrouped : {A B : Type 0} (c : Checked A) (f : A → B) (rest : Checked (List B))
    → (c >>= λ x. rest >>= λ ys. sound (f x ∷ ys))
    ≡ ((c >>= λ x. sound (f x)) >>= λ y. rest >>= λ ys. sound (y ∷ ys))
regrouped {A} {B} c f rest =
    let made : List Refusal → Checked (List B)
    = λ fs. record { faults = fs ++ (rest.faults ++ []); value = f c.value ∷ rest.value } in
    ap made (sym (append-nil c.faults))

keys_are : (es : List Element) (as' : List Application) (cs : List Constraint)
    → keys es as' cs ≡ check_each (key_in (written_in es) as') (key_parts cs)
keys_are es as' [] = refl
keys_are es as' (KeyTree b n ns p ∷ cs) =
    let columns : Checked (List ℕ) = listed_columns es as' (n ∷ ns) p in
    let key : List ℕ → Key = λ is. record { columns = is; by_period = is_some p } in
    let both : Checked (List Key) → Checked (List Key)
    = λ rest. columns >>= λ is. rest >>= λ ks. sound (key is ∷ ks) in
    ap both (keys_are es as' cs) ∙ regrouped columns key (check_each (key_in (written_in es) as') (key_parts cs))
keys_are es as' (ForeignTree c n p ∷ cs) = keys_are es as' cs
keys_are es as' (CheckTree c ∷ cs) = keys_are es as' cs

reference_is : (defs : List TableDef) (es : List Element) (as' : List Application) (child : RefList) (n : Name)
    (names : RefList) (o : Option ℕ)
    → reference_in defs es as' child n names o
    ≡ reference_at defs (written_in es) as' (record { child = list_of child; parent = n; named = list_of names }) o
reference_is defs es as' child n names None = refl
reference_is defs es as' child n names (Some t) = refl

-- the references of a statement are those of its reference parts
pub references_are : (defs : List TableDef) (es : List Element) (as' : List Application) (cs : List Constraint)
    → references defs es as' cs ≡ flat_each (new.reference_in defs (written_in es) as') (reference_parts cs)
references_are defs es as' [] = refl
references_are defs es as' (ForeignTree child n names ∷ cs) =
    let both : Checked (List Reference) → Checked (List Reference) → Checked (List Reference)
    = λ one rest. one >>= λ f. rest >>= λ fs. sound (f ++ fs) in
    λ j. both (reference_is defs es as' child n names (place_of n defs) j) (references_are defs es as' cs j)
references_are defs es as' (KeyTree b n ns p ∷ cs) = references_are defs es as' cs
references_are defs es as' (CheckTree c ∷ cs) = references_are defs es as' cs

-- a check whose fault is added separately, or with its condition
checked_alone : (c : Checked Cond) (wrong : Cond → Bool) (rest : Checked (List Cond))
    → (c >>= λ b. refuse_if (wrong b) FormNotAllowedHere >>= λ u. rest >>= λ bs. sound (b ∷ bs))
    ≡ ((c >>= λ b. unless (wrong b) FormNotAllowedHere b) >>= λ b. rest >>= λ bs. sound (b ∷ bs))
checked_alone c wrong rest =
    let made : List Refusal → Checked (List Cond) = λ fs. record { faults = fs; value = c.value ∷ rest.value } in
    ap made (sym (append_assoc c.faults (fault_if (wrong c.value) FormNotAllowedHere) (rest.faults ++ [])))

-- the checks of a statement are those of its check parts
checks_are : (es : List Element) (scope : List Known) (cs : List Constraint)
    → checks es scope cs ≡ check_each (check_by (is_generated_in (columns_of es)) scope) (check_parts cs)
checks_are es scope [] = refl
checks_are es scope (CheckTree c ∷ cs) =
    let wrong : Cond → Bool = is_wrong_check (is_generated_in (columns_of es)) in
    let both : Checked (List Cond) → Checked (List Cond)
    = λ rest. condition scope c >>= λ b. refuse_if (wrong b) FormNotAllowedHere >>= λ u. rest >>= λ bs. sound
    (b ∷ bs) in
    ap both (checks_are es scope cs)
    ∙ checked_alone (condition scope c) wrong
    (check_each (check_by (is_generated_in (columns_of es)) scope) (check_parts cs))
checks_are es scope (KeyTree b n ns p ∷ cs) = checks_are es scope cs
checks_are es scope (ForeignTree c n p ∷ cs) = checks_are es scope cs

names_are : (cs : List Constraint) → primary_names cs ≡ primary_in (key_parts cs)
names_are [] = refl
names_are (KeyTree true n ns p ∷ cs) = ap (λ (ms : List Name). (n ∷ ns) ++ ms) (names_are cs)
names_are (KeyTree false n ns p ∷ cs) = names_are cs
names_are (ForeignTree c n p ∷ cs) = names_are cs
names_are (CheckTree c ∷ cs) = names_are cs

count_is : (cs : List Constraint) → primary_count cs ≡ primary_count_in (key_parts cs)
count_is [] = refl
count_is (KeyTree true n ns p ∷ cs) = ap suc (count_is cs)
count_is (KeyTree false n ns p ∷ cs) = count_is cs
count_is (ForeignTree c n p ∷ cs) = count_is cs
count_is (CheckTree c ∷ cs) = count_is cs

-- ---- the whole

-- a table from its parts
abbrev table : Name → List definition.Column → Option Application → Option System → List Key → List Reference
    → List Cond
    → TableDef
table n columns a s ks fs bs = record {
  name = n;
  columns = columns;
  system = s;
  application = a;
  keys = ks;
  references = fs;
  checks = bs;
}

-- the table, from its faults as a whole, its constraints and the names that take no null
abbrev create_by : Name → List Element → List Refusal → (List Application → Checked (List Key))
    → (List Application → Checked (List Reference)) → (List Known → Checked (List Cond)) → List Name
    → Checked TableDef
create_by n es faults ks fs bs implied = do
  u ← refuse_for faults
  as' ← check_each (application_period es) (application_parts es)
  ss ← check_each (system_period es) (system_parts es)
  k ← ks as'
  f ← fs as'
  b ← bs (check_scope as' (table n (map (column implied) (columns_of es)) (first_of as') (first_of ss) k f []))
  sound (table n (map (column implied) (columns_of es)) (first_of as') (first_of ss) k f b)

module _ (defs : List TableDef) (n : Name) (es : List Element) (versioned : Bool) where
  -- the faults of the table as a whole, with this number of primary keys
  abbrev whole : ℕ → List Refusal
  whole count =
      fault_if (is_some (place_of n defs)) TableUnknownOrAlreadyThere
      ++ fault_if (repeats (column_names es ++ period_names es)) NameUnknownAmbiguousOrRepeated
      ++ fault_if (list_any (λ (c : ColumnTree). has_bad_number c.type_name) (columns_of es)) TypesDoNotFit
      ++ fault_if (list_all (λ (c : ColumnTree). is_some c.generated) (columns_of es)) FormNotAllowedHere
      ++ fault_if (several (application_parts es) || several (system_parts es)) FormNotAllowedHere
      ++ fault_if (not (length (system_parts es) == (if versioned then 1 else 0))) FormNotAllowedHere
      ++ fault_if (not (length (starts es) == length (system_parts es)) || not
      (length (stops es) == length (system_parts es))) FormNotAllowedHere
      ++ fault_if (nat_lt 1 count) FormNotAllowedHere
      ++ fault_if (nat_le 1000 (length defs)) TooManyTablesOrReaders

  -- the definition from the parts
  by_parts : create defs n es versioned ≡ create_in defs n (written_in es) (checks_in es) versioned
  by_parts = λ j. create_by n es (whole (count_is (constraints_of es) j))
      (λ as'. keys_are es as' (constraints_of es) j)
      (λ as'. references_are defs es as' (constraints_of es) j)
      (λ scope. checks_are es scope (constraints_of es) j)
      (flat_map part_names (application_parts es) ++ names_are (constraints_of es) j)

-- ---- the draft of the statement

-- the name and all parts are those of the statement
pub record IsDraft (c : CreateTree) (n : Name) (w : Written) : Type 0 where
  pub name : n ≡ name_of c.table
  pub columns : w.columns ≡ columns_of (elements_in c)
  pub applications : w.applications ≡ application_parts (elements_in c)
  pub systems : w.systems ≡ system_parts (elements_in c)
  pub keys : w.keys ≡ key_parts (constraints_of (elements_in c))
  pub references : w.references ≡ reference_parts (constraints_of (elements_in c))

written_same : (c : CreateTree) (n : Name) (w : Written) → IsDraft c n w → w ≡ written_in (elements_in c)
written_same c n w is = λ j. record {
  columns = is.columns j;
  applications = is.applications j;
  systems = is.systems j;
  keys = is.keys j;
  references = is.references j;
}

-- the definition of the draft is that of the statement
created : (defs : List TableDef) (c : CreateTree) (n : Name) (w : Written)
    → IsDraft c n w
    → create_in defs n w (checks_in (elements_in c)) c.is_versioned
    ≡ create defs (name_of c.table) (elements_in c) c.is_versioned
created defs c n w is =
    (λ j. create_in defs (is.name j) (written_same c n w is j) (checks_in (elements_in c)) c.is_versioned)
    ∙ sym (by_parts defs (name_of c.table) (elements_in c) c.is_versioned)

-- the faults of the draft, collected part by part, are those of the definition
pub draft_gathered : (defs : List TableDef) (n : Name) (w : Written) (cs : List Condition) (v : Bool)
    (old m1 m2 m3 m4 m5 now : Option Refusal) (as' : List Application) (ss : List System) (ks : List Key)
    (fs : List Reference) (bs : List Cond)
    → Gathers (refuse_for (whole_in defs n w v)) old m1 tt
    → Gathers (check_each (application_in w.columns) w.applications) m1 m2 as'
    → Gathers (check_each (system_in w.columns) w.systems) m2 m3 ss
    → Gathers (check_each (key_in w as') w.keys) m3 m4 ks
    → Gathers (flat_each (new.reference_in defs w as') w.references) m4 m5 fs
    → Gathers
    (check_each (check_by (is_generated_in w.columns) (scope_by n (defined_in w) as' (first_of ss))) cs) m5 now bs
    → Gathers (create_in defs n w cs v) old now (table_by n (defined_in w) (first_of ss) (first_of as') ks fs bs)
draft_gathered defs n w cs v old m1 m2 m3 m4 m5 now as' ss ks fs bs whole first second third fourth fifth =
    let made : List Application → List System → List Key → List Reference → List Cond
    → TableDef = λ xs ys zs us vs. table_by n (defined_in w) (first_of ys) (first_of xs) zs us vs in
    let d = made as' ss ks fs bs in
    let tested : List Application → List System → Checked (List Cond)
    = λ xs ys. check_each (check_by (is_generated_in w.columns) (scope_by n (defined_in w) xs (first_of ys))) cs in
    let checking : List Application → List System → List Key → List Reference → Checked TableDef
    = λ xs ys zs us. tested xs ys >>= λ vs. sound (made xs ys zs us vs) in
    let referring : List Application → List System → List Key → Checked TableDef
    = λ xs ys zs. flat_each (new.reference_in defs w xs) w.references >>= λ us. checking xs ys zs us in
    let keyed : List Application → List System → Checked TableDef
    = λ xs ys. check_each (key_in w xs) w.keys >>= λ zs. referring xs ys zs in
    let periods : List Application → Checked TableDef
    = λ xs. check_each (system_in w.columns) w.systems >>= λ ys. keyed xs ys in
    let from5 : Gathers (checking as' ss ks fs) m5 now d
    = bound (tested as' ss) (λ vs. sound (made as' ss ks fs vs)) m5 now now bs d fifth (sound_here d now) in
    let from4 : Gathers (referring as' ss ks) m4 now d
    = bound (flat_each (new.reference_in defs w as') w.references) (λ us. checking as' ss ks us) m4 m5 now fs d
    fourth from5 in
    let from3 : Gathers (keyed as' ss) m3 now d
    = bound (check_each (key_in w as') w.keys) (λ zs. referring as' ss zs) m3 m4 now ks d third from4 in
    let from2 : Gathers (periods as') m2 now d
    = bound (check_each (system_in w.columns) w.systems) (λ ys. keyed as' ys) m2 m3 now ss d second from3 in
    let from1 = bound (check_each (application_in w.columns) w.applications) periods m1 m2 now as' d first from2 in
    bound (refuse_for (whole_in defs n w v))
    (λ u. check_each (application_in w.columns) w.applications >>= periods) old m1 now tt d whole from1

-- so are those of the statement
pub bind_gathered : (defs : List TableDef) (c : CreateTree) (n : Name) (w : Written) (old now : Option Refusal)
    (d : TableDef) → IsDraft c n w
    → Gathers (create_in defs n w (checks_in (elements_in c)) c.is_versioned) old now d
    → Gathers (bind defs (create_of c)) old now (CreateTable d)
bind_gathered defs c n w old now d is g =
    let made : TableDef → Checked Bound = λ t. sound (CreateTable t) in
    bound (create defs (name_of c.table) (elements_in c) c.is_versioned) made old now now d (CreateTable d)
    (subst (λ (k : Checked TableDef). Gathers k old now d) (created defs c n w is) g)
    (sound_here (CreateTable d) now)
