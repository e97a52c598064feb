-- CREATE and DROP: the reading rules are sound and complete.
use Rattle.std.specs.Prelude.{◌≡◌, refl, Bool, true, false, List, ◌∷◌, codes}
use Rattle.std.proofs.Common.{sym, ◌∙◌, subst, inl, inr}
use Rattle.tql_spec.specs.Definition.{Name}
use Rattle.tql_spec.specs.Token.{Token, Word, Sign, Close, Comma}
use Rattle.tql_spec.specs.Syntax.{Constraint, KeyTree, ForeignTree, CheckTree, Element, ColumnElement, PeriodElement}
use Rattle.tql_spec.specs.Syntax.{ConstraintElement, Statement, CreateTree, DropTree}
use Rattle.tql_spec.specs.Grammar.{Phrase, key, ◌⨟◌, when, commas, name, constraint, element, statement}
use Rattle.tql_syntax_grammar.specs.Outcome.{Read}
use Rattle.tql_syntax_grammar.specs.ReadingStatements.{constraint_at, named_constraint_at, begins_constraint}
use Rattle.tql_syntax_grammar.specs.ReadingStatements.{constraint_or_column_at, element_at, versioning_at, create_at}
use Rattle.tql_syntax_grammar.specs.ReadingStatements.{drop_at}
use Rattle.tql_syntax_grammar.proofs.Lengths.{takes_element, shortens}
use Rattle.tql_syntax_grammar.proofs.WordLaws.{noise_spelled, noise_eaten}
use Rattle.tql_syntax_grammar.proofs.ColumnLaws.{EndsColumn, column_sound, column_complete, period_sound}
use Rattle.tql_syntax_grammar.proofs.ColumnLaws.{period_complete}
use Rattle.tql_syntax_grammar.proofs.ConstraintLaws.{constraint_sound, constraint_complete}
use Rattle.tql_syntax_grammar.proofs.Steps.{more_next_is, more_next_of, commas_front, Sound, CompleteBefore, Stops}
use Rattle.tql_syntax_grammar.proofs.Steps.{and_then}
use Rattle.tql_syntax_grammar.proofs.Steps.{into_is, choose, spelled, into_sound, eat_false, begins_eat, expected}
use Rattle.tql_syntax_grammar.proofs.Steps.{expected_is, expected_of, name_is, name_of, name_no_word, front_is}

-- ---- elements

named_constraint_sound : (ts us : List Token) (c : Constraint) (rest : List Token)
    → ts ≡ Word (codes "CONSTRAINT") ∷ us → named_constraint_at us ≡ Read c rest → element (ConstraintElement c) ts rest
unfolding named_constraint_at
named_constraint_sound ts us c rest word e =
    let n = and_then e in
    (n.1, inr (us, word, (n.0, name_is _ _ _ n.2)), constraint_sound _ _ _ n.3)

bare_constraint_sound : Sound (λ c. element (ConstraintElement c)) constraint_at
bare_constraint_sound ts c rest e = (ts, inl refl, constraint_sound ts c rest e)

pub element_sound : Sound element element_at
unfolding element_at
element_sound ts x rest e =
    elim (front_is (Word (codes "PERIOD")) ts e) [
      | inl a ↦ period_sound ts _ x rest a.0 a.1
      | inr a ↦
          elim (front_is (Word (codes "CONSTRAINT")) ts (rw a.0 at a.1)) [
            | inl b ↦
                let c = into_is ConstraintElement (named_constraint_at _) x rest b.1 in
                subst (λ (y : Element). element y ts rest) c.2 (named_constraint_sound ts _ c.0 rest b.0 c.1)
            | inr b ↦
                let f : constraint_or_column_at ts ≡ Read x rest = rw b.0 at b.1 in
                elim (choose (begins_constraint ts) _ _ x rest f) [
                  | inl c ↦ into_sound element ConstraintElement constraint_at bare_constraint_sound ts x rest c.1
                  | inr c ↦ column_sound ts x rest c.1
                ]
          ]
    ]

-- the condition on the tokens after an element
pub record EndsElement (rest : List Token) : Type 0 where
  pub column : EndsColumn rest
  pub on : Stops (Word (codes "ON")) rest

element_ends_comma : (ts : List Token) → EndsElement (Sign Comma ∷ ts)
element_ends_comma ts =
    record {
      column = record { type_name = record { opened = refl; without = refl }; not = refl; generated = refl };
      on = refl;
    }

element_ends_close : (ts : List Token) → EndsElement (Sign Close ∷ ts)
element_ends_close ts =
    record {
      column = record { type_name = record { opened = refl; without = refl }; not = refl; generated = refl };
      on = refl;
    }

-- facts about the first token of a constraint
record BeginsConstraint (ts : List Token) : Type 0 where
  period : Stops (Word (codes "PERIOD")) ts
  constraint : Stops (Word (codes "CONSTRAINT")) ts
  begins : begins_constraint ts ≡ true

constraint_front : (c : Constraint) (ts rest : List Token) → constraint c ts rest → BeginsConstraint ts
constraint_front (KeyTree true c cs p) ts rest s = let w = s.1.1 in record {
  period = rw w refl;
  constraint = rw w refl;
  begins = rw w refl;
}
constraint_front (KeyTree false c cs p) ts rest s = let w = s.1 in record {
  period = rw w refl;
  constraint = rw w refl;
  begins = rw w refl;
}
constraint_front (ForeignTree child t parent) ts rest s =
    let w = s.1.1.1.1.1.1 in
    record { period = rw w refl; constraint = rw w refl; begins = rw w refl }
constraint_front (CheckTree c) ts rest s = let w = s.1 in record {
  period = rw w refl;
  constraint = rw w refl;
  begins = rw w refl;
}

-- facts about the first token of a column
record BeginsColumn (ts : List Token) : Type 0 where
  period : Stops (Word (codes "PERIOD")) ts
  constraint : Stops (Word (codes "CONSTRAINT")) ts
  begins : begins_constraint ts ≡ false

column_front : (n : Name) (ts rest : List Token) → name n ts rest → BeginsColumn ts
column_front n ts rest s =
    let primary = begins_eat (Word (codes "PRIMARY")) ts ∙ name_no_word (codes "PRIMARY") n ts rest refl s in
    let unique = begins_eat (Word (codes "UNIQUE")) ts ∙ name_no_word (codes "UNIQUE") n ts rest refl s in
    let foreign = begins_eat (Word (codes "FOREIGN")) ts ∙ name_no_word (codes "FOREIGN") n ts rest refl s in
    let check = begins_eat (Word (codes "CHECK")) ts ∙ name_no_word (codes "CHECK") n ts rest refl s in
    record {
      period = name_no_word (codes "PERIOD") n ts rest refl s;
      constraint = name_no_word (codes "CONSTRAINT") n ts rest refl s;
      begins = rw (primary, unique, foreign, check) refl;
    }

named_constraint_complete : (n : Name) (c : Constraint) (ts mid rest : List Token) → name n ts mid
    → constraint c mid rest → EndsElement rest → named_constraint_at ts ≡ Read c rest
unfolding named_constraint_at
named_constraint_complete n c ts mid rest s t ends =
    rw (name_of ts n mid s, constraint_complete mid c rest t ends.on) refl

pub element_complete : CompleteBefore EndsElement element element_at
unfolding element_at
element_complete ts (ColumnElement c) rest s ends =
    let front = column_front c.name ts s.1.0 s.1.1 in
    rw (
      front.period,
      eat_false (Word (codes "PERIOD")) ts front.period,
      front.constraint,
      eat_false (Word (codes "CONSTRAINT")) ts front.constraint,
      front.begins,
    ) (column_complete ts c rest s ends.column)
element_complete ts (PeriodElement p start end) rest s ends = rw s.1.1.1 (period_complete p start end ts rest s)
element_complete ts (ConstraintElement c) rest s ends =
    elim s.1 [
      | inl same ↦
          let bare = subst (λ (us : List Token). constraint c us rest) (sym same) s.2 in
          let front = constraint_front c ts rest bare in
          rw (
            front.period,
            eat_false (Word (codes "PERIOD")) ts front.period,
            front.constraint,
            eat_false (Word (codes "CONSTRAINT")) ts front.constraint,
            front.begins,
            constraint_complete ts c rest bare ends.on,
          ) refl
      | inr named ↦ rw (named.1, named_constraint_complete named.2.0 c named.0 s.0 rest named.2.1 s.2 ends) refl
    ]

-- ---- CREATE

-- WITH SYSTEM VERSIONING
abbrev versioning : Phrase
versioning = key (codes "WITH") ⨟ key (codes "SYSTEM") ⨟ key (codes "VERSIONING")

versioning_sound : Sound (λ v. when v versioning) versioning_at
unfolding versioning_at
versioning_sound ts v rest e =
    elim (front_is (Word (codes "WITH")) ts e) [
      | inl a ↦
          let system = expected _ a.1 in
          let last = into_is (λ (_ : Unit {0}). true) _ v rest system.2 in
          subst (λ (w : Bool). when w versioning ts rest) last.2 (system.0, (_, a.0, system.1), expected_is last.1)
      | inr a ↦ spelled (λ (w : Bool). when w versioning) (rw a.0 at a.1) refl
    ]

versioning_complete : CompleteBefore (Stops (Word (codes "WITH"))) (λ v. when v versioning) versioning_at
unfolding versioning_at
versioning_complete ts true rest s stops = rw (s.1.1, expected_of s.1.2, expected_of s.2) refl
versioning_complete ts false rest s stops = rw (s, stops, eat_false (Word (codes "WITH")) rest stops) refl

pub create_sound : (ts us : List Token) (s : Statement) (rest : List Token) → ts ≡ Word (codes "CREATE") ∷ us
    → create_at us ≡ Read s rest → statement s ts rest
unfolding create_at
create_sound ts us s rest word e =
    let table = expected _ e in
    let n = and_then table.2 in
    let opened = expected _ n.3 in
    let first = and_then opened.2 in
    let others = and_then first.3 in
    let close = expected _ others.3 in
    let v = and_then close.2 in
    let elements : (commas element first.0 others.0) opened.0 others.1 =
    (first.1, element_sound _ _ _ first.2, more_next_is element element_at element_sound _ _ _ others.2) in
    spelled statement {x = CreateTree n.0 first.0 others.0 v.0} v.3 (
      close.0,
      (n.1, (table.0, (us, word, table.1), name_is _ _ _ n.2), (others.1, (opened.0, opened.1, elements), close.1)),
      versioning_sound _ _ _ v.2,
    )

pub create_complete : (n : Name) (e : Element) (es : List Element) (v : Bool) (ts rest : List Token)
    (s : statement (CreateTree n e es v) ts rest) → Stops (Word (codes "WITH")) rest
    → create_at s.1.1.1.0 ≡ Read (CreateTree n e es v) rest
unfolding create_at
create_complete n e es v ts rest s stops =
    let head = s.1.1 in
    let parens = s.1.2 in
    let close : parens.0 ≡ Sign Close ∷ s.0 = parens.2 in
    let list = parens.1.2 in
    let ends : EndsElement parens.0 = subst EndsElement (sym close) (element_ends_close s.0) in
    let others =
    more_next_of element element_at EndsElement element_ends_comma element_complete (shortens element takes_element)
    list.0 es parens.0 list.2
    (record { item = ends; comma = rw close refl }) in
    rw (
      expected_of head.1.2,
      name_of head.0 n s.1.0 head.2,
      expected_of parens.1.1,
      element_complete parens.1.0 e list.0 list.1
          (commas_front element element_at EndsElement element_ends_comma es list.0 parens.0 list.2 ends),
      others,
      expected_of close,
      versioning_complete s.0 v rest s.2 stops,
    ) refl

-- ---- DROP

pub drop_sound : (ts us : List Token) (s : Statement) (rest : List Token) → ts ≡ Word (codes "DROP") ∷ us
    → drop_at us ≡ Read s rest → statement s ts rest
unfolding drop_at
drop_sound ts us s rest word e =
    let table = expected _ e in
    let n = and_then table.2 in
    spelled statement {x = DropTree n.0} n.3
    (n.1, (table.0, (us, word, table.1), name_is _ _ _ n.2), noise_spelled (codes "RESTRICT") n.1)

pub drop_complete : (n : Name) (ts rest : List Token) (s : statement (DropTree n) ts rest)
    → Stops (Word (codes "RESTRICT")) rest → drop_at s.1.1.0 ≡ Read (DropTree n) rest
unfolding drop_at
drop_complete n ts rest s stops =
    rw (expected_of s.1.1.2, name_of s.1.0 n s.0 s.1.2, noise_eaten (codes "RESTRICT") s.0 rest s.2 stops) refl
