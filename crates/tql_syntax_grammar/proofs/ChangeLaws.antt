-- INSERT, UPDATE and DELETE: the reading rules are sound and complete.
use Rattle.std.specs.Prelude.{◌≡◌, refl, List, [], ◌∷◌, codes, Option, Some, None}
use Rattle.std.proofs.Common.{sym, subst, inl, inr}
use Rattle.tql_spec.specs.Definition.{Name}
use Rattle.tql_spec.specs.Token.{Token, Word, Sign, Open, Close, Comma}
use Rattle.tql_spec.specs.Syntax.{Condition, SelectTree, CellTree, NullCell, ValueCell, Tuple, PointTree, PortionTree}
use Rattle.tql_spec.specs.Syntax.{SetTree, Statement, InsertValues, InsertSelect, UpdateTree, DeleteTree}
use Rattle.tql_spec.specs.Grammar.{key, ◌⨟◌, optional, commas, name, where_clause, cell, tuple, portion, assignment}
use Rattle.tql_spec.specs.Grammar.{column_list, statement}
use Rattle.tql_syntax_grammar.specs.Outcome.{Read, name_at}
use Rattle.tql_syntax_grammar.specs.ReadingExpressions.{expr_here}
use Rattle.tql_syntax_grammar.specs.ReadingStatements.{cell_at, tuple_at, portion_behind, portion_at, assignment_at}
use Rattle.tql_syntax_grammar.specs.ReadingStatements.{update_at, delete_at, column_list_at, values_at, insert_at}
use Rattle.tql_syntax_grammar.proofs.Ends.{EndsExpr, EndsCondition}
use Rattle.tql_syntax_grammar.proofs.ExpressionLaws.{expr_sound, expr_complete}
use Rattle.tql_syntax_grammar.proofs.Lengths.{takes_cell, takes_tuple, takes_assignment, shortens}
use Rattle.tql_syntax_grammar.proofs.WordLaws.{period_name_sound, period_name_complete, point_sound, point_complete}
use Rattle.tql_syntax_grammar.proofs.Fronts.{expr_front}
use Rattle.tql_syntax_grammar.proofs.QueryLaws.{where_sound, where_complete, select_sound, select_complete, select_ends}
use Rattle.tql_syntax_grammar.proofs.Steps.{Sound, Complete, CompleteBefore, Stops, Always, EndsList, and_then, into_is}
use Rattle.tql_syntax_grammar.proofs.Steps.{spelled, into_sound, eat_false, expected, expected_of, name_is, name_of}
use Rattle.tql_syntax_grammar.proofs.Steps.{name_shortens, front_is, option_is, more_next_is, more_next_of}
use Rattle.tql_syntax_grammar.proofs.Steps.{commas_front}
use Rattle.tql_syntax_grammar.proofs.Steps.{separated_is, separated_of}

-- ---- cells and tuples

cell_sound : Sound cell cell_at
unfolding cell_at
cell_sound ts c rest e =
    elim (front_is (Word (codes "NULL")) ts e) [
      | inl a ↦ spelled cell a.1 a.0
      | inr a ↦ into_sound cell ValueCell expr_here expr_sound ts c rest (rw a.0 at a.1)
    ]

cell_complete : CompleteBefore EndsExpr cell cell_at
unfolding cell_at
cell_complete ts NullCell rest s ends = rw s refl
cell_complete ts (ValueCell e) rest s ends =
    let front = expr_front e ts rest s in
    rw (front.null, eat_false (Word (codes "NULL")) ts front.null, expr_complete ts e rest s ends) refl

-- an expression ends before a comma
expr_ends_comma : (ts : List Token) → EndsExpr (Sign Comma ∷ ts)
expr_ends_comma ts = record { dot = refl; star = refl; plus = refl; minus = refl }

tuple_sound : Sound tuple tuple_at
unfolding tuple_at
tuple_sound ts t rest e =
    let a = expected _ e in
    let first = and_then a.2 in
    let others = and_then first.3 in
    let close = expected _ others.3 in
    let cells : (commas cell first.0 others.0) a.0 others.1 =
    (first.1, cell_sound _ _ _ first.2, more_next_is cell cell_at cell_sound _ _ _ others.2) in
    spelled tuple {x = record { first = first.0; more = others.0 }} close.2 (others.1, (a.0, a.1, cells), close.1)

-- cells end before `)`
cells_end : (ts us : List Token) → ts ≡ Sign Close ∷ us → EndsList EndsExpr ts
cells_end ts us e =
    record {
      item = record { dot = rw e refl; star = rw e refl; plus = rw e refl; minus = rw e refl };
      comma = rw e refl;
    }

tuple_complete : Complete tuple tuple_at
unfolding tuple_at
tuple_complete ts t rest s =
    let list = s.1.2 in
    let ends = cells_end s.0 rest s.2 in
    let others = more_next_of cell cell_at EndsExpr expr_ends_comma cell_complete (shortens cell takes_cell) list.0
    t.more s.0 list.2 ends in
    let behind_first = commas_front cell cell_at EndsExpr expr_ends_comma t.more list.0 s.0 list.2 ends.item in
    rw (expected_of s.1.1, cell_complete s.1.0 t.first list.0 list.1 behind_first, others, expected_of s.2) refl

-- ---- portions

portion_behind_sound : (ts us : List Token) (p : PortionTree) (rest : List Token) → ts ≡ Word (codes "FOR") ∷ us
    → portion_behind us ≡ Read p rest → portion p ts rest
unfolding portion_behind
portion_behind_sound ts us p rest word e =
    let a = expected _ e in
    let of = expected _ a.2 in
    let n = and_then of.2 in
    let from = expected _ n.3 in
    let start = and_then from.2 in
    let to = expected _ start.3 in
    let end = into_is (λ (q : PointTree). let made : PortionTree = record {
      period = n.0;
      from = start.0;
      to = q;
    } in made) _ p rest to.2 in
    let words : (key (codes "FOR") ⨟ key (codes "PORTION") ⨟ key (codes "OF")) ts of.0 = (a.0, (us, word, a.1), of.1) in
    subst (λ (x : PortionTree). portion x ts rest) end.2 (
      to.0,
      (start.1, (from.0, (n.1, (of.0, words, period_name_sound _ _ _ n.2), from.1), point_sound _ _ _ start.2), to.1),
      point_sound _ _ _ end.1,
    )

portion_behind_complete : (p : PortionTree) (ts rest : List Token) (s : portion p ts rest)
    → portion_behind s.1.1.1.1.1.1.0 ≡ Read p rest
unfolding portion_behind
portion_behind_complete p ts rest s =
    let start = s.1.1 in
    let from = start.1 in
    let period = from.1 in
    rw (
      expected_of period.1.1.2,
      expected_of period.1.2,
      period_name_complete period.0 p.period from.0 period.2,
      expected_of from.2,
      point_complete start.0 p.from s.1.0 start.2,
      expected_of s.1.2,
      point_complete s.0 p.to rest s.2,
    ) refl

portion_sound : Sound (optional portion) portion_at
unfolding portion_at
portion_sound ts p rest e =
    elim (option_is (Word (codes "FOR")) portion_behind ts e) [
      | inl a ↦ subst (λ (x : Option PortionTree). optional portion x ts rest) (sym a.4)
          (portion_behind_sound ts a.1 a.0 rest a.2 a.3)
      | inr a ↦ subst (λ (x : Option PortionTree). optional portion x ts rest) (sym a.0) a.1
    ]

portion_complete : CompleteBefore (Stops (Word (codes "FOR"))) (optional portion) portion_at
unfolding portion_at
portion_complete ts None rest s stops = rw (s, stops, eat_false (Word (codes "FOR")) rest stops) refl
portion_complete ts (Some p) rest s stops =
    rw (s.1.1.1.1.1.1.1, portion_behind_complete p ts rest s) refl

-- ---- UPDATE and DELETE

assignment_sound : Sound assignment assignment_at
unfolding assignment_at
assignment_sound ts a rest e =
    let n = and_then e in
    let equal = expected _ n.3 in
    let c = into_is (λ (x : CellTree). let made : SetTree = record {
      column = n.0;
      value = x;
    } in made) _ a rest equal.2 in
    subst (λ (x : SetTree). assignment x ts rest) c.2 (equal.0, (n.1, name_is _ _ _ n.2, equal.1), cell_sound _ _ _ c.1)

assignment_complete : CompleteBefore EndsExpr assignment assignment_at
unfolding assignment_at
assignment_complete ts a rest s ends =
    rw (name_of ts a.column s.1.0 s.1.1, expected_of s.1.2, cell_complete s.0 a.value rest s.2 ends) refl

pub update_sound : (ts us : List Token) (s : Statement) (rest : List Token) → ts ≡ Word (codes "UPDATE") ∷ us
    → update_at us ≡ Read s rest → statement s ts rest
unfolding update_at
update_sound ts us s rest word e =
    let n = and_then e in
    let p = and_then n.3 in
    let set = expected _ p.3 in
    let first = and_then set.2 in
    let others = and_then first.3 in
    let w = into_is (UpdateTree n.0 p.0 first.0 others.0) _ s rest others.3 in
    let changes : (commas assignment first.0 others.0) set.0 others.1 =
    (first.1, assignment_sound _ _ _ first.2, more_next_is assignment assignment_at assignment_sound _ _ _ others.2) in
    let head : (key (codes "UPDATE") ⨟ name n.0 ⨟ optional portion p.0 ⨟ key (codes "SET")) ts set.0 =
    (p.1, (n.1, (us, word, name_is _ _ _ n.2), portion_sound _ _ _ p.2), set.1) in
    subst (λ (x : Statement). statement x ts rest) w.2 (others.1, (set.0, head, changes), where_sound _ _ _ w.1)

-- a condition ends where no token is left
condition_ends : EndsCondition []
condition_ends = record { expr = record { dot = refl; star = refl; plus = refl; minus = refl }; also = refl; or = refl }

-- assignments end before a last [WHERE ..]
changes_end : (ts : List Token) (c : Option Condition) → where_clause c ts [] → EndsList EndsExpr ts
changes_end ts None s =
    record {
      item = record { dot = rw s refl; star = rw s refl; plus = rw s refl; minus = rw s refl };
      comma = rw s refl;
    }
changes_end ts (Some c) s =
    let w = s.1 in
    record {
      item = record { dot = rw w refl; star = rw w refl; plus = rw w refl; minus = rw w refl };
      comma = rw w refl;
    }

pub update_complete : (n : Name) (p : Option PortionTree) (a : SetTree) (others : List SetTree)
    (c : Option Condition) (ts : List Token) (s : statement (UpdateTree n p a others c) ts [])
    → update_at s.1.1.1.1.0 ≡ Read (UpdateTree n p a others c) []
unfolding update_at
update_complete n p a others c ts s =
    let changes = s.1.2 in
    let set = s.1.1 in
    let for = set.1 in
    let ends = changes_end s.0 c s.2 in
    let more = more_next_of assignment assignment_at EndsExpr expr_ends_comma assignment_complete
    (shortens assignment takes_assignment) changes.0 others s.0 changes.2 ends in
    let behind_first = commas_front assignment assignment_at EndsExpr expr_ends_comma others changes.0 s.0 changes.2
    ends.item in
    rw (
      name_of for.1.0 n for.0 for.1.2,
      portion_complete for.0 p set.0 for.2 (rw set.2 refl),
      expected_of set.2,
      assignment_complete s.1.0 a changes.0 changes.1 behind_first,
      more,
      where_complete s.0 c [] s.2 condition_ends refl,
    ) refl

pub delete_sound : (ts us : List Token) (s : Statement) (rest : List Token) → ts ≡ Word (codes "DELETE") ∷ us
    → delete_at us ≡ Read s rest → statement s ts rest
unfolding delete_at
delete_sound ts us s rest word e =
    let from = expected _ e in
    let n = and_then from.2 in
    let p = and_then n.3 in
    let w = into_is (DeleteTree n.0 p.0) _ s rest p.3 in
    subst (λ (x : Statement). statement x ts rest) w.2
    (p.1, (n.1, (from.0, (us, word, from.1), name_is _ _ _ n.2), portion_sound _ _ _ p.2), where_sound _ _ _ w.1)

-- FOR is not in front of a last [WHERE ..]
where_no_for : (ts : List Token) (c : Option Condition) → where_clause c ts [] → Stops (Word (codes "FOR")) ts
where_no_for ts None s = rw s refl
where_no_for ts (Some c) s = rw s.1 refl

pub delete_complete : (n : Name) (p : Option PortionTree) (c : Option Condition) (ts : List Token)
    (s : statement (DeleteTree n p c) ts []) → delete_at s.1.1.1.0 ≡ Read (DeleteTree n p c) []
unfolding delete_at
delete_complete n p c ts s =
    let named = s.1.1 in
    rw (
      expected_of named.1.2,
      name_of named.0 n s.1.0 named.2,
      portion_complete s.1.0 p s.0 s.1.2 (where_no_for s.0 c s.2),
      where_complete s.0 c [] s.2 condition_ends refl,
    ) refl

-- ---- INSERT

column_list_sound : Sound column_list column_list_at
unfolding column_list_at
column_list_sound ts cs rest e =
    elim (front_is (Sign Open) ts e) [
      | inl a ↦
          let names = and_then a.1 in
          let close = expected _ names.3 in
          let took = separated_is name name_at name_is _ names.0 names.1 names.2 in
          spelled column_list close.2
          (subst (λ (x : List Name). column_list x ts close.0) (sym took.is) (names.1, (_, a.0, took.spelled), close.1))
      | inr a ↦ spelled column_list (rw a.0 at a.1) refl
    ]

column_list_complete : CompleteBefore (Stops (Sign Open)) column_list column_list_at
unfolding column_list_at
column_list_complete ts [] rest s stops = rw (s, stops, eat_false (Sign Open) rest stops) refl
column_list_complete ts (c ∷ cs) rest s stops =
    let always : (us : List Token) → Always (Sign Comma ∷ us) = λ us. tt in
    let names = separated_of name name_at Always always (λ us n vs p known. name_of us n vs p) name_shortens c cs
    s.1.0 s.0 s.1.2 (record { item = tt; comma = rw s.2 refl }) in
    rw (s.1.1, names, expected_of s.2) refl

pub insert_sound : (ts us : List Token) (s : Statement) (rest : List Token) → ts ≡ Word (codes "INSERT") ∷ us
    → insert_at us ≡ Read s rest → statement s ts rest
unfolding insert_at values_at
insert_sound ts us s rest word e =
    let into_word = expected _ e in
    let n = and_then into_word.2 in
    let cs = and_then n.3 in
    let head : (key (codes "INSERT") ⨟ key (codes "INTO") ⨟ name n.0 ⨟ column_list cs.0) ts cs.1 =
    (n.1, (into_word.0, (us, word, into_word.1), name_is _ _ _ n.2), column_list_sound _ _ _ cs.2) in
    elim (front_is (Word (codes "VALUES")) cs.1 cs.3) [
      | inl a ↦
          let first = and_then a.1 in
          let others = into_is (InsertValues n.0 cs.0 first.0) _ s rest first.3 in
          subst (λ (x : Statement). statement x ts rest) others.2 (
            _,
            (cs.1, head, a.0),
            (first.1, tuple_sound _ _ _ first.2, more_next_is tuple tuple_at tuple_sound _ _ _ others.1),
          )
      | inr a ↦
          let select_word = expected _ (rw a.0 at a.1) in
          let q = into_is (InsertSelect n.0 cs.0) _ s rest select_word.2 in
          subst (λ (x : Statement). statement x ts rest) q.2
          (cs.1, head, select_sound cs.1 select_word.0 q.0 rest select_word.1 q.1)
    ]

pub values_complete : (n : Name) (cs : List Name) (t : Tuple) (others : List Tuple) (ts : List Token)
    (s : statement (InsertValues n cs t others) ts []) → insert_at s.1.1.1.1.0 ≡ Read (InsertValues n cs t others) []
unfolding insert_at values_at
values_complete n cs t others ts s =
    let values = s.1 in
    let columns = values.1 in
    let named = columns.1 in
    let always : (us : List Token) → Always (Sign Comma ∷ us) = λ us. tt in
    let more = more_next_of tuple tuple_at Always always (λ us x vs p known. tuple_complete us x vs p)
    (shortens tuple takes_tuple) s.2.0 others [] s.2.2 (record { item = tt; comma = refl }) in
    rw (
      expected_of named.1.2,
      name_of named.0 n columns.0 named.2,
      column_list_complete columns.0 cs values.0 columns.2 (rw values.2 refl),
      values.2,
      tuple_complete s.0 t s.2.0 s.2.1,
      more,
    ) refl

pub insert_select_complete : (n : Name) (cs : List Name) (q : SelectTree) (ts : List Token)
    (s : statement (InsertSelect n cs q) ts []) → insert_at s.1.1.1.0 ≡ Read (InsertSelect n cs q) []
unfolding insert_at
insert_select_complete n cs q ts s =
    let columns = s.1 in
    let named = columns.1 in
    let word = s.2.1.1.1.1.1.1.1 in
    let other : Stops (Word (codes "VALUES")) s.0 = rw word refl in
    rw (
      expected_of named.1.2,
      name_of named.0 n columns.0 named.2,
      column_list_complete columns.0 cs s.0 columns.2 (rw word refl),
      other,
      eat_false (Word (codes "VALUES")) s.0 other,
      expected_of word,
      select_complete q s.0 [] s.2 select_ends,
    ) refl
