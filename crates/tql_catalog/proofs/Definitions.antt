-- The rules that each definition follows.
use Rattle.std.specs.Prelude.{refl, Bool, true, false, not, ◌&&◌, ◌++◌, ◌==◌, nat_lt, IsTrue, List, map, length}
use Rattle.std.specs.Prelude.{Option, Some, None, slice_index_or}
use Rattle.std.proofs.Common.{subst}
use Rattle.std.proofs.lemmas.List.{length-map}
use Rattle.tql_spec.specs.Datum.{Kind, Ints, Moments, same_kind}
use Rattle.tql_spec.specs.Definition.{Name, Column, System, Application, TableDef}
use Rattle.tql_spec.specs.Creation.{kinds_of, repeats, application_name}
use Rattle.tql_catalog.specs.Defined.{IsDefinition, table_of_parts, is_definable, is_system_period}
use Rattle.tql_catalog.specs.Defined.{is_application_period}
use Rattle.tql_catalog.specs.Rows.{has_system}
use Rattle.std.specs.List.{list_all}
use Rattle.tql_spec.specs.Definition.{Key, Reference}
use Rattle.tql_spec.specs.Expression.{Cond}
use Rattle.tql_catalog.specs.Defined.{is_key, is_reference, is_check, are_constraints, with_constraints}

and_left : (a b : Bool) → IsTrue (a && b) → IsTrue a
and_left true b h = refl
and_left false b h = h

and_right : (a b : Bool) → IsTrue (a && b) → IsTrue b
and_right true b h = h
and_right false b h = absurd (cc)

-- columns and periods that a table may have make a definition
pub right : (n : Name) (cs : List Column) (s : Option System) (a : Option Application) → IsTrue (is_definable cs s a)
    → IsDefinition (table_of_parts n cs s a)
right n cs s a h =
    let names : Bool = not (repeats (map (λ (c : Column). c.name) cs ++ application_name a)) in
    let system : Bool = is_system_period (map (λ (c : Column). c.kind) cs) s in
    let application : Bool = is_application_period cs s a in
    record {
      columns = and_left names system (and_left (names && system) application h);
      system = and_right names system (and_left (names && system) application h);
      application = and_right (names && system) application h;
      keys = refl;
      references = refl;
      checks = refl;
    }

-- a definition stays one with constraints that the table may have
pub constrained : (d : TableDef) (ks : List Key) (fs : List Reference) (cs : List Cond) → IsDefinition d
    → IsTrue (are_constraints d ks fs cs) → IsDefinition (with_constraints d ks fs cs)
constrained d ks fs cs r h =
    let keys : Bool = list_all (is_key d) ks in
    let references : Bool = list_all (is_reference d) fs in
    let checks : Bool = list_all (is_check d) cs in
    record {
      columns = r.columns;
      system = r.system;
      application = r.application;
      keys = and_left keys references (and_left (keys && references) checks h);
      references = and_right keys references (and_left (keys && references) checks h);
      checks = and_right (keys && references) checks h;
    }

within : (kinds : List Kind) (s : Option System) → IsTrue (is_system_period kinds s)
    → IsTrue (has_system s (length kinds))
within kinds None h = refl
within kinds (Some s) h =
    three (nat_lt s.start (length kinds)) (same_kind (slice_index_or kinds s.start Ints) Moments)
    (nat_lt s.end (length kinds)) (same_kind (slice_index_or kinds s.end Ints) Moments) (not (s.start == s.end)) h
  where
    three : (a b c d e : Bool) → IsTrue ((a && b) && (c && d) && e) → IsTrue (a && c && e)
    three true true true true e h = h
    three true true true false e h = absurd (cc)
    three true true false d e h = absurd (cc)
    three true false c d e h = absurd (cc)
    three false b c d e h = absurd (cc)

-- the generated columns of a table are two of its columns
pub has_its_system : (d : TableDef) → IsDefinition d → IsTrue (has_system d.system (length d.columns))
has_its_system d r = subst (λ n. IsTrue (has_system d.system n)) (length-map d.columns (λ (c : Column). c.kind))
    (within (kinds_of d) d.system r.system)
