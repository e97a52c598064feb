-- What becomes of an affected row.
use Rattle.std.specs.Prelude.{List, [], map}
use Rattle.tql_spec.specs.Change as change
use Rattle.tql_expr.specs.Meaning.{expr}
use Rattle.tql_expr.specs.declared.terms.Terms.{Terms}
use Rattle.tql_bound.specs.declared.change.Assignment.{Assignment}
use Rattle.tql_bound.specs.declared.change.Work.{Work}
use Rattle.tql_bound.specs.declared.change.Work.TheVariants.{Set, Remove}

-- an assignment of SET
abbrev pub assignment_of : Terms → Assignment → change.Assignment
assignment_of t a = record { column = a.column; value = expr t a.value }

-- what becomes of an affected row
abbrev pub work_of : Terms → Work → change.Work
work_of t (Set sets) = change.Work.Set (map (assignment_of t) sets.items)
work_of t Remove = change.Work.Remove

-- the assignments of SET; DELETE has none
abbrev pub sets_of : Work → List Assignment
sets_of (Set sets) = sets.items
sets_of Remove = []
