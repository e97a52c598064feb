use Rattle.std.proofs.Common.{◌≡◌, ℕ, zero, suc, ◌<◌, ◌≤◌, List, [], ◌∷◌, map, length, get_or, refl, sym, ap, arith}
use borrow.Author.Tests.{ltb-true, ltb-false}
use Rattle.tql_spec.specs.Datum.{Ints}
use Rattle.tql_spec.specs.Names.{kind_at}
use Rattle.tql_catalog.specs.Definitions.{column_of}
use Rattle.tql_catalog.specs.declared.definition.Column.{Column}
use Rattle.tql_value.specs.Views.{plain_kind}
use Rattle.tql_bind_expr.proofs.names.kind_at.Goals as goal

found : (columns : List Column) (i : ℕ) (x : Column) → i < length columns → x ≡ get_or columns i x
    → plain_kind x.kind ≡ kind_at (map column_of columns) i
found [] i x h e = absurd (omega arith)
found (c ∷ cs) zero x h e = ap (λ (y : Column). plain_kind y.kind) e
found (c ∷ cs) (suc i) x h e = found cs i x (omega arith) e

missing : (columns : List Column) (i : ℕ) → length columns ≤ i → Ints ≡ kind_at (map column_of columns) i
missing [] i h = refl
missing (c ∷ cs) zero h = absurd (omega arith)
missing (c ∷ cs) (suc i) h = missing cs i (omega arith)

pub returns-in-Some : goal.returns-in-Some
returns-in-Some c =
    let k = c.in-Some.ensures.lookup in
    found c.args.columns.now c.args.number c.in-Some.column.now
    (ltb-true c.args.number (length c.args.columns.now) (sym k.0)) k.1

pub returns-in-None : goal.returns-in-None
returns-in-None c = let k =
    c.in-None.ensures.lookup in missing c.args.columns.now c.args.number
    (ltb-false c.args.number (length c.args.columns.now) (sym k.0))
