-- INSERT, from its parts.
use Rattle.std.specs.Prelude.{◌≡◌, ℕ, Bool, List, [], map, Option, option_map}
use Rattle.std.proofs.Common.{ap, ◌∙◌, subst}
use Rattle.tql_spec.specs.Binding.{Selected, cells_misfit, table_number, insert_columns, insert_select, kinds_for}
use Rattle.tql_spec.specs.Binding.{select, tuple, insert_values}
use Rattle.tql_spec.specs.Datum as datum
use Rattle.tql_spec.specs.Definition.{Name, TableDef, table_at}
use Rattle.tql_spec.specs.Expression.{Expr}
use Rattle.tql_spec.specs.Machine.{Bound, ChangeRows, InsertQuery, InsertTuples}
use Rattle.tql_spec.specs.Names.{Checked, ◌>>=◌, sound, check_each, refuse_if}
use Rattle.tql_spec.specs.Refusal.{Refusal, TypesDoNotFit}
use Rattle.tql_spec.specs.Syntax.{SelectTree, Tuple}
use Rattle.tql_value.specs.Views.{plain_kind}
use Rattle.tql_value.specs.declared.value.Kind.{Kind}
use Rattle.tql_bind_expr.specs.Gathered.{Gathers}
use Rattle.tql_bind_expr.proofs.Gathering.{bound, sound_here}

pub insert_bound : (defs : List TableDef) (n : Name) (ns : List Name) (ts : List Tuple)
    (old a b new : Option Refusal) (t : ℕ) (d : TableDef) (is asked : List ℕ) (kinds taken : List Kind)
    (rows : List (List Expr))
    → Gathers (table_number defs n) old a t → d ≡ table_at defs t → Gathers (insert_columns d ns) a b is
    → asked ≡ is → map plain_kind kinds ≡ kinds_for d asked → taken ≡ kinds
    → Gathers (check_each (tuple (map plain_kind taken)) ts) b new rows
    → Gathers (insert_values defs n ns ts) old new (ChangeRows (InsertTuples t is rows))
insert_bound defs n ns ts old a b new t d is asked kinds taken rows table there columns same known took tuples =
    let last : ℕ → List ℕ → List (List Expr) → Checked Bound =
    λ t is rows. sound (ChangeRows (InsertTuples t is rows)) in
    let filled : TableDef → List ℕ → Checked (List (List Expr)) = λ d is. check_each (tuple (kinds_for d is)) ts in
    let rest : TableDef → ℕ → List ℕ → Checked Bound = λ d t is. filled d is >>= last t is in
    let x = ChangeRows (InsertTuples t is rows) in
    let kinds_are : map plain_kind taken ≡ kinds_for d is = ap (map plain_kind) took ∙ known ∙ ap (kinds_for d) same in
    let bound_rows : Gathers (filled d is) b new rows =
    subst (λ (ks : List datum.Kind). Gathers (check_each (tuple ks) ts) b new rows) kinds_are tuples in
    let behind : Gathers (insert_columns d ns >>= rest d t) a new x =
    bound (insert_columns d ns) (rest d t) a b new is x columns
    (bound (filled d is) (last t is) b new new rows x bound_rows (sound_here x new)) in
    bound (table_number defs n) (λ t. insert_columns (table_at defs t) ns >>= rest (table_at defs t) t) old a new t x
    table
    (subst (λ (e : TableDef). Gathers (insert_columns e ns >>= rest e t) a new x) there behind)

-- INSERT from a query, from its parts
pub insert_query_bound : (defs : List TableDef) (n : Name) (ns : List Name) (s : SelectTree)
    (old a b e new : Option Refusal) (t : ℕ) (d : TableDef) (is asked : List ℕ)
    → (kinds taken : List Kind) (q : Selected) (seen : List (Option Kind)) (misfits : Bool)
    → Gathers (table_number defs n) old a t → d ≡ table_at defs t → Gathers (insert_columns d ns) a b is
    → asked ≡ is → map plain_kind kinds ≡ kinds_for d asked → Gathers (select defs s []) b e q
    → taken ≡ kinds → map (option_map plain_kind) seen ≡ q.kinds
    → misfits ≡ cells_misfit (map plain_kind taken) (map (option_map plain_kind) seen)
    → Gathers (refuse_if misfits TypesDoNotFit) e new tt
    → Gathers (insert_select defs n ns s) old new (ChangeRows (InsertQuery t is q.query))
insert_query_bound defs n ns s old a b e new t d is asked kinds taken q seen misfits table there columns same known
    query took saw told refused =
    let last : TableDef → ℕ → List ℕ → Selected → Checked Bound =
    λ d t is q. refuse_if (cells_misfit (kinds_for d is) q.kinds) TypesDoNotFit >>= λ u. sound
    (ChangeRows (InsertQuery t is q.query)) in
    let rest : TableDef → ℕ → List ℕ → Checked Bound = λ d t is. select defs s [] >>= last d t is in
    let x = ChangeRows (InsertQuery t is q.query) in
    let kinds_are : map plain_kind taken ≡ kinds_for d is = ap (map plain_kind) took ∙ known ∙ ap (kinds_for d) same in
    let misfits_are : misfits ≡ cells_misfit (kinds_for d is) q.kinds = told
    ∙ (λ i. cells_misfit (kinds_are i) (saw i)) in
    let fitting : Gathers (refuse_if (cells_misfit (kinds_for d is) q.kinds) TypesDoNotFit) e new tt =
    subst (λ m. Gathers (refuse_if m TypesDoNotFit) e new tt) misfits_are refused in
    let ends : Gathers (last d t is q) e new x =
    bound (refuse_if (cells_misfit (kinds_for d is) q.kinds) TypesDoNotFit) (λ u. sound x) e new new tt x fitting
    (sound_here x new) in
    let behind : Gathers (insert_columns d ns >>= rest d t) a new x =
    bound (insert_columns d ns) (rest d t) a b new is x columns
    (bound (select defs s []) (last d t is) b e new q x query ends) in
    bound (table_number defs n) (λ t. insert_columns (table_at defs t) ns >>= rest (table_at defs t) t) old a new t x
    table
    (subst (λ (d : TableDef). Gathers (insert_columns d ns >>= rest d t) a new x) there behind)
