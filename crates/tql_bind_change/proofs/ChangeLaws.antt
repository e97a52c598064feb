-- UPDATE and DELETE, from their parts.
use Rattle.std.specs.Prelude.{◌≡◌, ℕ, List, [], ◌++◌, map, Option}
use Rattle.std.proofs.Common.{ap, ◌∙◌, subst, append_assoc}
use Rattle.tql_spec.specs.Binding.{table_number, portion, assigned_columns, sets_period, assignment, own_scope}
use Rattle.tql_spec.specs.Binding.{plain_filter, update, delete}
use Rattle.tql_spec.specs.Change as change
use Rattle.tql_spec.specs.Definition.{Name, TableDef, table_at}
use Rattle.tql_spec.specs.Expression.{Cond}
use Rattle.tql_spec.specs.Machine.{Bound, ChangeRows, Modify}
use Rattle.tql_spec.specs.Names.{Checked, ◌>>=◌, sound, refuse_if, check_each}
use Rattle.tql_spec.specs.Period.{Period}
use Rattle.tql_spec.specs.Refusal.{Refusal, FormNotAllowedHere}
use Rattle.tql_spec.specs.Syntax.{PortionTree, SetTree, Condition}
use Rattle.tql_bind_expr.specs.Gathered.{after, Gathers}
use Rattle.tql_bind_expr.proofs.Gathering.{bound, sound_here}
use Rattle.tql_bind_change.specs.Heads.{Assigned, update_head}

-- the names of the columns of SET
abbrev pub set_names : List SetTree → List Name
set_names sets = map (λ (s : SetTree). s.column) sets

-- the part of an UPDATE before its WHERE, from its own parts
pub head_bound : (defs : List TableDef) (n : Name) (p : Option PortionTree) (sets : List SetTree)
    → (old a b c e new : Option Refusal) (t : ℕ) (d : TableDef) (r : Option Period) (is : List ℕ)
    (as' : List change.Assignment)
    → Gathers (table_number defs n) old a t → d ≡ table_at defs t → Gathers (portion d p) a b r
    → Gathers (assigned_columns d (set_names sets)) b c is
    → Gathers (refuse_if (sets_period d p is) FormNotAllowedHere) c e tt
    → Gathers (check_each (assignment d) sets) e new as'
    → Gathers (update_head defs n p sets) old new (record { table = t; portion = r; sets = as' })
head_bound defs n p sets old a b c e new t d r is as' table there period columns own assigned =
    let last : ℕ → Option Period → List change.Assignment
    → Checked Assigned = λ t r as'. sound (record { table = t; portion = r; sets = as' }) in
    let at_sets : TableDef → ℕ → Option Period
    → Checked Assigned = λ d t r. check_each (assignment d) sets >>= last t r in
    let at_own : TableDef → ℕ → Option Period → List ℕ
    → Checked Assigned = λ d t r is. refuse_if (sets_period d p is) FormNotAllowedHere >>= λ u. at_sets d t r in
    let at_columns : TableDef → ℕ → Option Period
    → Checked Assigned = λ d t r. assigned_columns d (set_names sets) >>= at_own d t r in
    let at_period : TableDef → ℕ → Checked Assigned = λ d t. portion d p >>= at_columns d t in
    let x : Assigned = record { table = t; portion = r; sets = as' } in
    let sets_bound : Gathers (at_sets d t r) e new x =
    bound (check_each (assignment d) sets) (last t r) e new new as' x assigned (sound_here x new) in
    let own_bound : Gathers (at_own d t r is) c new x =
    bound (refuse_if (sets_period d p is) FormNotAllowedHere) (λ u. at_sets d t r) c e new tt x own sets_bound in
    let columns_bound : Gathers (at_columns d t r) b new x =
    bound (assigned_columns d (set_names sets)) (at_own d t r) b c new is x columns own_bound in
    let period_bound : Gathers (at_period d t) a new x =
    bound (portion d p) (at_columns d t) a b new r x period columns_bound in
    bound (table_number defs n) (λ t. at_period (table_at defs t) t) old a new t x table
    (subst (λ (e : TableDef). Gathers (at_period e t) a new x) there period_bound)

-- the WHERE of a change
abbrev filtered : List TableDef → ℕ → Option Condition → Checked (List Cond)
filtered defs t c = plain_filter (own_scope (table_at defs t)) c

-- the faults before WHERE, and those of WHERE
faults_are : (defs : List TableDef) (n : Name) (p : Option PortionTree) (sets : List SetTree) (c : Option Condition)
    → (update_head defs n p sets).faults ++ ((filtered defs (table_number defs n).value c).faults ++ []) ≡
    (update defs n p sets c).faults
faults_are defs n p sets c =
    let d : TableDef = table_at defs (table_number defs n).value in
    let table : List Refusal = (table_number defs n).faults in
    let period : List Refusal = (portion d p).faults in
    let columns : List Refusal = (assigned_columns d (set_names sets)).faults in
    let own : List Refusal =
    (refuse_if (sets_period d p (assigned_columns d (set_names sets)).value) FormNotAllowedHere).faults in
    let assigned : List Refusal = (check_each (assignment d) sets).faults in
    let last : List Refusal = (filtered defs (table_number defs n).value c).faults ++ [] in
    append_assoc table (period ++ (columns ++ (own ++ (assigned ++ [])))) last
    ∙ ap (λ (es : List Refusal). table ++ es) (append_assoc period (columns ++ (own ++ (assigned ++ []))) last
    ∙ ap (λ (es : List Refusal). period ++ es) (append_assoc columns (own ++ (assigned ++ [])) last
    ∙ ap (λ (es : List Refusal). columns ++ es) (append_assoc own (assigned ++ []) last
    ∙ ap (λ (es : List Refusal). own ++ es) (append_assoc assigned [] last))))

-- UPDATE: the part before WHERE, and the WHERE
pub update_bound : (defs : List TableDef) (n : Name) (p : Option PortionTree) (sets : List SetTree)
    (c : Option Condition)
    → (old mid new : Option Refusal) (head : Assigned) (conds : List Cond)
    → Gathers (update_head defs n p sets) old mid head
    → Gathers (plain_filter (own_scope (table_at defs head.table)) c) mid new conds
    → Gathers (update defs n p sets c) old new
    (ChangeRows (Modify head.table head.portion (change.Set head.sets) conds))
update_bound defs n p sets c old mid new head conds g h =
    let last : Assigned → List Cond
    → Checked Bound = λ head conds. sound (ChangeRows (Modify head.table head.portion (change.Set head.sets) conds)) in
    let x : Bound = ChangeRows (Modify head.table head.portion (change.Set head.sets) conds) in
    let all : Gathers (update_head defs n p sets >>= λ head. filtered defs head.table c >>= last head) old new x =
    bound (update_head defs n p sets) (λ head. filtered defs head.table c >>= last head) old mid new head x g
    (bound (filtered defs head.table c) (last head) mid new new conds x h (sound_here x new)) in
    record { value = all.value; least = all.least ∙ ap (after old) (faults_are defs n p sets c) }

-- DELETE
pub delete_bound : (defs : List TableDef) (n : Name) (p : Option PortionTree) (c : Option Condition)
    (old a b new : Option Refusal)
    → (t : ℕ) (d : TableDef) (r : Option Period) (conds : List Cond)
    → Gathers (table_number defs n) old a t → d ≡ table_at defs t → Gathers (portion d p) a b r
    → Gathers (plain_filter (own_scope d) c) b new conds
    → Gathers (delete defs n p c) old new (ChangeRows (Modify t r change.Remove conds))
delete_bound defs n p c old a b new t d r conds table there period filter =
    let last : ℕ → Option Period → List Cond
    → Checked Bound = λ t r conds. sound (ChangeRows (Modify t r change.Remove conds)) in
    let at_filter : TableDef → ℕ → Option Period → Checked Bound = λ d t r. plain_filter (own_scope d) c >>= last t r in
    let at_period : TableDef → ℕ → Checked Bound = λ d t. portion d p >>= at_filter d t in
    let x : Bound = ChangeRows (Modify t r change.Remove conds) in
    let period_bound : Gathers (at_period d t) a new x =
    bound (portion d p) (at_filter d t) a b new r x period
    (bound (plain_filter (own_scope d) c) (last t r) b new new conds x filter (sound_here x new)) in
    bound (table_number defs n) (λ t. at_period (table_at defs t) t) old a new t x table
    (subst (λ (e : TableDef). Gathers (at_period e t) a new x) there period_bound)
