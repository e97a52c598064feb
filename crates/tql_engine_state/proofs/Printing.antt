-- Every reply to a bound statement can be printed.
use Rattle.std.proofs.Common.{◌≡◌, ◌<◌, ℕ, sym, subst, arith, Bool, true, false, List, [], ◌++◌, length, Option}
use Rattle.std.proofs.Common.{Some, None, Result, Ok, Err, refl}
use Rattle.std.specs.Prelude.{All, IfOk, nat_lt, slice_set, string_bytes, if◌then◌else◌}
use Rattle.std.proofs.lemmas.Bool.Decides.{nat_tests}
use Rattle.std.proofs.lemmas.List.Elements.{All-nil}
use Rattle.tql_spec.specs.Bag.{SameBag}
use Rattle.tql_spec.specs.Datum.{Row}
use Rattle.tql_spec.specs.History.{Copy, Entry}
use Rattle.tql_spec.specs.Query.{Query, Ref, answer}
use Rattle.tql_spec.specs.Refusal as faults
use Rattle.tql_spec.specs.Refusal.{first}
use Rattle.tql_spec.specs.Change as change
use Rattle.tql_spec.specs.Machine as machine
use Rattle.tql_spec.specs.Machine.{State, Done, unless_refused, effect, step, changed, outcome, changed_table}
use Rattle.tql_spec.specs.Machine.{verb_of, working, with_working, constraint_faults, state_faults, class_of, asked}
use Rattle.tql_spec.specs.Machine.{bag_of}
use Rattle.tql_value.specs.Points.{ArePrintable, IsPrintable}
use Rattle.tql_value.specs.declared.refusal.Refusal.{Refusal}
use Rattle.tql_result.specs.Replies.{IsPrintableReply, reply_of}
use Rattle.tql_result.specs.declared.reply.Reply.{Reply}
use Rattle.tql_bound.specs.Bounds.{IsSound, bound_of}
use Rattle.tql_bound.specs.Placed.{IsPlacedQuery, IsPlacedRef}
use Rattle.tql_bound.specs.declared.bound.Bound.{Bound}
use Rattle.tql_bound.specs.declared.bound.Bound.TheVariants as b
use Rattle.tql_bound.specs.Changes.{insertion_of, modification_of, query_insertion_of}
use Rattle.tql_bound.specs.Queries.{bound_query_of}
use Rattle.tql_bound.specs.declared.query.BoundQuery.{BoundQuery}
use Rattle.tql_expr.proofs.Printing.{RowsPrint}
use Rattle.tql_expr.proofs.QueryPrinting.{AllPrint, answers_print, items_literals}
use Rattle.tql_exec_pairs.specs.Bags.{IsBag}
use Rattle.tql_catalog.specs.Tables.{definitions_of}
use Rattle.tql_catalog.specs.declared.catalog.Table.{Table}
use Rattle.tql_engine_state.specs.Allowed.{IsAllowed}
use Rattle.tql_engine_state.specs.Readers.{pin_of}
use Rattle.tql_engine_state.specs.Showing.{FitsTables}
use Rattle.tql_engine_state.specs.Stands.{EngineModel, StandsFor}
use Rattle.tql_engine_state.specs.Effects.{DoesStep}
use Rattle.tql_engine_state.proofs.Asked.{bag_prints, fits_now, found_print, ordered_prints}
use Rattle.tql_engine_state.proofs.Copies.{chosen}
use Rattle.tql_engine_state.proofs.Finding.{placed_ref, table_there}
use Rattle.tql_engine_state.proofs.ReadersShow.{at_pin, fits_pinned, read_is}
use Rattle.tql_spec.specs.Machine.{bag_in, limit_faults}
use Rattle.tql_spec.specs.Readers.{pinned_of}
use Rattle.tql_spec.proofs.Horizons.{answer_same}

-- the reply of a step can be printed
abbrev Prints : machine.Reply × State → Type 0
Prints r = IsPrintableReply r.0

unless_prints : (o : Option faults.Refusal) (s : State) (reply : machine.Reply) (new : State)
    → IsPrintableReply reply → Prints (unless_refused o s reply new)
unless_prints None s reply new k = k
unless_prints (Some e) s reply new k = tt

by_effect : (s : State) (x : machine.Bound) → Prints (effect s x) → Prints (step s x)
by_effect s x k =
    unless_prints (first (limit_faults s x ++ state_faults s (class_of x))) s (effect s x).0 (effect s x).1 k

altered_prints : (s : State) (c : machine.Change) → Prints (changed s c)
altered_prints s c =
    let e : Entry = working s s.transaction in
    let o : change.Outcome = outcome s e.moment e.copy c in
    let copy : Copy = slice_set e.copy (changed_table c) o.rows in
    unless_prints (first (o.faults ++ constraint_faults s.definitions copy)) s (Done (verb_of c) (Some o.count))
    (with_working s s.transaction (record { moment = e.moment; copy = copy })) tt

-- ---- what a query answers

-- the rows that each reference finds; none if there is no table
abbrev bag_there : State → ℕ → Ref → List Row
bag_there s n r = if nat_lt r.table n then bag_of s r else []

there_prints : (tables : List Table) (s : State) → FitsTables tables s → (r : Ref)
    → AllPrint (bag_there s (length (definitions_of tables)) r)
there_prints tables s f r = by_place (nat_lt r.table (length (definitions_of tables))) refl
  where
    below : (n m : ℕ) → nat_lt n m ≡ true → n < m
    below n m e = grind (arith, nat_tests)

    by_place : (b : Bool) → nat_lt r.table (length (definitions_of tables)) ≡ b
        → AllPrint (if b then bag_of s r else [])
    by_place true e =
        let p = table_there tables r.table (below r.table (length (definitions_of tables)) e) in
        found_print tables s r.table p.0 r.when f p.1
    by_place false e = All-nil (All IsPrintable)

same_there : (tables : List Table) (s : State) (r : Ref) → IsPlacedRef (definitions_of tables) r
    → bag_there s (length (definitions_of tables)) r ≡ bag_of s r
same_there tables s r placed =
    chosen (nat_lt r.table (length (definitions_of tables))) (bag_of s r) []
    (is_below r.table (length (definitions_of tables)) placed.table)
  where
    is_below : (n m : ℕ) → n < m → nat_lt n m ≡ true
    is_below n m h = grind (arith, nat_tests)

-- its rows can be printed
pub answer_prints : (tables : List Table) (s : State) (x : BoundQuery) → FitsTables tables s
    → IsPlacedQuery (definitions_of tables) (bound_query_of x) → RowsPrint (answer (bag_of s) (bound_query_of x))
answer_prints tables s x f placed =
    subst RowsPrint (answer_same (bag_there s (length (definitions_of tables))) (bag_of s) (bound_query_of x)
    (λ r i. same_there tables s r (placed_ref (definitions_of tables) (bound_query_of x) placed r i)))
    (answers_print (bag_there s (length (definitions_of tables))) (bound_query_of x) (there_prints tables s f)
    (items_literals x.terms x.items.items))

-- in any order
pub rows_print : (o : Option (List Row)) (rows : List Row) → RowsPrint o → IsBag o rows → ArePrintable rows
rows_print None rows k b = absurd (let e = b.is in cc)
rows_print (Some wanted) rows k b =
    bag_prints rows wanted (subst (SameBag rows) (inside wanted b.bag b.is) b.same) k
  where
    inside : (xs ys : List Row) → Some xs ≡ Some ys → ys ≡ xs
    inside xs ys e = cc

-- the reply to a query can be printed
asked_prints : (s : State) (q : Query) (o : Option (List Row)) → RowsPrint o → Prints (asked s q o)
asked_prints s q None k = tt
asked_prints s q (Some rows) k = ordered_prints q.ordering rows k

-- the reply of the reference model can be printed
step_prints : (h : EngineModel) (s : State) → StandsFor h s → (x : Bound) → IsSound (definitions_of h.tables) x
    → IsAllowed h x → Prints (step s (bound_of x))
step_prints h s st (b.CreateTable d) k a = by_effect s (bound_of (b.CreateTable d)) tt
step_prints h s st (b.DropTable t) k a = by_effect s (bound_of (b.DropTable t)) tt
step_prints h s st (b.Insert x) k a = by_effect s (bound_of (b.Insert x)) (altered_prints s (insertion_of x))
step_prints h s st (b.InsertFrom x) k a =
    by_effect s (bound_of (b.InsertFrom x)) (altered_prints s (query_insertion_of x))
step_prints h s st (b.Modify x) k a = by_effect s (bound_of (b.Modify x)) (altered_prints s (modification_of x))
step_prints h s st (b.AnswerQuery x) k a =
    by_effect s (machine.AnswerQuery (bound_query_of x))
    (asked_prints s (bound_query_of x) (answer (bag_of s) (bound_query_of x))
    (answer_prints h.tables s x (fits_now h s st) k))
step_prints h s st (b.Read x) k a =
    let q = bound_query_of x.query in
    let o = pin_of (string_bytes x.reader) h.readers in
    by_effect s (bound_of (b.Read x))
    (asked_prints s q (answer (bag_in s.definitions (pinned_of (string_bytes x.reader) s.readers)) q)
    (subst RowsPrint (read_is h s st (string_bytes x.reader) q a o refl)
    (answer_prints h.tables (at_pin o s) x.query (fits_pinned h s st o) k)))
step_prints h s st (b.OpenReader n) k a = by_effect s (bound_of (b.OpenReader n)) tt
step_prints h s st (b.CloseReader n) k a = by_effect s (bound_of (b.CloseReader n)) tt
step_prints h s st (b.SetClock m) k a = by_effect s (bound_of (b.SetClock m)) tt
step_prints h s st (b.Prune m) k a = by_effect s (bound_of (b.Prune m)) tt
step_prints h s st b.Start k a = by_effect s machine.Start tt
step_prints h s st b.Commit k a = by_effect s machine.Commit tt
step_prints h s st b.Rollback k a = by_effect s machine.Rollback tt

-- and so can the reply of the engine
pub does_print : (old new : EngineModel) (s : State) → StandsFor old s → (x : Bound)
    → IsSound (definitions_of old.tables) x → IsAllowed old x
    → (result : Result Reply Refusal)
    → DoesStep new s result (step s (bound_of x)) → IfOk result (λ reply. IsPrintableReply (reply_of reply))
does_print old new s st x k a (Ok reply) d = subst IsPrintableReply (sym d.replies) (step_prints old s st x k a)
does_print old new s st x k a (Err e) d = tt
