-- Values computed from printable values are printable.
use Rattle.std.specs.Prelude.{ℕ, zero, suc, ℤ, Bool, true, false, nat_lt, List, [], ◌∷◌, ◌++◌, map, length, insert}
use Rattle.std.specs.Prelude.{take, drop, All, Option, Some, None, ⊤, pos, if◌then◌else◌}
use Rattle.std.proofs.lemmas.List.Elements.{All-head, All-tail, All-append, All-push, All-nil, All-take, All-drop}
use Rattle.tql_spec.specs.Words.{◌>>=◌, with_front, map_all}
use Rattle.tql_spec.specs.Datum.{Datum, Int, Moment, Row, Operation, Minus, calculate, fits, result_of}
use Rattle.tql_spec.specs.Definition.{System, with_generated, cell}
use Rattle.tql_spec.specs.Expression.{eval, aggregate}
use Rattle.tql_spec.specs.Expression as bound
use Rattle.tql_value.specs.Points.{IsPrintable, IsMoment}
use Rattle.tql_value.specs.Views.{datum_of_value}
use Rattle.tql_value.specs.declared.value.Value.{Value}
use Rattle.tql_expr.specs.Meaning.{trees, expr, datum_at}
use Rattle.tql_expr.specs.Trees.{Term, expr_of, term_in, terms_from, node_term}
use Rattle.tql_expr.specs.declared.node.Node.{Node}
use Rattle.tql_expr.specs.declared.node.Node.TheVariants.{Literal}
use Rattle.tql_expr.specs.declared.terms.ExprId.{ExprId}
use Rattle.tql_expr.specs.declared.terms.Terms.{Terms}

-- a cell of a printable row
pub printable_cell : (row : Row) (i : ℕ) → All IsPrintable row → IsPrintable (cell row i)
printable_cell [] i h = tt
printable_cell (v ∷ vs) zero h = All-head IsPrintable v vs h
printable_cell (v ∷ vs) (suc i) h = printable_cell vs i (All-tail IsPrintable v vs h)

-- ---- expressions of a statement

-- a literal that is the whole expression is printable
abbrev pub Prints : bound.Expr → Type 0
Prints (bound.Literal v) = IsPrintable v
Prints _ = ⊤

pub literal_prints : (vs : List Value) (k : ℕ) → All (λ v. IsPrintable (datum_of_value v)) vs
    → IsPrintable (datum_at vs k)
literal_prints [] k h = tt
literal_prints (v ∷ vs) zero h = All-head (λ w. IsPrintable (datum_of_value w)) v vs h
literal_prints (v ∷ vs) (suc k) h = literal_prints vs k (All-tail (λ w. IsPrintable (datum_of_value w)) v vs h)

pub node_prints : (lit : ℕ → Datum) (at : ℕ → Term) (n : Node) → ((k : ℕ) → IsPrintable (lit k))
    → Prints (expr_of (node_term lit at n))
node_prints lit at (Literal k) h = h k
node_prints lit at _ h = tt

terms_print : (lit : ℕ → Datum) (done : List Term) (ns : List Node) → ((k : ℕ) → IsPrintable (lit k))
    → All (λ t. Prints (expr_of t)) done
    → All (λ t. Prints (expr_of t)) (terms_from lit done ns)
terms_print lit done [] h d = d
terms_print lit done (n ∷ ns) h d =
    let t = node_term lit (term_in done) n in
    terms_print lit (done ++ t ∷ []) ns h
    (All-push (λ t. Prints (expr_of t)) done t d (node_prints lit (term_in done) n h))

pub term_prints : (ts : List Term) (k : ℕ) → All (λ t. Prints (expr_of t)) ts → Prints (expr_of (term_in ts k))
term_prints [] k h = tt
term_prints (t ∷ ts) zero h = All-head (λ t. Prints (expr_of t)) t ts h
term_prints (t ∷ ts) (suc k) h = term_prints ts k (All-tail (λ t. Prints (expr_of t)) t ts h)

pub expr_prints : (t : Terms) (x : ExprId) → Prints (expr t x)
expr_prints t x =
    term_prints (trees t) x.place
    (terms_print (datum_at t.literals.items) [] t.nodes.items (λ k. literal_prints t.literals.items k t.printable)
    (All-nil (λ t. Prints (expr_of t))))

-- ---- evaluation

-- the value, if there is one, is printable
abbrev pub OptionPrints : Option Datum → Type 0
OptionPrints None = ⊤
OptionPrints (Some v) = IsPrintable v

pub if_prints : (b : Bool) (o : Option Datum) → OptionPrints o → OptionPrints (if b then o else None)
if_prints true o h = h
if_prints false o h = tt

pub calculated_prints : (op : Operation) (x y : Datum) → OptionPrints (calculate op x y)
calculated_prints op (Int a) (Int b) = if_prints (fits (result_of op a b)) (Some (Int (result_of op a b))) tt
calculated_prints op _ _ = tt

aggregate_prints : (f : bound.Function) → OptionPrints (aggregate f [])
aggregate_prints bound.Count = tt
aggregate_prints bound.Sum = tt
aggregate_prints bound.Min = tt
aggregate_prints bound.Max = tt

pub negated_prints : (o : Option Datum) → OptionPrints (o >>= λ v. calculate Minus (Int (pos 0)) v)
negated_prints None = tt
negated_prints (Some v) = calculated_prints Minus (Int (pos 0)) v

pub binary_prints : (op : Operation) (o p : Option Datum) → OptionPrints (o >>= λ x. p >>= λ y. calculate op x y)
binary_prints op None p = tt
binary_prints op (Some x) None = tt
binary_prints op (Some x) (Some y) = calculated_prints op x y

pub eval_prints : (row : Row) (e : bound.Expr) → All IsPrintable row → Prints e → OptionPrints (eval [] row e)
eval_prints row (bound.Literal v) h p = p
eval_prints row (bound.Column i) h p = printable_cell row i h
eval_prints row (bound.Negate e) h p = negated_prints (eval [] row e)
eval_prints row (bound.Binary op a b) h p = binary_prints op (eval [] row a) (eval [] row b)
eval_prints row bound.CountRows h p =
    if_prints (fits (pos (length {A = Row} []))) (Some (Int (pos (length {A = Row} [])))) tt
eval_prints row (bound.Aggregate f e) h p =
    if_prints (fits (pos (length {A = Row} []))) (aggregate f []) (aggregate_prints f)

-- ---- rows

-- the row, or the rows, are printable if there are any
abbrev pub RowPrints : Option Row → Type 0
RowPrints None = ⊤
RowPrints (Some row) = All IsPrintable row

abbrev pub RowsPrint : Option (List Row) → Type 0
RowsPrint None = ⊤
RowsPrint (Some rows) = All (All IsPrintable) rows

pub front_prints : (o : Option Datum) (rest : Option Row) → OptionPrints o → RowPrints rest
    → RowPrints (with_front o rest)
front_prints None rest h k = tt
front_prints (Some v) None h k = tt
front_prints (Some v) (Some row) h k =
    All-append IsPrintable (v ∷ []) row (All-push IsPrintable [] v (All-nil IsPrintable) h) k

-- the values of expressions of a statement
pub values_print : (t : Terms) (row : Row) (xs : List ExprId) → All IsPrintable row
    → RowPrints (map_all (eval [] row) (map (expr t) xs))
values_print t row [] h = All-nil IsPrintable
values_print t row (x ∷ xs) h =
    front_prints (eval [] row (expr t x)) _ (eval_prints row (expr t x) h (expr_prints t x)) (values_print t row xs h)

pub rows_front_print : (o : Option Row) (rest : Option (List Row)) → RowPrints o → RowsPrint rest
    → RowsPrint (with_front o rest)
rows_front_print None rest h k = tt
rows_front_print (Some row) None h k = tt
rows_front_print (Some row) (Some rows) h k =
    All-append (All IsPrintable) (row ∷ []) rows (All-push (All IsPrintable) [] row (All-nil (All IsPrintable)) h) k

-- a value inserted among others
inserted_prints : (row : Row) (i : ℕ) (v : Datum) → All IsPrintable row → IsPrintable v
    → All IsPrintable (insert row i v)
inserted_prints row i v h p =
    All-append IsPrintable (take i row) (v ∷ drop i row) (All-take IsPrintable i row h)
    (All-append IsPrintable (v ∷ []) (drop i row) (All-push IsPrintable [] v (All-nil IsPrintable) p)
    (All-drop IsPrintable i row h))

either_prints : (s : System) (cells : Row) (m e : ℤ) (b : Bool) → All IsPrintable cells → IsMoment m → IsMoment e
    → All IsPrintable (if b then insert (insert cells s.start (Moment m)) s.end (Moment e) else insert
    (insert cells s.end (Moment e)) s.start (Moment m))
either_prints s cells m e true h p q =
    inserted_prints (insert cells s.start (Moment m)) s.end (Moment e) (inserted_prints cells s.start (Moment m) h p) q
either_prints s cells m e false h p q =
    inserted_prints (insert cells s.end (Moment e)) s.start (Moment m) (inserted_prints cells s.end (Moment e) h q) p

-- a stored row as its table shows it
pub generated_prints : (s : Option System) (cells : Row) (m e : ℤ) → All IsPrintable cells → IsMoment m → IsMoment e
    → All IsPrintable (with_generated s cells m e)
generated_prints None cells m e h p q = h
generated_prints (Some s) cells m e h p q = either_prints s cells m e (nat_lt s.start s.end) h p q
