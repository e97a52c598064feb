-- Trees at positions. Each is made of those before it, and later additions change none.
use Rattle.std.proofs.Common.{◌≡◌, ℕ, ◌+◌, ◌<◌, ◌≤◌, zero, suc, List, [], ◌∷◌, ◌++◌, length, refl, ap, sym, ◌∙◌}
use Rattle.std.proofs.Common.{subst, zero-add, arith, length-append, add-zero, true, ◌&&◌, IsTrue, nat_lt}
use Rattle.std.proofs.Common.{slice_index_or}
use Rattle.std.proofs.lemmas.Bool.{ltb-true, lt-ltb, and_parts, and_from}
use Rattle.std.proofs.lemmas.List.{get_or_append_left}
use Rattle.std.proofs.Math.Seq.{get_or-append_seam}
use Rattle.tql_spec.specs.Datum.{Datum, Null}
use Rattle.tql_spec.specs.Expression as bound
use Rattle.tql_value.specs.Views.{plain_comparison, datum_of_value}
use Rattle.tql_value.specs.declared.value.Value as value
use Rattle.tql_period.specs.Relations.{plain_relation}
use Rattle.tql_value.specs.declared.value.Value.TheVariants as value_is
use Rattle.tql_expr.specs.declared.node.Node.{Node}
use Rattle.tql_expr.specs.declared.node.Node.TheVariants.{Literal, Column, Negate, Binary, CountRows, Aggregate}
use Rattle.tql_expr.specs.declared.node.Node.TheVariants.{Compare, IsNull, Related, ContainsPoint, Not, And, Or}
use Rattle.tql_expr.specs.declared.terms.Terms.{Terms}
use Rattle.tql_expr.specs.Meaning.{datum_at, trees, size, Adds}
use Rattle.tql_expr.specs.Nodes.{reads_before, all_read_before}
use Rattle.tql_expr.specs.Trees.{Term, OfExpr, OfCond, expr_of, cond_of, plain_operation, plain_function, node_term}
use Rattle.tql_expr.specs.Trees.{term_in, terms_from}

-- ---- for each kind of node

-- what is built from two positions with the same trees
two : {X : Type 0} → (build : Term → Term → X) (f g : ℕ → Term) (place a b : ℕ) → ((k : ℕ) → k < place → f k ≡ g k)
    → IsTrue (nat_lt a place && nat_lt b place) → build (f a) (f b) ≡ build (g a) (g b)
two build f g place a b same h =
    let p = and_parts (nat_lt a place) (nat_lt b place) h in
    ap (λ t. build t (f b)) (same a (ltb-true a place p.0)) ∙ ap (build (g a)) (same b (ltb-true b place p.1))

four : {X : Type 0} → (build : Term → Term → Term → Term → X) (f g : ℕ → Term) (place a b c d : ℕ)
    → ((k : ℕ) → k < place → f k ≡ g k)
    → IsTrue ((nat_lt a place && nat_lt b place) && (nat_lt c place && nat_lt d place))
    → build (f a) (f b) (f c) (f d) ≡ build (g a) (g b) (g c) (g d)
four build f g place a b c d same h =
    let p = and_parts (nat_lt a place && nat_lt b place) (nat_lt c place && nat_lt d place) h in
    two (λ s t. build s t (f c) (f d)) f g place a b same p.0 ∙ two (build (g a) (g b)) f g place c d same p.1

-- the tree of a node depends only on the existing literals and on the trees before it
pub same_term : (lit lit' : ℕ → Datum) (f g : ℕ → Term) (count place : ℕ) → ((k : ℕ) → k < count → lit k ≡ lit' k)
    → ((k : ℕ) → k < place → f k ≡ g k)
    → (n : Node) → IsTrue (reads_before count place n) → node_term lit f n ≡ node_term lit' g n
same_term lit lit' f g count place lits same (Literal k) h =
    ap (λ d. OfExpr (bound.Literal d)) (lits k (ltb-true k count h))
same_term lit lit' f g count place lits same (Column i) h = refl
same_term lit lit' f g count place lits same (Negate a) h =
    ap (λ t. OfExpr (bound.Negate (expr_of t))) (same a (ltb-true a place h))
same_term lit lit' f g count place lits same (Binary op a b) h =
    two (λ s t. OfExpr (bound.Binary (plain_operation op) (expr_of s) (expr_of t))) f g place a b same h
same_term lit lit' f g count place lits same CountRows h = refl
same_term lit lit' f g count place lits same (Aggregate o a) h =
    ap (λ t. OfExpr (bound.Aggregate (plain_function o) (expr_of t))) (same a (ltb-true a place h))
same_term lit lit' f g count place lits same (Compare sign a b) h =
    two (λ s t. OfCond (bound.Compare (plain_comparison sign) (expr_of s) (expr_of t))) f g place a b same h
same_term lit lit' f g count place lits same (IsNull a) h =
    ap (λ t. OfCond (bound.IsNull (expr_of t))) (same a (ltb-true a place h))
same_term lit lit' f g count place lits same (Related which a b c d) h =
    four (λ s t u v. OfCond (bound.Related (plain_relation which) (expr_of s) (expr_of t) (expr_of u) (expr_of v))) f g
    place a b c d same h
same_term lit lit' f g count place lits same (ContainsPoint a b c) h =
    four (λ s t u v. OfCond (bound.ContainsPoint (expr_of s) (expr_of t) (expr_of u))) f g place a b c c same h
same_term lit lit' f g count place lits same (Not c) h =
    ap (λ t. OfCond (bound.Not (cond_of t))) (same c (ltb-true c place h))
same_term lit lit' f g count place lits same (And c d) h =
    two (λ s t. OfCond (bound.And (cond_of s) (cond_of t))) f g place c d same h
same_term lit lit' f g count place lits same (Or c d) h =
    two (λ s t. OfCond (bound.Or (cond_of s) (cond_of t))) f g place c d same h

-- with more literals, a node still refers only to existing ones
pub more_literals : (count more place : ℕ) (n : Node) → count ≤ more → IsTrue (reads_before count place n)
    → IsTrue (reads_before more place n)
more_literals count more place (Literal k) le h = let below = ltb-true k count h in lt-ltb k more (omega arith)
more_literals count more place _ le h = h

-- ---- for all kinds at once

-- each node adds one tree
pub length-terms_from : (lit : ℕ → Datum) (done : List Term) (ns : List Node)
    → length (terms_from lit done ns) ≡ length done + length ns
length-terms_from lit done [] = omega arith
length-terms_from lit done (n ∷ ns) =
    let x = node_term lit (term_in done) n in
    omega (arith, length-terms_from lit (done ++ x ∷ []) ns, length-append done (x ∷ []))

-- one more node adds its tree after the others
pub terms_from-last : (lit : ℕ → Datum) (done : List Term) (ns : List Node) (n : Node)
    → terms_from lit done (ns ++ n ∷ []) ≡ terms_from lit done ns ++ node_term lit (term_in (terms_from lit done ns))
    n ∷ []
terms_from-last lit done [] n = refl
terms_from-last lit done (m ∷ ns) n = terms_from-last lit (done ++ node_term lit (term_in done) m ∷ []) ns n

-- a node may be added if it refers only to what is before its position
pub all_read_before-last : (count place : ℕ) (ns : List Node) (n : Node) → IsTrue (all_read_before count place ns)
    → IsTrue (reads_before count (place + length ns) n) → IsTrue (all_read_before count place (ns ++ n ∷ []))
all_read_before-last count place [] n all last =
    and_from (reads_before count place n) true (subst (λ p. IsTrue (reads_before count p n)) (add-zero place) last) refl
all_read_before-last count place (m ∷ ns) n all last =
    let p = and_parts (reads_before count place m) (all_read_before count (place + 1) ns) all in
    let here : place + suc (length ns) ≡ place + 1 + length ns = omega arith in
    and_from (reads_before count place m) (all_read_before count (place + 1) (ns ++ n ∷ [])) p.0
    (all_read_before-last count (place + 1) ns n p.1 (subst (λ q. IsTrue (reads_before count q n)) here last))

-- the node at a position refers only to what is before it
pub reads_before_at : (count place : ℕ) (ns : List Node) (k : ℕ) (d : Node) → IsTrue (all_read_before count place ns)
    → k < length ns → IsTrue (reads_before count (place + k) (slice_index_or ns k d))
reads_before_at count place [] k d all within = absurd (omega arith)
reads_before_at count place (n ∷ ns) zero d all within =
    subst (λ p. IsTrue (reads_before count p n)) (sym (add-zero place))
    (and_parts (reads_before count place n) (all_read_before count (place + 1) ns) all).0
reads_before_at count place (n ∷ ns) (suc k) d all within =
    let here : place + 1 + k ≡ place + suc k = omega arith in
    subst (λ p. IsTrue (reads_before count p (slice_index_or ns k d))) here
    (reads_before_at count (place + 1) ns k d
    (and_parts (reads_before count place n) (all_read_before count (place + 1) ns) all).1 (omega arith))

-- more literals change no node and no tree
pub all_more_literals : (count more place : ℕ) (ns : List Node) → count ≤ more
    → IsTrue (all_read_before count place ns) → IsTrue (all_read_before more place ns)
all_more_literals count more place [] le all = refl
all_more_literals count more place (n ∷ ns) le all =
    let p = and_parts (reads_before count place n) (all_read_before count (place + 1) ns) all in
    and_from (reads_before more place n) (all_read_before more (place + 1) ns)
    (more_literals count more place n le p.0) (all_more_literals count more (place + 1) ns le p.1)

pub same_terms : (lit lit' : ℕ → Datum) (count place : ℕ) (done : List Term) (ns : List Node)
    → ((k : ℕ) → k < count → lit k ≡ lit' k) → IsTrue (all_read_before count place ns)
    → terms_from lit done ns ≡ terms_from lit' done ns
same_terms lit lit' count place done [] lits all = refl
same_terms lit lit' count place done (n ∷ ns) lits all =
    let p = and_parts (reads_before count place n) (all_read_before count (place + 1) ns) all in
    ap (λ t. terms_from lit (done ++ t ∷ []) ns)
    (same_term lit lit' (term_in done) (term_in done) count place lits (λ k h. refl) n p.0)
    ∙ same_terms lit lit' count (place + 1) (done ++ node_term lit' (term_in done) n ∷ []) ns lits p.1

-- the trees so far stay as they are
pub term_in_kept : (lit : ℕ → Datum) (done : List Term) (ns : List Node) (k : ℕ) → k < length done
    → term_in (terms_from lit done ns) k ≡ term_in done k
term_in_kept lit done [] k within = refl
term_in_kept lit done (n ∷ ns) k within =
    let x = node_term lit (term_in done) n in
    term_in_kept lit (done ++ x ∷ []) ns k (omega (arith, length-append done (x ∷ [])))
    ∙ get_or_append_left done (x ∷ []) (OfExpr (bound.Literal Null)) k within

-- the tree at a position is that of its node, given all trees
pub term_in_at : (lit : ℕ → Datum) (count : ℕ) (done : List Term) (ns : List Node) (place k : ℕ) (d : Node)
    → place ≡ length done → IsTrue (all_read_before count place ns) → k < length ns
    → term_in (terms_from lit done ns) (place + k) ≡ node_term lit (term_in (terms_from lit done ns))
    (slice_index_or ns k d)
term_in_at lit count done [] place k d is all within = absurd (omega arith)
term_in_at lit count done (n ∷ ns) place zero d is all within =
    let x = node_term lit (term_in done) n in
    let last = OfExpr (bound.Literal Null) in
    let more = done ++ x ∷ [] in
    let here : place + zero ≡ length done = omega arith in
    ap (term_in (terms_from lit more ns)) here
    ∙ term_in_kept lit more ns (length done) (omega (arith, length-append done (x ∷ [])))
    ∙ get_or-append_seam done x [] last
    ∙ same_term lit lit (term_in done) (term_in (terms_from lit more ns)) count place (λ j h. refl)
    (λ j h. sym (term_in_kept lit more ns j (omega (arith, length-append done (x ∷ [])))
    ∙ get_or_append_left done (x ∷ []) last j (omega arith)))
    n (and_parts (reads_before count place n) (all_read_before count (place + 1) ns) all).0
term_in_at lit count done (n ∷ ns) place (suc k) d is all within =
    let x = node_term lit (term_in done) n in
    let here : place + suc k ≡ place + 1 + k = omega arith in
    ap (term_in (terms_from lit (done ++ x ∷ []) ns)) here
    ∙ term_in_at lit count (done ++ x ∷ []) ns (place + 1) k d (omega (arith, length-append done (x ∷ [])))
    (and_parts (reads_before count place n) (all_read_before count (place + 1) ns) all).1 (omega arith)

-- ---- what the nodes of a statement need

-- the node at a position, and its tree
pub reads_before_here : (count : ℕ) (ns : List Node) (k : ℕ) (n : Node) → n ≡ slice_index_or ns k n → k < length ns
    → IsTrue (all_read_before count 0 ns) → IsTrue (reads_before count k n)
reads_before_here count ns k n is within all =
    subst (λ m. IsTrue (reads_before count k m)) (sym is)
    (subst (λ p. IsTrue (reads_before count p (slice_index_or ns k n))) (zero-add k)
    (reads_before_at count 0 ns k n all within))

pub term_here : (lit : ℕ → Datum) (count : ℕ) (ns : List Node) (k : ℕ) (n : Node) → n ≡ slice_index_or ns k n
    → k < length ns → IsTrue (all_read_before count 0 ns)
    → term_in (terms_from lit [] ns) k ≡ node_term lit (term_in (terms_from lit [] ns)) n
term_here lit count ns k n is within all =
    ap (term_in (terms_from lit [] ns)) (sym (zero-add k))
    ∙ term_in_at lit count [] ns 0 k n refl all within
    ∙ ap (node_term lit (term_in (terms_from lit [] ns))) (sym is)

pub size_is : (lit : ℕ → Datum) (ns : List Node) → length (terms_from lit [] ns) ≡ length ns
size_is lit ns = omega (arith, length-terms_from lit [] ns)

-- a node is added
pub node_ordered : (count : ℕ) (ns : List Node) (n : Node) → IsTrue (reads_before count (length ns) n)
    → IsTrue (all_read_before count 0 ns) → IsTrue (all_read_before count 0 (ns ++ n ∷ []))
node_ordered count ns n here all =
    all_read_before-last count 0 ns n all
    (subst (λ p. IsTrue (reads_before count p n)) (sym (zero-add (length ns))) here)

-- a literal is added, with its node
pub literal_ordered : (vs : List value.Value) (v : value.Value) (ns : List Node) (k : ℕ) → k ≡ length vs
    → IsTrue (all_read_before (length vs) 0 ns)
    → IsTrue (all_read_before (length (vs ++ v ∷ [])) 0 (ns ++ Literal k ∷ []))
literal_ordered vs v ns k is all =
    let more = length (vs ++ v ∷ []) in
    let size : more ≡ length vs + 1 = omega (arith, length-append vs (v ∷ [])) in
    node_ordered more ns (Literal k) (lt-ltb k more (omega arith))
    (all_more_literals (length vs) more 0 ns (omega arith) all)

pub literal_added : (vs : List value.Value) (v : value.Value) (ns : List Node) (k : ℕ) → k ≡ length vs
    → IsTrue (all_read_before (length vs) 0 ns)
    → terms_from (datum_at (vs ++ v ∷ [])) [] (ns ++ Literal k ∷ []) ≡ terms_from (datum_at vs) [] ns ++ OfExpr
    (bound.Literal (datum_of_value v)) ∷ []
literal_added vs v ns k is all =
    let lit = datum_at (vs ++ v ∷ []) in
    let here : lit k ≡ datum_of_value v = ap lit is ∙ ap datum_of_value (get_or-append_seam vs v [] value_is.Null) in
    terms_from-last lit [] ns (Literal k)
    ∙ ap (λ d. terms_from lit [] ns ++ OfExpr (bound.Literal d) ∷ []) here
    ∙ ap (λ ts. ts ++ OfExpr (bound.Literal (datum_of_value v)) ∷ [])
    (sym (same_terms (datum_at vs) lit (length vs) 0 [] ns
    (λ j h. ap datum_of_value (sym (get_or_append_left vs (v ∷ []) value_is.Null j h))) all))

-- ---- for additions

-- a tree is added after the others
pub adds_last : (old new : Terms) (place : ℕ) (t : Term) → trees new ≡ trees old ++ t ∷ [] → place ≡ size old
    → Adds old new place t
adds_last old new place t is here =
    let none = OfExpr (bound.Literal Null) in
    let more : size new ≡ size old + 1 = ap length is ∙ length-append (trees old) (t ∷ []) in
    record {
      stays = record {
        grows = omega arith;
        same = λ k h. ap (λ l. term_in l k) is ∙ get_or_append_left (trees old) (t ∷ []) none k h;
      };
      within = omega arith;
      is = ap (λ l. term_in l place) is ∙ ap (term_in (trees old ++ t ∷ [])) here
          ∙ get_or-append_seam (trees old) t [] none;
    }
