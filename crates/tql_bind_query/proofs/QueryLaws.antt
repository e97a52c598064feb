-- A query from its parts.
use Rattle.std.specs.Prelude.{◌≡◌, refl, ℕ, List, [], ◌∷◌, ◌++◌, map, All, Option}
use Rattle.std.proofs.Common.{ap, ◌∙◌, subst, append_assoc, append-nil}
use Rattle.std.proofs.lemmas.List.Elements.{All-nil, All-cons, All-head, All-tail}
use Rattle.tql_spec.specs.Binding.{Linked, Output, Selected, chain, group_column, grouping_faults, grouping_of}
use Rattle.tql_spec.specs.Binding.{is_grouped, order_key, plain_filter, outputs, select, whole_scope}
use Rattle.tql_spec.specs.Definition.{TableDef}
use Rattle.tql_spec.specs.Expression.{Cond}
use Rattle.tql_spec.specs.Names.{Checked, ◌>>=◌, sound, refuse_if, check_each, Known, optional_conjuncts}
use Rattle.tql_spec.specs.Query as query
use Rattle.tql_spec.specs.Query.{OrderKey}
use Rattle.tql_spec.specs.Refusal.{Refusal, FormNotAllowedHere}
use Rattle.tql_spec.specs.Syntax.{OrderTree, SelectTree}
use Rattle.tql_bound.specs.Queries.{chain_of}
use Rattle.tql_bound.specs.declared.query.Chain.{Chain}
use Rattle.tql_bound.specs.declared.query.Join.{Join}
use Rattle.tql_expr.specs.Meaning.{HasCond, Stays}
use Rattle.tql_expr.specs.declared.terms.Terms.{Terms}
use Rattle.tql_bind_expr.specs.Gathered.{Gathers}
use Rattle.tql_bind_expr.proofs.Gathering.{bound, sound_here}
use Rattle.tql_bind_query.specs.From.{HasJoins, linked_of}
use Rattle.tql_bind_query.specs.declared.from.Linked as code
use Rattle.tql_bind_query.specs.Selecting.{Clauses, clauses, selected, selected_by, selected_over, unrepeated}
use Rattle.tql_bind_query.specs.Shown.{Shown, shown, shown_by}
use Rattle.tql_bind_query.proofs.ChainLaws.{chains_kept}

-- ---- the parts are the whole

regrouped : (c u f g h o v k : List Refusal)
    → c ++ (u ++ ((f ++ (g ++ (h ++ ((o ++ []) ++ (v ++ []))))) ++ (k ++ []))) ≡ c ++
    (u ++ (f ++ (g ++ (h ++ (o ++ (v ++ (k ++ [])))))))
regrouped c u f g h o v k = simp (append_assoc, append-nil)

same_faults : (defs : List TableDef) (s : SelectTree) (keys : List OrderTree)
    → (selected defs s keys).faults ≡ (select defs s keys).faults
same_faults defs s keys =
    let c : Checked (List Linked) = check_each (chain defs) (s.first ∷ s.more) in
    let scope : List Known = whole_scope 0 c.value in
    let g : Checked (List ℕ) = check_each (group_column scope) s.grouping in
    let h : Checked (List Cond) = optional_conjuncts scope s.having in
    let o : Checked (List Output) = outputs scope s.items in
    let w : Shown = shown_by o.value in
    let v : Checked (Unit {0}) =
    refuse_if (grouping_faults (is_grouped s w.items h.value) g.value s w.items h.value) FormNotAllowedHere in
    let k : Checked (List OrderKey) = check_each (order_key w.headings) keys in
    regrouped c.faults (unrepeated scope).faults (plain_filter scope s.filter).faults g.faults h.faults o.faults
    v.faults k.faults

same_value : (defs : List TableDef) (s : SelectTree) (keys : List OrderTree)
    → (selected defs s keys).value ≡ (select defs s keys).value
same_value defs s keys = refl

pub selected_is : (defs : List TableDef) (s : SelectTree) (keys : List OrderTree)
    → selected defs s keys ≡ select defs s keys
selected_is defs s keys = λ i. record { faults = same_faults defs s keys i; value = same_value defs s keys i }

-- ---- the whole from the parts

-- the clauses
pub clauses_bound : (scope : List Known) (s : SelectTree) (old a b c d new : Option Refusal) (filter : List Cond)
    (groups : List ℕ) (having : List Cond) (what : Shown)
    → Gathers (plain_filter scope s.filter) old a filter
    → Gathers (check_each (group_column scope) s.grouping) a b groups
    → Gathers (optional_conjuncts scope s.having) b c having
    → Gathers (shown scope s.items) c d what
    → Gathers (refuse_if (grouping_faults (is_grouped s what.items having) groups s what.items having)
    FormNotAllowedHere) d new tt
    → Gathers (clauses scope s) old new (record {
      filter = filter;
      grouping = grouping_of (is_grouped s what.items having) groups;
      having = having;
      what = what;
    })
clauses_bound scope s old a b c d new filter groups having what filtered grouped judged listed refused =
    let made : List Cond → List ℕ → List Cond → Shown → Clauses =
    λ f g h w. record { filter = f; grouping = grouping_of (is_grouped s w.items h) g; having = h; what = w } in
    let refusal : List ℕ → List Cond → Shown
    → Checked (Unit {0}) = λ g h w. refuse_if (grouping_faults (is_grouped s w.items h) g s w.items h)
    FormNotAllowedHere in
    let last : List Cond → List ℕ → List Cond → Shown
    → Checked Clauses = λ f g h w. refusal g h w >>= λ v. sound (made f g h w) in
    let third : List Cond → List ℕ → List Cond → Checked Clauses = λ f g h. shown scope s.items >>= last f g h in
    let second : List Cond → List ℕ → Checked Clauses = λ f g. optional_conjuncts scope s.having >>= third f g in
    let first : List Cond → Checked Clauses = λ f. check_each (group_column scope) s.grouping >>= second f in
    let x : Clauses = made filter groups having what in
    bound (plain_filter scope s.filter) first old a new filter x filtered
    (bound (check_each (group_column scope) s.grouping) (second filter) a b new groups x grouped
    (bound (optional_conjuncts scope s.having) (third filter groups) b c new having x judged
    (bound (shown scope s.items) (last filter groups having) c d new what x listed
    (bound (refusal groups having what) (λ v. sound (made filter groups having what)) d new new tt x refused
    (sound_here x new)))))

-- the query
pub select_bound : (defs : List TableDef) (s : SelectTree) (keys : List OrderTree) (old a b c new : Option Refusal)
    (ls : List Linked) (scope : List Known) (cl : Clauses) (order : List OrderKey)
    → Gathers (check_each (chain defs) (s.first ∷ s.more)) old a ls → scope ≡ whole_scope 0 ls
    → Gathers (unrepeated scope) a b tt → Gathers (clauses scope s) b c cl
    → Gathers (check_each (order_key cl.what.headings) keys) c new order
    → Gathers (select defs s keys) old new (selected_by (map (λ (l : Linked). l.chain) ls) s.distinct cl order)
select_bound defs s keys old a b c new ls scope cl order linked whole names bound_clauses ordered =
    let made : List Linked → Clauses → List OrderKey
    → Selected = λ ls cl order. selected_by (map (λ (l : Linked). l.chain) ls) s.distinct cl order in
    let last : List Linked → Clauses → List OrderKey → Checked Selected = λ ls cl order. sound (made ls cl order) in
    let third : List Linked → Clauses
    → Checked Selected = λ ls cl. check_each (order_key cl.what.headings) keys >>= last ls cl in
    let first : List Linked → Checked Selected = λ ls. unrepeated (whole_scope 0 ls) >>= λ u. selected_over ls s keys in
    let x : Selected = made ls cl order in
    let named : Gathers (unrepeated (whole_scope 0 ls)) a b tt =
    subst (λ (k : List Known). Gathers (unrepeated k) a b tt) whole names in
    let claused : Gathers (clauses (whole_scope 0 ls) s) b c cl =
    subst (λ (k : List Known). Gathers (clauses k s) b c cl) whole bound_clauses in
    subst (λ (d : Checked Selected). Gathers d old new x) (selected_is defs s keys)
    (bound (check_each (chain defs) (s.first ∷ s.more)) first old a new ls x linked
    (bound (unrepeated (whole_scope 0 ls)) (λ u. selected_over ls s keys) a b new tt x named
    (bound (clauses (whole_scope 0 ls) s) (third ls) b c new cl x claused
    (bound (check_each (order_key cl.what.headings) keys) (last ls cl) c new new order x ordered (sound_here x new)))))

-- ---- the chains alone

-- the conjuncts of each ON are in the arena
pub alone_there : (t : Terms) (ls : List code.Linked) → All (HasJoins t) ls
    → All (λ (c : Chain). All (λ (j : Join). All (HasCond t) j.on.items) c.joins.items)
    (map (λ (l : code.Linked). l.chain) ls)
alone_there t [] h = All-nil (λ (c : Chain). All (λ (j : Join). All (HasCond t) j.on.items) c.joins.items)
alone_there t (l ∷ ls) h =
    All-cons (λ (c : Chain). All (λ (j : Join). All (HasCond t) j.on.items) c.joins.items) l.chain
    (map (λ (l : code.Linked). l.chain) ls)
    (All-head (HasJoins t) l ls h) (alone_there t ls (All-tail (HasJoins t) l ls h))

chains_of_linked : (t : Terms) (ls : List code.Linked)
    → map (chain_of t) (map (λ (l : code.Linked). l.chain) ls) ≡ map (λ (l : Linked). l.chain) (map (linked_of t) ls)
chains_of_linked t [] = refl
chains_of_linked t (l ∷ ls) = ap (λ (cs : List query.Chain). chain_of t l.chain ∷ cs) (chains_of_linked t ls)

-- they are the chains that were bound, whatever terms were added since
pub alone_kept : (t u : Terms) (ls : List code.Linked) (cs : List Chain) → Stays t u → All (HasJoins t) ls
    → cs ≡ map (λ (l : code.Linked). l.chain) ls
    → map (chain_of u) cs ≡ map (λ (l : Linked). l.chain) (map (linked_of t) ls)
alone_kept t u ls cs s h is =
    ap (map (chain_of u)) is ∙ chains_of_linked u ls ∙ ap (map (λ (l : Linked). l.chain)) (chains_kept s ls h)
