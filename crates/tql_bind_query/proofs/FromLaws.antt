-- The chains of FROM, from their parts.
use Rattle.std.specs.Prelude.{◌≡◌, refl, ℕ, suc, ◌+◌, ◌≤◌, List, [], ◌∷◌, ◌++◌, map, length, All, Option}
use Rattle.std.proofs.Common.{sym, ap, ◌∙◌, subst, arith}
use Rattle.std.proofs.lemmas.List.{map-append, length-append}
use Rattle.std.proofs.lemmas.List.Elements.{All-nil, All-cons, All-head, All-tail, All-push}
use Rattle.tql_spec.specs.Binding as binding
use Rattle.tql_spec.specs.Binding.{Joined, BoundReference, known_as, add_join, table_number, when}
use Rattle.tql_spec.specs.Definition.{TableDef, table_at}
use Rattle.tql_spec.specs.Expression.{Cond}
use Rattle.tql_spec.specs.History.{When}
use Rattle.tql_spec.specs.Names as names
use Rattle.tql_spec.specs.Names.{Checked, ◌>>=◌, sound}
use Rattle.tql_spec.specs.Query as query
use Rattle.tql_spec.specs.Query.{Ref}
use Rattle.tql_spec.specs.Refusal.{Refusal}
use Rattle.tql_spec.specs.Syntax.{RefTree, JoinTree, InnerJoin, LeftJoin, CrossJoin}
use Rattle.tql_spec.specs.Words.{listed}
use Rattle.tql_bound.specs.Queries.{join_by, join_of}
use Rattle.tql_bound.specs.References.{reference_of}
use Rattle.tql_bound.specs.declared.query.Join.{Join}
use Rattle.tql_expr.specs.Meaning.{cond, HasCond, Stays}
use Rattle.tql_expr.specs.declared.terms.Terms.{Terms}
use Rattle.tql_bind_expr.specs.Gathered.{Gathers}
use Rattle.tql_bind_expr.specs.Scopes.{known_of, scope_of}
use Rattle.tql_bind_expr.specs.declared.scope.Known.{Known}
use Rattle.tql_bind_expr.proofs.Gathering.{bound, sound_here}
use Rattle.tql_bind_cond.proofs.Lists.{conds_kept, conds_there}
use Rattle.tql_bind_query.specs.From.{source_by}
use Rattle.tql_bind_query.specs.From.{AddsJoin, HasJoins, IsPlaced, joined_of, kind_in, on_in, reference_in, source_of}
use Rattle.tql_bind_query.specs.declared.from.Linked.{Linked}
use Rattle.tql_bind_query.specs.declared.sources.BoundReference as code

-- ---- a reference

-- the scope entry of a reference to a table
abbrev pub known_at : RefTree → ℕ → TableDef → names.Known
known_at r offset d = record {
  name = known_as r r.alias;
  columns = d.columns;
  applications = listed d.application;
  system = d.system;
  offset = offset;
}

-- a reference, from its table and its versions
pub source_bound : (defs : List TableDef) (r : RefTree) (offset : ℕ) (old a new : Option Refusal) (t : ℕ)
    (d : TableDef) (w : When) (n : ℕ) (k : names.Known)
    → Gathers (table_number defs r.table) old a t → d ≡ table_at defs t → Gathers (when d r.span) a new w
    → n ≡ length d.columns
    → k ≡ known_at r offset d
    → Gathers (binding.source defs offset r) old new (source_by (record { table = t; when = w; width = n }) k)
source_bound defs r offset old a new t d w n k table there versions width known =
    let ref_at : TableDef → ℕ → When → Ref = λ d t w. record { table = t; when = w; width = length d.columns } in
    let last : TableDef → ℕ → When → Checked BoundReference =
    λ d t w. sound (source_by (ref_at d t w) (known_at r offset d)) in
    let found : TableDef → ℕ → Checked BoundReference = λ d t. when d r.span >>= last d t in
    let s : BoundReference = source_by (ref_at d t w) (known_at r offset d) in
    let is_source : s ≡ source_by (record { table = t; when = w; width = n }) k =
    sym (λ i. source_by (record { table = t; when = w; width = width i }) (known i)) in
    let behind : Gathers (found d t) a new s =
    bound (when d r.span) (last d t) a new new w s versions (sound_here s new) in
    subst (λ (x : BoundReference). Gathers (binding.source defs offset r) old new x) is_source
    (bound (table_number defs r.table) (λ t. found (table_at defs t) t) old a new t s table
    (subst (λ (e : TableDef). Gathers (found e t) a new s) there behind))

-- ---- a join

-- a join, from its parts
join_parts : (defs : List TableDef) (so : Joined) (j : JoinTree)
    → binding.join defs so j
    ≡ (binding.source defs so.width (reference_in j) >>= λ s. on_in (so.scope ++ s.known ∷ []) j >>= λ on. sound
    (add_join so s (join_by (kind_in j) s.ref on)))
join_parts defs so (InnerJoin r c) = refl
join_parts defs so (LeftJoin r c) = refl
join_parts defs so (CrossJoin r) = refl

-- a join is bound if its parts are
join_bound : (defs : List TableDef) (so : Joined) (j : JoinTree) (old mid new : Option Refusal) (s : BoundReference)
    (on : List Cond)
    → Gathers (binding.source defs so.width (reference_in j)) old mid s
    → Gathers (on_in (so.scope ++ s.known ∷ []) j) mid new on
    → Gathers (binding.join defs so j) old new (add_join so s (join_by (kind_in j) s.ref on))
join_bound defs so j old mid new s on source conjuncts =
    let last : BoundReference → List Cond → Checked Joined =
    λ s on. sound (add_join so s (join_by (kind_in j) s.ref on)) in
    let rest : BoundReference → Checked Joined = λ s. on_in (so.scope ++ s.known ∷ []) j >>= last s in
    let x : Joined = add_join so s (join_by (kind_in j) s.ref on) in
    subst (λ (c : Checked Joined). Gathers c old new x) (sym (join_parts defs so j))
    (bound (binding.source defs so.width (reference_in j)) rest old mid new s x source
    (bound (on_in (so.scope ++ s.known ∷ []) j) (last s) mid new new on x conjuncts (sound_here x new)))

-- the conjuncts of an ON are in the arena
abbrev pub HasOn : Terms → Join → Type 0
HasOn t j = All (HasCond t) j.on.items

-- joins keep their meaning
pub joins_kept : {t u : Terms} → Stays t u → (js : List Join) → All (HasOn t) js
    → map (join_of u) js ≡ map (join_of t) js
joins_kept {t} {u} s [] h = refl
joins_kept {t} {u} s (j ∷ js) h =
    let here = conds_kept s j.on.items (All-head (HasOn t) j js h) in
    let later = joins_kept s js (All-tail (HasOn t) j js h) in
    λ i. join_by j.kind (reference_of j.reference) (here i) ∷ later i

pub joins_there : {t u : Terms} → Stays t u → (js : List Join) → All (HasOn t) js → All (HasOn u) js
joins_there {t} {u} s [] h = All-nil (HasOn u)
joins_there {t} {u} s (j ∷ js) h =
    All-cons (HasOn u) j js (conds_there s j.on.items (All-head (HasOn t) j js h))
    (joins_there s js (All-tail (HasOn t) j js h))

-- columns within a width are within a greater one
abbrev pub Within : ℕ → Known → Type 0
Within n k = k.offset + length k.columns.now ≤ n

pub within_more : (m n : ℕ) → m ≤ n → (ks : List Known) → All (Within m) ks → All (Within n) ks
within_more m n more [] h = All-nil (Within n)
within_more m n more (k ∷ ks) h =
    let here = All-head (Within m) k ks h in
    All-cons (Within n) k ks (omega (arith, here, more)) (within_more m n more ks (All-tail (Within m) k ks h))

-- one more join is added after the others
pub join_added : (defs : List TableDef) (j : JoinTree) (old mid new : Option Refusal) (t u : Terms) (l m : Linked)
    (s : code.BoundReference) (x : Join)
    → Gathers (binding.source defs l.width (reference_in j)) old mid (source_of s)
    → Gathers (on_in (scope_of (l.scope.items ++ s.known ∷ [])) j) mid new (map (cond u) x.on.items)
    → s.known.offset + length s.known.columns.now ≡ l.width + s.reference.width → s.reference.width ≤ 64
    → Stays t u → All (HasCond u) x.on.items → HasJoins t l → IsPlaced l
    → x.kind ≡ kind_in j → x.reference ≡ s.reference
    → m.chain.first ≡ l.chain.first → m.chain.joins.items ≡ l.chain.joins.items ++ x ∷ []
    → m.scope.items ≡ l.scope.items ++ s.known ∷ [] → m.width ≡ l.width + s.reference.width
    → AddsJoin defs j old new t u l m
join_added defs j old mid new t u l m s x source on stands narrow stays there held placed kind reference first joins
    scope width =
    let so = joined_of t l in
    let known : names.Known = known_of s.known in
    let conds : List Cond = map (cond u) x.on.items in
    let made : query.Join = join_by (kind_in j) (reference_of s.reference) conds in
    let scopes : scope_of m.scope.items ≡ scope_of l.scope.items ++ known ∷ [] = ap scope_of scope
    ∙ map-append known_of l.scope.items (s.known ∷ []) in
    let is_made : join_of u x ≡ made = λ i. join_by (kind i) (reference_of (reference i)) conds in
    let all_joins : map (join_of u) m.chain.joins.items ≡ map (join_of t) l.chain.joins.items ++ made ∷ [] =
    ap (map (join_of u)) joins ∙ map-append (join_of u) l.chain.joins.items (x ∷ [])
    ∙ (λ i. joins_kept stays l.chain.joins.items held i ++ is_made i ∷ []) in
    let is : add_join so (source_of s) made ≡ joined_of u m = λ i. record {
      joins = sym all_joins i;
      scope = sym scopes i;
      width = sym width i;
    } in
    let conjuncts = subst (λ (ks : List names.Known). Gathers (on_in ks j) mid new conds)
    (map-append known_of l.scope.items (s.known ∷ [])) on in
    let wider : l.width ≤ m.width = omega (arith, width) in
    let here : Within m.width s.known = omega (arith, width, stands) in
    let count : length m.scope.items ≡ suc (length l.scope.items) = ap length scope
    ∙ length-append l.scope.items (s.known ∷ []) ∙ omega arith in
    record {
      bound = subst (λ (y : Joined). Gathers (binding.join defs so j) old new y) is
          (join_bound defs so j old mid new (source_of s) conds source conjuncts);
      first = first;
      held = subst (All (HasOn u)) (sym joins)
          (All-push (HasOn u) l.chain.joins.items x (joins_there stays l.chain.joins.items held) there);
      placed = record {
        within = subst (All (Within m.width)) (sym scope)
            (All-push (Within m.width) l.scope.items s.known
            (within_more l.width m.width wider l.scope.items placed.within) here);
        narrow = omega (arith, width, narrow, placed.narrow, count);
      };
      counted = count;
    }

-- ---- a chain

-- a single reference lies within its width
pub begun_placed : (l : Linked) (s : code.BoundReference) → l.scope.items ≡ s.known ∷ []
    → s.known.offset + length s.known.columns.now ≡ 0 + s.reference.width
    → l.width ≡ s.reference.width → s.reference.width ≤ 64 → IsPlaced l
begun_placed l s scope stands width narrow =
    let count : length l.scope.items ≡ 1 = ap length scope in
    let here : Within l.width s.known = omega (arith, width, stands) in
    record {
      within = subst (All (Within l.width)) (sym scope)
          (All-cons (Within l.width) s.known [] here (All-nil (Within l.width)));
      narrow = omega (arith, width, narrow, count);
    }
