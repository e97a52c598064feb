-- Chains of FROM: the joins of a chain, and the list of chains.
use Rattle.std.specs.Prelude.{◌≡◌, refl, ℕ, suc, ◌+◌, ◌*◌, ◌<◌, ◌≤◌, List, [], ◌∷◌, ◌++◌, map, length, All, Option}
use Rattle.std.specs.Prelude.{sum_by}
use Rattle.std.proofs.Common.{sym, ap, ◌∙◌, subst, arith, drop, get_or, append_assoc}
use Rattle.std.proofs.lemmas.List.{at_drop_more, drop_all, get_or-map, length-map, map-append, length-append}
use Rattle.std.proofs.lemmas.List.Sums.{sum_by-cons, sum_by_push}
use Rattle.std.proofs.lemmas.List.Elements.{All-nil, All-cons, All-head, All-tail, All-push}
use Rattle.tql_spec.specs.Binding as binding
use Rattle.tql_spec.specs.Binding.{Joined, Linked, BoundReference, width_of}
use Rattle.tql_spec.specs.Definition.{TableDef}
use Rattle.tql_spec.specs.Names.{Checked, ◌>>=◌, sound, check_each}
use Rattle.tql_spec.specs.Query.{Ref}
use Rattle.tql_spec.specs.Refusal.{Refusal}
use Rattle.tql_spec.specs.Syntax.{JoinTree, ChainTree, chain_length}
use Rattle.tql_bound.specs.Queries.{join_of}
use Rattle.tql_bound.specs.References.{reference_of}
use Rattle.tql_expr.specs.Meaning.{Stays}
use Rattle.tql_expr.specs.declared.terms.Terms.{Terms}
use Rattle.tql_bind_expr.specs.Gathered.{Gathers}
use Rattle.tql_bind_expr.specs.Scopes.{scope_of}
use Rattle.tql_bind_expr.proofs.Arena.{stays_here, stays_along}
use Rattle.tql_bind_expr.proofs.Gathering.{EachLeads, each_on, each_ended, Leads, begun, gone_on, ended}
use Rattle.tql_bind_query.specs.From.{AddsJoin, BeginsChain, BindsChain, HasJoins, IsPlaced, PushesChain, joined_of}
use Rattle.tql_bind_query.specs.From.{linked_of, source_of}
use Rattle.tql_bind_query.specs.declared.from.Linked as code
use Rattle.tql_bind_query.proofs.FromLaws.{HasOn, joins_kept, joins_there}

-- ---- lists

-- the rest of a list from an index: its element and the elements after it
pub at_index : {X : Type 0} (xs : List X) (i : ℕ) (x : X) → i < length xs → x ≡ get_or xs i x
    → drop i xs ≡ x ∷ drop (i + 1) xs
at_index xs i x h is = at_drop_more (λ l. l) xs i x h ∙ ap (λ y. y ∷ drop (i + 1) xs) (sym is)

-- if two mapped lists are equal, their elements at an index are
pub same_at : {X Y A : Type 0} (f : X → A) (g : Y → A) (xs : List X) (ys : List Y) (i : ℕ) (x : X) (y : Y)
    → map f xs ≡ map g ys → i < length xs → i < length ys → x ≡ get_or xs i x → y ≡ get_or ys i y → f x ≡ g y
same_at f g xs ys i x y same here there is are =
    ap f is ∙ sym (get_or-map f xs i x (f x) here) ∙ ap (λ l. get_or l i (f x)) same
    ∙ get_or-map g ys i y (f x) there ∙ sym (ap g are)

-- two maps in sequence
map_twice : {X Y Z : Type 0} (h : Y → Z) (g : X → Y) (xs : List X) → map h (map g xs) ≡ map (λ x. h (g x)) xs
map_twice h g [] = refl
map_twice {X} {Y} {Z} h g (x ∷ xs) = ap {B = List Z} (λ l. h (g x) ∷ l) (map_twice h g xs)

-- an element that is pushed into an empty list is alone there
pub alone : {X : Type 0} (none ys : List X) (y : X) → none ≡ [] → ys ≡ none ++ y ∷ [] → ys ≡ y ∷ []
alone {X} none ys y empty is = is ∙ ap (λ (l : List X). l ++ y ∷ []) empty

-- the first element, followed by the others
pub first_shown : {X Y Z A : Type 0} (f : Y → A) (h : Z → A) (g : X → Z) (ys : List Y) (y : Y) (first : A) (xs : List X)
    → ys ≡ y ∷ [] → f y ≡ first → map f ys ++ map (λ x. h (g x)) xs ≡ first ∷ map h (map g xs)
first_shown {X} {Y} {Z} {A} f h g ys y first xs one is =
    ap (λ l. map f l ++ map (λ x. h (g x)) xs) one ∙ (λ i. is i ∷ sym (map_twice h g xs) i)

-- ---- joins

-- the rest of a chain, after these joins
abbrev pub rest : List TableDef → Ref → Joined → List JoinTree → Checked Linked
rest defs first so js =
    binding.joins defs so js >>= λ all. sound (record {
      chain = record { first = first; joins = all.joins };
      scope = all.scope;
      width = all.width;
    })

-- the next join, and the joins after it
rest_next : (defs : List TableDef) (first : Ref) (so : Joined) (j : JoinTree) (js : List JoinTree)
    → rest defs first so (j ∷ js) ≡ (binding.join defs so j >>= λ more. rest defs first more js)
rest_next defs first so j js =
    let here = binding.join defs so j in
    let later = binding.joins defs here.value js in
    λ i. record { faults = append_assoc here.faults later.faults [] i; value = (rest defs first so (j ∷ js)).value }

-- the joins so far are bound, and with the remaining ones they give the whole chain
pub record ChainLeads (defs : List TableDef) (c : ChainTree) (start : Terms) (old : Option Refusal) (t : Terms)
    (l : code.Linked) (left : List JoinTree) (now : Option Refusal) (i : ℕ) : Type 0 where
  pub stays : Stays start t
  pub held : HasJoins t l
  pub placed : IsPlaced l
  pub counted : length l.scope.items ≡ suc i
  pub leads : Leads (binding.chain defs c) old (rest defs (reference_of l.chain.first) (joined_of t l) left) now

-- no join so far
pub chain_begun : (defs : List TableDef) (c : ChainTree) (start : Terms) (old now : Option Refusal) (l : code.Linked)
    → BeginsChain defs c.first old now l → ChainLeads defs c start old start l c.joins now 0
chain_begun defs c start old now l b =
    let s = source_of b.source in
    let from : BoundReference → Checked Linked = λ s. rest defs s.ref (record {
      joins = [];
      scope = s.known ∷ [];
      width = width_of s;
    }) c.joins in
    let is : from s ≡ rest defs (reference_of l.chain.first) (joined_of start l) c.joins =
    λ i. rest defs (reference_of (sym b.first i)) (record {
      joins = map (join_of start) (sym b.joins i);
      scope = scope_of (sym b.scope i);
      width = sym b.width i;
    }) c.joins in
    record {
      stays = stays_here start;
      held = subst (All (HasOn start)) (sym b.joins) (All-nil (HasOn start));
      placed = b.placed;
      counted = ap length b.scope;
      leads = subst (λ (d : Checked Linked). Leads (binding.chain defs c) old d now) is
          (begun (binding.source defs 0 c.first) from old now s b.bound);
    }

-- one more join
pub chain_next : (defs : List TableDef) (c : ChainTree) (start : Terms) (old : Option Refusal) (t u : Terms)
    (l m : code.Linked) (j : JoinTree) (left : List JoinTree) (mid now : Option Refusal) (i : ℕ)
    → ChainLeads defs c start old t l (j ∷ left) mid i → Stays t u → AddsJoin defs j mid now t u l m
    → ChainLeads defs c start old u m left now (i + 1)
chain_next defs c start old t u l m j left mid now i so s a =
    let first = reference_of l.chain.first in
    let whole = binding.chain defs c in
    let step = subst (λ (d : Checked Linked). Leads whole old d mid) (rest_next defs first (joined_of t l) j left)
    so.leads in
    let led = gone_on whole old (binding.join defs (joined_of t l) j) (λ more. rest defs first more left) mid now
    (joined_of u m) step a.bound in
    record {
      stays = stays_along so.stays s;
      held = a.held;
      placed = a.placed;
      counted = a.counted ∙ ap suc so.counted ∙ omega arith;
      leads = subst (λ r. Leads whole old (rest defs (reference_of r) (joined_of u m) left) now) (sym a.first) led;
    }

-- the join at an index
pub chain_item : {X : Type 0} (g : X
    → JoinTree) (defs : List TableDef) (c : ChainTree) (start : Terms) (old : Option Refusal) (t u : Terms)
    (l m : code.Linked) (xs : List X) (i : ℕ) (x : X) (mid now : Option Refusal)
    → i < length xs → x ≡ get_or xs i x → ChainLeads defs c start old t l (map g (drop i xs)) mid i → Stays t u
    → AddsJoin defs (g x) mid now t u l m
    → ChainLeads defs c start old u m (map g (drop (i + 1) xs)) now (i + 1)
chain_item {X} g defs c start old t u l m xs i x mid now within is so s a =
    chain_next defs c start old t u l m (g x) (map g (drop (i + 1) xs)) mid now i
    (subst (λ (left : List X). ChainLeads defs c start old t l (map g left) mid i) (at_index xs i x within is) so) s a

-- no join remains
pub chain_done : {X : Type 0} (g : X
    → JoinTree) (defs : List TableDef) (c : ChainTree) (start : Terms) (old : Option Refusal) (t : Terms)
    (l : code.Linked) (xs : List X) (i : ℕ) (now : Option Refusal)
    → c.joins ≡ map g xs → length xs ≤ i → i ≤ length xs → ChainLeads defs c start old t l (map g (drop i xs)) now i
    → BindsChain defs c old now t l
chain_done {X} g defs c start old t l xs i now all past within so =
    let whole = binding.chain defs c in
    let none = subst (λ (left : List X). Leads whole old
    (rest defs (reference_of l.chain.first) (joined_of t l) (map g left)) now) (drop_all i xs past) so.leads in
    let count : length c.joins ≡ length xs = ap length all ∙ length-map xs g in
    record {
      bound = ended whole old now (linked_of t l) none;
      held = so.held;
      placed = so.placed;
      narrow = omega (arith, so.placed.narrow, so.counted, count, past, within);
    }

-- if a mapped list is a first element and another mapped list, the elements after the first are equal at an index
pub behind_at : {X Y Z A : Type 0} (f : Y → A) (h : Z → A) (g : X
    → Z) (ns : List Y) (xs : List X) (first : A) (i : ℕ) (n : Y) (x : X)
    → map f ns ≡ first ∷ map h (map g xs) → i < length xs → n ≡ get_or ns (suc i) n → x ≡ get_or xs i x → f n ≡ h (g x)
behind_at f h g [] xs first i n x same within is are = absurd (cc)
behind_at {X} {Y} {Z} {A} f h g (m ∷ ns) xs first i n x same within is are =
    let shown : X → A = λ x. h (g x) in
    let tails : map f ns ≡ map shown xs = ap (drop 1) same ∙ map_twice h g xs in
    let there : i < length ns = omega (arith, sym (length-map ns f) ∙ ap length tails ∙ length-map xs shown, within) in
    same_at f shown ns xs i n x tails there within is are

-- the first of these lists is one longer than the other
pub behind_length : {X Y Z A : Type 0} (f : Y → A) (h : Z → A) (g : X → Z) (ns : List Y) (xs : List X) (first : A)
    → map f ns ≡ first ∷ map h (map g xs) → length ns ≡ suc (length xs)
behind_length f h g ns xs first same =
    sym (length-map ns f) ∙ ap length same ∙ ap suc (length-map (map g xs) h ∙ length-map xs g)

-- ---- chains

-- chains keep their meaning
pub chains_kept : {t u : Terms} → Stays t u → (ls : List code.Linked) → All (HasJoins t) ls
    → map (linked_of u) ls ≡ map (linked_of t) ls
chains_kept {t} {u} s [] h = refl
chains_kept {t} {u} s (l ∷ ls) h =
    let here = joins_kept s l.chain.joins.items (All-head (HasJoins t) l ls h) in
    let later = chains_kept s ls (All-tail (HasJoins t) l ls h) in
    λ i. record {
      chain = record { first = reference_of l.chain.first; joins = here i };
      scope = scope_of l.scope.items;
      width = l.width;
    } ∷ later i

pub chains_there : {t u : Terms} → Stays t u → (ls : List code.Linked) → All (HasJoins t) ls → All (HasJoins u) ls
chains_there {t} {u} s [] h = All-nil (HasJoins u)
chains_there {t} {u} s (l ∷ ls) h =
    All-cons (HasJoins u) l ls (joins_there s l.chain.joins.items (All-head (HasJoins t) l ls h))
    (chains_there s ls (All-tail (HasJoins t) l ls h))

-- the number of columns of chains
abbrev pub widths : List code.Linked → ℕ
widths ls = sum_by (λ (l : code.Linked). l.width) ls

-- the chains so far are bound, and with the remaining ones they give all
pub record ChainsLead (defs : List TableDef) (all : List ChainTree) (start : Terms) (old : Option Refusal)
    (t : Terms) (ls : List code.Linked) (left : List ChainTree) (now : Option Refusal) : Type 0 where
  pub stays : Stays start t
  pub held : All (HasJoins t) ls
  pub placed : All IsPlaced ls
  pub fits : widths ls + 64 * sum_by chain_length left ≤ 512
  pub leads : EachLeads (binding.chain defs) all old (map (linked_of t) ls) left now

-- no chain so far
pub chains_begun : (defs : List TableDef) (c : ChainTree) (more : List ChainTree) (start : Terms)
    (old : Option Refusal) (ls : List code.Linked)
    → ls ≡ [] → chain_length c + sum_by chain_length more ≤ 8
    → ChainsLead defs (c ∷ more) start old start ls (c ∷ more) old
chains_begun defs c more start old ls empty few =
    subst (λ (xs : List code.Linked). ChainsLead defs (c ∷ more) start old start xs (c ∷ more) old) (sym empty)
    (record {
      stays = stays_here start;
      held = All-nil (HasJoins start);
      placed = All-nil IsPlaced;
      fits = omega (arith, few, sum_by-cons chain_length c more);
      leads = record { value = refl; least = refl };
    })

-- one more chain
pub chains_next : (defs : List TableDef) (all : List ChainTree) (start : Terms) (old : Option Refusal) (t u : Terms)
    (ls ms : List code.Linked) (c : ChainTree) (left : List ChainTree) (mid now : Option Refusal)
    → ChainsLead defs all start old t ls (c ∷ left) mid → Stays t u → PushesChain defs c mid now u ls ms
    → ChainsLead defs all start old u ms left now
chains_next defs all start old t u ls ms c left mid now so s p =
    let l = p.linked in
    let grown : map (linked_of u) ms ≡ map (linked_of t) ls ++ linked_of u l ∷ [] =
    ap (map (linked_of u)) p.items ∙ map-append (linked_of u) ls (l ∷ [])
    ∙ ap (λ (xs : List Linked). xs ++ linked_of u l ∷ []) (chains_kept s ls so.held) in
    let wider : widths ms ≡ widths ls + l.width = ap widths p.items ∙ sum_by_push (λ (l : code.Linked). l.width) ls l in
    record {
      stays = stays_along so.stays s;
      held = subst (All (HasJoins u)) (sym p.items)
          (All-push (HasJoins u) ls l (chains_there s ls so.held) p.binds.held);
      placed = subst (All IsPlaced) (sym p.items) (All-push IsPlaced ls l so.placed p.binds.placed);
      fits = omega (arith, wider, so.fits, p.binds.narrow, sum_by-cons chain_length c left);
      leads =
          subst (λ (xs : List Linked). EachLeads (binding.chain defs) all old xs left now) (sym grown)
          (each_on (binding.chain defs) all old (map (linked_of t) ls) c left mid now (linked_of u l) so.leads
          p.binds.bound);
    }

-- the next chain has at most 8 references
pub next_few : (defs : List TableDef) (all : List ChainTree) (start : Terms) (old : Option Refusal) (t : Terms)
    (ls : List code.Linked) (c : ChainTree) (left : List ChainTree) (now : Option Refusal)
    → ChainsLead defs all start old t ls (c ∷ left) now → chain_length c ≤ 8
next_few defs all start old t ls c left now so = omega (arith, so.fits, sum_by-cons chain_length c left)

-- the chain at an index
pub chains_item : {X : Type 0} (g : X
    → ChainTree) (defs : List TableDef) (all : List ChainTree) (start : Terms) (old : Option Refusal) (t u : Terms)
    (ls ms : List code.Linked) (xs : List X) (i : ℕ) (x : X) (mid now : Option Refusal)
    → i < length xs → x ≡ get_or xs i x → ChainsLead defs all start old t ls (map g (drop i xs)) mid → Stays t u
    → PushesChain defs (g x) mid now u ls ms
    → ChainsLead defs all start old u ms (map g (drop (i + 1) xs)) now
chains_item {X} g defs all start old t u ls ms xs i x mid now within is so s p =
    chains_next defs all start old t u ls ms (g x) (map g (drop (i + 1) xs)) mid now
    (subst (λ (left : List X). ChainsLead defs all start old t ls (map g left) mid) (at_index xs i x within is) so) s p

-- it has at most 8 references
pub item_few : {X : Type 0} (g : X
    → ChainTree) (defs : List TableDef) (all : List ChainTree) (start : Terms) (old : Option Refusal) (t : Terms)
    (ls : List code.Linked) (xs : List X) (i : ℕ) (x : X) (now : Option Refusal)
    → i < length xs → x ≡ get_or xs i x → ChainsLead defs all start old t ls (map g (drop i xs)) now
    → chain_length (g x) ≤ 8
item_few {X} g defs all start old t ls xs i x now within is so =
    next_few defs all start old t ls (g x) (map g (drop (i + 1) xs)) now
    (subst (λ (left : List X). ChainsLead defs all start old t ls (map g left) now) (at_index xs i x within is) so)

-- no chain remains
pub chains_done : {X : Type 0} (g : X
    → ChainTree) (defs : List TableDef) (all : List ChainTree) (start : Terms) (old : Option Refusal) (t : Terms)
    (ls : List code.Linked) (xs : List X) (i : ℕ) (now : Option Refusal)
    → length xs ≤ i → ChainsLead defs all start old t ls (map g (drop i xs)) now
    → Gathers (check_each (binding.chain defs) all) old now (map (linked_of t) ls)
chains_done {X} g defs all start old t ls xs i now past so =
    each_ended (binding.chain defs) all old (map (linked_of t) ls) now
    (subst (λ (left : List X). EachLeads (binding.chain defs) all old (map (linked_of t) ls) (map g left) now)
    (drop_all i xs past) so.leads)

-- one more element adds 1 to the length
pub one_counted : {X : Type 0} (xs ys : List X) (x : X) → ys ≡ xs ++ x ∷ [] → length ys ≡ length xs + 1
one_counted xs ys x is = ap length is ∙ length-append xs (x ∷ [])
