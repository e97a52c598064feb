-- The references of all chains in scope.
use Rattle.std.specs.Prelude.{◌≡◌, refl, ℕ, ◌+◌, ◌^◌, ◌<◌, ◌≤◌, List, [], ◌∷◌, ◌++◌, map, length, All}
use Rattle.std.proofs.Common.{sym, ap, ◌∙◌, subst, arith, drop, get_or, append-nil, append_assoc}
use Rattle.std.proofs.lemmas.List.{drop_all}
use Rattle.std.proofs.lemmas.List.Elements.{All-nil, All-cons, All-head, All-tail}
use Rattle.std.proofs.lemmas.List.Sums.{sum_by-cons}
use Rattle.tql_spec.specs.Binding.{moved, whole_scope}
use Rattle.tql_spec.specs.Names as names
use Rattle.tql_expr.specs.declared.terms.Terms.{Terms}
use Rattle.tql_bind_expr.specs.Scopes.{scope_of}
use Rattle.tql_bind_expr.specs.declared.scope.Known.{Known}
use Rattle.tql_bind_query.specs.From.{IsPlaced, IsWhole, linked_of}
use Rattle.tql_bind_query.specs.declared.from.Linked.{Linked}
use Rattle.tql_bind_query.proofs.ChainLaws.{at_index, widths}
use Rattle.tql_bind_query.proofs.FromLaws.{Within}

-- the column numbers of a reference fit in 64 bits after this number of other columns
abbrev pub Fits : ℕ → Known → Type 0
Fits n k = n + (k.offset + length k.columns.now) < 2 ^ 64

fits_all : (n w : ℕ) → n + w ≤ 512 → (ks : List Known) → All (Within w) ks → All (Fits n) ks
fits_all n w few [] h = All-nil (Fits n)
fits_all n w few (k ∷ ks) h =
    let here = All-head (Within w) k ks h in
    All-cons (Fits n) k ks (omega (arith, here, few)) (fits_all n w few ks (All-tail (Within w) k ks h))

-- the references so far, followed by those of the remaining chains, are all of them
pub record WholeLeads (ls : List Linked) (ks : List Known) (n : ℕ) (left : List Linked) : Type 0 where
  pub placed : All IsPlaced left
  pub fits : n + widths left ≤ 512
  pub leads : (t : Terms) → scope_of ks ++ whole_scope n (map (linked_of t) left) ≡ whole_scope 0 (map (linked_of t) ls)

-- no chain so far
pub whole_begun : (ls : List Linked) (ks : List Known) → ks ≡ [] → All IsPlaced ls → widths ls ≤ 512
    → WholeLeads ls ks 0 ls
whole_begun ls ks empty placed fits = record {
  placed = placed;
  fits = omega (arith, fits);
  leads = λ t. ap (λ l. scope_of l ++ whole_scope 0 (map (linked_of t) ls)) empty;
}

-- the column numbers of the next chain's references fit in 64 bits
pub next_fits : (ls : List Linked) (ks : List Known) (n : ℕ) (xs : List Linked) (i : ℕ) (l : Linked) → i < length xs
    → l ≡ get_or xs i l → WholeLeads ls ks n (drop i xs) → All (Fits n) l.scope.items
next_fits ls ks n xs i l within is so =
    let left = drop (i + 1) xs in
    let here = subst (WholeLeads ls ks n) (at_index xs i l within is) so in
    let few : n + l.width ≤ 512 = omega (arith, here.fits, sum_by-cons (λ (l : Linked). l.width) l left) in
    fits_all n l.width few l.scope.items (All-head IsPlaced l left here.placed).within

-- one more chain
pub whole_next : (ls : List Linked) (ks ms : List Known) (n : ℕ) (xs : List Linked) (i : ℕ) (l : Linked)
    → i < length xs → l ≡ get_or xs i l → WholeLeads ls ks n (drop i xs)
    → scope_of ms ≡ scope_of ks ++ map (moved n) (scope_of l.scope.items)
    → WholeLeads ls ms (n + l.width) (drop (i + 1) xs)
whole_next ls ks ms n xs i l within is so added =
    let left = drop (i + 1) xs in
    let here = subst (WholeLeads ls ks n) (at_index xs i l within is) so in
    record {
      placed = All-tail IsPlaced l left here.placed;
      fits = omega (arith, here.fits, sum_by-cons (λ (l : Linked). l.width) l left);
      leads = λ t.
          let rest = whole_scope (n + l.width) (map (linked_of t) left) in
          ap (λ (s : List names.Known). s ++ rest) added
          ∙ append_assoc (scope_of ks) (map (moved n) (scope_of l.scope.items)) rest ∙ here.leads t;
    }

-- no chain remains
pub whole_done : (ls : List Linked) (ks : List Known) (n : ℕ) (xs : List Linked) (i : ℕ) → length xs ≤ i
    → WholeLeads ls ks n (drop i xs) → IsWhole ls ks
whole_done ls ks n xs i past so =
    let none = subst (WholeLeads ls ks n) (drop_all i xs past) so in
    λ t. sym (append-nil (scope_of ks)) ∙ none.leads t

-- the names of references
pub known_names : (ks : List Known)
    → map (λ (k : names.Known). k.name) (scope_of ks) ≡ map (λ (k : Known). k.name.now) ks
known_names [] = refl
known_names (k ∷ ks) = ap (λ (ns : List (List ℕ)). k.name.now ∷ ns) (known_names ks)
