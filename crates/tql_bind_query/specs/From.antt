-- Bound chains of FROM, and the parts of a join.
use Rattle.std.specs.Prelude.{◌≡◌, suc, ◌+◌, ◌*◌, ◌≤◌, List, ◌∷◌, [], ◌++◌, map, length, All, Option, String, Vec}
use Rattle.std.specs.Prelude.{string_bytes}
use Rattle.tql_spec.specs.Binding as binding
use Rattle.tql_spec.specs.Binding.{Joined, known_as, plain_conjuncts}
use Rattle.tql_spec.specs.Definition.{Name, TableDef}
use Rattle.tql_spec.specs.Expression.{Cond}
use Rattle.tql_spec.specs.Names as names
use Rattle.tql_spec.specs.Names.{Checked, sound}
use Rattle.tql_spec.specs.Query.{Ref}
use Rattle.tql_spec.specs.Refusal.{Refusal}
use Rattle.tql_spec.specs.Syntax.{RefTree, JoinTree, InnerJoin, LeftJoin, CrossJoin, ChainTree, chain_length}
use Rattle.tql_bound.specs.Queries.{chain_of, join_of}
use Rattle.tql_bound.specs.References.{reference_of}
use Rattle.tql_bound.specs.declared.query.Join.{Join}
use Rattle.tql_bound.specs.declared.query.JoinKind.{JoinKind}
use Rattle.tql_bound.specs.declared.query.JoinKind.TheVariants.{Inner, Left, Cross}
use Rattle.tql_expr.specs.Meaning.{HasCond}
use Rattle.tql_expr.specs.declared.terms.Terms.{Terms}
use Rattle.tql_bind_expr.specs.Gathered.{Gathers}
use Rattle.tql_bind_expr.specs.Scopes.{known_of, scope_of}
use Rattle.tql_bind_expr.specs.declared.scope.Known.{Known}
use Rattle.tql_bind_query.specs.declared.from.Linked.{Linked}
use Rattle.tql_bind_query.specs.declared.sources.BoundReference.{BoundReference}

-- ---- the parts of the syntax tree

-- the name by which a reference is known
abbrev pub name_in : RefTree → Name
name_in r = known_as r r.alias

-- the reference that the join adds
abbrev pub reference_in : JoinTree → RefTree
reference_in (InnerJoin r c) = r
reference_in (LeftJoin r c) = r
reference_in (CrossJoin r) = r

-- the kind of the join
abbrev pub kind_in : JoinTree → JoinKind
kind_in (InnerJoin r c) = Inner
kind_in (LeftJoin r c) = Left
kind_in (CrossJoin r) = Cross

-- the conjuncts of its ON; none without an ON
abbrev pub on_in : List names.Known → JoinTree → Checked (List Cond)
on_in scope (InnerJoin r c) = plain_conjuncts scope c
on_in scope (LeftJoin r c) = plain_conjuncts scope c
on_in scope (CrossJoin r) = sound []

-- the names of the references of a chain, from the left
abbrev pub names_in : ChainTree → List Name
names_in c = name_in c.first ∷ map (λ (j : JoinTree). name_in (reference_in j)) c.joins

-- a bound reference, and its entry in the scope
abbrev pub source_by : Ref → names.Known → binding.BoundReference
source_by r k = record { ref = r; known = k }

-- ---- the meaning of the code's values

-- a reference, and its entry in the scope
abbrev pub source_of : BoundReference → binding.BoundReference
source_of s = record { ref = reference_of s.reference; known = known_of s.known }

-- the joins of a chain, its references, and its width
abbrev pub joined_of : Terms → Linked → Joined
joined_of t l = record { joins = map (join_of t) l.chain.joins.items; scope = scope_of l.scope.items; width = l.width }

-- a chain, its references, and its width
abbrev pub linked_of : Terms → Linked → binding.Linked
linked_of t l = record { chain = chain_of t l.chain; scope = scope_of l.scope.items; width = l.width }

-- the conjuncts of each ON are in the arena
abbrev pub HasJoins : Terms → Linked → Type 0
HasJoins t l = All (λ (j : Join). All (HasCond t) j.on.items) l.chain.joins.items

-- the columns of each reference lie within the width of the chain, and a reference has at most 64
pub record IsPlaced (l : Linked) : Type 0 where
  pub within : All (λ (k : Known). k.offset + length k.columns.now ≤ l.width) l.scope.items
  pub narrow : l.width ≤ 64 * length l.scope.items

-- a join is bound, and added after the existing ones
pub record AddsJoin (defs : List TableDef) (j : JoinTree) (old new : Option Refusal) (t u : Terms) (l m : Linked) :
    Type 0 where
  pub bound : Gathers (binding.join defs (joined_of t l) j) old new (joined_of u m)
  pub first : m.chain.first ≡ l.chain.first
  pub held : HasJoins u m
  pub placed : IsPlaced m
  pub counted : length m.scope.items ≡ suc (length l.scope.items)

-- a chain of one reference
pub record BeginsChain (defs : List TableDef) (r : RefTree) (old new : Option Refusal) (l : Linked) : Type 0 where
  pub source : BoundReference
  pub bound : Gathers (binding.source defs 0 r) old new (source_of source)
  pub first : l.chain.first ≡ source.reference
  pub joins : l.chain.joins.items ≡ []
  pub scope : l.scope.items ≡ source.known ∷ []
  pub width : l.width ≡ source.reference.width
  pub placed : IsPlaced l

-- a chain is bound: the conjuncts of its ONs are in the arena, and it is no wider than 64 columns for each reference
pub record BindsChain (defs : List TableDef) (c : ChainTree) (old new : Option Refusal) (t : Terms) (l : Linked) :
    Type 0 where
  pub bound : Gathers (binding.chain defs c) old new (linked_of t l)
  pub held : HasJoins t l
  pub placed : IsPlaced l
  pub narrow : l.width ≤ 64 * chain_length c

-- a chain is bound, and added after the existing ones
pub record PushesChain (defs : List TableDef) (c : ChainTree) (old new : Option Refusal) (t : Terms)
    (xs ys : List Linked) : Type 0 where
  pub linked : Linked
  pub binds : BindsChain defs c old new t linked
  pub items : ys ≡ xs ++ linked ∷ []

-- the names in each list
abbrev pub names_of : {B : Type 0} → List (Vec (String B) B) → List (List Name)
names_of ns = map (λ n. map string_bytes n.items) ns

-- ---- the scope of a query

-- these are the references of all chains, whatever arena their conditions belong to
abbrev pub IsWhole : List Linked → List Known → Type 0
IsWhole ls ks = (t : Terms) → scope_of ks ≡ binding.whole_scope 0 (map (linked_of t) ls)
