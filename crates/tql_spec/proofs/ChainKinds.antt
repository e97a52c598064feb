-- The joined rows of a query's chains have the kinds of the references in its scope.
use Rattle.std.proofs.Common.{◌≡◌, ◌≤◌, refl, sym, ap, subst, ◌∙◌, ℕ, ◌+◌, List, [], ◌∷◌, ◌++◌, map, length, inl, inr}
use Rattle.std.proofs.Common.{arith, length-append, get_or-append-add}
use Rattle.std.specs.Prelude.{replicate, Some}
use Rattle.std.proofs.lemmas.List.{length-map}
use Rattle.tql_spec.specs.Words.{◌>>=◌, map_all}
use Rattle.tql_spec.specs.Bag.{In}
use Rattle.tql_spec.specs.Datum.{Null, Row}
use Rattle.tql_spec.specs.Definition.{TableDef, cell}
use Rattle.tql_spec.specs.Query.{Ref, Join, pairs, joined_with, joins_from, chain_rows, product}
use Rattle.tql_spec.specs.Syntax.{RefTree, JoinTree, InnerJoin, LeftJoin, CrossJoin, ChainTree}
use Rattle.tql_spec.specs.Names.{check_each, Known, kind_at}
use Rattle.tql_spec.specs.Binding.{source, BoundReference, Joined, add_join, join, joins, Linked, chain, moved}
use Rattle.tql_spec.specs.Binding.{whole_scope}
use Rattle.tql_spec.specs.Binding.{width_of, plain_conjuncts}
use Rattle.tql_spec.specs.Typing.{IsOfKind, AreOfKinds}
use Rattle.tql_spec.specs.TypingLaws.{IsTypedBag}
use Rattle.tql_spec.proofs.MemberLists.{in_either, in_image}
use Rattle.tql_spec.proofs.Steady.{front_is}
use Rattle.tql_spec.proofs.ExprKinds.{column_kinds, FitsKnown, FitsScope, after}
use Rattle.tql_spec.proofs.RowKinds.{null_kinds}
use Rattle.tql_spec.proofs.JoinKinds.{in_filter_all, IsPairOf, in_pairs, left_pairs, Wide, Within, longer_fits, wider}
use Rattle.tql_spec.proofs.JoinKinds.{within_more}

-- ---- chains

module _ (defs : List TableDef) (bag : Ref → List Row) (typed : IsTypedBag defs bag) where
  -- a row joined with one more reference fits the wider scope
  joined_wide : (scope : List Known) (width : ℕ) (r : RefTree) → Within scope width → (rows : List Row)
      → ((x : Row) → In x rows → Wide scope width x)
      → (z : Row) → IsPairOf (Wide scope width) (AreOfKinds (column_kinds (source defs width r).value.known.columns)) z
      → Wide (scope ++ (source defs width r).value.known ∷ []) (width + width_of (source defs width r).value) z
  joined_wide scope width r n rows h z p =
      subst (Wide (scope ++ (source defs width r).value.known ∷ []) (width + width_of (source defs width r).value))
      (sym p.whole)
      (wider scope width (source defs width r).value.known p.left p.right n p.first refl p.second)

  -- nulls are of the kinds of a reference's columns
  nulls_typed : (offset : ℕ) (r : RefTree)
      → AreOfKinds (column_kinds (source defs offset r).value.known.columns)
      (replicate (source defs offset r).value.ref.width Null)
  nulls_typed offset r =
      subst (λ n. AreOfKinds (column_kinds (source defs offset r).value.known.columns) (replicate n Null))
      (length-map (source defs offset r).value.known.columns (λ c. c.kind))
      (null_kinds (column_kinds (source defs offset r).value.known.columns))

  -- the joins so far, applied to the rows `begun`, give rows of the scope's width and kinds
  record IsJoined (begun : List Row) (so : Joined) : Type 0 where
    within : Within so.scope so.width
    wide : (rows : List Row) → joins_from bag begun so.joins ≡ Some rows → (x : Row) → In x rows
        → Wide so.scope so.width x

  -- a list of joins with one more at the end: first the list, then the last join
  last_join : (begun : List Row) (js : List Join) (j : Join) (out : List Row)
      → joins_from bag begun (js ++ j ∷ []) ≡ Some out
      → (mid : List Row) × (joins_from bag begun js ≡ Some mid) × (joined_with bag mid j ≡ Some out)
  last_join begun [] j out e = after (joined_with bag begun j) (λ more. Some more) out e
      (λ more q p. (begun, refl, q ∙ p))
  last_join begun (k ∷ js) j out e = after (joined_with bag begun k) (λ more. joins_from bag more (js ++ j ∷ [])) out e
      (λ more q p. let r = last_join more js j out p in
      (r.0, ap (λ o. o >>= λ m. joins_from bag m js) q ∙ r.1, r.2))

  -- one more join preserves this
  join_step : (begun : List Row) (so : Joined) (r : RefTree) (j : Join) → IsJoined begun so
      → ((rows out : List Row) → ((x : Row) → In x rows → Wide so.scope so.width x) → joined_with bag rows j ≡ Some out
      → (z : Row) → In z out → IsPairOf (Wide so.scope so.width)
      (AreOfKinds (column_kinds (source defs so.width r).value.known.columns)) z)
      → IsJoined begun (add_join so (source defs so.width r).value j)
  join_step begun so r j h k = record {
    within = within_more so.scope so.width (source defs so.width r).value.known h.within refl;
    wide = λ out e z m.
        let l = last_join begun so.joins j out e in
        joined_wide so.scope so.width r h.within l.0 (h.wide l.0 l.1) z (k l.0 out (h.wide l.0 l.1) l.2 z m);
  }

  join_kept : (begun : List Row) (so : Joined) (j : JoinTree) → IsJoined begun so
      → IsJoined begun (join defs so j).value
  join_kept begun so (InnerJoin r c) h = join_step begun so r _ h (λ rows out w e z m.
      in_pairs (Wide so.scope so.width) (AreOfKinds (column_kinds (source defs so.width r).value.known.columns)) rows
      (bag (source defs so.width r).value.ref) w (typed (source defs so.width r).value.ref) z
      (in_filter_all _ (pairs rows (bag (source defs so.width r).value.ref)) out e z m))
  join_kept begun so (LeftJoin r c) h = join_step begun so r _ h (λ rows out w e z m.
      left_pairs (Wide so.scope so.width) (AreOfKinds (column_kinds (source defs so.width r).value.known.columns))
      (plain_conjuncts (so.scope ++ (source defs so.width r).value.known ∷ []) c).value
      (source defs so.width r).value.ref.width (bag (source defs so.width r).value.ref) (nulls_typed so.width r)
      (typed (source defs so.width r).value.ref) rows w out e z m)
  join_kept begun so (CrossJoin r) h = join_step begun so r _ h (λ rows out w e z m.
      let same : pairs rows (bag (source defs so.width r).value.ref) ≡ out = cc in
      in_pairs (Wide so.scope so.width) (AreOfKinds (column_kinds (source defs so.width r).value.known.columns)) rows
      (bag (source defs so.width r).value.ref) w (typed (source defs so.width r).value.ref) z
      (subst (λ (l : List Row). In z l) (sym same) m))

  joins_kept : (begun : List Row) (so : Joined) (js : List JoinTree) → IsJoined begun so
      → IsJoined begun (joins defs so js).value
  joins_kept begun so [] h = h
  joins_kept begun so (j ∷ js) h = joins_kept begun (join defs so j).value js (join_kept begun so j h)

  -- the first reference alone has this property
  first_joined : (r : RefTree) → IsJoined (bag (source defs 0 r).value.ref)
      (record { joins = []; scope = (source defs 0 r).value.known ∷ []; width = width_of (source defs 0 r).value })
  first_joined r =
      let s : BoundReference = (source defs 0 r).value in
      let w = within_more [] 0 s.known (λ j m. absurd m) refl in
      record {
        within = λ k m. let l = w k m in omega (arith, l);
        wide = λ rows e x m.
            let same : bag s.ref ≡ rows = cc in
            let t : AreOfKinds (column_kinds s.known.columns) x = typed s.ref x
            (subst (λ (l : List Row). In x l) (sym same) m) in
            let y = wider [] 0 s.known [] x (λ j n. absurd n)
            (record { many = refl; fits = record { each = λ j n. absurd n } }) refl t in
            record { many = y.many ∙ omega arith; fits = y.fits };
      }

  -- the rows of a chain have the width and the kinds of its scope
  chain_wide : (c : ChainTree) (rows : List Row) → chain_rows bag (chain defs c).value.chain ≡ Some rows
      → Within (chain defs c).value.scope (chain defs c).value.width
      × ((x : Row) → In x rows → Wide (chain defs c).value.scope (chain defs c).value.width x)
  chain_wide c rows e =
      let s : BoundReference = (source defs 0 c.first).value in
      let k = joins_kept (bag s.ref) (record { joins = []; scope = s.known ∷ []; width = width_of s }) c.joins
      (first_joined c.first) in
      (k.within, k.wide rows e)

  -- ---- products

  -- appending rows is associative
  three : (xs ys zs : Row) → xs ++ (ys ++ zs) ≡ (xs ++ ys) ++ zs
  three [] ys zs = refl
  three (x ∷ xs) ys zs = ap (λ l. x ∷ l) (three xs ys zs)

  -- a row of a chain, between other cells, fits its reference moved by the cells before it
  moved_fits : (p x y : Row) (k : Known) → k.offset + length k.columns ≤ length x → FitsKnown x k
      → FitsKnown (p ++ (x ++ y)) (moved (length p) k)
  moved_fits p x y k w h i l =
      let at : (length p + k.offset) + i ≡ length p + (k.offset + i) = omega arith in
      subst (IsOfKind (Some (kind_at k.columns i)))
      (sym (ap (cell (p ++ (x ++ y))) at ∙ get_or-append-add p (x ++ y) (k.offset + i) Null))
      (longer_fits k x y w h i l)

  -- the product with one more chain fits the scope
  product_step : (p x y : Row) (l : Linked) (rest : List Linked) → Within l.scope l.width → Wide l.scope l.width x
      → FitsScope (whole_scope (length (p ++ x)) rest) ((p ++ x) ++ y)
      → FitsScope (whole_scope (length p) (l ∷ rest)) (p ++ (x ++ y))
  product_step p x y l rest n w more =
      let wide : length (p ++ x) ≡ length p + l.width = length-append p x ∙ ap (λ v. length p + v) w.many in
      record {
        each = λ k m. elim (in_either k (map (moved (length p)) l.scope) (whole_scope (length p + l.width) rest) m) [
          | inl i ↦
              let j = in_image (moved (length p)) k l.scope i in
              subst (FitsKnown (p ++ (x ++ y))) (sym j.2)
              (moved_fits p x y j.0 (omega (arith, n j.0 j.1, w.many)) (w.fits.each j.0 j.1))
          | inr i ↦
              subst (λ r. FitsKnown r k) (sym (three p x y))
              (more.each k (subst (λ v. In k (whole_scope v rest)) (sym wide) i))
        ];
      }

  -- a row of the product, after the cells p, fits the whole scope moved by the length of p
  pub product_fits : (cs : List ChainTree) (all : List (List Row))
      → map_all (chain_rows bag) (map (λ (l : Linked). l.chain) (check_each (chain defs) cs).value) ≡ Some all
      → (p z : Row) → In z (product all)
      → FitsScope (whole_scope (length p) (check_each (chain defs) cs).value) (p ++ z)
  product_fits [] all e p z m = record { each = λ k n. absurd n }
  product_fits (c ∷ cs) all e p z m = by_rows (product_fits cs)
    where
      rest : List Linked
      rest = (check_each (chain defs) cs).value

      by_rows : ((tail : List (List Row)) → map_all (chain_rows bag) (map (λ (l : Linked). l.chain) rest) ≡ Some tail
          → (q y : Row) → In y (product tail) → FitsScope (whole_scope (length q) rest) (q ++ y))
          → FitsScope (whole_scope (length p) ((chain defs c).value ∷ rest)) (p ++ z)
      by_rows ih =
          let f = front_is (chain_rows bag (chain defs c).value.chain)
          (map_all (chain_rows bag) (map (λ (l : Linked). l.chain) rest)) all e in
          let w = chain_wide c f.head f.one in
          let q = in_pairs (λ x. In x f.head) (λ y. In y (product f.tail)) f.head (product f.tail) (λ x n. n)
          (λ y n. n) z
          (subst (λ a. In z (product a)) f.whole m) in
          subst (λ r. FitsScope (whole_scope (length p) ((chain defs c).value ∷ rest)) (p ++ r)) (sym q.whole)
          (product_step p q.left q.right (chain defs c).value rest w.0 (w.1 q.left q.first)
          (ih f.tail f.more (p ++ q.left) q.right q.second))
