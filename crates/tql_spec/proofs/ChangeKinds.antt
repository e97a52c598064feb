-- Each change without a fault leaves rows of its table's kinds.
use Rattle.std.proofs.Common.{◌≡◌, refl, sym, subst, List, [], ◌∷◌, inl, inr}
use Rattle.std.specs.Prelude.{ℤ, Some}
use Rattle.tql_spec.specs.Words.{map_all}
use Rattle.tql_spec.specs.Bag.{In}
use Rattle.tql_spec.specs.Datum.{Row, Kind}
use Rattle.tql_spec.specs.Expression.{Expr, eval}
use Rattle.tql_spec.specs.Definition.{table_at}
use Rattle.tql_spec.specs.History.{Copy, rows_in}
use Rattle.tql_spec.specs.Query.{answer}
use Rattle.tql_spec.specs.Machine.{State, Change, InsertTuples, InsertQuery, Modify, outcome, changed_table, bag_of}
use Rattle.tql_spec.specs.Binding.{kinds_for}
use Rattle.tql_spec.specs.Typing.{AreOfKinds, GiveKinds, IsTypedDefinition}
use Rattle.tql_spec.specs.TypingLaws.{IsTypedBag, IsTypedChange}
use Rattle.tql_spec.proofs.Steady.{front_is}
use Rattle.tql_spec.proofs.RowChanges.{AllGood, insert_good, modify_good}

-- the values of expressions that give kinds are of these kinds
given_kinds : (ks : List Kind) (es : List Expr) → GiveKinds ks es → (values : Row)
    → map_all (eval [] []) es ≡ Some values
    → AreOfKinds ks values
given_kinds [] [] h values e = let q : [] ≡ values = cc in subst (AreOfKinds []) q tt
given_kinds [] (x ∷ es) h values e = absurd h
given_kinds (k ∷ ks) [] h values e = absurd h
given_kinds (k ∷ ks) (x ∷ es) h values e =
    let f = front_is (eval [] [] x) (map_all (eval [] []) es) values e in
    subst (AreOfKinds (k ∷ ks)) (sym f.whole) (h.0 f.head f.one, given_kinds ks es h.1 f.tail f.more)

-- the tuples of an INSERT have values of the kinds
tuples_kinds : (ks : List Kind) (tuples : List (List Expr))
    → ((tuple : List Expr) → In tuple tuples → GiveKinds ks tuple)
    → (rows : List Row) → map_all (map_all (eval [] [])) tuples ≡ Some rows → (values : Row) → In values rows
    → AreOfKinds ks values
tuples_kinds ks [] h rows e values m = let q : [] ≡ rows = cc in absurd
    (subst (λ (xs : List Row). In values xs) (sym q) m)
tuples_kinds ks (x ∷ tuples) h rows e values m =
    let f = front_is (map_all (eval [] []) x) (map_all (map_all (eval [] [])) tuples) rows e in
    elim (subst (λ (xs : List Row). In values xs) f.whole m) [
      | inl q ↦ subst (AreOfKinds ks) (sym q) (given_kinds ks x (h x (inl refl)) f.head f.one)
      | inr i ↦ tuples_kinds ks tuples (λ y n. h y (inr n)) f.tail f.more values i
    ]

-- each change without a fault; used by the law of kinds in runs
pub change_good : (s : State) (m : ℤ) (copy : Copy) (c : Change)
    → IsTypedDefinition (table_at s.definitions (changed_table c))
    → IsTypedBag s.definitions (bag_of s) → IsTypedChange s.definitions c
    → AllGood (table_at s.definitions (changed_table c)) (rows_in copy (changed_table c))
    → (outcome s m copy c).faults ≡ []
    → AllGood (table_at s.definitions (changed_table c)) (outcome s m copy c).rows
change_good s m copy (InsertTuples t columns tuples) d b k g e =
    insert_good (table_at s.definitions t) m (rows_in copy t) columns (map_all (map_all (eval [] [])) tuples) d g
    (tuples_kinds (kinds_for (table_at s.definitions t) columns) tuples k) e
change_good s m copy (InsertQuery t columns q) d b k g e =
    insert_good (table_at s.definitions t) m (rows_in copy t) columns (answer (bag_of s) q) d g (k (bag_of s) b) e
change_good s m copy (Modify t portion work conds) d b k g e =
    modify_good (table_at s.definitions t) d m (rows_in copy t) portion work conds k g e
