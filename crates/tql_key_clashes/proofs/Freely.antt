-- The rows that a store finds for a tuple, compared with the rows of a copy.
use Rattle.std.proofs.Common.{◌≡◌, refl, sym, ap, ◌∙◌, ℕ, suc, Bool, true, false, List, [], ◌∷◌, map, filter, arith}
use Rattle.std.specs.Prelude.{◌&&◌, ◌||◌, not, All, Option, Some, ℤ}
use Rattle.std.specs.List.{list_all}
use Rattle.std.proofs.lemmas.List.{map-append}
use Rattle.tql_spec.specs.Bag.{SameBag}
use Rattle.tql_spec.specs.Datum.{Row}
use Rattle.tql_spec.specs.Definition.{TableDef, Key, Stamped, period_of, shown}
use Rattle.tql_spec.specs.Constraint.{key_holds, shown_rows}
use Rattle.tql_key_rows.specs.Touched.{tuple, has_tuple}
use Rattle.tql_key_clashes.specs.Free.{collide, is_free}
use Rattle.tql_store.specs.StoreModel.{is_among}
use Rattle.tql_store.specs.Changes.{starting, rows_after}
use Rattle.tql_key_rows.specs.Asked.{row_found, rows_in, new_rows}
use Rattle.tql_key_clashes.specs.Named.{IsJudged, staying}
use Rattle.tql_versions.specs.declared.version.Version.{Version}
use Rattle.tql_key_rows.proofs.Bools.{all_map, all_premised, all_same, or_no}
use Rattle.tql_key_rows.proofs.Wheres.{all_where, all_where_map, all_staying, all_bag}
use Rattle.tql_key_clashes.proofs.KeyLaw.{key_joined, key_kept}

-- ---- the rows that a store finds

-- a found row is removed by its id exactly if it is removed by its value
found_goes : (q : Stamped → Bool) (named : ℕ → Option Stamped) (gone : Stamped → Bool) (removed : List ℕ)
    (found : List Version) → All (λ f. named f.id ≡ Some (row_found f)) found → IsJudged named gone removed
    → list_all (λ (f : Version). is_among f.id removed || q (row_found f)) found
    ≡ list_all (λ (f : Version). gone (row_found f) || q (row_found f)) found
found_goes q named gone removed [] h j = refl
found_goes q named gone removed (f ∷ found) h j =
    ap (λ b. (b || q (row_found f)) && list_all (λ (g : Version). is_among g.id removed || q (row_found g)) found)
    (j f.id (row_found f) (h 0 f (omega arith)))
    ∙ ap (λ b. (gone (row_found f) || q (row_found f)) && b)
    (found_goes q named gone removed found (λ k d l. h (suc k) d (omega arith)) j)

-- a test of the found rows that survive is a test of the surviving rows that were looked up
pub found_all : (d : TableDef) (h q : Row → Bool) (rows : List Stamped)
    (named : ℕ → Option Stamped) (gone : Stamped → Bool) (removed : List ℕ) (found : List Version)
    → SameBag (map row_found found) (filter (λ r. h (shown d r)) rows)
    → All (λ f. named f.id ≡ Some (row_found f)) found → IsJudged named gone removed
    → list_all (λ (f : Version). is_among f.id removed || q (shown d (row_found f))) found
    ≡ list_all q (filter h (shown_rows d (staying gone rows)))
found_all d h q rows named gone removed found bag names judged =
    let s : Stamped → Bool = λ r. q (shown d r) in
    let k : Stamped → Bool = λ r. h (shown d r) in
    found_goes s named gone removed found names judged
    ∙ sym (all_map (λ r. gone r || s r) row_found found)
    ∙ all_bag (λ r. gone r || s r) bag
    ∙ all_staying gone k s rows
    ∙ sym (all_where_map (shown d) h q (staying gone rows))

-- no element passes both tests exactly if no element of the first passes the second
none_left : {A : Type 0} (h q : A → Bool) (xs : List A)
    → list_all (λ x. false) (filter (λ x. h x && q x) xs) ≡ list_all (λ x. not (q x)) (filter h xs)
none_left h q xs =
    all_where (λ x. h x && q x) (λ x. false) xs
    ∙ all_same (λ x. not (h x && q x) || false) (λ x. not (h x && q x)) xs (λ x. or_no (not (h x && q x)))
    ∙ all_premised h q xs

-- a new row is free exactly if each found row that collides with it is removed
pub found_free : (d : TableDef) (k : Key) (a : Row) (rows : List Stamped) (named : ℕ → Option Stamped)
    (gone : Stamped → Bool) (removed : List ℕ) (found : List Version)
    → SameBag (map row_found found) (rows_in d k.columns (tuple k.columns a) k.by_period (period_of d a) rows)
    → All (λ f. named f.id ≡ Some (row_found f)) found → IsJudged named gone removed
    → list_all (λ (f : Version). is_among f.id removed) found ≡ is_free d k (shown_rows d (staying gone rows)) a
found_free d k a rows named gone removed found bag names judged =
    all_same (λ (f : Version). is_among f.id removed) (λ (f : Version). is_among f.id removed || false) found
    (λ f. sym (or_no (is_among f.id removed)))
    ∙ found_all d (λ r. has_tuple k.columns (tuple k.columns a) r && collide d k.by_period r a) (λ r. false) rows named
    gone removed found bag names judged
    ∙ none_left (has_tuple k.columns (tuple k.columns a)) (λ r. collide d k.by_period r a)
    (shown_rows d (staying gone rows))

-- ---- a key after a change

-- it holds exactly if the new rows do not clash with each other, and each of them is free
pub key_after : (d : TableDef) (k : Key) (m : ℤ) (gone : Stamped → Bool) (added : List Row) (rows : List Stamped)
    (apart free : Bool) → key_holds d (shown_rows d rows) k ≡ true → apart ≡ key_holds d (new_rows d m added) k
    → free ≡ list_all (is_free d k (shown_rows d (staying gone rows))) (new_rows d m added)
    → apart && free ≡ key_holds d (shown_rows d (rows_after m gone added rows)) k
key_after d k m gone added rows apart free h e f =
    ap (λ b. b && free) e ∙ ap (λ b. key_holds d (new_rows d m added) k && b) f
    ∙ sym (ap (λ (rs : List Row). key_holds d rs k)
    (map-append (shown d) (staying gone rows) (map (starting m) added))
    ∙ key_joined d k (shown_rows d (staying gone rows)) (new_rows d m added)
    (key_kept d k (λ r. not (gone r)) rows h))
