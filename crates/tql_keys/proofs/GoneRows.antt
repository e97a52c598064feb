-- The removed rows, by their ids and by their values.
use Rattle.std.proofs.Common.{◌≡◌, refl, sym, ap, ◌∙◌, ℕ, Bool, true, List, filter}
use Rattle.std.specs.Prelude.{◌&&◌, Option, Some, None, option_map, if◌then◌else◌}
use Rattle.std.specs.List.{list_all}
use Rattle.tql_spec.specs.Bag.{SameBag, In}
use Rattle.tql_spec.specs.Definition.{Stamped, Version}
use Rattle.tql_spec.proofs.AtPoints.{all_in, in_all}
use Rattle.tql_spec.proofs.Members.{both, by_bool}
use Rattle.tql_spec.proofs.MemberLists.{in_kept}
use Rattle.tql_store.specs.Represents.{Judged}
use Rattle.tql_store.specs.StoreModel.{StoreModel, named, is_among}
use Rattle.tql_versions.specs.Changes.{alive, is_current}
use Rattle.tql_versions.specs.Readings.{where_open}
use Rattle.tql_key_rows.specs.Asked.{row_named}
use Rattle.tql_key_clashes.specs.Named.{IsJudged, AreNamed}
use Rattle.tql_keys.specs.Named.{of_named}
use Rattle.tql_key_rows.proofs.Bools.{same_bool}
use Rattle.tql_key_clashes.proofs.NamedRows.{among_in, in_among, in_bag, kept_in}

-- a test of the rows that the ids name is a test of the removed rows
pub gone_by_ids : (q : Stamped → Bool) (named : ℕ → Option Stamped) (gone : Stamped → Bool) (removed : List ℕ)
    (rows base : List Stamped) → SameBag rows base → AreNamed named base → IsJudged named gone removed
    → list_all (λ id. of_named q (named id)) removed ≡ list_all q (filter gone rows)
gone_by_ids q named gone removed rows base same all judged =
    same_bool (list_all (λ id. of_named q (named id)) removed) (list_all q (filter gone rows))
    (λ e. in_all q (filter gone rows) (λ r m. of_row e r (in_kept gone r rows m)))
    (λ e. in_all (λ id. of_named q (named id)) removed (λ id m. of_id e id m (named id) refl))
  where
    of_row : list_all (λ id. of_named q (named id)) removed ≡ true → (r : Stamped) → In r rows × (gone r ≡ true)
        → q r ≡ true
    of_row e r m =
        let n = (all r).0 (in_bag r same m.0) in
        let i : In n.0 removed = among_in n.0 removed (judged n.0 r n.1 ∙ m.1) in
        sym (ap (of_named q) n.1) ∙ all_in (λ id. of_named q (named id)) removed n.0 e i

    back : (xs ys : List Stamped) → SameBag xs ys → SameBag ys xs
    back xs ys h = record { totals = λ w. sym (h.totals w) }

    of_id : list_all q (filter gone rows) ≡ true → (id : ℕ) → In id removed → (o : Option Stamped) → named id ≡ o
        → of_named q (named id) ≡ true
    of_id e id m None f = ap (of_named q) f
    of_id e id m (Some r) f =
        let g : gone r ≡ true = sym (judged id r f) ∙ in_among id removed m in
        let i : In r rows = in_bag r (back rows base same) ((all r).1 (id, f)) in
        ap (of_named q) f ∙ all_in q (filter gone rows) r e (kept_in gone r rows i g)

-- what a change's ids say of versions, said of rows
pub judged_rows : (h : StoreModel) (t : ℕ) (gone : Stamped → Bool) (removed : List ℕ) → Judged h t gone removed
    → IsJudged (row_named h t) gone removed
judged_rows h t gone removed j id r e = by_option (named h t id) refl e
  where
    of_version : (v : Version) → named h t id ≡ Some v
        → option_map (λ (x : Version). x.row) (if alive v && is_current v then Some v else None) ≡ Some r
        → is_among id removed ≡ gone r
    of_version v n q = by_bool (alive v && is_current v)
        (λ b.
        let s : Some v.row ≡ Some r =
        sym (ap (λ c. option_map (λ (x : Version). x.row) (if c then Some v else None)) b) ∙ q in
        let w : v.row ≡ r = cc in
        let p = both (alive v) (is_current v) b in
        j id v n ∙ ap (λ c. c && (is_current v && gone v.row)) p.0 ∙ ap (λ c. c && gone v.row) p.1 ∙ ap gone w)
        (λ b.
        let s : None ≡ Some r =
        sym (ap (λ c. option_map (λ (x : Version). x.row) (if c then Some v else None)) b) ∙ q in absurd (cc))

    by_option : (o : Option Version) → named h t id ≡ o
        → option_map (λ (x : Version). x.row) (where_open o) ≡ Some r → is_among id removed ≡ gone r
    by_option None n q = absurd (cc)
    by_option (Some v) n q = of_version v n q
