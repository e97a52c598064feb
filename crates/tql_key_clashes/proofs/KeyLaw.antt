-- A key after a change: only the added rows can clash, with each other and with the rows of their tuples.
use Rattle.std.proofs.Common.{◌≡◌, sym, ap, ◌∙◌, Bool, true, List, ◌++◌, filter}
use Rattle.std.specs.Prelude.{◌&&◌, not}
use Rattle.std.specs.List.{list_all}
use Rattle.tql_spec.specs.Datum.{Row}
use Rattle.tql_spec.specs.Definition.{TableDef, Key, Stamped, shown}
use Rattle.tql_spec.specs.Constraint.{key_holds, same_key, clash, shown_rows}
use Rattle.tql_key_clashes.specs.Free.{collide, is_free}
use Rattle.tql_key_rows.proofs.Bools.{all_same, all_premised, all_swap, pairs_app, pairs_kept, pairs_map}
use Rattle.tql_key_rows.proofs.Tuples.{matching}

-- a row clashes with no row of a list exactly if it is free among those with its tuple
pub none_clash : (d : TableDef) (k : Key) (rows : List Row) (a : Row)
    → list_all (λ r. not (clash d k r a)) rows ≡ is_free d k rows a
none_clash d k rows a =
    all_premised (λ r. same_key k r a) (λ r. collide d k.by_period r a) rows
    ∙ ap (list_all (λ r. not (collide d k.by_period r a))) (matching k.columns k.columns a rows)

-- rows appended to rows in which the key holds
pub key_joined : (d : TableDef) (k : Key) (kept new : List Row) → key_holds d kept k ≡ true
    → key_holds d (kept ++ new) k ≡ key_holds d new k && list_all (is_free d k kept) new
key_joined d k kept new h =
    pairs_app (λ r s. not (clash d k r s)) kept new
    ∙ ap (λ b. b && (key_holds d new k && list_all (λ r. list_all (λ s. not (clash d k r s)) new) kept)) h
    ∙ ap (λ b. key_holds d new k && b)
    (all_swap (λ r s. not (clash d k r s)) kept new
    ∙ all_same (λ a. list_all (λ r. not (clash d k r a)) kept) (is_free d k kept) new (none_clash d k kept))

-- a key that holds in a list of rows holds in a part of it
pub key_kept : (d : TableDef) (k : Key) (p : Stamped → Bool) (rows : List Stamped)
    → key_holds d (shown_rows d rows) k ≡ true → key_holds d (shown_rows d (filter p rows)) k ≡ true
key_kept d k p rows h =
    pairs_map (λ r s. not (clash d k r s)) (shown d) (filter p rows)
    ∙ pairs_kept (λ (r s : Stamped). not (clash d k (shown d r) (shown d s))) p rows
    (sym (pairs_map (λ r s. not (clash d k r s)) (shown d) rows) ∙ h)
