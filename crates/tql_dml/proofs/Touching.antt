-- The effect on a touched row, part by part.
use Rattle.std.specs.Prelude.{◌≡◌, ℕ, List, [], ◌∷◌, ◌++◌, map, Option, option_map, Some, None}
use Rattle.std.proofs.Common.{sym, ap, ◌∙◌, append_assoc}
use Rattle.std.proofs.lemmas.List.{map-append}
use Rattle.tql_spec.specs.Words.{◌>>=◌}
use Rattle.tql_spec.specs.Datum.{Row}
use Rattle.tql_spec.specs.Definition.{TableDef, without_generated}
use Rattle.tql_spec.specs.Change.{Work, made_of, pieces}
use Rattle.tql_spec.specs.Period.{Period}
use Rattle.tql_period.specs.Points.{points_of, points_of_piece}
use Rattle.tql_period.specs.declared.pieces.Pieces.{Pieces}
use Rattle.tql_dml.specs.Cutting.{within, left, left_cells, made_cells, IsCut}
use Rattle.tql_dml.specs.Parts.{Parts, before, with_rows, touched_part}

-- the effect so far, with one more removed id
abbrev pub with_id : Parts → ℕ → Parts
with_id p id = record { gone = p.gone ++ id ∷ []; come = p.come }

inner : {A : Type 0} (x y : A) → Some x ≡ Some y → y ≡ x
inner x y e = cc

-- the new rows are those left and those made
pub touch_is : (d : TableDef) (portion : Option Period) (work : Work) (id : ℕ) (row : Row) (cut : Pieces)
    → IsCut d portion row cut
    → (p q s : Parts) → with_rows (with_id p id) (Some (left_cells d row cut.before)) ≡ Some q
    → with_rows q (made_cells d (option_map points_of cut.inside) work row) ≡ Some s
    → with_rows s (Some (left_cells d row cut.after)) ≡ before p (touched_part d portion work id row)
touch_is d portion work id row cut k p q s first second = by_made (made_of work row) second
  where
    stored : Row → Row
    stored = without_generated d.system

    part : Option Period
    part = option_map points_of cut.inside

    b : List Row
    b = left d row (points_of_piece cut.before)

    a : List Row
    a = left d row (points_of_piece cut.after)

    by_made : (o : Option (List Row))
        → with_rows q (o >>= λ made. Some (map stored (map (within d part) made))) ≡ Some s
        → with_rows s (Some (map stored a)) ≡ before p
        (o >>= λ made. Some (record { gone = id ∷ []; come = map stored (pieces d portion row made) }))
    by_made None e = absurd (cc)
    by_made (Some made) e =
        let m : List Row = map (within d part) made in
        let q_is : q ≡ record { gone = p.gone ++ id ∷ []; come = p.come ++ map stored b } =
        inner (record { gone = p.gone ++ id ∷ []; come = p.come ++ map stored b }) q first in
        let s_is : s ≡ record { gone = q.gone; come = q.come ++ map stored m } =
        inner (record { gone = q.gone; come = q.come ++ map stored m }) s e in
        let lists : ((p.come ++ map stored b) ++ map stored m) ++ map stored a ≡ p.come ++ map stored
        (pieces d portion row made) =
        append_assoc (p.come ++ map stored b) (map stored m) (map stored a)
        ∙ append_assoc p.come (map stored b) (map stored m ++ map stored a)
        ∙ ap (λ (rows : List Row). p.come ++ rows)
        (sym (append_assoc (map stored b) (map stored m) (map stored a))
        ∙ sym (map-append stored (b ++ m) a ∙ ap (λ (rows : List Row). rows ++ map stored a) (map-append stored b m))
        ∙ ap (map stored) (sym (k.replaced made))) in
        ap {B = Option Parts} (λ (x : Parts). Some (record { gone = x.gone; come = x.come ++ map stored a })) s_is
        ∙ ap {B = Option Parts}
        (λ (x : Parts). Some (record { gone = x.gone; come = (x.come ++ map stored m) ++ map stored a })) q_is
        ∙ ap {B = Option Parts} (λ (rows : List Row). Some (record { gone = p.gone ++ id ∷ []; come = rows })) lists
