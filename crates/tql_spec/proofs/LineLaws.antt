-- The placed statements of a script are at their places.
use Rattle.std.proofs.Common.{◌≡◌, refl, sym, ◌∙◌, ap, ℕ, ◌==◌, Bool, true, false, cond, List, [], ◌∷◌, ◌++◌}
use Rattle.std.proofs.Common.{append_assoc}
use Rattle.std.specs.Prelude.{◌&&◌, ◌||◌, not, map, filter, if◌then◌else◌}
use Rattle.std.specs.List.{AllByRecursion}
use Rattle.std.proofs.lemmas.Bool.{eqb-true, and_parts}
use Rattle.tql_spec.specs.Words.{is_empty}
use Rattle.tql_spec.specs.Script.{ScanState, Outside, Piece, state_after, can_end, with_byte, cut, is_blank}
use Rattle.tql_spec.specs.Script.{begins_comment}
use Rattle.tql_spec.specs.Script.{without_lead, trimmed, statements}
use Rattle.tql_spec.specs.Lines.{Placed, lead, placed_behind, placed_from, StandsIn, StatementsInPlace}

-- ---- the statements

-- whether a statement has any text
abbrev is_filled : Placed → Bool
is_filled p = not (is_empty p.piece.text)

abbrev is_filled_piece : Piece → Bool
is_filled_piece p = not (is_empty p.text)

abbrev piece_of : Placed → Piece
piece_of p = p.piece

pieces_behind : (before : List ℕ) (ps : List Piece)
    → map piece_of (filter is_filled (placed_behind before ps)) ≡ filter is_filled_piece (map trimmed ps)
pieces_behind before [] = refl
pieces_behind before (p ∷ ps) = by (is_filled_piece (trimmed p)) (pieces_behind (before ++ p.text ++ 59 ∷ []) ps) where
  by : (t : Bool) → map piece_of (filter is_filled (placed_behind (before ++ p.text ++ 59 ∷ []) ps))
      ≡ filter is_filled_piece (map trimmed ps)
      → map piece_of (cond t
      (record {
        before = before ++ lead false p.text;
        piece =
            trimmed p;
      } ∷ filter is_filled (placed_behind (before ++ p.text ++ 59 ∷ []) ps))
      (filter is_filled (placed_behind (before ++ p.text ++ 59 ∷ []) ps)))
      ≡ cond t (trimmed p ∷ filter is_filled_piece (map trimmed ps)) (filter is_filled_piece (map trimmed ps))
  by true e = ap (λ (qs : List Piece). trimmed p ∷ qs) e
  by false e = e

-- the statements of bytes do not depend on their place
pub pieces_placed : (before bytes : List ℕ)
    → map (λ (p : Placed). p.piece) (placed_from before bytes) ≡ statements bytes
pieces_placed before bytes = pieces_behind before (cut Outside bytes)

-- ---- their places

-- a text is its leading blanks and comments followed by the rest
pub lead_parts : (in_comment : Bool) (bs : List ℕ) → lead in_comment bs ++ without_lead in_comment bs ≡ bs
lead_parts in_comment [] = refl
lead_parts true (b ∷ bs) = ap (λ (z : List ℕ). b ∷ z) (lead_parts (not (b == 10)) bs)
lead_parts false (b ∷ bs) = by (is_blank b || begins_comment b bs) (lead_parts (begins_comment b bs) bs) where
  by : (t : Bool) → lead (begins_comment b bs) bs ++ without_lead (begins_comment b bs) bs ≡ bs
      → (if t then b ∷ lead (begins_comment b bs) bs else []) ++
      (if t then without_lead (begins_comment b bs) bs else b ∷ bs) ≡ b ∷ bs
  by true e = ap (λ (z : List ℕ). b ∷ z) e
  by false e = refl

-- the bytes of the pieces, with a `;` before each
abbrev behind : List Piece → List ℕ
behind [] = []
behind (p ∷ ps) = 59 ∷ p.text ++ behind ps

-- the bytes of the pieces, with a `;` between them
abbrev together : List Piece → List ℕ
together [] = []
together (p ∷ ps) = p.text ++ behind ps

together_with : (b : ℕ) (ps : List Piece) → together (with_byte b ps) ≡ b ∷ together ps
together_with b [] = refl
together_with b (p ∷ ps) = refl

behind_with : (b : ℕ) (ps : List Piece) → behind (with_byte b ps) ≡ 59 ∷ together (with_byte b ps)
behind_with b [] = refl
behind_with b (p ∷ ps) = refl

behind_cut : (p : ScanState) (bs : List ℕ) → behind (cut p bs) ≡ 59 ∷ together (cut p bs)
behind_cut p [] = refl
behind_cut p (b ∷ bs) = by ((b == 59) && can_end p) where
  by : (t : Bool) → behind
      (if t then record { text = []; finished = true } ∷ cut (state_after p b) bs else with_byte b
      (cut (state_after p b) bs))
      ≡ 59 ∷ together (if t then record { text = []; finished = true } ∷ cut (state_after p b) bs else with_byte b
      (cut (state_after p b) bs))
  by true = refl
  by false = behind_with b (cut (state_after p b) bs)

-- the cut pieces together are the bytes
together_cut : (p : ScanState) (bs : List ℕ) → together (cut p bs) ≡ bs
together_cut p [] = refl
together_cut p (b ∷ bs) = by ((b == 59) && can_end p) refl (together_cut (state_after p b) bs) where
  by : (t : Bool) → ((b == 59) && can_end p) ≡ t → together (cut (state_after p b) bs) ≡ bs
      → together (if t then record { text = []; finished = true } ∷ cut (state_after p b) bs else with_byte b
      (cut (state_after p b) bs)) ≡ b ∷ bs
  by true q e =
      let same : 59 ≡ b = sym (eqb-true b 59 (and_parts (b == 59) (can_end p) q).0) in
      behind_cut (state_after p b) bs ∙ ap (λ (z : List ℕ). 59 ∷ z) e ∙ ap (λ (z : ℕ). z ∷ bs) same
  by false q e = together_with b (cut (state_after p b) bs) ∙ ap (λ (z : List ℕ). b ∷ z) e

-- the script is the bytes `before` and then the bytes of the pieces
abbrev Follow : List ℕ → List ℕ → List Piece → Type 0
Follow script before [] = Unit {0}
Follow script before (p ∷ ps) = script ≡ before ++ p.text ++ behind ps

stands_here : (script before : List ℕ) (p : Piece) (ps : List Piece) → script ≡ before ++ p.text ++ behind ps
    → StandsIn script (record { before = before ++ lead false p.text; piece = trimmed p })
stands_here script before p ps e =
    let text = ap (λ (z : List ℕ). before ++ z) (sym (lead_parts false p.text))
    ∙ sym (append_assoc before (lead false p.text) (without_lead false p.text)) in
    record { rest = behind ps; parts = e ∙ ap (λ (z : List ℕ). z ++ behind ps) text }

follow_on : (script before : List ℕ) (p : Piece) (ps : List Piece) → script ≡ before ++ p.text ++ behind ps
    → Follow script (before ++ p.text ++ 59 ∷ []) ps
follow_on script before p [] e = tt
follow_on script before p (q ∷ qs) e =
    e ∙ sym (append_assoc (before ++ p.text) (59 ∷ []) (q.text ++ behind qs))
    ∙ sym (append_assoc (before ++ p.text ++ 59 ∷ []) q.text (behind qs))

each_stands : (script before : List ℕ) (ps : List Piece) → Follow script before ps
    → AllByRecursion (StandsIn script) (placed_behind before ps)
each_stands script before [] f = tt
each_stands script before (p ∷ ps) f = (
  stands_here script before p ps f,
  each_stands script (before ++ p.text ++ 59 ∷ []) ps (follow_on script before p ps f),
)

filter_keeps : (P : Placed → Type 0) (test : Placed → Bool) (ps : List Placed) → AllByRecursion P ps
    → AllByRecursion P (filter test ps)
filter_keeps P test [] a = tt
filter_keeps P test (p ∷ ps) a = by (test p) (filter_keeps P test ps a.1) where
  by : (t : Bool) → AllByRecursion P (filter test ps) → AllByRecursion P (cond t (p ∷ filter test ps) (filter test ps))
  by true rest = (a.0, rest)
  by false rest = rest

first_follows : (script : List ℕ) (ps : List Piece) → script ≡ together ps → Follow script [] ps
first_follows script [] e = tt
first_follows script (p ∷ ps) e = e

pub in_place : (script : List ℕ) → StatementsInPlace script
in_place script = record {
  all = pieces_placed [] script;
  each = filter_keeps (StandsIn script) is_filled (placed_behind [] (cut Outside script))
      (each_stands script [] (cut Outside script)
      (first_follows script (cut Outside script) (sym (together_cut Outside script))));
}
