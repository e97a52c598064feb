-- Where a piece begins.
use Rattle.std.proofs.Common.{◌≡◌, ℕ, ◌==◌, ◌≤◌, Bool, true, false, List, [], ◌∷◌, ◌++◌, length, refl, sym, ap}
use Rattle.std.proofs.Common.{◌∙◌, append_assoc, arith}
use Rattle.std.specs.Prelude.{◌↔◌, ◌||◌, not, IsFalse}
use Rattle.std.specs.List.{list_all}
use Rattle.std.proofs.lemmas.Bool.{and_parts}
use Rattle.tql_spec.specs.Script.{is_blank, begins_comment, without_lead}
use Rattle.tql_spec.specs.Token.{IsGap, IsEnd, IsOneLine, nothing, blank, comment}
use Rattle.tql_spec.proofs.TokenLaws.{end_skipped, blank_no_comment}
use Rattle.tql_lex.proofs.GapLemmas.{gap_before, all_skipped}
use Rattle.tql_run.specs.Cuts.{BeginsAt, PiecesBegin}

-- a comment up to its end, and a gap, are skipped
line_skipped : (words more : List ℕ) → IsOneLine words
    → without_lead true (words ++ 10 ∷ more) ≡ without_lead false more
line_skipped [] more one = refl
line_skipped (w ∷ words) more one =
    let parts = and_parts (not (w == 10)) (list_all (λ c. not (c == 10)) words) one in
    ap (λ t. without_lead t (words ++ 10 ∷ more)) parts.0 ∙ line_skipped words more parts.1

gap_skipped : (gap more : List ℕ) → IsGap gap → without_lead false (gap ++ more) ≡ without_lead false more
gap_skipped gap more nothing = refl
gap_skipped gap more (blank {b} {bs} e g) = rw (e, blank_no_comment b (bs ++ more) e) (gap_skipped bs more g)
gap_skipped gap more (comment words {bs} one g parts) =
    rw parts (ap (without_lead true) (append_assoc words (10 ∷ bs) more) ∙ line_skipped words (bs ++ more) one
    ∙ gap_skipped bs more g)

no_longer : (c : Bool) (bs : List ℕ) → length (without_lead c bs) ≤ length bs
no_longer c [] = omega arith
no_longer true (b ∷ bs) = let k = no_longer (not (b == 10)) bs in omega (arith, k)
no_longer false (b ∷ bs) = by (is_blank b || begins_comment b bs) refl (no_longer (begins_comment b bs) bs) where
  by : (t : Bool) → is_blank b || begins_comment b bs ≡ t → length (without_lead (begins_comment b bs) bs) ≤ length bs
      → length (without_lead false (b ∷ bs)) ≤ length (b ∷ bs)
  by true e k = rw e (omega (arith, k))
  by false e k = rw e (omega arith)

-- bytes from which nothing is skipped begin with neither a blank nor a comment
left_whole : (b : ℕ) (rest : List ℕ) → without_lead false (b ∷ rest) ≡ b ∷ rest
    → is_blank b || begins_comment b rest ≡ false
left_whole b rest e = by (is_blank b || begins_comment b rest) refl where
  by : (t : Bool) → is_blank b || begins_comment b rest ≡ t → is_blank b || begins_comment b rest ≡ false
  by true q =
      let same : without_lead (begins_comment b rest) rest ≡ b ∷ rest = rw q at e in
      let long = ap length same in
      let short = no_longer (begins_comment b rest) rest in absurd (omega (arith, long, short))
  by false q = q

or_none : (x y : Bool) → x || y ≡ false → IsFalse x × IsFalse y
or_none true y e = absurd (cc)
or_none false y e = (refl, e)

begins_at : (bytes : List ℕ) (b : ℕ) (rest : List ℕ) → without_lead false bytes ≡ b ∷ rest → BeginsAt bytes b rest
begins_at bytes b rest e =
    let g = gap_before bytes b rest e in
    let at : without_lead false (b ∷ rest) ≡ b ∷ rest =
    sym (gap_skipped g.0 (b ∷ rest) g.2) ∙ ap (without_lead false) (sym g.1) ∙ e in
    let none = or_none (is_blank b) (begins_comment b rest) (left_whole b rest at) in
    record { gap = g.0; parts = g.1; is_gap = g.2; no_blank = none.0; no_comment = none.1 }

there : (bytes : List ℕ) (b : ℕ) (rest : List ℕ) → BeginsAt bytes b rest → without_lead false bytes ≡ b ∷ rest
there bytes b rest g =
    ap (without_lead false) g.parts ∙ gap_skipped g.gap (b ∷ rest) g.is_gap ∙ rw (g.no_blank, g.no_comment) refl

pub begin : PiecesBegin
begin bytes = (
  (all_skipped bytes, end_skipped bytes),
  λ b rest. (begins_at bytes b rest, there bytes b rest),
)
