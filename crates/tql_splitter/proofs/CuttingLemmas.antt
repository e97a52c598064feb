-- Where pieces end, and what statements they are.
use Rattle.std.proofs.Common.{◌≡◌, ℕ, suc, ◌+◌, ◌<◌, ◌≤◌, ◌==◌, Bool, true, false, cond, List, [], ◌∷◌, ◌++◌, length}
use Rattle.std.proofs.Common.{take, drop, Option, Some, None, refl, sym, ap, ◌∙◌, arith, append-nil}
use Rattle.std.proofs.Common.{length-append, length-drop, drop-drop, drop_at, ◌-◌}
use Rattle.std.proofs.lemmas.Bool.{eqb-true}
use Rattle.std.specs.Prelude.{◌&&◌, not, filter}
use Rattle.tql_spec.specs.Script.{ScanState, Outside, AfterDash, InText, InName, InComment, Piece, state_after, can_end}
use Rattle.tql_spec.specs.Script.{cut, trimmed}
use Rattle.tql_spec.specs.Words.{is_empty}
use Rattle.tql_spec.specs.Lines.{Placed, lead, placed_behind, placed_from}
use Rattle.tql_splitter.specs.Cutting.{one_more, end_from, finished_piece, unfinished_piece}

-- ---- where a piece ends, and what is cut off

abbrev pub ends : ScanState → ℕ → Bool
ends p b = (b == 59) && can_end p

first_true : (x y : Bool) → (x && y) ≡ true → x ≡ true
first_true true y e = refl
first_true false y e = absurd cc

second_true : (x y : Bool) → (x && y) ≡ true → y ≡ true
second_true true y e = e
second_true false y e = absurd cc

outside_again : (p : ScanState) → can_end p ≡ true → state_after p 59 ≡ Outside
outside_again Outside e = refl
outside_again AfterDash e = refl
outside_again InText e = absurd cc
outside_again InName e = absurd cc
outside_again InComment e = absurd cc

outside_behind : (p : ScanState) (b : ℕ) → ends p b ≡ true → state_after p b ≡ Outside
outside_behind p b e = let same : b ≡ 59 =
    eqb-true b 59 (first_true (b == 59) (can_end p) e) in ap (state_after p) same
    ∙ outside_again p (second_true (b == 59) (can_end p) e)

some_is : {X : Type 0} (x y : X) → Option.Some x ≡ Option.Some y → x ≡ y
some_is x y e = cc

pub some_none : (n : ℕ) → Option.Some n ≡ Option.None → ⊥
some_none n e = cc

more_is : (o : Option ℕ) (n : ℕ) → one_more o ≡ Some n → (m : ℕ) × (o ≡ Some m) × (n ≡ suc m)
more_is None n e = absurd cc
more_is (Some m) n e = (m, refl, cc)

pub none_is : (o : Option ℕ) → one_more o ≡ None → o ≡ None
none_is None e = refl
none_is (Some m) e = absurd cc

pub cut_ends : (p : ScanState) (bs more : List ℕ) (n : ℕ) → end_from p bs ≡ Some n
    → cut p (bs ++ more) ≡ finished_piece (take n bs) ∷ cut Outside (drop (suc n) bs ++ more)
cut_ends p [] more n e = absurd cc
cut_ends p (b ∷ bs) more n e = by (ends p b) refl (cut_ends (state_after p b) bs more) where
  by : (t : Bool) → ends p b ≡ t
      → ((k : ℕ) → end_from (state_after p b) bs ≡ Some k
      → cut (state_after p b) (bs ++ more) ≡ finished_piece (take k bs) ∷ cut Outside (drop (suc k) bs ++ more))
      → cut p (b ∷ bs ++ more) ≡ finished_piece (take n (b ∷ bs)) ∷ cut Outside (drop (suc n) (b ∷ bs) ++ more)
  by true q rest = let z : 0 ≡ n = some_is 0 n (rw q at e) in rw (q, outside_behind p b q, ← z) refl
  by false q rest = let k = more_is (end_from (state_after p b) bs) n (rw q at e) in rw (q, k.2, rest k.0 k.1) refl

pub cut_never : (p : ScanState) (bs : List ℕ) → end_from p bs ≡ None → cut p bs ≡ unfinished_piece bs ∷ []
cut_never p [] e = refl
cut_never p (b ∷ bs) e = by (ends p b) refl (cut_never (state_after p b) bs) where
  by : (t : Bool) → ends p b ≡ t
      → (end_from (state_after p b) bs ≡ None → cut (state_after p b) bs ≡ unfinished_piece bs ∷ [])
      → cut p (b ∷ bs) ≡ unfinished_piece (b ∷ bs) ∷ []
  by true q rest = absurd (some_none 0 (rw q at e))
  by false q rest = rw (q, rest (none_is (end_from (state_after p b) bs) (rw q at e))) refl

-- ---- the statements of what is cut

-- the statement of a piece with the bytes before it, where the piece contains a statement
abbrev pub one_placed : Placed → List Placed
one_placed p = cond (not (is_empty p.piece.text)) (p ∷ []) []

one_placed_and : (p : Placed) (ps : List Placed)
    → filter (λ (q : Placed). not (is_empty q.piece.text)) (p ∷ ps) ≡ one_placed p ++ filter
    (λ (q : Placed). not (is_empty q.piece.text)) ps
one_placed_and p ps = by (not (is_empty p.piece.text)) where
  by : (t : Bool) → cond t (p ∷ filter (λ (q : Placed). not (is_empty q.piece.text)) ps)
      (filter (λ (q : Placed). not (is_empty q.piece.text)) ps) ≡ cond t (p ∷ []) [] ++ filter
      (λ (q : Placed). not (is_empty q.piece.text)) ps
  by true = refl
  by false = refl

-- a piece after these bytes
abbrev pub piece_behind : List ℕ → Piece → Placed
piece_behind ahead p = record { before = ahead ++ lead false p.text; piece = trimmed p }

pub placed_ends : (ahead bs more : List ℕ) (n : ℕ) → end_from Outside bs ≡ Some n
    → placed_from ahead (bs ++ more) ≡ one_placed (piece_behind ahead (finished_piece (take n bs))) ++ placed_from
    (ahead ++ take n bs ++ 59 ∷ []) (drop (suc n) bs ++ more)
placed_ends ahead bs more n e =
    rw (cut_ends Outside bs more n e)
    (one_placed_and (piece_behind ahead (finished_piece (take n bs)))
    (placed_behind (ahead ++ take n bs ++ 59 ∷ []) (cut Outside (drop (suc n) bs ++ more))))

pub placed_never : (ahead bs : List ℕ) → end_from Outside bs ≡ None
    → placed_from ahead bs ≡ one_placed (piece_behind ahead (unfinished_piece bs))
placed_never ahead bs e = rw (cut_never Outside bs e) (one_placed_and (piece_behind ahead (unfinished_piece bs)) []
    ∙ append-nil (one_placed (piece_behind ahead (unfinished_piece bs))))

pub placed_none : (before text : List ℕ) (f : Bool) → length text ≡ 0
    → one_placed (record { before = before; piece = record { text = text; finished = f } }) ≡ []
placed_none before [] f e = refl
placed_none before (b ∷ bs) f e = absurd (omega arith)

pub placed_some : (before text : List ℕ) (f : Bool) → 0 < length text
    → one_placed (record { before = before; piece = record { text = text; finished = f } }) ≡ record {
      before = before;
      piece = record { text = text; finished = f };
    } ∷ []
placed_some before [] f e = absurd (omega arith)
placed_some before (b ∷ bs) f e = refl
