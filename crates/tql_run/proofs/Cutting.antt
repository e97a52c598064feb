-- A script is cut into its pieces, and no other list of pieces is a cut of it.
use Rattle.std.proofs.Common.{◌≡◌, ℕ, ◌==◌, Bool, true, false, List, [], ◌∷◌, ◌++◌, refl, sym, ap, subst, ◌∙◌}
use Rattle.std.proofs.Common.{append_assoc, append-nil}
use Rattle.std.proofs.Common.{inl, inr}
use Rattle.std.specs.Prelude.{◌⊎◌, ◌&&◌, not, IsTrue, IsFalse, MatchBool}
use Rattle.std.specs.List.{list_all}
use Rattle.std.proofs.lemmas.Bool.{eqb-true, and_parts, and_from, and_right, true≢false}
use Rattle.std.specs.Prelude.{if◌then◌else◌}
use Rattle.tql_spec.specs.Script.{Piece, ScanState, Outside, AfterDash, InText, InName, InComment, state_after}
use Rattle.tql_spec.specs.Script.{can_end, cut, with_byte, opened_by, begins_comment, starts_with_dash}
use Rattle.tql_spec.specs.Token.{IsOneLine}
use Rattle.tql_run.specs.Cuts.{Lacks, is_plain, IsPiece, nothing, plain, text, name, comment, open_text, open_name}
use Rattle.tql_run.specs.Cuts.{open_comment, ArePieces, ended_by, joined, IsCut, ScriptsAreCut}

-- ---- the pieces that are cut

-- the remaining bytes of a piece, given the state of the scanner
abbrev Goes : ScanState → Bool → List ℕ → Type 0
Goes Outside finished bytes = IsPiece finished bytes
Goes AfterDash finished bytes = IsPiece finished (45 ∷ bytes)
Goes InText finished bytes =
    ((words : List ℕ) × (bs : List ℕ) × Lacks 39 words × IsPiece finished bs × (bytes ≡ words ++ 39 ∷ bs))
    ⊎ ((finished ≡ false) × Lacks 39 bytes)
Goes InName finished bytes =
    ((words : List ℕ) × (bs : List ℕ) × Lacks 34 words × IsPiece finished bs × (bytes ≡ words ++ 34 ∷ bs))
    ⊎ ((finished ≡ false) × Lacks 34 bytes)
Goes InComment finished bytes =
    ((words : List ℕ) × (bs : List ℕ) × IsOneLine words × IsPiece finished bs × (bytes ≡ words ++ 10 ∷ bs))
    ⊎ ((finished ≡ false) × IsOneLine bytes)

-- the pieces that are cut, given the state of the scanner
record Found (s : ScanState) (bytes : List ℕ) : Type 0 where
  piece : Piece
  more : List Piece
  is : cut s bytes ≡ piece ∷ more
  goes : Goes s piece.finished piece.text
  others : MatchBool piece.finished (ArePieces more) (more ≡ [])
  whole : joined (piece ∷ more) ≡ bytes

lacks_more : (b c : ℕ) (words : List ℕ) → (c == b) ≡ false → Lacks b words → Lacks b (c ∷ words)
lacks_more b c words e l = and_from (not (c == b)) (list_all (λ d. not (d == b)) words) (ap not e) l

no_dash : (b : ℕ) (bs : List ℕ) → (b == 45) ≡ false → begins_comment b bs ≡ false
no_dash b bs e = ap (λ t. t && starts_with_dash bs) e

is_plain_byte : (b : ℕ) → (b == 59) ≡ false → (b == 39) ≡ false → (b == 34) ≡ false → is_plain b ≡ true
is_plain_byte b e f g = ap (λ t. not t && (not (b == 39) && not (b == 34))) e
    ∙ ap (λ t. not t && not (b == 34)) f ∙ ap not g

-- a quotation mark, and the rest of the quoted text
in_text : (finished : Bool) (bytes : List ℕ) → Goes InText finished bytes → IsPiece finished (39 ∷ bytes)
in_text finished bytes (inl g) = text g.0 g.2 g.3 (ap (λ (z : List ℕ). 39 ∷ z) g.4)
in_text finished bytes (inr g) = subst (λ f. IsPiece f (39 ∷ bytes)) (sym g.0) (open_text g.1)

in_name : (finished : Bool) (bytes : List ℕ) → Goes InName finished bytes → IsPiece finished (34 ∷ bytes)
in_name finished bytes (inl g) = name g.0 g.2 g.3 (ap (λ (z : List ℕ). 34 ∷ z) g.4)
in_name finished bytes (inr g) = subst (λ f. IsPiece f (34 ∷ bytes)) (sym g.0) (open_name g.1)

in_comment : (finished : Bool) (bytes : List ℕ) → Goes InComment finished bytes → IsPiece finished (45 ∷ 45 ∷ bytes)
in_comment finished bytes (inl g) = comment g.0 g.2 g.3 (ap (λ (z : List ℕ). 45 ∷ 45 ∷ z) g.4)
in_comment finished bytes (inr g) = subst (λ f. IsPiece f (45 ∷ 45 ∷ bytes)) (sym g.0) (open_comment g.1)

-- a byte other than `-` and `;`, outside or after one `-`
opened : (f : Bool) (b : ℕ) (bs : List ℕ) → (b == 59) ≡ false → (b == 45) ≡ false → Goes (opened_by b) f bs
    → IsPiece f (b ∷ bs)
opened f b bs e d g = by (b == 39) refl (b == 34) refl g where
  by : (t : Bool) → (b == 39) ≡ t → (u : Bool) → (b == 34) ≡ u → Goes (opened_by b) f bs → IsPiece f (b ∷ bs)
  by true p u q g = subst (λ (c : ℕ). IsPiece f (c ∷ bs)) (sym (eqb-true b 39 p)) (in_text f bs (rw p at g))
  by false p true q g =
      subst (λ (c : ℕ). IsPiece f (c ∷ bs)) (sym (eqb-true b 34 q)) (in_name f bs (rw (p, q) at g))
  by false p false q g = plain (is_plain_byte b e p q) (no_dash b bs d) (rw (p, q) at g)

-- one more byte
goes_on : (s : ScanState) (b : ℕ) (f : Bool) (bs : List ℕ) → (b == 59) && can_end s ≡ false
    → Goes (state_after s b) f bs → Goes s f (b ∷ bs)
goes_on Outside b f bs e g = by (b == 59) refl (b == 45) refl e g where
  by : (t : Bool) → (b == 59) ≡ t → (u : Bool) → (b == 45) ≡ u → t && true ≡ false → Goes (state_after Outside b) f bs
      → IsPiece f (b ∷ bs)
  by true p u q e g = absurd (cc)
  by false p true q e g = subst (λ (c : ℕ). IsPiece f (c ∷ bs)) (sym (eqb-true b 45 q)) (rw q at g)
  by false p false q e g = opened f b bs p q (rw q at g)
goes_on AfterDash b f bs e g = by (b == 59) refl (b == 45) refl e g where
  by : (t : Bool) → (b == 59) ≡ t → (u : Bool) → (b == 45) ≡ u → t && true ≡ false
      → Goes (state_after AfterDash b) f bs → IsPiece f (45 ∷ b ∷ bs)
  by true p u q e g = absurd (cc)
  by false p true q e g =
      subst (λ (c : ℕ). IsPiece f (45 ∷ c ∷ bs)) (sym (eqb-true b 45 q)) (in_comment f bs (rw q at g))
  by false p false q e g = plain refl q (opened f b bs p q (rw q at g))
goes_on InText b f bs e g = by (b == 39) refl g where
  by : (t : Bool) → (b == 39) ≡ t → Goes (state_after InText b) f bs → Goes InText f (b ∷ bs)
  by true p g = inl ([], bs, refl, rw p at g, ap (λ (c : ℕ). c ∷ bs) (eqb-true b 39 p))
  by false p g = more (rw p at g) where
    more : Goes InText f bs → Goes InText f (b ∷ bs)
    more (inl h) = inl (b ∷ h.0, h.1, lacks_more 39 b h.0 p h.2, h.3, ap (λ (z : List ℕ). b ∷ z) h.4)
    more (inr h) = inr (h.0, lacks_more 39 b bs p h.1)
goes_on InName b f bs e g = by (b == 34) refl g where
  by : (t : Bool) → (b == 34) ≡ t → Goes (state_after InName b) f bs → Goes InName f (b ∷ bs)
  by true p g = inl ([], bs, refl, rw p at g, ap (λ (c : ℕ). c ∷ bs) (eqb-true b 34 p))
  by false p g = more (rw p at g) where
    more : Goes InName f bs → Goes InName f (b ∷ bs)
    more (inl h) = inl (b ∷ h.0, h.1, lacks_more 34 b h.0 p h.2, h.3, ap (λ (z : List ℕ). b ∷ z) h.4)
    more (inr h) = inr (h.0, lacks_more 34 b bs p h.1)
goes_on InComment b f bs e g = by (b == 10) refl g where
  by : (t : Bool) → (b == 10) ≡ t → Goes (state_after InComment b) f bs → Goes InComment f (b ∷ bs)
  by true p g = inl ([], bs, refl, rw p at g, ap (λ (c : ℕ). c ∷ bs) (eqb-true b 10 p))
  by false p g = more (rw p at g) where
    more : Goes InComment f bs → Goes InComment f (b ∷ bs)
    more (inl h) = inl (b ∷ h.0, h.1, lacks_more 10 b h.0 p h.2, h.3, ap (λ (z : List ℕ). b ∷ z) h.4)
    more (inr h) = inr (h.0, lacks_more 10 b bs p h.1)

-- no more bytes
goes_nowhere : (s : ScanState) → Goes s false []
goes_nowhere Outside = nothing
goes_nowhere AfterDash = plain refl refl nothing
goes_nowhere InText = inr (refl, refl)
goes_nowhere InName = inr (refl, refl)
goes_nowhere InComment = inr (refl, refl)

-- a `;` that ends a piece
ends : (s : ScanState) → can_end s ≡ true → Goes s true [] × (state_after s 59 ≡ Outside)
ends Outside e = (nothing, refl)
ends AfterDash e = (plain refl refl nothing, refl)
ends InText e = absurd (cc)
ends InName e = absurd (cc)
ends InComment e = absurd (cc)

found : (s : ScanState) (bytes : List ℕ) → Found s bytes
found s [] = record {
  piece = record { text = []; finished = false };
  more = [];
  is = refl;
  goes = goes_nowhere s;
  others = refl;
  whole = refl;
}
found s (b ∷ bs) = by ((b == 59) && can_end s) refl (found (state_after s b) bs) where
  by : (t : Bool) → (b == 59) && can_end s ≡ t → Found (state_after s b) bs → Found s (b ∷ bs)
  by true e r =
      let is_end = and_parts (b == 59) (can_end s) e in
      let at : b ≡ 59 = eqb-true b 59 is_end.0 in
      let there = ends s is_end.1 in
      let next : state_after s b ≡ Outside = ap (state_after s) at ∙ there.1 in
      record {
        piece = record { text = []; finished = true };
        more = r.piece ∷ r.more;
        is = rw (e, r.is) (refl);
        goes = there.0;
        others = (subst (λ z. Goes z r.piece.finished r.piece.text) next r.goes, r.others);
        whole = ap (λ (c : ℕ). c ∷ joined (r.piece ∷ r.more)) (sym at) ∙ ap (λ (z : List ℕ). b ∷ z) r.whole;
      }
  by false e r = record {
    piece = record r.piece { text = b ∷ r.piece.text };
    more = r.more;
    is = rw (e, r.is) (refl);
    goes = goes_on s b r.piece.finished r.piece.text e r.goes;
    others = r.others;
    whole = ap (λ (z : List ℕ). b ∷ z) r.whole;
  }

-- ---- no other pieces

not_true : (b : Bool) → not b ≡ true → b ≡ false
not_true true e = absurd (cc)
not_true false e = refl

-- a byte that ends no piece becomes the first byte of the next piece
one_byte : (s : ScanState) (b : ℕ) (bs : List ℕ) (p : Piece) (ps : List Piece) → (b == 59) && can_end s ≡ false
    → cut (state_after s b) bs ≡ p ∷ ps → cut s (b ∷ bs) ≡ record p { text = b ∷ p.text } ∷ ps
one_byte s b bs p ps e r = rw (e, r) (refl)

-- a state that lasts until this byte
record Quote (s : ScanState) (close : ℕ) : Type 0 where
  no_end : can_end s ≡ false
  after : (c : ℕ) → state_after s c ≡ (if c == close then Outside else s)

in_texts : Quote InText 39
in_texts = record { no_end = refl; after = λ c. refl }

in_names : Quote InName 34
in_names = record { no_end = refl; after = λ c. refl }

in_comments : Quote InComment 10
in_comments = record { no_end = refl; after = λ c. refl }

-- another byte in that state: the piece does not end, and the state remains
quoted_byte : (s : ScanState) (close c : ℕ) (bs : List ℕ) (p : Piece) (ps : List Piece) → Quote s close
    → (c == close) ≡ false → cut s bs ≡ p ∷ ps → cut s (c ∷ bs) ≡ record p { text = c ∷ p.text } ∷ ps
quoted_byte s close c bs p ps q e r =
    one_byte s c bs p ps (and_right (c == 59) (can_end s) q.no_end)
    (ap (λ z. cut z bs) (q.after c ∙ ap (λ t. if t then Outside else s) e) ∙ r)

first_lacks : (close c : ℕ) (words : List ℕ) → Lacks close (c ∷ words) → (c == close) ≡ false
first_lacks close c words l =
    not_true (c == close) (and_parts (not (c == close)) (list_all (λ d. not (d == close)) words) l).0

rest_lacks : (close c : ℕ) (words : List ℕ) → Lacks close (c ∷ words) → Lacks close words
rest_lacks close c words l = (and_parts (not (c == close)) (list_all (λ d. not (d == close)) words) l).1

-- bytes up to the end of a quote
quoted : (s : ScanState) (close : ℕ) (words bs : List ℕ) (p : Piece) (ps : List Piece) → Quote s close
    → (close == close) ≡ true → Lacks close words → cut Outside bs ≡ p ∷ ps
    → cut s (words ++ close ∷ bs) ≡ record p { text = words ++ close ∷ p.text } ∷ ps
quoted s close [] bs p ps q same l e =
    one_byte s close bs p ps (and_right (close == 59) (can_end s) q.no_end)
    (ap (λ z. cut z bs) (q.after close ∙ ap (λ t. if t then Outside else s) same) ∙ e)
quoted s close (w ∷ words) bs p ps q same l e =
    quoted_byte s close w (words ++ close ∷ bs) (record p { text = words ++ close ∷ p.text }) ps q
    (first_lacks close w words l) (quoted s close words bs p ps q same (rest_lacks close w words l) e)

-- bytes up to the end of the script, in an open quote
unquoted : (s : ScanState) (close : ℕ) (words : List ℕ) → Quote s close → Lacks close words
    → cut s words ≡ record { text = words; finished = false } ∷ []
unquoted s close [] q l = refl
unquoted s close (w ∷ words) q l =
    quoted_byte s close w words (record { text = words; finished = false }) [] q (first_lacks close w words l)
    (unquoted s close words q (rest_lacks close w words l))

-- the bytes after a piece, and the pieces that are cut from them
record Behind (finished : Bool) (rest : List ℕ) (ps : List Piece) : Type 0 where
  ended : MatchBool finished ((more : List ℕ) × (rest ≡ 59 ∷ more) × (cut Outside more ≡ ps)) ((rest ≡ []) × (ps ≡ []))

stops : (s : ScanState) (f : Bool) (rest : List ℕ) (ps : List Piece) → can_end s ≡ true → Behind f rest ps
    → cut s rest ≡ record { text = []; finished = f } ∷ ps
stops Outside true rest ps e b =
    ap (cut Outside) b.ended.1 ∙ ap (λ z. record { text = []; finished = true } ∷ z) b.ended.2
stops AfterDash true rest ps e b =
    ap (cut AfterDash) b.ended.1 ∙ ap (λ z. record { text = []; finished = true } ∷ z) b.ended.2
stops InText true rest ps e b = absurd (cc)
stops InName true rest ps e b = absurd (cc)
stops InComment true rest ps e b = absurd (cc)
stops s false rest ps e b = ap (cut s) b.ended.0 ∙ ap (λ z. record { text = []; finished = false } ∷ z) (sym b.ended.1)

plain_parts : (b : ℕ) → is_plain b ≡ true → ((b == 59) ≡ false) × ((b == 39) ≡ false) × ((b == 34) ≡ false)
plain_parts b e =
    let one = and_parts (not (b == 59)) (not (b == 39) && not (b == 34)) e in
    let two = and_parts (not (b == 39)) (not (b == 34)) one.1 in
    (not_true (b == 59) one.0, not_true (b == 39) two.0, not_true (b == 34) two.1)

-- after a plain byte that is not `-`, the scanner is outside
plain_opens : (b : ℕ) → is_plain b ≡ true → opened_by b ≡ Outside
plain_opens b e =
    let parts = plain_parts b e in
    ap (λ t. if t then InText else (if b == 34 then InName else Outside)) parts.1
    ∙ ap (λ t. if t then InName else Outside) parts.2

-- a piece is cut off before the rest
abbrev Cuts : Bool → List ℕ → List Piece → ScanState → List ℕ → Type 0
Cuts f rest ps s bytes = cut s (bytes ++ rest) ≡ record { text = bytes; finished = f } ∷ ps

-- the same outside, and after a `-` unless the bytes complete a comment
abbrev CutsEither : Bool → List ℕ → List Piece → List ℕ → Type 0
CutsEither f rest ps bytes =
    Cuts f rest ps Outside bytes × (IsFalse (starts_with_dash bytes) → Cuts f rest ps AfterDash bytes)

-- a quoted part, up to the byte that closes it
quote_cut : (f : Bool) (rest : List ℕ) (ps : List Piece) (s : ScanState) (close : ℕ) (words bs : List ℕ) → Quote s close
    → (close == close) ≡ true → Lacks close words → Cuts f rest ps Outside bs
    → Cuts f rest ps s (words ++ close ∷ bs)
quote_cut f rest ps s close words bs q same l k =
    ap (cut s) (append_assoc words (close ∷ bs) rest)
    ∙ quoted s close words (bs ++ rest) (record { text = bs; finished = f }) ps q same l k

-- a quote that is open at the end
open_cut : (rest : List ℕ) (ps : List Piece) (s : ScanState) (close : ℕ) (words : List ℕ) → Quote s close
    → Lacks close words → Behind false rest ps → Cuts false rest ps s words
open_cut rest ps s close words q l b =
    ap (λ z. cut s (words ++ z)) b.ended.0 ∙ ap (cut s) (append-nil words) ∙ unquoted s close words q l
    ∙ ap (λ z. record { text = words; finished = false } ∷ z) (sym b.ended.1)

-- one byte before the others
front : (f : Bool) (rest : List ℕ) (ps : List Piece) (s : ScanState) (b : ℕ) (bs : List ℕ)
    → (b == 59) && can_end s ≡ false → Cuts f rest ps (state_after s b) bs → Cuts f rest ps s (b ∷ bs)
front f rest ps s b bs e k = one_byte s b (bs ++ rest) (record { text = bs; finished = f }) ps e k

plain_cut : (f : Bool) (rest : List ℕ) (ps : List Piece) (b : ℕ) (bs : List ℕ) → is_plain b ≡ true
    → begins_comment b bs ≡ false → CutsEither f rest ps bs → CutsEither f rest ps (b ∷ bs)
plain_cut f rest ps b bs e none k = by (b == 45) refl where
  no_end : (s : ScanState) → (b == 59) && can_end s ≡ false
  no_end s = ap (λ t. t && can_end s) (plain_parts b e).0

  by : (t : Bool) → (b == 45) ≡ t → CutsEither f rest ps (b ∷ bs)
  by true d = (
    front f rest ps Outside b bs (no_end Outside)
        (subst (λ s. Cuts f rest ps s bs) (sym (ap (λ t. if t then AfterDash else opened_by b) d))
        (k.1 (sym (ap (λ t. t && starts_with_dash bs) d) ∙ none))),
    λ never. absurd (cc),
  )
  by false d =
      let opens = plain_opens b e in (
        front f rest ps Outside b bs (no_end Outside)
            (subst (λ s. Cuts f rest ps s bs) (sym (ap (λ t. if t then AfterDash else opened_by b) d ∙ opens)) k.0),
        λ never. front f rest ps AfterDash b bs (no_end AfterDash)
            (subst (λ s. Cuts f rest ps s bs) (sym (ap (λ t. if t then InComment else opened_by b) d ∙ opens)) k.0),
      )

both_ways : (f : Bool) (rest : List ℕ) (ps : List Piece) (b : ℕ) (bs bytes : List ℕ) → (b == 59) ≡ false
    → (b == 45) ≡ false → Cuts f rest ps (opened_by b) bs → bytes ≡ b ∷ bs → CutsEither f rest ps bytes
both_ways f rest ps b bs bytes e d k is = subst (CutsEither f rest ps) (sym is) (
  front f rest ps Outside b bs (ap (λ t. t && true) e)
      (subst (λ s. Cuts f rest ps s bs) (sym (ap (λ t. if t then AfterDash else opened_by b) d)) k),
  λ never. front f rest ps AfterDash b bs (ap (λ t. t && true) e)
      (subst (λ s. Cuts f rest ps s bs) (sym (ap (λ t. if t then InComment else opened_by b) d)) k),
)

comment_cut : (f : Bool) (rest : List ℕ) (ps : List Piece) (bs bytes : List ℕ) → Cuts f rest ps InComment bs
    → bytes ≡ 45 ∷ 45 ∷ bs → CutsEither f rest ps bytes
comment_cut f rest ps bs bytes k is = subst (CutsEither f rest ps) (sym is) (
  front f rest ps Outside 45 (45 ∷ bs) refl (front f rest ps AfterDash 45 bs refl k),
  λ never. absurd (true≢false never),
)

piece_cut : (f : Bool) (bytes : List ℕ) → IsPiece f bytes → (rest : List ℕ) (ps : List Piece) → Behind f rest ps
    → CutsEither f rest ps bytes
piece_cut f bytes nothing rest ps b = (stops Outside f rest ps refl b, λ e. stops AfterDash f rest ps refl b)
piece_cut f bytes (plain {b = c} {bs = bs} x y k) rest ps b = plain_cut f rest ps c bs x y (piece_cut f bs k rest ps b)
piece_cut f bytes (text words {bs = bs} l k e) rest ps b =
    both_ways f rest ps 39 (words ++ 39 ∷ bs) bytes refl refl
    (quote_cut f rest ps InText 39 words bs in_texts refl l (piece_cut f bs k rest ps b).0) e
piece_cut f bytes (name words {bs = bs} l k e) rest ps b =
    both_ways f rest ps 34 (words ++ 34 ∷ bs) bytes refl refl
    (quote_cut f rest ps InName 34 words bs in_names refl l (piece_cut f bs k rest ps b).0) e
piece_cut f bytes (comment words {bs = bs} l k e) rest ps b =
    comment_cut f rest ps (words ++ 10 ∷ bs) bytes
    (quote_cut f rest ps InComment 10 words bs in_comments refl l (piece_cut f bs k rest ps b).0) e
piece_cut f bytes (open_text {words = words} l) rest ps b =
    both_ways false rest ps 39 words (39 ∷ words) refl refl (open_cut rest ps InText 39 words in_texts l b) refl
piece_cut f bytes (open_name {words = words} l) rest ps b =
    both_ways false rest ps 34 words (34 ∷ words) refl refl (open_cut rest ps InName 34 words in_names l b) refl
piece_cut f bytes (open_comment {words = words} l) rest ps b =
    comment_cut false rest ps words (45 ∷ 45 ∷ words) (open_cut rest ps InComment 10 words in_comments l b) refl

-- cutting the joined pieces gives these pieces
all_cut : (pieces : List Piece) → ArePieces pieces → cut Outside (joined pieces) ≡ pieces
all_cut [] are = absurd are
all_cut (p ∷ ps) are = by p.finished refl are.1 (all_cut ps) where
  by : (f : Bool) → p.finished ≡ f → MatchBool p.finished (ArePieces ps) (ps ≡ [])
      → (ArePieces ps → cut Outside (joined ps) ≡ ps)
      → cut Outside (p.text ++ (ended_by p.finished ++ joined ps)) ≡ p ∷ ps
  by true e more next =
      let others : ArePieces ps = subst (λ t. MatchBool t (ArePieces ps) (ps ≡ [])) e more in
      (piece_cut p.finished p.text are.0 (ended_by p.finished ++ joined ps) ps (record {
        ended = subst (λ t. MatchBool t ((bs : List ℕ) × (ended_by t ++ joined ps ≡ 59 ∷ bs) × (cut Outside bs ≡ ps))
            ((ended_by t ++ joined ps ≡ []) × (ps ≡ []))) (sym e) (joined ps, refl, next others);
      })).0
  by false e more next =
      let none : ps ≡ [] = subst (λ t. MatchBool t (ArePieces ps) (ps ≡ [])) e more in
      (piece_cut p.finished p.text are.0 (ended_by p.finished ++ joined ps) ps (record {
        ended = subst (λ t. MatchBool t ((bs : List ℕ) × (ended_by t ++ joined ps ≡ 59 ∷ bs) × (cut Outside bs ≡ ps))
            ((ended_by t ++ joined ps ≡ []) × (ps ≡ []))) (sym e) (ap joined none, none);
      })).0

pub are_cut : ScriptsAreCut
are_cut script = (
  let f = found Outside script in
      record {
        are = subst ArePieces (sym f.is) (f.goes, f.others);
        whole = ap joined f.is ∙ f.whole;
      },
  λ pieces is. sym (all_cut pieces is.are) ∙ ap (cut Outside) is.whole,
)
