-- The gaps before a token and after the last one.
use Rattle.std.proofs.Common.{◌≡◌, ℕ, ◌==◌, Bool, true, false, List, [], ◌∷◌, ◌++◌, refl, sym, ap, ◌∙◌, append_assoc}
use Rattle.std.proofs.Common.{inl, inr}
use Rattle.std.specs.Prelude.{◌⊎◌, not}
use Rattle.std.specs.List.{list_all}
use Rattle.std.proofs.lemmas.Bool.{eqb-true, and_parts, and_from}
use Rattle.tql_spec.specs.Script.{is_blank, begins_comment, starts_with_dash, without_lead}
use Rattle.tql_spec.specs.Token.{IsOneLine, IsGap, nothing, blank, comment, IsEnd}
use Rattle.tql_spec.proofs.TokenLaws.{blank_no_comment}

-- blanks and comments; inside a comment, the gap begins with the end of the comment
abbrev Gap : Bool → List ℕ → Type 0
Gap false gap = IsGap gap
Gap true gap = (words : List ℕ) × (more : List ℕ) × (gap ≡ words ++ 10 ∷ more) × IsOneLine words × IsGap more

-- the bytes are such a gap followed by the rest
record Behind (in_comment : Bool) (bytes rest : List ℕ) : Type 0 where
  gap : List ℕ
  parts : bytes ≡ gap ++ rest
  is : Gap in_comment gap

one_more_byte : (b : ℕ) (words : List ℕ) → (b == 10) ≡ false → IsOneLine words → IsOneLine (b ∷ words)
one_more_byte b words e one = and_from (not (b == 10)) (list_all (λ c. not (c == 10)) words) (ap not e) one

pub dash_first : (b : ℕ) (bs : List ℕ) → begins_comment b bs ≡ true → b ≡ 45
dash_first b bs e = eqb-true b 45 (and_parts (b == 45) (starts_with_dash bs) e).0

pub dash_next : (b c : ℕ) (bs : List ℕ) → begins_comment b (c ∷ bs) ≡ true → c ≡ 45
dash_next b c bs e = eqb-true c 45 (and_parts (b == 45) (c == 45) e).1

comment_gap : (b c : ℕ) (bs rest : List ℕ) → begins_comment b (c ∷ bs) ≡ true → Behind true bs rest
    → Behind false (b ∷ c ∷ bs) rest
comment_gap b c bs rest e r = record {
  gap = 45 ∷ 45 ∷ r.gap;
  parts = ap (λ (z : ℕ). z ∷ c ∷ bs) (dash_first b (c ∷ bs) e) ∙ ap (λ (z : ℕ). 45 ∷ z ∷ bs) (dash_next b c bs e)
      ∙ ap (λ (z : List ℕ). 45 ∷ 45 ∷ z) r.parts;
  is = comment r.is.0 r.is.3 r.is.4 (ap (λ (z : List ℕ). 45 ∷ 45 ∷ z) r.is.2);
}

blank_gap : (b : ℕ) (bs rest : List ℕ) → is_blank b ≡ true → Behind false bs rest → Behind false (b ∷ bs) rest
blank_gap b bs rest e r = record { gap = b ∷ r.gap; parts = ap (λ (z : List ℕ). b ∷ z) r.parts; is = blank e r.is }

line_gap : (b : ℕ) (bs rest : List ℕ) → (b == 10) ≡ true → Behind false bs rest → Behind true (b ∷ bs) rest
line_gap b bs rest e r = record {
  gap = 10 ∷ r.gap;
  parts = ap (λ (z : ℕ). z ∷ bs) (eqb-true b 10 e) ∙ ap (λ (z : List ℕ). 10 ∷ z) r.parts;
  is = ([], r.gap, refl, refl, r.is);
}

in_line_gap : (b : ℕ) (bs rest : List ℕ) → (b == 10) ≡ false → Behind true bs rest → Behind true (b ∷ bs) rest
in_line_gap b bs rest e r = record {
  gap = b ∷ r.gap;
  parts = ap (λ (z : List ℕ). b ∷ z) r.parts;
  is = (b ∷ r.is.0, r.is.1, ap (λ (z : List ℕ). b ∷ z) r.is.2, one_more_byte b r.is.0 e r.is.3, r.is.4);
}

none_left : (b : ℕ) (rest : List ℕ) → [] ≡ b ∷ rest → ⊥
none_left b rest e = cc

gap_behind : (in_comment : Bool) (bytes : List ℕ) (b : ℕ) (rest : List ℕ) → without_lead in_comment bytes ≡ b ∷ rest
    → Behind in_comment bytes (b ∷ rest)
gap_behind in_comment [] b rest e = absurd (none_left b rest e)
gap_behind true (x ∷ bs) b rest e = by (x == 10) refl e (gap_behind (not (x == 10)) bs b rest e) where
  by : (t : Bool) → (x == 10) ≡ t → without_lead (not (x == 10)) bs ≡ b ∷ rest → Behind (not (x == 10)) bs (b ∷ rest)
      → Behind true (x ∷ bs) (b ∷ rest)
  by true q e r = line_gap x bs (b ∷ rest) q (rw q at r)
  by false q e r = in_line_gap x bs (b ∷ rest) q (rw q at r)
gap_behind false (x ∷ []) b rest e = by (is_blank x) refl (begins_comment x []) refl e where
  by : (t : Bool) → is_blank x ≡ t → (u : Bool) → begins_comment x [] ≡ u → without_lead false (x ∷ []) ≡ b ∷ rest
      → Behind false (x ∷ []) (b ∷ rest)
  by true p u q e = absurd (none_left b rest (rw p at e))
  by false p true q e = absurd (none_left b rest (rw (p, q) at e))
  by false p false q e = record { gap = []; parts = rw (p, q) at e; is = nothing }
gap_behind false (x ∷ y ∷ bs) b rest e =
    by (is_blank x) refl (begins_comment x (y ∷ bs)) refl e (gap_behind false (y ∷ bs) b rest)
    (gap_behind true bs b rest) where
      by : (t : Bool) → is_blank x ≡ t → (u : Bool) → begins_comment x (y ∷ bs) ≡ u
          → without_lead false (x ∷ y ∷ bs) ≡ b ∷ rest
          → (without_lead false (y ∷ bs) ≡ b ∷ rest → Behind false (y ∷ bs) (b ∷ rest))
          → (without_lead true bs ≡ b ∷ rest → Behind true bs (b ∷ rest)) → Behind false (x ∷ y ∷ bs) (b ∷ rest)
      by true p u q e next line = blank_gap x (y ∷ bs) (b ∷ rest) p (next (rw (p, blank_no_comment x (y ∷ bs) p) at e))
      by false p true q e next line = let at_y : without_lead (not (y == 10)) bs ≡ b ∷ rest =
          rw (p, q) at e in comment_gap x y bs (b ∷ rest) q (line (rw (dash_next x y bs q) at at_y))
      by false p false q e next line = record { gap = []; parts = rw (p, q) at e; is = nothing }

-- ---- blanks and comments up to the end

-- the same; inside a comment, the bytes begin with the end of the comment, if it has one
abbrev Ends : Bool → List ℕ → Type 0
Ends false bytes = IsEnd bytes
Ends true bytes = IsOneLine bytes ⊎
    ((words : List ℕ) × (more : List ℕ) × (bytes ≡ words ++ 10 ∷ more) × IsOneLine words × IsEnd more)

blank_end : (b : ℕ) (bs : List ℕ) → is_blank b ≡ true → IsEnd bs → IsEnd (b ∷ bs)
blank_end b bs e (inl g) = inl (blank e g)
blank_end b bs e (inr h) = inr (b ∷ h.0, h.1, blank e h.2, h.3, ap (λ (z : List ℕ). b ∷ z) h.4)

comment_end : (bs : List ℕ) → Ends true bs → IsEnd (45 ∷ 45 ∷ bs)
comment_end bs (inl one) = inr ([], bs, nothing, one, refl)
comment_end bs (inr h) = by h.4 where
  by : IsEnd h.1 → IsEnd (45 ∷ 45 ∷ bs)
  by (inl g) = inl (comment h.0 h.3 g (ap (λ (z : List ℕ). 45 ∷ 45 ∷ z) h.2))
  by (inr k) = inr (
    45 ∷ 45 ∷ h.0 ++ 10 ∷ k.0,
    k.1,
    comment h.0 h.3 k.2 refl,
    k.3,
    ap (λ (z : List ℕ). 45 ∷ 45 ∷ z) (h.2 ∙ ap (λ (z : List ℕ). h.0 ++ 10 ∷ z) k.4
        ∙ sym (append_assoc h.0 (10 ∷ k.0) (45 ∷ 45 ∷ k.1))),
  )

line_ends : (b : ℕ) (bs : List ℕ) → (b == 10) ≡ true → IsEnd bs → Ends true (b ∷ bs)
line_ends b bs e h = inr ([], bs, ap (λ (z : ℕ). z ∷ bs) (eqb-true b 10 e), refl, h)

in_line_ends : (b : ℕ) (bs : List ℕ) → (b == 10) ≡ false → Ends true bs → Ends true (b ∷ bs)
in_line_ends b bs e (inl one) = inl (one_more_byte b bs e one)
in_line_ends b bs e (inr h) = inr (b ∷ h.0, h.1, ap (λ (z : List ℕ). b ∷ z) h.2, one_more_byte b h.0 e h.3, h.4)

something_left : (b : ℕ) (bs : List ℕ) → b ∷ bs ≡ [] → ⊥
something_left b bs e = cc

all_behind : (in_comment : Bool) (bytes : List ℕ) → without_lead in_comment bytes ≡ [] → Ends in_comment bytes
all_behind true [] e = inl refl
all_behind false [] e = inl nothing
all_behind true (x ∷ bs) e = by (x == 10) refl (all_behind (not (x == 10)) bs e) where
  by : (t : Bool) → (x == 10) ≡ t → Ends (not (x == 10)) bs → Ends true (x ∷ bs)
  by true q r = line_ends x bs q (rw q at r)
  by false q r = in_line_ends x bs q (rw q at r)
all_behind false (x ∷ []) e = by (is_blank x) refl (begins_comment x []) refl e where
  by : (t : Bool) → is_blank x ≡ t → (u : Bool) → begins_comment x [] ≡ u → without_lead false (x ∷ []) ≡ []
      → IsEnd (x ∷ [])
  by true p u q e = blank_end x [] p (inl nothing)
  by false p true q e = let no = and_parts (x == 45) false q in absurd (let bad : false ≡ true = no.1 in cc)
  by false p false q e = absurd (something_left x [] (rw (p, q) at e))
all_behind false (x ∷ y ∷ bs) e =
    by (is_blank x) refl (begins_comment x (y ∷ bs)) refl e (all_behind false (y ∷ bs)) (all_behind true bs) where
      by : (t : Bool) → is_blank x ≡ t → (u : Bool) → begins_comment x (y ∷ bs) ≡ u
          → without_lead false (x ∷ y ∷ bs) ≡ [] → (without_lead false (y ∷ bs) ≡ [] → IsEnd (y ∷ bs))
          → (without_lead true bs ≡ [] → Ends true bs) → IsEnd (x ∷ y ∷ bs)
      by true p u q e next line = blank_end x (y ∷ bs) p (next (rw (p, blank_no_comment x (y ∷ bs) p) at e))
      by false p true q e next line =
          let at_y : without_lead (not (y == 10)) bs ≡ [] = rw (p, q) at e in
          rw (dash_first x (y ∷ bs) q, dash_next x y bs q) (comment_end bs (line (rw (dash_next x y bs q) at at_y)))
      by false p false q e next line = absurd (something_left x (y ∷ bs) (rw (p, q) at e))

pub gap_before : (bytes : List ℕ) (b : ℕ) (rest : List ℕ) → without_lead false bytes ≡ b ∷ rest
    → (gap : List ℕ) × (bytes ≡ gap ++ b ∷ rest) × IsGap gap
gap_before bytes b rest e = let r = gap_behind false bytes b rest e in (r.gap, r.parts, r.is)

pub all_skipped : (bytes : List ℕ) → without_lead false bytes ≡ [] → IsEnd bytes
all_skipped bytes e = all_behind false bytes e
