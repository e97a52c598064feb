-- Fields of comma-separated values, and tables of them.
use Rattle.std.proofs.Common.{◌≡◌, ℕ, ◌<◌, List, [], ◌∷◌, ◌++◌, Bool, true, false, refl, sym, ◌∙◌, ap, arith}
use Rattle.std.proofs.Common.{append_assoc}
use Rattle.std.proofs.Common.{length, map, inl, inr, subst, ◌⊎◌}
use Rattle.std.proofs.lemmas.Bool.{cases_Bool, eqb-true}
use Rattle.std.proofs.lemmas.List.{append-nil, length-map}
use Rattle.std.specs.Prelude.{◌==◌, ◌&&◌, not, Option, Some, None}
use Rattle.std.specs.List.{flat_map, join_with_byte, list_all, list_any}
use Rattle.tql_result_laws.specs.Csv.{is_sign, is_quoted, text_field, field, csv_line, csv_text}
use Rattle.tql_spec.specs.Datum.{Datum, Null, Int, Text, Day, Moment, Row}
use Rattle.tql_spec.specs.Definition.{Name}
use Rattle.tql_spec.specs.Text.{quoted, cell_text}
use Rattle.tql_result_laws.specs.ReadBack.{IsKept}
use Rattle.tql_result_laws.specs.CsvReadBack.{shown, TablesReadBack}
use Rattle.tql_result_laws.proofs.Cuts.{and_left, and_right, and_both, Each, begins, Cuts, IsRow, NoLine, line_of}
use Rattle.tql_result_laws.proofs.Cuts.{word_cut, quoted_cut, no_quote, joined_cut, lines_cut}
use Rattle.tql_result_laws.proofs.Cells.{cell_form}
use Rattle.tql_result_laws.proofs.Whole.{table_rows}
use Rattle.tql_result_laws.proofs.Words.{is_word}

-- ---- fields in terms of what they show

-- the field that shows this
abbrev pub field_of : Option (List ℕ) → List ℕ
field_of None = []
field_of (Some t) = text_field t

-- a byte that a bare field may contain
abbrev pub is_bare : ℕ → Bool
is_bare b = not (is_sign b)

-- a byte that may follow a field
abbrev pub is_end : ℕ → Bool
is_end b = is_sign b && not (b == 34)

apart : (b : ℕ) → is_bare b ≡ true → is_end b ≡ true → ⊥
apart b bare end = let sign : is_sign b ≡ true = and_left _ _ end in let never = rw sign at bare in absurd (cc)

all_bare : (t : List ℕ) → list_any is_sign t ≡ false → list_all is_bare t ≡ true
all_bare [] h = refl
all_bare (b ∷ t) h = elim (cases_Bool (is_sign b)) [
  | inl sign ↦ let never = rw sign at h in absurd (cc)
  | inr none ↦ let rest = rw none at h in and_both (is_bare b) (list_all is_bare t) (rw none refl) (all_bare t rest)
]

-- a field is bare or in quotes
abbrev pub FieldForm : Option (List ℕ) → Type 0
FieldForm o = ((t : List ℕ) × (o ≡ Some t) × (field_of o ≡ quoted 34 t))
    ⊎ ((list_all is_bare (field_of o) ≡ true) × ((t : List ℕ) → o ≡ Some t → (field_of o ≡ t) × (0 < length t)))

bare_field : (t : List ℕ) → is_quoted t ≡ false → (text_field t ≡ t) × (list_all is_bare t ≡ true) × (0 < length t)
bare_field [] h = absurd (cc)
bare_field (b ∷ t) h = (rw h refl, all_bare (b ∷ t) h, omega arith)

quoted_field : (t : List ℕ) → is_quoted t ≡ true → text_field t ≡ quoted 34 t
quoted_field t h = rw h refl

field_form : (o : Option (List ℕ)) → FieldForm o
field_form None = inr (refl, λ t e. absurd (cc))
field_form (Some t) = elim (cases_Bool (is_quoted t)) [
  | inl quotes ↦ inl (t, refl, quoted_field t quotes)
  | inr bare ↦
      let is = bare_field t bare in
      inr (
        ap (list_all is_bare) is.0 ∙ is.1,
        λ s e. let same : t ≡ s = cc in (is.0 ∙ same, subst (λ (l : List ℕ). 0 < length l) same is.2),
      )
]

-- bare fields are determined by their bytes
bare_same : (a b : Option (List ℕ)) → ((t : List ℕ) → a ≡ Some t → (field_of a ≡ t) × (0 < length t))
    → ((t : List ℕ) → b ≡ Some t → (field_of b ≡ t) × (0 < length t)) → field_of a ≡ field_of b → a ≡ b
bare_same None None ha hb e = refl
bare_same None (Some t) ha hb e =
    let none : [] ≡ t = e ∙ (hb t refl).0 in
    let size : 0 ≡ length t = ap length none in
    let some = (hb t refl).1 in absurd (omega arith)
bare_same (Some s) None ha hb e =
    let none : s ≡ [] = sym (ha s refl).0 ∙ e in
    let size : length s ≡ 0 = ap length none in
    let some = (ha s refl).1 in absurd (omega arith)
bare_same (Some s) (Some t) ha hb e = ap Some (sym (ha s refl).0 ∙ e ∙ (hb t refl).0)

-- neither a bare field nor the bytes after it begin with a quote
no_bare : (t u w v : List ℕ) → list_all is_bare w ≡ true → begins is_end v ≡ true → quoted 34 t ++ u ≡ w ++ v → ⊥
no_bare t u [] v hw hv e = let never : is_end 34 ≡ true = ap (begins is_end) e ∙ hv in absurd (cc)
no_bare t u (b ∷ w) v hw hv e =
    let same : 34 ≡ b = cc in
    let never : is_bare 34 ≡ true = ap is_bare same ∙ and_left _ _ hw in absurd (cc)

pub field_cut : Cuts (λ o. Unit {0}) field_of is_end
field_cut a b u v ka kb su sv e = elim (field_form a) [
  | inl s ↦ elim (field_form b) [
    | inl t ↦
        let both : quoted 34 s.0 ++ u ≡ quoted 34 t.0 ++ v =
        ap (λ l. l ++ u) (sym s.2) ∙ e ∙ ap (λ l. l ++ v) t.2 in
        let cut = quoted_cut 34 s.0 t.0 u v (no_quote is_end 34 refl u su) (no_quote is_end 34 refl v sv) both in
        (s.1 ∙ ap Some cut.0 ∙ sym t.1, cut.1)
    | inr w ↦ absurd (no_bare s.0 u (field_of b) v w.0 sv (ap (λ l. l ++ u) (sym s.2) ∙ e))
  ]
  | inr w ↦ elim (field_form b) [
    | inl t ↦ absurd (no_bare t.0 v (field_of a) u w.0 su (ap (λ l. l ++ v) (sym t.2) ∙ sym e))
    | inr x ↦
        let cut = word_cut is_bare is_end apart (field_of a) (field_of b) u v w.0 x.0 su sv e in
        (bare_same a b w.1 x.1 cut.0, cut.1)
  ]
]

-- a heading is a field that can be cut off
pub name_cut : Cuts (λ n. Unit {0}) text_field is_end
name_cut a b u v ka kb su sv e =
    let cut = field_cut (Some a) (Some b) u v tt tt su sv e in
    let some : Some a ≡ Some b = cut.0 in
    let same : a ≡ b = cc in (same, cut.1)

-- ---- values as fields

word_sign : (b : ℕ) → is_word b ≡ true → is_sign b ≡ false
word_sign b w = elim (cases_Bool (is_sign b)) [
  | inl sign ↦ elim (cases_Bool (b == 44)) [
    | inl comma ↦ let same = eqb-true b 44 comma in
        let never : is_word 44 ≡ true = ap is_word (sym same) ∙ w in absurd (cc)
    | inr not_comma ↦ elim (cases_Bool (b == 34)) [
      | inl quote ↦
          let same = eqb-true b 34 quote in let never : is_word 34 ≡ true = ap is_word (sym same) ∙ w in absurd (cc)
      | inr not_quote ↦ elim (cases_Bool (b == 13)) [
        | inl return ↦
            let same = eqb-true b 13 return in let never : is_word 13 ≡ true = ap is_word (sym same) ∙ w in absurd (cc)
        | inr not_return ↦
            let feed : (b == 10) ≡ true = rw (not_comma, not_quote, not_return) at sign in
            let same = eqb-true b 10 feed in let never : is_word 10 ≡ true = ap is_word (sym same) ∙ w in absurd (cc)
      ]
    ]
  ]
  | inr none ↦ none
]

word_signs : (w : List ℕ) → list_all is_word w ≡ true → list_any is_sign w ≡ false
word_signs [] h = refl
word_signs (b ∷ w) h = rw (word_sign b (and_left _ _ h)) (word_signs w (and_right _ _ h))

word_field : (w : List ℕ) → list_all is_word w ≡ true → 0 < length w → text_field w ≡ w
word_field [] h some = absurd (omega arith)
word_field (b ∷ w) h some = let none : is_quoted (b ∷ w) ≡ false = word_signs (b ∷ w) h in rw none refl

plain_field : (d : Datum) → IsKept d → ((t : List ℕ) → d ≡ Text t → ⊥) → text_field (cell_text d) ≡ cell_text d
plain_field d h other = elim (cell_form d h) [
  | inl t ↦ absurd (other t.0 t.1)
  | inr w ↦ word_field (cell_text d) w.0 w.1
]

field_is : (d : Datum) → IsKept d → field d ≡ field_of (shown d)
field_is Null h = refl
field_is (Int n) h = sym (plain_field (Int n) h (λ t e. absurd (cc)))
field_is (Text t) h = refl
field_is (Day d) h = sym (plain_field (Day d) h (λ t e. absurd (cc)))
field_is (Moment m) h = sym (plain_field (Moment m) h (λ t e. absurd (cc)))

fields_are : (r : Row) → Each IsKept r → map field r ≡ map field_of (map shown r)
fields_are [] h = refl
fields_are (d ∷ r) h =
    let first = field_is d h.0 in let rest = fields_are r h.1 in
    ap (λ l. l ∷ map field r) first ∙ ap (λ l. field_of (shown d) ∷ l) rest

-- ---- tables

abbrev pub row_line : List (Option (List ℕ)) → List ℕ
row_line = line_of field_of 44 (13 ∷ 10 ∷ [])

lines_are : (rows : List Row) → Each (IsRow IsKept) rows
    → flat_map (λ r. csv_line (map field r)) rows ≡ flat_map row_line (map (map shown) rows)
lines_are [] h = refl
lines_are (r ∷ rows) h =
    let others = flat_map (λ q. csv_line (map field q)) rows in
    ap (λ l. csv_line l ++ others) (fields_are r h.0.1)
    ∙ ap (λ l. row_line (map shown r) ++ l) (lines_are rows h.1)

anything : {A : Type 0} (xs : List A) → Each (λ x. Unit {0}) xs
anything [] = tt
anything (x ∷ xs) = (tt, anything xs)

shown_rows : (rows : List Row) → Each (IsRow IsKept) rows → Each (IsRow (λ o. Unit {0})) (map (map shown) rows)
shown_rows [] h = tt
shown_rows (r ∷ rows) h =
    let some : 0 < length (map shown r) = let size = length-map r shown in omega (arith, size, h.0.0) in
    ((some, anything (map shown r)), shown_rows rows h.1)

no_end : (w u : List ℕ) → (w ++ (13 ∷ 10 ∷ [])) ++ u ≡ [] → ⊥
no_end [] u e = absurd (cc)
no_end (b ∷ w) u e = absurd (cc)

no_row : NoLine (λ o. Unit {0}) field_of 44 (13 ∷ 10 ∷ []) []
no_row r u h e = no_end (join_with_byte 44 (map field_of r)) u e

table_parts : (hs : List Name) (rs : List Row) → Each (IsRow IsKept) rs
    → csv_text hs rs
    ≡ join_with_byte 44 (map text_field hs) ++ (13 ∷ (10 ∷ (flat_map row_line (map (map shown) rs) ++ [])))
table_parts hs rs h =
    let head = join_with_byte 44 (map text_field hs) in
    append_assoc head (13 ∷ 10 ∷ []) (flat_map (λ r. csv_line (map field r)) rs)
    ∙ ap (λ l. head ++ (13 ∷ (10 ∷ l)))
    (lines_are rs h ∙ sym (append-nil (flat_map row_line (map (map shown) rs))))

pub tables_same : TablesReadBack
tables_same hs ks rs qs tr tq e =
    let rows_r = table_rows hs rs tr in
    let rows_q = table_rows ks qs tq in
    let shown_r = map (map shown) rs in
    let shown_q = map (map shown) qs in
    let both = sym (table_parts hs rs rows_r) ∙ e ∙ table_parts ks qs rows_q in
    let heads = joined_cut (λ n. Unit {0}) text_field is_end 44 13 refl refl (λ x. omega arith) name_cut hs ks
    (10 ∷ (flat_map row_line shown_r ++ [])) (10 ∷ (flat_map row_line shown_q ++ [])) tr.headed tq.headed
    (anything hs) (anything ks) both in
    let after : flat_map row_line shown_r ++ [] ≡ flat_map row_line shown_q ++ [] =
    let feeds : 10 ∷ (flat_map row_line shown_r ++ []) ≡ 10 ∷ (flat_map row_line shown_q ++ []) = heads.1 in cc in
    let rows = lines_cut (λ o. Unit {0}) field_of is_end 44 13 (10 ∷ []) refl refl (λ x. omega arith) field_cut
    shown_r shown_q [] [] (shown_rows rs rows_r) (shown_rows qs rows_q) no_row no_row after in
    (heads.0, rows.0)
