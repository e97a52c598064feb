-- Rows of JSON Lines, and where they end.
use Rattle.std.proofs.Common.{◌≡◌, ℕ, ◌<◌, List, [], ◌∷◌, ◌++◌, true, refl, sym, ◌∙◌, ap, arith, append_assoc}
use Rattle.std.proofs.Common.{length, map}
use Rattle.std.proofs.lemmas.List.{length-map}
use Rattle.std.proofs.lemmas.List.Folds.{flat_map-map}
use Rattle.std.specs.List.{flat_map}
use Rattle.tql_spec.specs.Datum.{Row}
use Rattle.tql_spec.specs.Definition.{Name}
use Rattle.tql_spec.specs.Text.{line}
use Rattle.tql_result_laws.specs.Json.{string, member, object}
use Rattle.tql_result_laws.specs.Jsonl.{row_members, row_line, jsonl_text}
use Rattle.tql_result_laws.specs.JsonReadBack.{Said, said}
use Rattle.tql_result_laws.specs.JsonlReadBack.{RowsReadBack}
use Rattle.tql_result_laws.specs.ReadBack.{IsKept, IsTable}
use Rattle.tql_result_laws.proofs.Cuts.{Each, IsRow, each, each_both, begins, Cuts, tails_cut}
use Rattle.tql_result_laws.proofs.Objects.{said_text, IsSaid, said_cut, value_is, value_said}
use Rattle.tql_result_laws.proofs.Strings.{string_cut}
use Rattle.tql_result_laws.proofs.Whole.{table_rows}
use Rattle.tql_result_laws.proofs.Words.{is_stop}

-- ---- members

-- a heading, and the JSON form of the value in its column
abbrev pub Pair : Type 0
Pair = Name × Said

abbrev pub pair_text : Pair → List ℕ
pair_text p = member p.0 (said_text p.1)

abbrev pub IsPair : Pair → Type 0
IsPair p = IsSaid p.1

-- a pair after a comma
abbrev pub next_pair : Pair → List ℕ
next_pair p = 32 ∷ pair_text p

pair_cut : Cuts IsPair pair_text is_stop
pair_cut a b u v ka kb su sv e =
    let cut = string_cut a.0 b.0 (58 ∷ 32 ∷ (said_text a.1 ++ u)) (58 ∷ 32 ∷ (said_text b.1 ++ v))
    (sym (append_assoc (string a.0) (58 ∷ 32 ∷ said_text a.1) u) ∙ e
    ∙ append_assoc (string b.0) (58 ∷ 32 ∷ said_text b.1) v) in
    let after : 58 ∷ 32 ∷ (said_text a.1 ++ u) ≡ 58 ∷ 32 ∷ (said_text b.1 ++ v) = cut.1 in
    let values : said_text a.1 ++ u ≡ said_text b.1 ++ v = cc in
    let same = said_cut a.1 b.1 u v ka kb su sv values in
    let make : Name → Said → Pair = λ h s. (h, s) in
    (ap (λ (h : Name). make h a.1) cut.0 ∙ ap (λ (s : Said). make b.0 s) same.0, same.1)

next_cut : Cuts IsPair next_pair is_stop
next_cut a b u v ka kb su sv e =
    let rest : pair_text a ++ u ≡ pair_text b ++ v = cc in pair_cut a b u v ka kb su sv rest

after_stops : (ps : List Pair) (u : List ℕ) → begins is_stop (flat_map (λ p. 44 ∷ next_pair p) ps ++ (125 ∷ u)) ≡ true
after_stops [] u = refl
after_stops (p ∷ ps) u = refl

-- ---- rows

-- the pairs of headings and values
abbrev pub pairs : List Name → List Said → List Pair
pairs [] ss = []
pairs (h ∷ hs) [] = []
pairs (h ∷ hs) (s ∷ ss) = (h, s) ∷ pairs hs ss

headings_back : (hs : List Name) (ss : List Said) → length ss ≡ length hs → map (λ (p : Pair). p.0) (pairs hs ss) ≡ hs
headings_back [] ss e = refl
headings_back (h ∷ hs) [] e = absurd (omega (arith, e))
headings_back (h ∷ hs) (s ∷ ss) e = ap (λ l. h ∷ l) (headings_back hs ss (omega (arith, e)))

said_back : (hs : List Name) (ss : List Said) → length ss ≡ length hs → map (λ (p : Pair). p.1) (pairs hs ss) ≡ ss
said_back [] [] e = refl
said_back [] (s ∷ ss) e = absurd (omega (arith, e))
said_back (h ∷ hs) [] e = absurd (omega (arith, e))
said_back (h ∷ hs) (s ∷ ss) e = ap (λ l. s ∷ l) (said_back hs ss (omega (arith, e)))

members_are : (hs : List Name) (r : Row) → Each IsKept r → row_members hs r ≡ map pair_text (pairs hs (map said r))
members_are [] r h = refl
members_are (n ∷ hs) [] h = refl
members_are (n ∷ hs) (d ∷ r) h =
    ap (λ l. member n l ∷ row_members hs r) (value_is d h.0)
    ∙ ap (λ l. pair_text (n, said d) ∷ l) (members_are hs r h.1)

pairs_said : (hs : List Name) (r : Row) → Each IsKept r → Each IsPair (pairs hs (map said r))
pairs_said [] r h = tt
pairs_said (n ∷ hs) [] h = tt
pairs_said (n ∷ hs) (d ∷ r) h = (value_said d h.0, pairs_said hs r h.1)

pairs_some : (hs : List Name) (ss : List Said) → 0 < length ss → length ss ≡ length hs → 0 < length (pairs hs ss)
pairs_some hs [] some e = absurd (omega arith)
pairs_some [] (s ∷ ss) some e = absurd (omega (arith, e))
pairs_some (h ∷ hs) (s ∷ ss) some e = omega arith

-- a line, split into its first member and the others
line_some : (m f w : List ℕ) → line (123 ∷ (m ++ f) ++ 125 ∷ []) ++ w ≡ 123 ∷ (m ++ (f ++ (125 ∷ 10 ∷ w)))
line_some m f w = simp append_assoc

pairs_line : (p : Pair) (ps : List Pair) (w : List ℕ)
    → line (object (map pair_text (p ∷ ps))) ++ w
    ≡ 123 ∷ (pair_text p ++ (flat_map (λ q. 44 ∷ next_pair q) ps ++ (125 ∷ 10 ∷ w)))
pairs_line p ps w =
    line_some (pair_text p) (flat_map (λ y. 44 ∷ 32 ∷ y) (map pair_text ps)) w
    ∙ ap (λ l. 123 ∷ (pair_text p ++ (l ++ (125 ∷ 10 ∷ w)))) (flat_map-map (λ y. 44 ∷ 32 ∷ y) pair_text ps)

pairs_cut : (ps qs : List Pair) → 0 < length ps → 0 < length qs → Each IsPair ps → Each IsPair qs → (u v : List ℕ)
    → line (object (map pair_text ps)) ++ u ≡ line (object (map pair_text qs)) ++ v → (ps ≡ qs) × (u ≡ v)
pairs_cut [] qs some also hp hq u v e = absurd (omega arith)
pairs_cut (p ∷ ps) [] some also hp hq u v e = absurd (omega arith)
pairs_cut (p ∷ ps) (q ∷ qs) some also hp hq u v e =
    let after = flat_map (λ x. 44 ∷ next_pair x) in
    let both : 123 ∷ (pair_text p ++ (after ps ++ (125 ∷ 10 ∷ u)))
    ≡ 123 ∷ (pair_text q ++ (after qs ++ (125 ∷ 10 ∷ v))) =
    sym (pairs_line p ps u) ∙ e ∙ pairs_line q qs v in
    let rest : pair_text p ++ (after ps ++ (125 ∷ 10 ∷ u)) ≡ pair_text q ++ (after qs ++ (125 ∷ 10 ∷ v)) = cc in
    let here = pair_cut p q (after ps ++ (125 ∷ 10 ∷ u)) (after qs ++ (125 ∷ 10 ∷ v)) hp.0 hq.0
    (after_stops ps (10 ∷ u)) (after_stops qs (10 ∷ v)) rest in
    let behind = tails_cut IsPair next_pair is_stop 44 125 refl refl (λ n. omega arith) next_cut ps qs (10 ∷ u) (10 ∷ v)
    hp.1 hq.1 here.1 in
    let ends : 10 ∷ u ≡ 10 ∷ v = behind.1 in
    let first : p ≡ q = here.0 in
    let others : ps ≡ qs = behind.0 in
    let whole : (p ∷ ps) ≡ (q ∷ qs) = cc in
    let tails : u ≡ v = cc in (whole, tails)

-- a row with as many values as headings, each of which can be stored
abbrev pub IsWide : List Name → Row → Type 0
IsWide hs r = IsRow IsKept r × (length r ≡ length hs)

row_cut : (hs ks : List Name) (r q : Row) → IsWide hs r → IsWide ks q → (u v : List ℕ)
    → row_line hs r ++ u ≡ row_line ks q ++ v → (hs ≡ ks) × (map said r ≡ map said q) × (u ≡ v)
row_cut hs ks r q wr wq u v e =
    let ps = pairs hs (map said r) in let qs = pairs ks (map said q) in
    let long_r : length (map said r) ≡ length hs = length-map r said ∙ wr.1 in
    let long_q : length (map said q) ≡ length ks = length-map q said ∙ wq.1 in
    let size_r = length-map r said in let size_q = length-map q said in
    let cut = pairs_cut ps qs (pairs_some hs (map said r) (omega (arith, size_r, wr.0.0)) long_r)
    (pairs_some ks (map said q) (omega (arith, size_q, wq.0.0)) long_q) (pairs_said hs r wr.0.1)
    (pairs_said ks q wq.0.1) u v
    (ap (λ l. line (object l) ++ u) (sym (members_are hs r wr.0.1)) ∙ e
    ∙ ap (λ l. line (object l) ++ v) (members_are ks q wq.0.1)) in (
      sym (headings_back hs (map said r) long_r) ∙ ap (map (λ (p : Pair). p.0)) cut.0
          ∙ headings_back ks (map said q) long_q,
      sym (said_back hs (map said r) long_r) ∙ ap (map (λ (p : Pair). p.1)) cut.0 ∙ said_back ks (map said q) long_q,
      cut.1,
    )

-- ---- tables

-- no line is empty
no_line : (t u : List ℕ) → [] ≡ (123 ∷ t) ++ u → ⊥
no_line t u e = absurd (cc)

lines_same : (hs ks : List Name) (rs qs : List Row) → Each (IsWide hs) rs → Each (IsWide ks) qs
    → jsonl_text hs rs ≡ jsonl_text ks qs → (map (map said) rs ≡ map (map said) qs) × (0 < length rs → hs ≡ ks)
lines_same hs ks [] [] wr wq e = (refl, λ some. absurd (omega arith))
lines_same hs ks [] (q ∷ qs) wr wq e = absurd (cc)
lines_same hs ks (r ∷ rs) [] wr wq e = absurd (cc)
lines_same hs ks (r ∷ rs) (q ∷ qs) wr wq e =
    let cut = row_cut hs ks r q wr.0 wq.0 (jsonl_text hs rs) (jsonl_text ks qs) e in
    let more = lines_same hs ks rs qs wr.1 wq.1 cut.2 in
    let first : map said r ≡ map said q = cut.1 in
    let others : map (map said) rs ≡ map (map said) qs = more.0 in
    (ap (λ l. l ∷ map (map said) rs) first ∙ ap (λ l. map said q ∷ l) others, λ some. cut.0)

wide_rows : (hs : List Name) (rs : List Row) → IsTable hs rs → Each (IsWide hs) rs
wide_rows hs rs t =
    each_both (IsRow IsKept) (λ r. length r ≡ length hs) rs (table_rows hs rs t)
    (each (λ r. length r ≡ length hs) rs t.wide)

pub rows_same : RowsReadBack
rows_same hs ks rs qs tr tq e = lines_same hs ks rs qs (wide_rows hs rs tr) (wide_rows ks qs tq) e
