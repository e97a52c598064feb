-- Whole answers are determined by their texts.
use Rattle.std.proofs.Common.{◌≡◌, ℕ, ◌<◌, List, [], ◌∷◌, ◌++◌, Bool, true, false, refl, sym, ◌∙◌, ap}
use Rattle.std.proofs.Common.{arith, append_assoc, length, map, decimal, get_or, inl, inr}
use Rattle.std.proofs.lemmas.Bool.{cases_Bool, eqb-true}
use Rattle.std.proofs.lemmas.Fmt.{decimal_injective}
use Rattle.std.proofs.lemmas.List.Elements.{All-weaker}
use Rattle.std.proofs.lemmas.List.Folds.{list_all-append}
use Rattle.std.specs.Prelude.{◌==◌, ◌&&◌, ◌||◌, codes, Option, Some, None, All}
use Rattle.std.specs.List.{flat_map, join_with_byte, list_all}
use Rattle.tql_spec.specs.Calendar.{is_digit}
use Rattle.tql_spec.specs.Datum.{Row}
use Rattle.tql_spec.specs.Definition.{Name}
use Rattle.tql_spec.specs.Machine.{Verb, Done, Table, Refused}
use Rattle.tql_spec.specs.Refusal.{Refusal}
use Rattle.tql_spec.specs.Answer.{Replied, Accepted}
use Rattle.tql_spec.specs.Text.{line, cell_text, heading_text, row_text, verb_text, count_text, wording, reply_text}
use Rattle.tql_result.proofs.Joining.{joined_map}
use Rattle.tql_result_laws.specs.ReadBack.{IsKept, IsTable, IsCount, AnswersReadBack}
use Rattle.tql_result_laws.proofs.Cuts.{Each, each, each_both, each_weaker, begins, cancel, joined_cut, lines_cut}
use Rattle.tql_result_laws.proofs.Cuts.{NoLine}
use Rattle.tql_result_laws.proofs.Cuts.{IsRow, line_of, and_right, and_left}
use Rattle.tql_result_laws.proofs.Cells.{cell_cut, cell_begins, heading_cut}
use Rattle.tql_result_laws.proofs.Words.{is_word, is_stop, all_weaker, all_append, decimal_digits}
use Rattle.tql_result_laws.proofs.Openings.{opening, verb_at, verb_opens, refused_opens, accepted_opens, is_plain}
use Rattle.tql_result_laws.proofs.Openings.{verb_plain}
use Rattle.tql_result_laws.proofs.Openings.{wording_plain, wording_same}

-- ---- tables

-- the line with the number of rows
abbrev pub count_line : ℕ → List ℕ
count_line n = line (40 ∷ decimal n ++ codes " rows)")

-- the line of a row does not begin with the parenthesis of the count line
no_row : (n : ℕ) → NoLine IsKept cell_text 124 (10 ∷ []) (count_line n)
no_row n [] u h e = absurd (omega (arith, h.0))
no_row n (d ∷ ds) u h e =
    let after = flat_map (λ y. 124 ∷ cell_text y) ds in
    let parts : line_of cell_text 124 (10 ∷ []) (d ∷ ds) ++ u ≡ cell_text d ++ ((after ++ (10 ∷ [])) ++ u) =
    ap (λ l. (l ++ (10 ∷ [])) ++ u) (joined_map cell_text 124 d ds)
    ∙ ap (λ l. l ++ u) (append_assoc (cell_text d) after (10 ∷ []))
    ∙ append_assoc (cell_text d) (after ++ (10 ∷ [])) u in
    let first : begins (λ b. is_word b || (b == 39)) (count_line n) ≡ true =
    ap (begins (λ b. is_word b || (b == 39))) (sym e ∙ parts) ∙ cell_begins d ((after ++ (10 ∷ [])) ++ u) h.1.0 in
    absurd (cc)

-- the rows of a table have values
pub table_rows : (headings : List Name) (rows : List Row) → IsTable headings rows → Each (IsRow IsKept) rows
table_rows headings rows h =
    let headed = h.headed in
    each_both (λ r. 0 < length r) (Each IsKept) rows
    (each (λ r. 0 < length r) rows
    (All-weaker (λ r. length r ≡ length headings) (λ r. 0 < length r) (λ r e. omega arith) rows h.wide))
    (each_weaker (All IsKept) (Each IsKept) (λ r k. each IsKept r k) rows (each (All IsKept) rows h.kept))

-- names need no condition
names : (xs : List Name) → Each (λ n. Unit {0}) xs
names [] = tt
names (x ∷ xs) = (tt, names xs)

table_parts : (headings : List Name) (rows : List Row)
    → reply_text (Table headings rows)
    ≡ join_with_byte 124 (map heading_text headings) ++ (10 ∷ (flat_map row_text rows ++ count_line (length rows)))
table_parts headings rows =
    let head = join_with_byte 124 (map heading_text headings) in
    append_assoc (head ++ (10 ∷ [])) (flat_map row_text rows) (count_line (length rows))
    ∙ append_assoc head (10 ∷ []) (flat_map row_text rows ++ count_line (length rows))

pub tables_same : (hs ks : List Name) (rs qs : List Row) → IsTable hs rs → IsTable ks qs
    → reply_text (Table hs rs) ≡ reply_text (Table ks qs) → (hs ≡ ks) × (rs ≡ qs)
tables_same hs ks rs qs tr tq e =
    let both = sym (table_parts hs rs) ∙ e ∙ table_parts ks qs in
    let heads = joined_cut (λ n. Unit {0}) heading_text is_stop 124 10 refl refl (λ x. omega arith) heading_cut hs ks
    (flat_map row_text rs ++ count_line (length rs)) (flat_map row_text qs ++ count_line (length qs))
    tr.headed tq.headed
    (names hs) (names ks) both in
    let rows = lines_cut IsKept cell_text is_stop 124 10 [] refl refl (λ x. omega arith) cell_cut rs qs
    (count_line (length rs)) (count_line (length qs)) (table_rows hs rs tr) (table_rows ks qs tq) (no_row (length rs))
    (no_row (length qs)) heads.1 in
    (heads.0, rows.0)

-- ---- other answers

digit_is_plain : (b : ℕ) → is_digit b ≡ true → is_plain b ≡ true
digit_is_plain b h = elim (cases_Bool (b == 41)) [
  | inl bracket ↦
      let same : b ≡ 41 = eqb-true b 41 bracket in
      let never : is_digit 41 ≡ true = ap is_digit (sym same) ∙ h in absurd (cc)
  | inr other ↦ rw other refl
]

count_plain : (n : Option ℕ) → IsCount n → list_all is_plain (count_text n) ≡ true
count_plain None h = refl
count_plain (Some n) h = all_weaker is_digit is_plain digit_is_plain (decimal n) (decimal_digits n h)

done_plain : (v : Verb) (n : Option ℕ) → IsCount n → list_all is_plain (reply_text (Done v n)) ≡ true
done_plain v n h =
    all_append is_plain (verb_text v ++ count_text n) (10 ∷ [])
    (all_append is_plain (verb_text v) (count_text n) (verb_plain v) (count_plain n h)) refl

refused_plain : (e : Refusal) → list_all is_plain (reply_text (Refused e)) ≡ true
refused_plain e =
    all_append is_plain (codes "REFUSED " ++ wording e) (10 ∷ [])
    (all_append is_plain (codes "REFUSED ") (wording e) refl (wording_plain e)) refl

-- a table ends with a parenthesis
and_false : (a : Bool) → (a && false) ≡ false
and_false true = refl
and_false false = refl

table_not_plain : (hs : List Name) (rs : List Row) → list_all is_plain (reply_text (Table hs rs)) ≡ true → ⊥
table_not_plain hs rs h =
    let head = line (join_with_byte 124 (map heading_text hs)) ++ flat_map row_text rs in
    let count = 40 ∷ decimal (length rs) in
    let ending : list_all is_plain (count_line (length rs)) ≡ true =
    and_right (list_all is_plain head) _ (sym (list_all-append is_plain head (count_line (length rs))) ∙ h) in
    let bracket : list_all is_plain (count ++ codes " rows)") ≡ true =
    and_left _ (list_all is_plain (10 ∷ []))
    (sym (list_all-append is_plain (count ++ codes " rows)") (10 ∷ [])) ∙ ending) in
    let last : list_all is_plain (codes " rows)") ≡ true =
    and_right (list_all is_plain count) _ (sym (list_all-append is_plain count (codes " rows)")) ∙ bracket) in
    absurd (cc)

counts_same : (n m : Option ℕ) → IsCount n → IsCount m → count_text n ≡ count_text m → n ≡ m
counts_same None None hn hm e = refl
counts_same None (Some m) hn hm e = absurd (cc)
counts_same (Some n) None hn hm e = absurd (cc)
counts_same (Some n) (Some m) hn hm e =
    let digits : decimal n ≡ decimal m = cc in ap Some (decimal_injective n m hn hm digits)

done_opens : (v : Verb) (n : Option ℕ) → verb_at (opening (reply_text (Done v n))) ≡ Some v
done_opens v n =
    ap (λ l. verb_at (opening l)) (append_assoc (verb_text v) (count_text n) (10 ∷ []))
    ∙ verb_opens v (count_text n ++ (10 ∷ []))

-- the end of a line cancels
cancel_end : (xs ys : List ℕ) → xs ++ (10 ∷ []) ≡ ys ++ (10 ∷ []) → xs ≡ ys
cancel_end [] [] e = refl
cancel_end [] (y ∷ []) e = absurd (cc)
cancel_end [] (y ∷ z ∷ ys) e = absurd (cc)
cancel_end (x ∷ []) [] e = absurd (cc)
cancel_end (x ∷ z ∷ xs) [] e = absurd (cc)
cancel_end (x ∷ xs) (y ∷ ys) e =
    let first : x ≡ y = cc in
    let rest : xs ++ (10 ∷ []) ≡ ys ++ (10 ∷ []) = cc in
    let others : xs ≡ ys = cancel_end xs ys rest in cc

dones_same : (v w : Verb) (n m : Option ℕ) → IsCount n → IsCount m
    → reply_text (Done v n) ≡ reply_text (Done w m) → Done v n ≡ Done w m
dones_same v w n m hn hm e =
    let opens : Some v ≡ Some w = sym (done_opens v n) ∙ ap (λ l. verb_at (opening l)) e ∙ done_opens w m in
    let verbs : v ≡ w = cc in
    let texts : verb_text w ++ count_text n ≡ verb_text w ++ count_text m =
    ap (λ x. verb_text x ++ count_text n) (sym verbs)
    ∙ cancel_end (verb_text v ++ count_text n) (verb_text w ++ count_text m) e in
    let counts : n ≡ m = counts_same n m hn hm (cancel (verb_text w) (count_text n) (count_text m) texts) in cc

refusals_same : (e f : Refusal) → reply_text (Refused e) ≡ reply_text (Refused f) → e ≡ f
refusals_same e f h =
    wording_same e f
    (cancel (codes "REFUSED ") (wording e) (wording f)
    (cancel_end (codes "REFUSED " ++ wording e) (codes "REFUSED " ++ wording f) h))

-- ---- all answers

pub none_some : {A : Type 0} (x : A) → None ≡ Some x → ⊥
none_some x e = absurd (cc)

-- a text that begins with no verb is not the reply of an executed statement
not_done : (v : Verb) (n : Option ℕ) (t : List ℕ) → verb_at (opening t) ≡ None → reply_text (Done v n) ≡ t → ⊥
not_done v n t none e =
    none_some v (sym none ∙ ap (λ l. verb_at (opening l)) (sym e) ∙ done_opens v n)

refused_accepted : (e : Refusal) → reply_text (Refused e) ≡ line (codes "OK") → ⊥
refused_accepted e h = let second : false ≡ true = ap (λ l. get_or l 1 0 == 75) h in absurd (cc)

pub answers_same : AnswersReadBack
answers_same (Replied (Done v n)) (Replied (Done w m)) ha hb e = ap Replied (dones_same v w n m ha hb e)
answers_same (Replied (Done v n)) (Replied (Table ks qs)) ha hb e =
    absurd (table_not_plain ks qs (ap (list_all is_plain) (sym e) ∙ done_plain v n ha))
answers_same (Replied (Done v n)) (Replied (Refused f)) ha hb e =
    absurd (not_done v n (reply_text (Refused f)) refused_opens e)
answers_same (Replied (Done v n)) Accepted ha hb e = absurd (not_done v n (line (codes "OK")) accepted_opens e)
answers_same (Replied (Table hs rs)) (Replied (Done w m)) ha hb e =
    absurd (table_not_plain hs rs (ap (list_all is_plain) e ∙ done_plain w m hb))
answers_same (Replied (Table hs rs)) (Replied (Table ks qs)) ha hb e =
    let same = tables_same hs ks rs qs ha hb e in
    let headings : hs ≡ ks = same.0 in
    let rows : rs ≡ qs = same.1 in cc
answers_same (Replied (Table hs rs)) (Replied (Refused f)) ha hb e =
    absurd (table_not_plain hs rs (ap (list_all is_plain) e ∙ refused_plain f))
answers_same (Replied (Table hs rs)) Accepted ha hb e = absurd (table_not_plain hs rs (ap (list_all is_plain) e))
answers_same (Replied (Refused e)) (Replied (Done w m)) ha hb h =
    absurd (not_done w m (reply_text (Refused e)) refused_opens (sym h))
answers_same (Replied (Refused e)) (Replied (Table ks qs)) ha hb h =
    absurd (table_not_plain ks qs (ap (list_all is_plain) (sym h) ∙ refused_plain e))
answers_same (Replied (Refused e)) (Replied (Refused f)) ha hb h = ap (λ x. Replied (Refused x)) (refusals_same e f h)
answers_same (Replied (Refused e)) Accepted ha hb h = absurd (refused_accepted e h)
answers_same Accepted (Replied (Done w m)) ha hb e = absurd (not_done w m (line (codes "OK")) accepted_opens (sym e))
answers_same Accepted (Replied (Table ks qs)) ha hb e =
    absurd (table_not_plain ks qs (ap (list_all is_plain) (sym e)))
answers_same Accepted (Replied (Refused f)) ha hb e = absurd (refused_accepted f (sym e))
answers_same Accepted Accepted ha hb e = refl
