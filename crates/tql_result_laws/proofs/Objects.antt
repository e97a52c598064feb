-- Values, arrays and objects of JSON, and where they end.
use Rattle.std.proofs.Common.{◌≡◌, ℕ, ◌^◌, ◌<◌, List, [], ◌∷◌, ◌++◌, true, false, refl, sym, ◌∙◌, ap, subst, arith}
use Rattle.std.proofs.Common.{append_assoc, length, map, decimal, get_or, drop}
use Rattle.std.proofs.lemmas.Fmt.{decimal_injective, signed_decimal_injective}
use Rattle.std.proofs.lemmas.List.Folds.{flat_map-map}
use Rattle.std.specs.Prelude.{◌==◌, ◌||◌, ◌&&◌, Bool, codes, ℤ, pos, negsuc, Option, Some, None}
use Rattle.std.specs.List.{flat_map, list_all}
use Rattle.std.specs.Fmt.{signed_decimal}
use Rattle.std.specs.Int.Signed.{mag}
use Rattle.tql_spec.specs.Calendar.{day_parts}
use Rattle.tql_spec.specs.Datum.{Datum, Null, Int, Text, Day, Moment, Row}
use Rattle.tql_spec.specs.Definition.{Name}
use Rattle.tql_result_laws.specs.Json.{string, in_quotes, json_value, array, row_array, member, known, name_array}
use Rattle.tql_result_laws.specs.Json.{Fault, fault_members, done_members, table_members, refusal_members}
use Rattle.tql_result_laws.specs.Json.{members_of, json_text}
use Rattle.tql_spec.specs.Machine.{Verb, Done, Table, Refused}
use Rattle.tql_spec.specs.Refusal.{Refusal}
use Rattle.tql_spec.specs.Answer.{Answer, Replied, Accepted}
use Rattle.tql_spec.specs.Text.{cell_text, line, verb_text, wording, number}
use Rattle.tql_result_laws.specs.ReadBack.{IsKept, IsTable, IsCount, IsWhole}
use Rattle.tql_result_laws.specs.JsonReadBack.{Said, Nothing, Number, Words, said, SayTheSame, Same, SameFault}
use Rattle.tql_result_laws.specs.JsonReadBack.{IsFault, LinesReadBack}
use Rattle.tql_result_laws.proofs.Cuts.{Each, IsRow, begins, begins_append, cancel, Cuts, word_cut, tails_cut}
use Rattle.tql_result_laws.proofs.Cells.{fits_mag, int_long, digit_other, moment_word}
use Rattle.tql_result_laws.proofs.Dates.{day_short}
use Rattle.tql_result_laws.proofs.Whole.{table_rows, none_some}
use Rattle.tql_result_laws.proofs.Words.{is_word, is_stop, apart, all_weaker, decimal_word, decimal_digits}
use Rattle.tql_result_laws.proofs.Words.{date_word, signed_word}
use Rattle.tql_result_laws.proofs.Openings.{opening, verb_at, verb_opens, accepted_opens, number_same, number_small}
use Rattle.tql_result_laws.proofs.Strings.{string_cut, word_escapes}

-- ---- values

-- the text of a JSON value
abbrev pub said_text : Said → List ℕ
said_text Nothing = codes "null"
said_text (Number n) = signed_decimal n
said_text (Words t) = string t

-- a number that fits in 64 bits, or another value
abbrev pub IsSaid : Said → Type 0
IsSaid Nothing = Unit {0}
IsSaid (Number n) = mag n < 2 ^ 63
IsSaid (Words t) = Unit {0}

pub value_is : (d : Datum) → IsKept d → json_value d ≡ said_text (said d)
value_is Null h = refl
value_is (Int n) h = refl
value_is (Text t) h = refl
value_is (Day d) h =
    let short = day_short d h in
    ap in_quotes (sym (word_escapes (cell_text (Day d))
    (date_word (day_parts d) (omega (arith, short.year)) (omega (arith, short.month)) (omega (arith, short.day)))))
value_is (Moment m) h = ap in_quotes (sym (word_escapes (cell_text (Moment m)) (moment_word m h)))

pub value_said : (d : Datum) → IsKept d → IsSaid (said d)
value_said Null h = tt
value_said (Int n) h = fits_mag n h
value_said (Text t) h = tt
value_said (Day d) h = tt
value_said (Moment m) h = tt

number_first : (z : ℤ) → mag z < 2 ^ 63 → (get_or (signed_decimal z) 0 0 == 110) ≡ false
number_first (pos n) h = digit_other (decimal n) 0 110 refl (λ e. omega arith) (decimal_digits n (omega arith))
number_first (negsuc n) h = refl

no_number : (z : ℤ) → mag z < 2 ^ 63 → codes "null" ≡ signed_decimal z → ⊥
no_number z h e =
    let never : true ≡ false = ap (λ l. get_or l 0 0 == 110) e ∙ number_first z h in absurd (cc)

-- no word begins like a string
no_string : (t u w v : List ℕ) → list_all is_word w ≡ true → 0 < length w → string t ++ u ≡ w ++ v → ⊥
no_string t u w v h some e =
    let never : is_word 34 ≡ true = ap (begins is_word) e ∙ begins_append is_word w v some h in absurd (cc)

pub said_cut : Cuts IsSaid said_text is_stop
said_cut Nothing Nothing u v ka kb su sv e = (refl, cancel (codes "null") u v e)
said_cut Nothing (Number m) u v ka kb su sv e =
    let cut = word_cut is_word is_stop apart (codes "null") (signed_decimal m) u v refl (signed_word m kb) su sv e in
    absurd (no_number m kb cut.0)
said_cut Nothing (Words t) u v ka kb su sv e = absurd (no_string t v (codes "null") u refl (omega arith) (sym e))
said_cut (Number n) Nothing u v ka kb su sv e =
    let cut = word_cut is_word is_stop apart (signed_decimal n) (codes "null") u v (signed_word n ka) refl su sv e in
    absurd (no_number n ka (sym cut.0))
said_cut (Number n) (Number m) u v ka kb su sv e =
    let cut = word_cut is_word is_stop apart (signed_decimal n) (signed_decimal m) u v (signed_word n ka)
    (signed_word m kb) su sv e in
    (ap Number (signed_decimal_injective n m ka kb cut.0), cut.1)
said_cut (Number n) (Words t) u v ka kb su sv e =
    absurd (no_string t v (signed_decimal n) u (signed_word n ka) (int_long n ka) (sym e))
said_cut (Words s) Nothing u v ka kb su sv e = absurd (no_string s u (codes "null") v refl (omega arith) e)
said_cut (Words s) (Number m) u v ka kb su sv e =
    absurd (no_string s u (signed_decimal m) v (signed_word m kb) (int_long m kb) e)
said_cut (Words s) (Words t) u v ka kb su sv e = let cut = string_cut s t u v e in (ap Words cut.0, cut.1)

-- ---- lists

-- texts that do not begin with the end of an array
abbrev pub NoEnd : {A : Type 0} → (A → Type 0) → (A → List ℕ) → Type 0
NoEnd {A} P f = (a : A) (u v : List ℕ) → P a → 93 ∷ u ≡ f a ++ v → ⊥

value_begins : (s : Said) (u : List ℕ) → IsSaid s → begins (λ b. is_word b || (b == 34)) (said_text s ++ u) ≡ true
value_begins Nothing u h = refl
value_begins (Number n) u h =
    begins_append (λ b. is_word b || (b == 34)) (signed_decimal n) u (int_long n h)
    (all_weaker is_word (λ b. is_word b || (b == 34)) (λ b holds. rw holds refl) (signed_decimal n) (signed_word n h))
value_begins (Words t) u h = refl

value_end : NoEnd IsSaid said_text
value_end s u v h e =
    let never : false ≡ true = ap (begins (λ b. is_word b || (b == 34))) e ∙ value_begins s v h in absurd (cc)

string_end : NoEnd (λ n. Unit {0}) string
string_end t u v h e = let never : true ≡ false = ap (begins (λ b. b == 93)) e in absurd (cc)

-- texts after a blank can be cut off too
blank_cut : {A : Type 0} (P : A → Type 0) (f : A → List ℕ) → Cuts P f is_stop → Cuts P (λ a. 32 ∷ f a) is_stop
blank_cut P f cut a b u v ka kb su sv e = let rest : f a ++ u ≡ f b ++ v = cc in cut a b u v ka kb su sv rest

array_some : {A : Type 0} (f : A → List ℕ) (x : A) (xs : List A) (u : List ℕ)
    → array (map f (x ∷ xs)) ++ u ≡ 91 ∷ (f x ++ (flat_map (λ y. 44 ∷ 32 ∷ f y) xs ++ (93 ∷ u)))
array_some f x xs u =
    let after = flat_map (λ y. 44 ∷ 32 ∷ y) (map f xs) in
    ap (λ l. 91 ∷ l)
    (append_assoc (f x ++ after) (93 ∷ []) u ∙ append_assoc (f x) after (93 ∷ u)
    ∙ ap (λ l. f x ++ (l ++ (93 ∷ u))) (flat_map-map (λ y. 44 ∷ 32 ∷ y) f xs))

after_stops : {A : Type 0} (f : A → List ℕ) (xs : List A) (u : List ℕ)
    → begins is_stop (flat_map (λ y. 44 ∷ 32 ∷ f y) xs ++ (93 ∷ u)) ≡ true
after_stops f [] u = refl
after_stops f (x ∷ xs) u = refl

array_cut : {A : Type 0} (P : A → Type 0) (f : A → List ℕ) → Cuts P f is_stop → NoEnd P f → (xs ys : List A)
    → Each P xs → Each P ys → (u v : List ℕ) → array (map f xs) ++ u ≡ array (map f ys) ++ v → (xs ≡ ys) × (u ≡ v)
array_cut P f cut end [] [] hx hy u v e = (refl, cc)
array_cut P f cut end [] (y ∷ ys) hx hy u v e =
    let both : 91 ∷ 93 ∷ u ≡ 91 ∷ (f y ++ (flat_map (λ z. 44 ∷ 32 ∷ f z) ys ++ (93 ∷ v))) = e ∙ array_some f y ys v in
    let rest : 93 ∷ u ≡ f y ++ (flat_map (λ z. 44 ∷ 32 ∷ f z) ys ++ (93 ∷ v)) = cc in
    absurd (end y u (flat_map (λ z. 44 ∷ 32 ∷ f z) ys ++ (93 ∷ v)) hy.0 rest)
array_cut P f cut end (x ∷ xs) [] hx hy u v e =
    let both : 91 ∷ 93 ∷ v ≡ 91 ∷ (f x ++ (flat_map (λ z. 44 ∷ 32 ∷ f z) xs ++ (93 ∷ u))) =
    sym e ∙ array_some f x xs u in
    let rest : 93 ∷ v ≡ f x ++ (flat_map (λ z. 44 ∷ 32 ∷ f z) xs ++ (93 ∷ u)) = cc in
    absurd (end x v (flat_map (λ z. 44 ∷ 32 ∷ f z) xs ++ (93 ∷ u)) hx.0 rest)
array_cut P f cut end (x ∷ xs) (y ∷ ys) hx hy u v e =
    let after = flat_map (λ z. 44 ∷ 32 ∷ f z) in
    let both : 91 ∷ (f x ++ (after xs ++ (93 ∷ u))) ≡ 91 ∷ (f y ++ (after ys ++ (93 ∷ v))) =
    sym (array_some f x xs u) ∙ e ∙ array_some f y ys v in
    let rest : f x ++ (after xs ++ (93 ∷ u)) ≡ f y ++ (after ys ++ (93 ∷ v)) = cc in
    let here = cut x y (after xs ++ (93 ∷ u)) (after ys ++ (93 ∷ v)) hx.0 hy.0 (after_stops f xs u) (after_stops f ys v)
    rest in
    let behind = tails_cut P (λ a. 32 ∷ f a) is_stop 44 93 refl refl (λ n. omega arith) (blank_cut P f cut) xs ys u v
    hx.1 hy.1 here.1 in
    let first : x ≡ y = here.0 in
    let others : xs ≡ ys = behind.0 in
    let whole : (x ∷ xs) ≡ (y ∷ ys) = cc in (whole, behind.1)

-- ---- rows

abbrev pub row_said : List Said → List ℕ
row_said r = array (map said_text r)

row_cut : Cuts (Each IsSaid) row_said is_stop
row_cut a b u v ka kb su sv e = array_cut IsSaid said_text said_cut value_end a b ka kb u v e

row_end : NoEnd (Each IsSaid) row_said
row_end r u v h e = let never : true ≡ false = ap (begins (λ b. b == 93)) e in absurd (cc)

values_are : (r : Row) → Each IsKept r → map json_value r ≡ map said_text (map said r)
values_are [] h = refl
values_are (d ∷ r) h =
    ap (λ l. l ∷ map json_value r) (value_is d h.0) ∙ ap (λ l. said_text (said d) ∷ l) (values_are r h.1)

rows_are : (rows : List Row) → Each (IsRow IsKept) rows → map row_array rows ≡ map row_said (map (map said) rows)
rows_are [] h = refl
rows_are (r ∷ rows) h =
    ap (λ l. array l ∷ map row_array rows) (values_are r h.0.1)
    ∙ ap (λ l. row_said (map said r) ∷ l) (rows_are rows h.1)

values_said : (r : Row) → Each IsKept r → Each IsSaid (map said r)
values_said [] h = tt
values_said (d ∷ r) h = (value_said d h.0, values_said r h.1)

rows_said : (rows : List Row) → Each (IsRow IsKept) rows → Each (Each IsSaid) (map (map said) rows)
rows_said [] h = tt
rows_said (r ∷ rows) h = (values_said r h.0.1, rows_said rows h.1)

-- ---- members

-- a name, with the comma before it and the colon after it
abbrev pub named : List ℕ → List ℕ
named name = 44 ∷ 32 ∷ (string name ++ (58 ∷ 32 ∷ []))

-- the members of an answer, and the end of the line
abbrev pub rest_text : List (List ℕ) → List ℕ
rest_text members = flat_map (λ m. 44 ∷ 32 ∷ m) members ++ (125 ∷ 10 ∷ [])

parts : (n v f e : List ℕ)
    → ((44 ∷ 32 ∷ (n ++ 58 ∷ 32 ∷ v)) ++ f) ++ e ≡ (44 ∷ 32 ∷ (n ++ (58 ∷ 32 ∷ []))) ++ (v ++ (f ++ e))
parts n v f e = simp append_assoc

member_parts : (name value : List ℕ) (members : List (List ℕ))
    → rest_text (member name value ∷ members) ≡ named name ++ (value ++ rest_text members)
member_parts name value members =
    parts (string name) value (flat_map (λ m. 44 ∷ 32 ∷ m) members) (125 ∷ 10 ∷ [])

-- a member that is a number
number_cut : (name : List ℕ) (n m : ℕ) (ms ns : List (List ℕ)) → n < 2 ^ 64 → m < 2 ^ 64
    → begins is_stop (rest_text ms) ≡ true → begins is_stop (rest_text ns) ≡ true
    → rest_text (member name (decimal n) ∷ ms) ≡ rest_text (member name (decimal m) ∷ ns)
    → (n ≡ m) × (rest_text ms ≡ rest_text ns)
number_cut name n m ms ns hn hm sm sn e =
    let both = cancel (named name) (decimal n ++ rest_text ms) (decimal m ++ rest_text ns)
    (sym (member_parts name (decimal n) ms) ∙ e ∙ member_parts name (decimal m) ns) in
    let cut = word_cut is_word is_stop apart (decimal n) (decimal m) (rest_text ms) (rest_text ns) (decimal_word n hn)
    (decimal_word m hm) sm sn both in
    (decimal_injective n m hn hm cut.0, cut.1)

-- a member that is a string
string_member : (name s t : List ℕ) (ms ns : List (List ℕ))
    → rest_text (member name (string s) ∷ ms) ≡ rest_text (member name (string t) ∷ ns)
    → (s ≡ t) × (rest_text ms ≡ rest_text ns)
string_member name s t ms ns e =
    string_cut s t (rest_text ms) (rest_text ns)
    (cancel (named name) (string s ++ rest_text ms) (string t ++ rest_text ns)
    (sym (member_parts name (string s) ms) ∙ e ∙ member_parts name (string t) ns))

-- ---- members for known details

-- a test of the bytes that follow; a member with this name does not affect it
ahead : {A : Type 0} (name : List ℕ) (text : A → List ℕ) (test : List ℕ → Bool) (b : Bool)
    → ((v : List ℕ) (ms : List (List ℕ)) → test (rest_text (member name v ∷ ms)) ≡ b) → (x : Option A)
    (ms : List (List ℕ)) → test (rest_text ms) ≡ b → test (rest_text (known name text x ms)) ≡ b
ahead name text test b here None ms h = h
ahead name text test b here (Some a) ms h = here (text a) ms

-- the detail under a name, if no other member has that name
known_same : {A : Type 0} (P : A → Type 0) (name : List ℕ) (text : A → List ℕ) (test : List ℕ → Bool)
    → Cuts P text is_stop → ((v : List ℕ) (ms : List (List ℕ)) → test (rest_text (member name v ∷ ms)) ≡ true)
    → (x y : Option A) (ms ns : List (List ℕ)) → ((a : A) → x ≡ Some a → P a) → ((a : A) → y ≡ Some a → P a)
    → test (rest_text ms) ≡ false → test (rest_text ns) ≡ false → begins is_stop (rest_text ms) ≡ true
    → begins is_stop (rest_text ns) ≡ true → rest_text (known name text x ms) ≡ rest_text (known name text y ns)
    → (x ≡ y) × (rest_text ms ≡ rest_text ns)
known_same P name text test cut here None None ms ns hx hy tm tn sm sn e = (refl, e)
known_same P name text test cut here None (Some b) ms ns hx hy tm tn sm sn e =
    let never : false ≡ true = sym tm ∙ ap test e ∙ here (text b) ns in absurd (cc)
known_same P name text test cut here (Some a) None ms ns hx hy tm tn sm sn e =
    let never : true ≡ false = sym (here (text a) ms) ∙ ap test e ∙ tn in absurd (cc)
known_same P name text test cut here (Some a) (Some b) ms ns hx hy tm tn sm sn e =
    let both = cancel (named name) (text a ++ rest_text ms) (text b ++ rest_text ns)
    (sym (member_parts name (text a) ms) ∙ e ∙ member_parts name (text b) ns) in
    let same = cut a b (rest_text ms) (rest_text ns) (hx a refl) (hy b refl) sm sn both in
    (ap Some same.0, same.1)

-- a number that fits in 64 bits, a text, and an array of names
decimal_cut : Cuts (λ (n : ℕ). n < 2 ^ 64) decimal is_stop
decimal_cut n m u v hn hm su sv e =
    let cut = word_cut is_word is_stop apart (decimal n) (decimal m) u v (decimal_word n hn) (decimal_word m hm) su sv
    e in
    (decimal_injective n m hn hm cut.0, cut.1)

text_cut : Cuts (λ (t : List ℕ). Unit {0}) string is_stop
text_cut s t u v hs ht su sv e = string_cut s t u v e

names : (xs : List Name) → Each (λ n. Unit {0}) xs
names [] = tt
names (x ∷ xs) = (tt, names xs)

names_cut : Cuts (λ (l : List Name). Unit {0}) name_array is_stop
names_cut xs ys u v hx hy su sv e =
    array_cut (λ n. Unit {0}) string text_cut string_end xs ys (names xs) (names ys) u v e

counted : (c : Option ℕ) → IsCount c → (n : ℕ) → c ≡ Some n → n < 2 ^ 64
counted None h n e = absurd (cc)
counted (Some m) h n e = let same : m ≡ n = cc in subst (λ (x : ℕ). x < 2 ^ 64) same h

-- ---- answers

counts_same : (n m : Option ℕ) → IsCount n → IsCount m
    → rest_text (known (codes "count") decimal n []) ≡ rest_text (known (codes "count") decimal m []) → n ≡ m
counts_same n m hn hm e =
    (known_same (λ (x : ℕ). x < 2 ^ 64) (codes "count") decimal (begins (λ b. b == 44)) decimal_cut (λ v ms. refl) n m
    [] [] (counted n hn) (counted m hm) refl refl refl refl e).0

verbs_same : (v w : Verb) → verb_text v ≡ verb_text w → v ≡ w
verbs_same v w e =
    let opens : Some v ≡ Some w =
    sym (verb_opens v []) ∙ ap (λ l. verb_at (opening (l ++ []))) e ∙ verb_opens w [] in cc

no_verb : (v : Verb) → verb_text v ≡ codes "OK" → ⊥
no_verb v e = none_some v (sym accepted_opens ∙ ap (λ l. verb_at (opening (l ++ []))) (sym e) ∙ verb_opens v [])

dones_same : (v w : Verb) (n m : Option ℕ) → IsCount n → IsCount m
    → rest_text (done_members v n) ≡ rest_text (done_members w m)
    → Replied (Done v n) ≡ Replied (Done w m)
dones_same v w n m hn hm e =
    let cut = string_member (codes "reply") (verb_text v) (verb_text w) (known (codes "count") decimal n [])
    (known (codes "count") decimal m []) e in
    let verbs : v ≡ w = verbs_same v w cut.0 in
    let counts : n ≡ m = counts_same n m hn hm cut.1 in cc

no_done : (v : Verb) (n : Option ℕ)
    → rest_text (done_members v n) ≡ rest_text (member (codes "reply") (string (codes "OK")) ∷ []) → ⊥
no_done v n e = no_verb v (string_member (codes "reply") (verb_text v) (codes "OK") (known (codes "count") decimal n [])
    [] e).0

-- the members from `row` on, from `columns` on, and so on
abbrev pub from_row : Fault → List (List ℕ)
from_row f = known (codes "row") decimal f.row []

abbrev pub from_columns : Fault → List (List ℕ)
from_columns f = known (codes "columns") name_array f.columns (from_row f)

abbrev pub from_constraint : Fault → List (List ℕ)
from_constraint f = known (codes "constraint") string f.constraint (from_columns f)

abbrev pub from_hint : Fault → List (List ℕ)
from_hint f = known (codes "hint") string f.hint (from_constraint f)

abbrev pub from_detail : Fault → List (List ℕ)
from_detail f = known (codes "detail") string f.detail (from_hint f)

-- a test of the first bytes with the same result for every member with this name
abbrev pub Passes : (List ℕ → Bool) → Bool → List ℕ → Type 0
Passes test b name = (v : List ℕ) (ms : List (List ℕ)) → test (rest_text (member name v ∷ ms)) ≡ b

row_ahead : (test : List ℕ → Bool) (b : Bool) → Passes test b (codes "row") → test (rest_text []) ≡ b → (f : Fault)
    → test (rest_text (from_row f)) ≡ b
row_ahead test b row end f = ahead (codes "row") decimal test b row f.row [] end

columns_ahead : (test : List ℕ → Bool) (b : Bool) → Passes test b (codes "columns") → Passes test b (codes "row")
    → test (rest_text []) ≡ b → (f : Fault) → test (rest_text (from_columns f)) ≡ b
columns_ahead test b columns row end f =
    ahead (codes "columns") name_array test b columns f.columns (from_row f) (row_ahead test b row end f)

constraint_ahead : (test : List ℕ → Bool) (b : Bool) → Passes test b (codes "constraint")
    → Passes test b (codes "columns") → Passes test b (codes "row") → test (rest_text []) ≡ b → (f : Fault)
    → test (rest_text (from_constraint f)) ≡ b
constraint_ahead test b constraint columns row end f =
    ahead (codes "constraint") string test b constraint f.constraint (from_columns f)
    (columns_ahead test b columns row end f)

hint_ahead : (test : List ℕ → Bool) (b : Bool) → Passes test b (codes "hint") → Passes test b (codes "constraint")
    → Passes test b (codes "columns") → Passes test b (codes "row") → test (rest_text []) ≡ b → (f : Fault)
    → test (rest_text (from_hint f)) ≡ b
hint_ahead test b hint constraint columns row end f =
    ahead (codes "hint") string test b hint f.hint (from_constraint f)
    (constraint_ahead test b constraint columns row end f)

detail_ahead : (test : List ℕ → Bool) (b : Bool) → Passes test b (codes "detail") → Passes test b (codes "hint")
    → Passes test b (codes "constraint") → Passes test b (codes "columns") → Passes test b (codes "row")
    → test (rest_text []) ≡ b → (f : Fault) → test (rest_text (from_detail f)) ≡ b
detail_ahead test b detail hint constraint columns row end f =
    ahead (codes "detail") string test b detail f.detail (from_hint f)
    (hint_ahead test b hint constraint columns row end f)

-- whether a member is `column`: `columns` is longer, and `constraint` differs earlier
abbrev pub is_column : List ℕ → Bool
is_column l = (get_or l 3 0 == 99) && (get_or l 9 0 == 34)

abbrev pub begins_at : ℕ → ℕ → List ℕ → Bool
begins_at i b l = get_or l i 0 == b

faults_same : (f g : Fault) → IsFault f → IsFault g → rest_text (fault_members f) ≡ rest_text (fault_members g)
    → Same f g
faults_same f g hf hg e =
    let column = known_same (λ (x : ℕ). x < 2 ^ 64) (codes "column") decimal is_column decimal_cut (λ v ms. refl)
    f.column g.column (from_detail f) (from_detail g) (counted f.column hf.0) (counted g.column hg.0)
    (detail_ahead is_column false (λ v ms. refl) (λ v ms. refl) (λ v ms. refl) (λ v ms. refl) (λ v ms. refl) refl f)
    (detail_ahead is_column false (λ v ms. refl) (λ v ms. refl) (λ v ms. refl) (λ v ms. refl) (λ v ms. refl) refl g)
    (detail_ahead (begins is_stop) true (λ v ms. refl) (λ v ms. refl) (λ v ms. refl) (λ v ms. refl) (λ v ms. refl) refl
    f)
    (detail_ahead (begins is_stop) true (λ v ms. refl) (λ v ms. refl) (λ v ms. refl) (λ v ms. refl) (λ v ms. refl) refl
    g) e in
    let detail = known_same (λ (t : List ℕ). Unit {0}) (codes "detail") string (begins_at 3 100) text_cut (λ v ms. refl)
    f.detail g.detail (from_hint f) (from_hint g) (λ t is. tt) (λ t is. tt)
    (hint_ahead (begins_at 3 100) false (λ v ms. refl) (λ v ms. refl) (λ v ms. refl) (λ v ms. refl) refl f)
    (hint_ahead (begins_at 3 100) false (λ v ms. refl) (λ v ms. refl) (λ v ms. refl) (λ v ms. refl) refl g)
    (hint_ahead (begins is_stop) true (λ v ms. refl) (λ v ms. refl) (λ v ms. refl) (λ v ms. refl) refl f)
    (hint_ahead (begins is_stop) true (λ v ms. refl) (λ v ms. refl) (λ v ms. refl) (λ v ms. refl) refl g) column.1 in
    let hint = known_same (λ (t : List ℕ). Unit {0}) (codes "hint") string (begins_at 3 104) text_cut (λ v ms. refl)
    f.hint g.hint (from_constraint f) (from_constraint g) (λ t is. tt) (λ t is. tt)
    (constraint_ahead (begins_at 3 104) false (λ v ms. refl) (λ v ms. refl) (λ v ms. refl) refl f)
    (constraint_ahead (begins_at 3 104) false (λ v ms. refl) (λ v ms. refl) (λ v ms. refl) refl g)
    (constraint_ahead (begins is_stop) true (λ v ms. refl) (λ v ms. refl) (λ v ms. refl) refl f)
    (constraint_ahead (begins is_stop) true (λ v ms. refl) (λ v ms. refl) (λ v ms. refl) refl g) detail.1 in
    let constraint = known_same (λ (t : List ℕ). Unit {0}) (codes "constraint") string (begins_at 6 115) text_cut
    (λ v ms. refl) f.constraint g.constraint (from_columns f) (from_columns g) (λ t is. tt) (λ t is. tt)
    (columns_ahead (begins_at 6 115) false (λ v ms. refl) (λ v ms. refl) refl f)
    (columns_ahead (begins_at 6 115) false (λ v ms. refl) (λ v ms. refl) refl g)
    (columns_ahead (begins is_stop) true (λ v ms. refl) (λ v ms. refl) refl f)
    (columns_ahead (begins is_stop) true (λ v ms. refl) (λ v ms. refl) refl g) hint.1 in
    let columns = known_same (λ (l : List Name). Unit {0}) (codes "columns") name_array (begins_at 3 99) names_cut
    (λ v ms. refl) f.columns g.columns (from_row f) (from_row g) (λ l is. tt) (λ l is. tt)
    (row_ahead (begins_at 3 99) false (λ v ms. refl) refl f) (row_ahead (begins_at 3 99) false (λ v ms. refl) refl g)
    (row_ahead (begins is_stop) true (λ v ms. refl) refl f) (row_ahead (begins is_stop) true (λ v ms. refl) refl g)
    constraint.1 in
    let row = known_same (λ (x : ℕ). x < 2 ^ 64) (codes "row") decimal (begins_at 3 114) decimal_cut (λ v ms. refl)
    f.row g.row [] [] (counted f.row hf.1) (counted g.row hg.1) refl refl refl refl columns.1 in
    record {
      column = column.0;
      detail = detail.0;
      hint = hint.0;
      constraint = constraint.0;
      columns = columns.0;
      row = row.0;
    }

refusals_same : (e f : Refusal) (ms ns : List (List ℕ))
    → rest_text (refusal_members e ++ ms) ≡ rest_text (refusal_members f ++ ns)
    → (Replied (Refused e) ≡ Replied (Refused f)) × (rest_text ms ≡ rest_text ns)
refusals_same e f ms ns h =
    let low = number_small e in let high = number_small f in
    let cut = number_cut (codes "refused") (number e) (number f)
    (member (codes "text") (string (drop 4 (wording e))) ∷ ms)
    (member (codes "text") (string (drop 4 (wording f))) ∷ ns) (omega arith) (omega arith) refl refl h in
    let after = string_member (codes "text") (drop 4 (wording e)) (drop 4 (wording f)) ms ns cut.1 in
    (ap (λ x. Replied (Refused x)) (number_same e f cut.0), after.1)

tables_same : (hs ks : List Name) (rs qs : List Row) → IsTable hs rs → IsTable ks qs
    → rest_text (table_members hs rs) ≡ rest_text (table_members ks qs)
    → (hs ≡ ks) × (map (map said) rs ≡ map (map said) qs)
tables_same hs ks rs qs tr tq e =
    let rows = λ (l : List Row). member (codes "rows") (array (map row_array l)) ∷ [] in
    let said_rs = map (map said) rs in let said_qs = map (map said) qs in
    let rows_r = table_rows hs rs tr in let rows_q = table_rows ks qs tq in
    let heads = array_cut (λ n. Unit {0}) string (λ a b u v ka kb su sv x. string_cut a b u v x) string_end hs ks
    (names hs) (names ks) (rest_text (rows rs)) (rest_text (rows qs))
    (cancel (named (codes "columns")) (array (map string hs) ++ rest_text (rows rs))
    (array (map string ks) ++ rest_text (rows qs))
    (sym (member_parts (codes "columns") (array (map string hs)) (rows rs)) ∙ e
    ∙ member_parts (codes "columns") (array (map string ks)) (rows qs))) in
    let lists : array (map row_array rs) ++ rest_text [] ≡ array (map row_array qs) ++ rest_text [] =
    cancel (named (codes "rows")) (array (map row_array rs) ++ rest_text []) (array (map row_array qs) ++ rest_text [])
    (sym (member_parts (codes "rows") (array (map row_array rs)) []) ∙ heads.1
    ∙ member_parts (codes "rows") (array (map row_array qs)) []) in
    let same = array_cut (Each IsSaid) row_said row_cut row_end said_rs said_qs (rows_said rs rows_r)
    (rows_said qs rows_q)
    (rest_text []) (rest_text [])
    (ap (λ l. array l ++ rest_text []) (sym (rows_are rs rows_r)) ∙ lists
    ∙ ap (λ l. array l ++ rest_text []) (rows_are qs rows_q)) in
    (heads.0, same.0)

-- the sixth byte distinguishes the kinds of members
answers_say : (f g : Fault) (a b : Answer) → IsFault f → IsFault g → IsWhole a → IsWhole b
    → rest_text (members_of f a) ≡ rest_text (members_of g b) → SayTheSame a b × SameFault a f g
answers_say f g (Replied (Done v n)) (Replied (Done w m)) hf hg ha hb e = (dones_same v w n m ha hb e, tt)
answers_say f g (Replied (Done v n)) (Replied (Table ks qs)) hf hg ha hb e =
    let never : true ≡ false = ap (λ l. get_or l 5 0 == 112) e in absurd (cc)
answers_say f g (Replied (Done v n)) (Replied (Refused y)) hf hg ha hb e =
    let never : true ≡ false = ap (λ l. get_or l 5 0 == 112) e in absurd (cc)
answers_say f g (Replied (Done v n)) Accepted hf hg ha hb e = absurd (no_done v n e)
answers_say f g (Replied (Table hs rs)) (Replied (Done w m)) hf hg ha hb e =
    let never : true ≡ false = ap (λ l. get_or l 5 0 == 108) e in absurd (cc)
answers_say f g (Replied (Table hs rs)) (Replied (Table ks qs)) hf hg ha hb e =
    (tables_same hs ks rs qs ha hb e, tt)
answers_say f g (Replied (Table hs rs)) (Replied (Refused y)) hf hg ha hb e =
    let never : true ≡ false = ap (λ l. get_or l 5 0 == 108) e in absurd (cc)
answers_say f g (Replied (Table hs rs)) Accepted hf hg ha hb e =
    let never : true ≡ false = ap (λ l. get_or l 5 0 == 108) e in absurd (cc)
answers_say f g (Replied (Refused x)) (Replied (Done w m)) hf hg ha hb e =
    let never : true ≡ false = ap (λ l. get_or l 5 0 == 102) e in absurd (cc)
answers_say f g (Replied (Refused x)) (Replied (Table ks qs)) hf hg ha hb e =
    let never : true ≡ false = ap (λ l. get_or l 5 0 == 102) e in absurd (cc)
answers_say f g (Replied (Refused x)) (Replied (Refused y)) hf hg ha hb e =
    let same = refusals_same x y (fault_members f) (fault_members g) e in (same.0, faults_same f g hf hg same.1)
answers_say f g (Replied (Refused x)) Accepted hf hg ha hb e =
    let never : true ≡ false = ap (λ l. get_or l 5 0 == 102) e in absurd (cc)
answers_say f g Accepted (Replied (Done w m)) hf hg ha hb e = absurd (no_done w m (sym e))
answers_say f g Accepted (Replied (Table ks qs)) hf hg ha hb e =
    let never : true ≡ false = ap (λ l. get_or l 5 0 == 112) e in absurd (cc)
answers_say f g Accepted (Replied (Refused y)) hf hg ha hb e =
    let never : true ≡ false = ap (λ l. get_or l 5 0 == 112) e in absurd (cc)
answers_say f g Accepted Accepted hf hg ha hb e = (refl, tt)

-- ---- lines

members_stop : (f : Fault) (a : Answer) → begins is_stop (rest_text (members_of f a)) ≡ true
members_stop f (Replied (Done v n)) = refl
members_stop f (Replied (Table hs rs)) = refl
members_stop f (Replied (Refused e)) = refl
members_stop f Accepted = refl

-- the bytes before the statement number
abbrev pub opened : List ℕ
opened = 123 ∷ (string (codes "statement") ++ (58 ∷ 32 ∷ []))

pieces : (o n s v c l w f x y : List ℕ)
    → ((o ++ ((n ++ (s ++ v)) ++ ((c ++ (l ++ (s ++ w))) ++ f))) ++ x) ++ y
    ≡ (o ++ (n ++ s)) ++ (v ++ ((c ++ (l ++ s)) ++ (w ++ (f ++ (x ++ y)))))
pieces o n s v c l w f x y = simp append_assoc

line_is : (n v l w f : List ℕ)
    → line (123 ∷ ((n ++ 58 ∷ 32 ∷ v) ++ ((44 ∷ 32 ∷ (l ++ 58 ∷ 32 ∷ w)) ++ f)) ++ 125 ∷ [])
    ≡ (123 ∷ (n ++ (58 ∷ 32 ∷ []))) ++ (v ++ ((44 ∷ 32 ∷ (l ++ (58 ∷ 32 ∷ []))) ++ (w ++ (f ++ (125 ∷ 10 ∷ [])))))
line_is n v l w f = pieces (123 ∷ []) n (58 ∷ 32 ∷ []) v (44 ∷ 32 ∷ []) l w f (125 ∷ []) (10 ∷ [])

line_parts : (statement at : ℕ) (f : Fault) (a : Answer)
    → json_text statement at f a
    ≡ opened ++ (decimal statement ++ (named (codes "line") ++ (decimal at ++ rest_text (members_of f a))))
line_parts statement at f a =
    line_is (string (codes "statement")) (decimal statement) (string (codes "line")) (decimal at)
    (flat_map (λ m. 44 ∷ 32 ∷ m) (members_of f a))

pub lines_same : LinesReadBack
lines_same m n k l f g a b hm hn hk hl hf hg ha hb e =
    let rest_a = rest_text (members_of f a) in let rest_b = rest_text (members_of g b) in
    let after_a = decimal k ++ rest_a in let after_b = decimal l ++ rest_b in
    let first = word_cut is_word is_stop apart (decimal m) (decimal n) (named (codes "line") ++ after_a)
    (named (codes "line") ++ after_b) (decimal_word m hm) (decimal_word n hn) refl refl
    (cancel opened (decimal m ++ (named (codes "line") ++ after_a)) (decimal n ++ (named (codes "line") ++ after_b))
    (sym (line_parts m k f a) ∙ e ∙ line_parts n l g b)) in
    let second = word_cut is_word is_stop apart (decimal k) (decimal l) rest_a rest_b (decimal_word k hk)
    (decimal_word l hl) (members_stop f a) (members_stop g b)
    (cancel (named (codes "line")) after_a after_b first.1) in
    let same = answers_say f g a b hf hg ha hb second.1 in
    (decimal_injective m n hm hn first.0, decimal_injective k l hk hl second.0, same.0, same.1)
