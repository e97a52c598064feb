-- Columns by name and by number.
use Rattle.std.proofs.Common.{◌≡◌, refl, ap, sym, ◌∙◌, ℕ, zero, suc, Bool, true, false, List, [], ◌∷◌, map, Some}
use Rattle.std.proofs.Common.{None, ◌+◌, ◌<◌, ◌≤◌, arith, get_or}
use Rattle.std.proofs.lemmas.List.{get_or-map, length-map}
use Rattle.std.proofs.lemmas.Bool.Decides.{nat_tests}
use Rattle.std.specs.Prelude.{position, string_bytes, if◌then◌else◌, ◌||◌, ◌++◌, ◌==◌, is_some, Option, option_map}
use Rattle.std.specs.Prelude.{◌&&◌, filter, length}
use Rattle.std.specs.List.{position_from, list_any, list_all}
use Rattle.std.proofs.lemmas.Iterator.Adapters.{position_from-zero}
use Rattle.tql_spec.specs.Words.{same_text}
use Rattle.tql_spec.specs.Definition.{Name, next_place}
use Rattle.tql_spec.specs.Syntax as tree
use Rattle.tql_spec.specs.Syntax.{ColumnTree}
use Rattle.tql_spec.specs.Creation.{number_in, has_name, has_number, numbers_where, has_bad_number, kind_of_type}
use Rattle.tql_spec.specs.Datum.{Ints}
use Rattle.tql_syntax_tree.specs.Statements.{type_of, generated_of}
use Rattle.tql_syntax_tree.specs.declared.statement.Generated.{Generated}
use Rattle.tql_bind_draft.specs.Drafts.{column_of, names_in, kind_in}
use Rattle.tql_bind_draft.specs.declared.draft.NewColumn.{NewColumn}

-- ---- by name

-- whether the column has this name
abbrev pub is_called : Name → NewColumn → Bool
is_called n c = same_text n (string_bytes c.name.text)

next_of : {X : Type 0} (t : X → Bool) (i : ℕ) (xs : List X)
    → position_from t (i + 1) xs ≡ next_place (position_from t i xs)
next_of t i [] = refl
next_of t i (x ∷ xs) =
    elim (t x) as (λ b. (if b then Some (i + 1) else position_from t (i + 1 + 1) xs) ≡ next_place
    (if b then Some i else position_from t (i + 1) xs)) [
      | true ↦ ap Some (omega arith)
      | false ↦ next_of t (i + 1) xs
    ]

number_from_zero : (n : Name) (columns : List NewColumn)
    → position_from (is_called n) 0 columns ≡ number_in n (names_in (map column_of columns))
number_from_zero n [] = refl
number_from_zero n (c ∷ cs) =
    ap (λ o. if same_text n (string_bytes c.name.text) then Some 0 else o) (next_of (is_called n) 0 cs
    ∙ ap next_place (number_from_zero n cs))

-- the index at which a column is found is its number
pub number_of_columns : (n : Name) (columns : List NewColumn)
    → position (is_called n) columns ≡ number_in n (names_in (map column_of columns))
number_of_columns n columns = position_from-zero (is_called n) columns ∙ number_from_zero n columns

some_next : (b : Bool) (o : Option ℕ) → is_some (if b then Some 0 else next_place o) ≡ b || is_some o
some_next true o = refl
some_next false None = refl
some_next false (Some i) = refl

-- a name has a number exactly if it is among the names
pub known_is : (n : Name) (ms : List Name) → is_some (number_in n ms) ≡ has_name n ms
known_is n [] = refl
known_is n (m ∷ ms) = some_next (same_text n m) (number_in n ms) ∙ ap (λ (b : Bool). same_text n m || b) (known_is n ms)

-- ---- of all columns

-- a generated column
abbrev pub is_given : NewColumn → Bool
is_given c = is_some c.generated

is_given_as : (o : Option Generated) → is_some o ≡ is_some (option_map generated_of o)
is_given_as None = refl
is_given_as (Some g) = refl

pub all_given : (cs : List NewColumn)
    → list_all is_given cs ≡ list_all (λ (c : ColumnTree). is_some c.generated) (map column_of cs)
all_given [] = refl
all_given (c ∷ cs) = λ i. is_given_as c.generated i && all_given cs i

-- a column with a length or a precision that is not allowed
abbrev pub is_misfit : NewColumn → Bool
is_misfit c = has_bad_number (type_of c.type_name)

pub any_misfit : (cs : List NewColumn)
    → list_any is_misfit cs ≡ list_any (λ (c : ColumnTree). has_bad_number c.type_name) (map column_of cs)
any_misfit [] = refl
any_misfit (c ∷ cs) = ap (λ (b : Bool). is_misfit c || b) (any_misfit cs)

-- whether a column is generated in a given way
abbrev pub has_generated : (Option tree.Generated → Bool) → NewColumn → Bool
has_generated p c = p (column_of c).generated

pub counted : (p : Option tree.Generated → Bool) (i : ℕ) (cs : List NewColumn)
    → length (filter (has_generated p) cs) ≡ length (numbers_where (λ c. p c.generated) i (map column_of cs))
counted p i [] = refl
counted p i (c ∷ cs) =
    elim (has_generated p c) as
    (λ b. length (if b then c ∷ filter (has_generated p) cs else filter (has_generated p) cs) ≡ length
    ((if b then i ∷ [] else []) ++ numbers_where (λ c'. p c'.generated) (suc i) (map column_of cs))) [
      | true ↦ ap suc (counted p (suc i) cs)
      | false ↦ counted p (suc i) cs
    ]

-- ---- by number

-- a test, or false
pub or_false : (b : Bool) → b || false ≡ b
or_false true = refl
or_false false = refl

and_false : (b : Bool) → b && false ≡ false
and_false true = refl
and_false false = refl

and_true : (b : Bool) → b && true ≡ b
and_true true = refl
and_true false = refl

is_other : (j k : ℕ) → j < k → (j == k) ≡ false
is_other j k h = grind (arith, nat_tests)

is_other_than : (j k : ℕ) → k < j → (j == k) ≡ false
is_other_than j k h = grind (arith, nat_tests)

is_one : (j k : ℕ) → j ≡ k → (j == k) ≡ true
is_one j k h = grind (arith, nat_tests)

within : (cs : List NewColumn) (i : ℕ) → i < length cs → i < length (map column_of cs)
within cs i h = let e : length (map column_of cs) ≡ length cs = length-map cs column_of in omega (arith, h, e)

head_number : (b : Bool) (j k : ℕ) (rest : List ℕ)
    → has_number j ((if b then k ∷ [] else []) ++ rest) ≡ (b && (j == k)) || has_number j rest
head_number true j k rest = refl
head_number false j k rest = refl

-- no number precedes the first
none_before : (q : ColumnTree → Bool) (j k : ℕ) (cs : List ColumnTree) → j < k
    → has_number j (numbers_where q k cs) ≡ false
none_before q j k [] h = refl
none_before q j k (c ∷ cs) h =
    head_number (q c) j k (numbers_where q (suc k) cs)
    ∙ (λ i. (q c && is_other j k h i) || none_before q j (suc k) cs (omega (arith, h)) i)
    ∙ ap (λ (b : Bool). b || false) (and_false (q c))

-- a number is present exactly if its column passes the test
number_holds : (q : ColumnTree → Bool) (j k i : ℕ) (cs : List ColumnTree) (d : ColumnTree) → j ≡ k + i → i < length cs
    → has_number j (numbers_where q k cs) ≡ q (get_or cs i d)
number_holds q j k i [] d e h = absurd (omega (arith, h))
number_holds q j k zero (c ∷ cs) d e h =
    head_number (q c) j k (numbers_where q (suc k) cs)
    ∙ (λ i. (q c && is_one j k (omega (arith, e)) i) || none_before q j (suc k) cs (omega (arith, e)) i)
    ∙ or_false (q c && true)
    ∙ and_true (q c)
number_holds q j k (suc i) (c ∷ cs) d e h =
    head_number (q c) j k (numbers_where q (suc k) cs)
    ∙ (λ m. (q c && is_other_than j k (omega (arith, e)) m) || number_holds q j (suc k) i cs d (omega (arith, e))
    (omega (arith, h)) m)
    ∙ ap (λ (b : Bool). b || q (get_or cs i d)) (and_false (q c))

-- no number follows the last
none_behind : (q : ColumnTree → Bool) (j k : ℕ) (cs : List ColumnTree) → k + length cs ≤ j
    → has_number j (numbers_where q k cs) ≡ false
none_behind q j k [] h = refl
none_behind q j k (c ∷ cs) h =
    head_number (q c) j k (numbers_where q (suc k) cs)
    ∙ (λ i. (q c && is_other_than j k (omega (arith, h)) i) || none_behind q j (suc k) cs (omega (arith, h)) i)
    ∙ ap (λ (b : Bool). b || false) (and_false (q c))

-- if there is no column, none is generated
pub not_generated : (q : ColumnTree → Bool) (cs : List NewColumn) (i : ℕ) → length cs ≤ i
    → false ≡ has_number i (numbers_where q 0 (map column_of cs))
not_generated q cs i h =
    let e : length (map column_of cs) ≡ length cs = length-map cs column_of in
    sym (none_behind q i 0 (map column_of cs) (omega (arith, h, e)))

-- the column with this number is generated in a given way exactly if its number is among those
pub generated_at : (p : Option tree.Generated → Bool) (cs : List NewColumn) (i : ℕ) (c : NewColumn) → i < length cs
    → c ≡ get_or cs i c
    → p (column_of c).generated ≡ has_number i (numbers_where (λ c. p c.generated) 0 (map column_of cs))
generated_at p cs i c h e =
    ap (has_generated p) e
    ∙ sym (
    number_holds (λ (c : ColumnTree). p c.generated) i 0 i (map column_of cs) (column_of c) (omega arith)
    (within cs i h)
    ∙ ap (λ (t : ColumnTree). p t.generated) (get_or-map column_of cs i c (column_of c) h)
    )

-- the kind of the column with this number
pub kind_there : (cs : List NewColumn) (i : ℕ) (c : NewColumn) → i < length cs → c ≡ get_or cs i c
    → kind_of_type (type_of c.type_name) ≡ kind_in (map column_of cs) i
kind_there cs i c h e =
    ap (λ (c : NewColumn). kind_of_type (type_of c.type_name)) e
    ∙ sym (
    get_or-map (λ (t : ColumnTree). kind_of_type t.type_name) (map column_of cs) i (column_of c) Ints (within cs i h)
    ∙ ap (λ (t : ColumnTree). kind_of_type t.type_name) (get_or-map column_of cs i c (column_of c) h)
    )
