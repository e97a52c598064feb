-- The names of the application periods, period by period, and the period that a name means.
use Rattle.std.specs.Prelude.{◌≡◌, refl, ℕ, ◌+◌, ◌<◌, ◌≤◌, Bool, true, false, ◌||◌, List, [], ◌∷◌, map, filter, length}
use Rattle.std.specs.Prelude.{Option, Some, None, is_some, option_map, slice_get, if◌then◌else◌}
use Rattle.std.specs.HashMap.{get_by_text}
use Rattle.std.specs.List.{list_any}
use Rattle.std.specs.Map.{update}
use Rattle.std.specs.Str.{bytes_eq}
use Rattle.std.proofs.Common.{ap, sym, subst, ◌∙◌, arith, true≢false, cond, drop, get_or}
use Rattle.std.proofs.lemmas.List.{drop_all, at_drop_more}
use Rattle.std.proofs.lemmas.Map.Text.{is_eq-slice_cmp}
use Rattle.tql_spec.specs.Words.{same_text}
use Rattle.tql_spec.specs.Definition.{Name, Application, next_place}
use Rattle.tql_spec.specs.Creation.{number_in, has_name, repeats, period_called, first_of}
use Rattle.tql_spec.proofs.Constraints.{same_text-self, same_text-is}
use Rattle.tql_bind_expr.specs.Scopes.{word_of}
use Rattle.tql_spec.specs.Names.{check_each}
use Rattle.tql_spec.specs.Syntax.{ColumnTree}
use Rattle.tql_bind_draft.specs.Drafts.{application_in, application_part, names_of_periods}
use Rattle.tql_bind_draft.specs.PeriodNames.{AreNames, IsAdded, or_place, names_of_bound}
use Rattle.tql_bind_draft.specs.declared.draft.NewApplication.{NewApplication}
use Rattle.tql_bind_draft.specs.declared.period_names.PeriodNames.{PeriodNames}
use Rattle.tql_bind_draft.proofs.ColumnLaws.{known_is}

-- ---- names added one by one

-- a position among all names: one so far, or one of the names left, of which the first is at position p
abbrev pub all_in_all : Option ℕ → ℕ → Option ℕ → Option ℕ
all_in_all (Some q) p left = Some q
all_in_all None p left = option_map (λ i. p + i) left

-- whether one of the names left repeats a name
abbrev pub repeats_with : (Name → Option ℕ) → List Name → Bool
repeats_with places ns = list_any (λ n. is_some (places n)) ns || repeats ns

further : (p : ℕ) (left : Option ℕ) → option_map (λ i. (p + 1) + i) left ≡ option_map (λ i. p + i) (next_place left)
further p None = refl
further p (Some i) = ap Some (omega arith)

place_on : (so_far : Option ℕ) (b : Bool) (p : ℕ) (left : Option ℕ)
    → all_in_all (or_place so_far b p) (p + 1) left
    ≡ all_in_all so_far p (if b then Some 0 else next_place left)
place_on (Some q) b p left = refl
place_on None true p left = ap Some (omega arith)
place_on None false p left = further p left

some_or : (o : Option ℕ) (b : Bool) (p : ℕ) → is_some (or_place o b p) ≡ is_some o || b
some_or (Some q) b p = refl
some_or None true p = refl
some_or None false p = refl

same_sym : (m n : Name) → same_text m n ≡ same_text n m
same_sym m n = by (same_text m n) (same_text n m) refl refl
  where
    by : (a b : Bool) → same_text m n ≡ a → same_text n m ≡ b → a ≡ b
    by true true e f = refl
    by false false e f = refl
    by true false e f =
        absurd (true≢false (sym (same_text-self n) ∙ ap (same_text n) (sym (same_text-is m n e)) ∙ f))
    by false true e f =
        absurd (true≢false (sym (same_text-self m) ∙ ap (same_text m) (sym (same_text-is n m f)) ∙ e))

cross : (a b x y : Bool) → (a || b) || (x || y) ≡ (a || x) || (b || y)
cross true b x y = refl
cross false true true y = refl
cross false true false y = refl
cross false false x y = refl

any_more : (g g' : Name → Option ℕ) (n : Name) (p : ℕ)
    → ((m : Name) → g' m ≡ or_place (g m) (same_text m n) p) → (ns : List Name)
    → list_any (λ m. is_some (g' m)) ns ≡ list_any (λ m. is_some (g m)) ns || has_name n ns
any_more g g' n p h [] = refl
any_more g g' n p h (m ∷ ms) =
    let here : is_some (g' m) ≡ is_some (g m) || same_text n m = ap is_some (h m) ∙ some_or (g m) (same_text m n) p
    ∙ ap (λ b. is_some (g m) || b) (same_sym m n) in
    (λ i. here i || any_more g g' n p h ms i)
    ∙ cross (is_some (g m)) (same_text n m) (list_any (λ k. is_some (g k)) ms) (has_name n ms)

ordered : (r s x y q : Bool) → (r || s) || ((x || y) || q) ≡ r || ((s || x) || (y || q))
ordered true s x y q = refl
ordered false true x y q = refl
ordered false false true y q = refl
ordered false false false y q = refl

-- the names so far, and those left from position i
pub record NamesSo (p : PeriodNames) (i : ℕ) (left all : List Name) : Type 0 where
  pub places : (n : Name) → all_in_all (get_by_text p.first n) i (number_in n left) ≡ number_in n all
  pub repeated : is_some p.repeated || repeats_with (get_by_text p.first) left ≡ repeats all

added_on : (old new : PeriodNames) (i : ℕ) (n : Name) (ns all : List Name) → IsAdded old new i n
    → NamesSo old i (n ∷ ns) all → NamesSo new (i + 1) ns all
added_on old new i n ns all a s =
    let g = get_by_text old.first in
    record {
      places = λ m. ap (λ o. all_in_all o (i + 1) (number_in m ns)) (a.places m)
          ∙ place_on (g m) (same_text m n) i (number_in m ns) ∙ s.places m;
      repeated =
          (λ j. a.repeated j || (any_more g (get_by_text new.first) n i a.places ns j || repeats ns))
          ∙ ordered (is_some old.repeated) (is_some (g n)) (list_any (λ k. is_some (g k)) ns) (has_name n ns)
          (repeats ns)
          ∙ s.repeated;
    }

-- the name of the next period is added
pub name_item : (old new : PeriodNames) (xs : List NewApplication) (i : ℕ) (x : NewApplication) (all : List Name)
    → i < length xs → x ≡ get_or xs i x → IsAdded old new i (word_of x.name)
    → NamesSo old i (names_of_periods (map application_part (drop i xs))) all
    → NamesSo new (i + 1) (names_of_periods (map application_part (drop (i + 1) xs))) all
name_item old new xs i x all within is a s =
    let next : drop i xs ≡ x ∷ drop (i + 1) xs = at_drop_more (λ (l' : List NewApplication). l') xs i x within
    ∙ ap (λ (y : NewApplication). y ∷ drop (i + 1) xs) (sym is) in
    added_on old new i (word_of x.name) (names_of_periods (map application_part (drop (i + 1) xs))) all a
    (subst (λ (l' : List NewApplication). NamesSo old i (names_of_periods (map application_part l')) all) next s)

none_any : (g : Name → Option ℕ) → ((n : Name) → g n ≡ None) → (ns : List Name)
    → list_any (λ n. is_some (g n)) ns ≡ false
none_any g h [] = refl
none_any g h (n ∷ ns) = λ i. is_some (h n i) || none_any g h ns i

from_zero : (o : Option ℕ) → option_map (λ i. 0 + i) o ≡ o
from_zero None = refl
from_zero (Some i) = ap Some (omega arith)

-- no name is added yet
pub name_start : (p : PeriodNames) (all : List Name) → AreNames p [] → NamesSo p 0 all all
name_start p all a = record {
  places = λ n. ap (λ o. all_in_all o 0 (number_in n all)) (a.places n) ∙ from_zero (number_in n all);
  repeated = λ i. a.repeated i || (none_any (get_by_text p.first) a.places all i || repeats all);
}

none_left : (o : Option ℕ) (p : ℕ) → o ≡ all_in_all o p None
none_left None p = refl
none_left (Some q) p = refl

or_false : (b : Bool) → b ≡ b || false
or_false true = refl
or_false false = refl

-- no name is left
pub name_done : (p : PeriodNames) (xs : List NewApplication) (i : ℕ) (all : List Name) → length xs ≤ i
    → NamesSo p i (names_of_periods (map application_part (drop i xs))) all → AreNames p all
name_done p xs i all past s =
    let end = subst (λ (l' : List NewApplication). NamesSo p i (names_of_periods (map application_part l')) all)
    (drop_all i xs past) s in
    record {
      places = λ n. none_left (get_by_text p.first n) i ∙ end.places n;
      repeated = or_false (is_some p.repeated) ∙ end.repeated;
    }

-- ---- one more name

-- a name that has a position keeps it
pub stays : (g : Name → Option ℕ) (n : Name) (f p : ℕ) → g n ≡ Some f → (m : Name)
    → g m ≡ or_place (g m) (same_text m n) p
stays g n f p there m = by (g m) refl (same_text m n) refl
  where
    by : (o : Option ℕ) → g m ≡ o → (b : Bool) → same_text m n ≡ b → o ≡ or_place o b p
    by (Some q) h b k = refl
    by None h false k = refl
    by None h true k = absurd (true≢false (sym (ap is_some (sym h ∙ ap g (same_text-is m n k) ∙ there))))

or_same : (o : Option ℕ) (p : ℕ) → o ≡ or_place o false p
or_same None p = refl
or_same (Some q) p = refl

-- a name that has none takes the one that is given
pub comes : (g g' : Name → Option ℕ) (n : Name) (p : ℕ) → g n ≡ None
    → ((m : Name) → g' m ≡ update bytes_eq g n (Some p) m) → (m : Name) → g' m ≡ or_place (g m) (same_text m n) p
comes g g' n p none given m =
    given m ∙ (λ i. cond (known i) (Some p) (g m)) ∙ by (same_text m n) refl
  where
    known : bytes_eq n m ≡ same_text m n
    known = sym (is_eq-slice_cmp n m) ∙ same_sym n m

    by : (b : Bool) → same_text m n ≡ b → cond b (Some p) (g m) ≡ or_place (g m) b p
    by true k = ap (λ o. or_place o true p) (sym (ap g (same_text-is m n k) ∙ none))
    by false k = or_same (g m) p

-- so it is repeated
pub some_there : (b : Bool) (o : Option ℕ) (f : ℕ) → o ≡ Some f → true ≡ b || is_some o
some_there b o f e = sym (ap (λ p. b || is_some p) e ∙ or_true b)
  where
    or_true : (a : Bool) → a || true ≡ true
    or_true true = refl
    or_true false = refl

-- and one that has none is not
pub none_there : (b : Bool) (o : Option ℕ) → o ≡ None → b ≡ b || is_some o
none_there b o e = or_false b ∙ ap (λ p. b || is_some p) (sym e)

-- ---- the period that a name means

-- the element at a position
abbrev pub at_place : {A : Type 0} → Option ℕ → List A → Option A
at_place None xs = None
at_place (Some i) xs = slice_get xs i

at_next : {A : Type 0} (o : Option ℕ) (x : A) (xs : List A) → at_place o xs ≡ at_place (next_place o) (x ∷ xs)
at_next None x xs = refl
at_next (Some i) x xs = refl

first_place : (b : Bool) (a : Application) (as' left : List Application) (o : Option ℕ) → first_of left ≡ at_place o as'
    → first_of (if b then a ∷ left else left) ≡ at_place (if b then Some 0 else next_place o) (a ∷ as')
first_place true a as' left o h = refl
first_place false a as' left o h = h ∙ at_next o a as'

-- the first period of a name is the one at the position of the name
pub called_at : (n : Name) (as' : List Application)
    → period_called (Some n) as' ≡ at_place (number_in n (names_of_bound as')) as'
called_at n [] = refl
called_at n (a ∷ as') =
    first_place (same_text n a.name) a as' (filter (λ (x : Application). same_text n x.name) as')
    (number_in n (names_of_bound as')) (called_at n as')

-- a name has a position exactly if it is one of the names
pub has_position : (p : PeriodNames) (ns : List Name) → AreNames p ns → (n : Name)
    → is_some (get_by_text p.first n) ≡ has_name n ns
has_position p ns a n = ap is_some (a.places n) ∙ known_is n ns

-- the names of bound periods are those of the periods as written
pub names_bound : (cs : List ColumnTree) (ps : List NewApplication)
    → names_of_bound (check_each (application_in cs) (map application_part ps)).value
    ≡ names_of_periods (map application_part ps)
names_bound cs [] = refl
names_bound cs (p ∷ ps) = ap (λ (ns : List Name). word_of p.name ∷ ns) (names_bound cs ps)
