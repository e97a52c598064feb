-- Sorted lists of the columns of keys: a search among them finds what the table declares.
use Rattle.std.proofs.Common.{◌≡◌, ◌∙◌, refl, sym, ap, subst, ℕ, ◌<◌, Bool, true, false, List, [], ◌∷◌, ◌++◌, map}
use Rattle.std.proofs.Common.{length, drop, get_or, ◌+◌, append_assoc, arith, ⊎_elim}
use Rattle.std.specs.Prelude.{◌==◌, ◌&&◌, ◌||◌, if◌then◌else◌, Option, Some, Result, Ok, Err, is_ok}
use Rattle.std.specs.Cmp.Lexicographic.{slice_cmp}
use Rattle.std.specs.List.{flat_map, list_any, HoldsAt}
use Rattle.std.specs.List.Sorted.{IsBinarySearchResult, IsNonDecreasingBy, IsPartitionPoint, IsPermutation}
use Rattle.std.specs.List.Sorted.{IsSearchInRange}
use Rattle.std.specs.Ordering.{is_eq, nat_cmp, ordering_index}
use Rattle.std.specs.Str.{bytes_eq}
use Rattle.std.specs.declared.cmp.Ordering.{Ordering}
use Rattle.std.specs.declared.cmp.Ordering.TheVariants.{Less, Equal, Greater}
use Rattle.std.proofs.lemmas.Bool.{cases_lt}
use Rattle.std.proofs.lemmas.Cmp.{nat_list_cmp_total}
use Rattle.std.proofs.lemmas.List.{drop_more}
use Rattle.std.proofs.lemmas.List.Folds.{list_any_at, list_any_none}
use Rattle.std.proofs.lemmas.List.Sorted.{list_any-IsPermutation, searchable_from_sorted}
use Rattle.std.proofs.lemmas.Map.Text.{is_eq-slice_cmp}
use Rattle.tql_spec.specs.Refusal.{Refusal}
use Rattle.tql_spec.specs.Creation.{is_declared_key, same_numbers}
use Rattle.tql_spec.specs.Definition.{Application, Key, Reference, TableDef, table_at}
use Rattle.tql_spec.specs.Names.{sound}
use Rattle.tql_bind_expr.specs.Gathered.{Gathers}
use Rattle.tql_bind_expr.proofs.Gathering.{bound, sound_here}
use Rattle.tql_bind_draft.specs.Drafts.{ReferencePart, Written}
use Rattle.tql_bind_table.specs.KeyLists.{columns_in, is_of_sort, listed_key, AreRising}
use Rattle.tql_bind_table.specs.NewTables.{reference_at, reference_to}
use Rattle.tql_bind_table.specs.declared.parent_keys.KeyList.{KeyList}

-- ---- the order of lists that are equal

numbers_are : (xs ys : List ℕ) → bytes_eq xs ys ≡ same_numbers xs ys
numbers_are [] [] = refl
numbers_are [] (y ∷ ys) = refl
numbers_are (x ∷ xs) [] = refl
numbers_are (x ∷ xs) (y ∷ ys) = ap (λ b. (x == y) && b) (numbers_are xs ys)

ordered_same : (xs ys : List ℕ) → is_eq (slice_cmp nat_cmp xs ys) ≡ same_numbers xs ys
ordered_same xs ys = is_eq-slice_cmp xs ys ∙ numbers_are xs ys

-- ---- the lists of a table

abbrev pub is_list : List ℕ → KeyList → Bool
is_list is l = same_numbers l.columns.now is

and_true : (a : Bool) → a && true ≡ a
and_true true = refl
and_true false = refl

and_false : (a : Bool) → a && false ≡ false
and_false true = refl
and_false false = refl

any_listed : (by_period : Bool) (is : List ℕ) (ks : List Key)
    → list_any (λ cs. same_numbers cs is) (flat_map (listed_key by_period) ks)
    ≡ list_any (λ (k : Key). same_numbers k.columns is && is_of_sort by_period k) ks
any_listed by_period is [] = refl
any_listed by_period is (k ∷ ks) = first (is_of_sort by_period k) (any_listed by_period is ks)
  where
    same : Bool
    same = same_numbers k.columns is

    left : List (List ℕ)
    left = flat_map (listed_key by_period) ks

    others : Bool
    others = list_any (λ (x : Key). same_numbers x.columns is && is_of_sort by_period x) ks

    first : (b : Bool) → list_any (λ cs. same_numbers cs is) left ≡ others
        → list_any (λ cs. same_numbers cs is) ((if b then k.columns ∷ [] else []) ++ left) ≡ ((same && b) || others)
    first true h = ap (λ r. same || r) h ∙ ap (λ b. b || others) (sym (and_true same))
    first false h = h ∙ ap (λ b. b || others) (sym (and_false same))

any_columns : (is : List ℕ) (ls : List KeyList)
    → list_any (is_list is) ls ≡ list_any (λ cs. same_numbers cs is) (map columns_in ls)
any_columns is [] = refl
any_columns is (l ∷ ls) = ap (λ b. same_numbers l.columns.now is || b) (any_columns is ls)

-- in any order they are the columns of the keys that the table declares
pub declared_so : (d : TableDef) (by_period : Bool) (old new : List KeyList)
    → map columns_in old ≡ flat_map (listed_key by_period) d.keys → IsPermutation old new → (is : List ℕ)
    → list_any (is_list is) new ≡ is_declared_key d by_period is
declared_so d by_period old new are moved is =
    sym (list_any-IsPermutation (is_list is) old new moved)
    ∙ any_columns is old
    ∙ ap (list_any (λ cs. same_numbers cs is)) are
    ∙ any_listed by_period is d.keys

-- the element at an index is added, behind what those before it give
pub flat_more : {X Y A : Type 0} (f : X → List A) (g : Y → X) (ys : List Y) (i : ℕ) (y : Y) (old new all : List A)
    → i < length ys → y ≡ get_or ys i y → new ≡ old ++ f (g y) → old ++ flat_map f (map g (drop i ys)) ≡ all
    → new ++ flat_map f (map g (drop (i + 1) ys)) ≡ all
flat_more {X} {Y} {A} f g ys i y old new all l e added so_far =
    let rest = flat_map f (map g (drop (i + 1) ys)) in
    ap (λ (xs : List A). xs ++ rest) added
    ∙ append_assoc old (f (g y)) rest
    ∙ ap (λ (zs : List Y). old ++ flat_map f (map g zs))
    (sym (drop_more ys i y l ∙ ap (λ (z : Y). z ∷ drop (i + 1) ys) (sym e)))
    ∙ so_far

-- ---- the search

abbrev pub by_columns : List ℕ → KeyList → Ordering
by_columns is l = slice_cmp nat_cmp l.columns.now is

an_element : {A : Type 0} (xs : List A) (n : ℕ) → n < length xs → A
an_element [] n l = absurd (omega (arith, l))
an_element (x ∷ xs) n l = x

module _ (is : List ℕ) (ls : List KeyList) where
  rising : AreRising ls → IsNonDecreasingBy (λ l. ordering_index (by_columns is l)) ls
  rising up = searchable_from_sorted nat_list_cmp_total (λ (l : KeyList). l.columns.now) ls is up

  decided : (l : KeyList) (o : Ordering) → by_columns is l ≡ o → is_list is l ≡ is_eq o
  decided l o e = sym (ordered_same l.columns.now is) ∙ ap is_eq e

  there : (i : ℕ) → i < length ls → HoldsAt (λ l. by_columns is l ≡ Equal) ls i → list_any (is_list is) ls ≡ true
  there i within at =
      let d = an_element ls i within in
      list_any_at (is_list is) ls i d within (decided (get_or ls i d) Equal (at d))

  absent : (i : ℕ) → IsPartitionPoint (λ l. by_columns is l ≡ Less) (λ l. by_columns is l ≡ Greater) ls i
      → list_any (is_list is) ls ≡ false
  absent i parted = list_any_none (is_list is) ls (λ k d within. ⊎_elim
      (λ below. decided (get_or ls k d) Less (parted.0 k d (omega arith) below))
      (λ above. decided (get_or ls k d) Greater (parted.1 k d above within)) (cases_lt k i))

  pub searched : (r : Result ℕ ℕ) → IsSearchInRange r (length ls) → IsBinarySearchResult (by_columns is) ls r
      → AreRising ls → is_ok r ≡ list_any (is_list is) ls
  searched (Ok i) within at up = sym (there i within at)
  searched (Err i) within parted up = sym (absent i (parted (rising up)))

-- ---- a reference to a parent that is there

pub bound_where : (defs : List TableDef) (w : Written) (as' : List Application) (f : ReferencePart) (o : Option ℕ)
    (place : ℕ) (d : TableDef) (m n : Option Refusal) (r : Reference) → o ≡ Some place → table_at defs place ≡ d
    → Gathers (reference_to w as' f d) m n r → Gathers (reference_at defs w as' f o) m n (r ∷ [])
bound_where defs w as' f o place d m n r found is g =
    subst (λ (p : Option ℕ). Gathers (reference_at defs w as' f p) m n (r ∷ [])) (sym found)
    (bound (reference_to w as' f (table_at defs place)) (λ (x : Reference). sound (x ∷ [])) m n n r (r ∷ [])
    (subst (λ (t : TableDef). Gathers (reference_to w as' f t) m n r) (sym is) g) (sound_here (r ∷ []) n))
