-- The members of a row, starting at one of its columns.
use Rattle.std.proofs.Common.{◌≡◌, ℕ, ◌+◌, ◌<◌, List, [], ◌∷◌, ◌++◌, sym, ◌∙◌, ap, subst, map, refl, drop}
use Rattle.std.proofs.Common.{length, get_or, arith, inl, inr}
use Rattle.std.proofs.lemmas.Bool.{cases_lt}
use Rattle.std.proofs.lemmas.List.{drop_more, drop_all}
use Rattle.std.specs.Prelude.{min}
use Rattle.tql_spec.specs.Datum.{Datum}
use Rattle.tql_spec.specs.Definition.{Name}
use Rattle.tql_result_laws.specs.Json.{member, json_value}
use Rattle.tql_result_laws.specs.Jsonl.{row_members}
use Rattle.tql_result.specs.Devices.{Held}
use Rattle.tql_result.proofs.Pushing.{Sent}
use Rattle.tql_result_forms.proofs.Parting.{parted_after, parted_after_more}

-- the members from column i on are the member of that column and those of the next columns
pub members_next : {X Y : Type 0} (f : X → List ℕ) (g : Y → Datum) (names : List X) (cells : List Y) (i : ℕ) (n : X)
    (c : Y) → i < length names → i < length cells → n ≡ get_or names i n → c ≡ get_or cells i c
    → row_members (map f (drop i names)) (map g (drop i cells))
    ≡ member (f n) (json_value (g c)) ∷ row_members (map f (drop (i + 1) names)) (map g (drop (i + 1) cells))
members_next f g names cells i n c hn hc en ec =
    ap (λ l. row_members (map f l) (map g (drop i cells)))
    (drop_more names i n hn ∙ ap (λ y. y ∷ drop (i + 1) names) (sym en))
    ∙ ap (λ l. row_members (map f (n ∷ drop (i + 1) names)) (map g l))
    (drop_more cells i c hc ∙ ap (λ y. y ∷ drop (i + 1) cells) (sym ec))

no_values : (hs : List Name) → row_members hs [] ≡ []
no_values [] = refl
no_values (h ∷ hs) = refl

-- no member is left after the last heading or the last value
pub members_end : {X Y : Type 0} (f : X → List ℕ) (g : Y → Datum) (names : List X) (cells : List Y) (i : ℕ)
    → i ≡ min (length names) (length cells) → row_members (map f (drop i names)) (map g (drop i cells)) ≡ []
members_end f g names cells i e = elim (cases_lt i (length names)) [
  | inl some ↦
      ap (λ l. row_members (map f (drop i names)) (map g l)) (drop_all i cells (omega (arith, e)))
      ∙ no_values (map f (drop i names))
  | inr none ↦ ap (λ l. row_members (map f l) (map g (drop i cells))) (drop_all i names none)
]

-- equal remainders can be replaced
pub sent_as : {text rest others : List ℕ} {o n : Held} {b k : ℕ} → rest ≡ others → Sent text rest o n b k
    → Sent text others o n b k
sent_as {text} {o = o} {n = n} {b = b} {k = k} e s =
    let P : List ℕ → Type 0 = λ l. Sent text l o n b k in subst P e s

-- the members from a column on, with `front` before the first
pub members_turn : {X Y : Type 0} (f : X → List ℕ) (g : Y → Datum) (front : List ℕ) (names : List X) (cells : List Y)
    (i : ℕ) (n : X) (c : Y) (name : List ℕ) (d : Datum) → i < length names → i < length cells → n ≡ get_or names i n
    → c ≡ get_or cells i c → name ≡ f n → d ≡ g c
    → parted_after front (row_members (map f (drop i names)) (map g (drop i cells)))
    ≡ (front ++ member name (json_value d))
    ++ parted_after (44 ∷ 32 ∷ []) (row_members (map f (drop (i + 1) names)) (map g (drop (i + 1) cells)))
members_turn f g front names cells i n c name d hn hc en ec same also =
    let others = row_members (map f (drop (i + 1) names)) (map g (drop (i + 1) cells)) in
    let rest = parted_after (44 ∷ 32 ∷ []) others in
    ap (parted_after front) (members_next f g names cells i n c hn hc en ec)
    ∙ parted_after_more front (member (f n) (json_value (g c))) others
    ∙ ap (λ l. (front ++ member l (json_value (g c))) ++ rest) (sym same)
    ∙ ap (λ x. (front ++ member name (json_value x)) ++ rest) (sym also)
