-- The bytes of characters: how many characters they are, and their order.
use Rattle.std.proofs.Common.{◌≡◌, ℕ, ◌+◌, ◌/◌, ◌%◌, ◌<◌, ◌≤◌, ◌⊎◌, inl, inr, List, [], ◌∷◌, ◌++◌, length, refl, sym}
use Rattle.std.proofs.Common.{ap, ◌∙◌, arith}
use Rattle.std.proofs.lemmas.Bool.{cases_lt, cases_order}
use Rattle.std.proofs.lemmas.Bool.Decides.{nat_tests}
use Rattle.std.proofs.lemmas.Cmp.{nat_list_cmp_total}
use Rattle.std.proofs.lemmas.Str.{encodes-chars}
use Rattle.std.specs.Cmp.Lexicographic.{slice_cmp}
use Rattle.std.specs.Ordering.{nat_cmp, ordering_reverse}
use Rattle.std.specs.declared.cmp.Ordering.TheVariants.{Less, Equal}
use Rattle.std.specs.Str.{chars, IsUtf8}
use Rattle.tql_spec.specs.Datum.{characters}
use lib.Utf8.{encode, encodes, next}

-- ---- the bytes of one character, by their number

encode-one : (c : ℕ) → c < 128 → encode c ≡ c ∷ []
unfolding encode
encode-one c h = grind (arith, nat_tests)

encode-two : (c : ℕ) → 128 ≤ c → c < 2048 → encode c ≡ (192 + c / 64) ∷ next c ∷ []
unfolding encode
encode-two c l h = grind (arith, nat_tests)

encode-three : (c : ℕ) → 2048 ≤ c → c < 65536 → encode c ≡ (224 + c / 4096) ∷ next (c / 64) ∷ next c ∷ []
unfolding encode
encode-three c l h = grind (arith, nat_tests)

encode-four : (c : ℕ) → 65536 ≤ c → encode c ≡ (240 + c / 262144) ∷ next (c / 4096) ∷ next (c / 64) ∷ next c ∷ []
unfolding encode
encode-four c l = grind (arith, nat_tests)

-- ---- counting

counted : (b : ℕ) (bs : List ℕ) → ((b < 128) ⊎ (192 ≤ b)) → characters (b ∷ bs) ≡ 1 + characters bs
counted b bs h = grind (arith, nat_tests)

passed : (b : ℕ) (bs : List ℕ) → characters (next b ∷ bs) ≡ characters bs
passed b bs = grind (arith, nat_tests)

characters-encode : (c : ℕ) (bs : List ℕ) → characters (encode c ++ bs) ≡ 1 + characters bs
characters-encode c bs =
    elim (cases_lt c 128) [
      | inl one ↦ rw (encode-one c one) (counted c bs (inl one))
      | inr more ↦ elim (cases_lt c 2048) [
        | inl two ↦ rw (encode-two c more two) (counted (192 + c / 64) (next c ∷ bs) (inr (omega arith))
            ∙ ap (λ n. 1 + n) (passed c bs))
        | inr more₂ ↦ elim (cases_lt c 65536) [
          | inl three ↦ rw (encode-three c more₂ three)
              (counted (224 + c / 4096) (next (c / 64) ∷ next c ∷ bs) (inr (omega arith))
              ∙ ap (λ n. 1 + n) (passed (c / 64) (next c ∷ bs) ∙ passed c bs))
          | inr four ↦ rw (encode-four c four)
              (counted (240 + c / 262144) (next (c / 4096) ∷ next (c / 64) ∷ next c ∷ bs) (inr (omega arith))
              ∙ ap (λ n. 1 + n) (passed (c / 4096) (next (c / 64) ∷ next c ∷ bs) ∙ passed (c / 64) (next c ∷ bs)
              ∙ passed c bs))
        ]
      ]
    ]

characters-encodes : (cs : List ℕ) → characters (encodes cs) ≡ length cs
characters-encodes [] = refl
characters-encodes (c ∷ cs) = let rest = characters-encodes cs in let one =
    characters-encode c (encodes cs) in omega arith

-- there are as many bytes that do not continue a character as characters
pub characters-chars : (bs : List ℕ) → IsUtf8 bs → characters bs ≡ length (chars bs)
characters-chars bs u = ap characters (sym (encodes-chars bs u)) ∙ characters-encodes (chars bs)

-- ---- order

less_here : (a b : ℕ) (r t : List ℕ) → a < b → slice_cmp nat_cmp (a ∷ r) (b ∷ t) ≡ Less
less_here a b r t h = let less : nat_cmp a b ≡ Less = grind (arith, nat_tests) in rw less refl

same_here : (a b : ℕ) (r t : List ℕ) → a ≡ b → slice_cmp nat_cmp (a ∷ r) (b ∷ t) ≡ slice_cmp nat_cmp r t
same_here a b r t h = let equal : nat_cmp a b ≡ Equal = grind (arith, nat_tests) in rw equal refl

same_front : (xs r t : List ℕ) → slice_cmp nat_cmp (xs ++ r) (xs ++ t) ≡ slice_cmp nat_cmp r t
same_front [] r t = refl
same_front (x ∷ xs) r t = same_here x x (xs ++ r) (xs ++ t) refl ∙ same_front xs r t

-- two bytes, of which the first decide unless they are equal
then_less : (a b c d : ℕ) (r t : List ℕ) → ((a < b) ⊎ ((a ≡ b) × (c < d)))
    → slice_cmp nat_cmp (a ∷ c ∷ r) (b ∷ d ∷ t) ≡ Less
then_less a b c d r t (inl h) = less_here a b (c ∷ r) (d ∷ t) h
then_less a b c d r t (inr h) = same_here a b (c ∷ r) (d ∷ t) h.0 ∙ less_here c d r t h.1

parted : (c d : ℕ) → c < d → (c / 64 < d / 64) ⊎ ((c / 64 ≡ d / 64) × (c % 64 < d % 64))
parted c d h = elim (cases_lt (c / 64) (d / 64)) [ inl lt ↦ inl lt | inr ge ↦ inr (omega arith, omega arith) ]

two_less : (c d : ℕ) (r t : List ℕ) → c < d
    → slice_cmp nat_cmp ((192 + c / 64) ∷ next c ∷ r) ((192 + d / 64) ∷ next d ∷ t) ≡ Less
two_less c d r t h = elim (parted c d h) [
  | inl high ↦ less_here (192 + c / 64) (192 + d / 64) (next c ∷ r) (next d ∷ t) (omega arith)
  | inr low ↦ then_less (192 + c / 64) (192 + d / 64) (next c) (next d) r t (inr (omega arith, omega arith))
]

-- the last two bytes, after equal ones or smaller ones
tail_less : (c d : ℕ) (r t : List ℕ) → c < d → c / 4096 ≡ d / 4096
    → slice_cmp nat_cmp (next (c / 64) ∷ next c ∷ r) (next (d / 64) ∷ next d ∷ t) ≡ Less
tail_less c d r t h same = elim (parted c d h) [
  | inl high ↦ less_here (next (c / 64)) (next (d / 64)) (next c ∷ r) (next d ∷ t) (omega arith)
  | inr low ↦ then_less (next (c / 64)) (next (d / 64)) (next c) (next d) r t (inr (omega arith, omega arith))
]

three_less : (c d : ℕ) (r t : List ℕ) → c < d
    → slice_cmp nat_cmp ((224 + c / 4096) ∷ next (c / 64) ∷ next c ∷ r)
    ((224 + d / 4096) ∷ next (d / 64) ∷ next d ∷ t) ≡ Less
three_less c d r t h = elim (cases_lt (c / 4096) (d / 4096)) [
  | inl high ↦ less_here (224 + c / 4096) (224 + d / 4096) (next (c / 64) ∷ next c ∷ r) (next (d / 64) ∷ next d ∷ t)
      (omega arith)
  | inr low ↦ (let same : c / 4096 ≡ d / 4096 = omega arith in
      same_here (224 + c / 4096) (224 + d / 4096) (next (c / 64) ∷ next c ∷ r) (next (d / 64) ∷ next d ∷ t)
      (omega arith) ∙ tail_less c d r t h same)
]

-- the last three bytes, after equal ones
long_tail_less : (c d : ℕ) (r t : List ℕ) → c < d → c / 262144 ≡ d / 262144
    → slice_cmp nat_cmp (next (c / 4096) ∷ next (c / 64) ∷ next c ∷ r) (next (d / 4096) ∷ next (d / 64) ∷ next d ∷ t)
    ≡ Less
long_tail_less c d r t h same = elim (cases_lt (c / 4096) (d / 4096)) [
  | inl high ↦ less_here (next (c / 4096)) (next (d / 4096)) (next (c / 64) ∷ next c ∷ r)
      (next (d / 64) ∷ next d ∷ t) (omega arith)
  | inr low ↦ (let equal : c / 4096 ≡ d / 4096 = omega arith in
      same_here (next (c / 4096)) (next (d / 4096)) (next (c / 64) ∷ next c ∷ r) (next (d / 64) ∷ next d ∷ t)
      (ap (λ n. next n) equal) ∙ tail_less c d r t h equal)
]

four_less : (c d : ℕ) (r t : List ℕ) → c < d
    → slice_cmp nat_cmp ((240 + c / 262144) ∷ next (c / 4096) ∷ next (c / 64) ∷ next c ∷ r)
    ((240 + d / 262144) ∷ next (d / 4096) ∷ next (d / 64) ∷ next d ∷ t) ≡ Less
four_less c d r t h = elim (cases_lt (c / 262144) (d / 262144)) [
  | inl high ↦ less_here (240 + c / 262144) (240 + d / 262144) (next (c / 4096) ∷ next (c / 64) ∷ next c ∷ r)
      (next (d / 4096) ∷ next (d / 64) ∷ next d ∷ t) (omega arith)
  | inr low ↦ (let same : c / 262144 ≡ d / 262144 = omega arith in
      same_here (240 + c / 262144) (240 + d / 262144) (next (c / 4096) ∷ next (c / 64) ∷ next c ∷ r)
      (next (d / 4096) ∷ next (d / 64) ∷ next d ∷ t) (omega arith) ∙ long_tail_less c d r t h same)
]

-- a character with fewer bytes has a smaller first byte
pub record StartsBelow (b : ℕ) (xs : List ℕ) : Type 0 where
  pub front : ℕ
  pub rest : List ℕ
  pub is : xs ≡ front ∷ rest
  pub below : front < b

starts_less : (b : ℕ) (xs r t : List ℕ) → StartsBelow b xs → (d : ℕ) → b ≤ d
    → slice_cmp nat_cmp (xs ++ r) (d ∷ t) ≡ Less
starts_less b xs r t s d h = rw s.is (less_here s.front d (s.rest ++ r) t (let lt = s.below in omega arith))

one_starts : (c : ℕ) → c < 128 → StartsBelow 192 (encode c)
one_starts c h = record { front = c; rest = []; is = encode-one c h; below = omega arith }

two_starts : (c : ℕ) → c < 2048 → StartsBelow 224 (encode c)
two_starts c h = elim (cases_lt c 128) [
  | inl one ↦ record { front = c; rest = []; is = encode-one c one; below = omega arith }
  | inr more ↦ record { front = 192 + c / 64; rest = next c ∷ []; is = encode-two c more h; below = omega arith }
]

three_starts : (c : ℕ) → c < 65536 → StartsBelow 240 (encode c)
three_starts c h = elim (cases_lt c 2048) [
  | inl two ↦ (let s = two_starts c two in record {
    front = s.front;
    rest = s.rest;
    is = s.is;
    below = (let lt = s.below in omega arith);
  })
  | inr more ↦ record {
    front = 224 + c / 4096;
    rest = next (c / 64) ∷ next c ∷ [];
    is = encode-three c more h;
    below = omega arith;
  }
]

-- the smaller character has the smaller bytes, whatever follows
encode_less : (c d : ℕ) (r t : List ℕ) → c < d → slice_cmp nat_cmp (encode c ++ r) (encode d ++ t) ≡ Less
encode_less c d r t h =
    elim (cases_lt d 128) [
      | inl one ↦ rw (encode-one d one, encode-one c (omega arith)) (less_here c d r t h)
      | inr more ↦ elim (cases_lt d 2048) [
        | inl two ↦ elim (cases_lt c 128) [
          | inl fewer ↦ rw (encode-two d more two)
              (starts_less 192 (encode c) r (next d ∷ t) (one_starts c fewer) (192 + d / 64) (omega arith))
          | inr like ↦ rw (encode-two d more two, encode-two c like (omega arith)) (two_less c d r t h)
        ]
        | inr more₂ ↦ elim (cases_lt d 65536) [
          | inl three ↦ elim (cases_lt c 2048) [
            | inl fewer ↦ rw (encode-three d more₂ three)
                (starts_less 224 (encode c) r (next (d / 64) ∷ next d ∷ t) (two_starts c fewer) (224 + d / 4096)
                (omega arith))
            | inr like ↦ rw (encode-three d more₂ three, encode-three c like (omega arith)) (three_less c d r t h)
          ]
          | inr four ↦ elim (cases_lt c 65536) [
            | inl fewer ↦ rw (encode-four d four)
                (starts_less 240 (encode c) r (next (d / 4096) ∷ next (d / 64) ∷ next d ∷ t) (three_starts c fewer)
                (240 + d / 262144) (omega arith))
            | inr like ↦ rw (encode-four d four, encode-four c like) (four_less c d r t h)
          ]
        ]
      ]
    ]

some_bytes : (c : ℕ) → StartsBelow (c + 241) (encode c)
some_bytes c = elim (cases_lt c 65536) [
  | inl three ↦ (let s = three_starts c three in record {
    front = s.front;
    rest = s.rest;
    is = s.is;
    below = (let lt = s.below in omega arith);
  })
  | inr four ↦ record {
    front = 240 + c / 262144;
    rest = next (c / 4096) ∷ next (c / 64) ∷ next c ∷ [];
    is = encode-four c four;
    below = omega arith;
  }
]

-- texts are in the order of their characters
pub encodes-order : (cs ds : List ℕ) → slice_cmp nat_cmp (encodes cs) (encodes ds) ≡ slice_cmp nat_cmp cs ds
encodes-order [] [] = refl
encodes-order [] (d ∷ ds) = let s = some_bytes d in rw s.is refl
encodes-order (c ∷ cs) [] = let s = some_bytes c in rw s.is refl
encodes-order (c ∷ cs) (d ∷ ds) =
    elim (cases_order c d) [
      | inl same ↦ rw same (same_front (encode d) (encodes cs) (encodes ds) ∙ encodes-order cs ds
          ∙ sym (same_here d d cs ds refl))
      | inr (inl less) ↦ encode_less c d (encodes cs) (encodes ds) less ∙ sym (less_here c d cs ds less)
      | inr (inr greater) ↦ nat_list_cmp_total.antisymm (encodes (c ∷ cs)) (encodes (d ∷ ds))
          ∙ ap ordering_reverse (encode_less d c (encodes ds) (encodes cs) greater
          ∙ sym (less_here d c ds cs greater)) ∙ sym (nat_list_cmp_total.antisymm (c ∷ cs) (d ∷ ds))
    ]

pub chars-order : (a b : List ℕ) → IsUtf8 a → IsUtf8 b → slice_cmp nat_cmp a b ≡ slice_cmp nat_cmp (chars a) (chars b)
chars-order a b u v =
    ap (λ x. slice_cmp nat_cmp x b) (sym (encodes-chars a u))
    ∙ ap (λ y. slice_cmp nat_cmp (encodes (chars a)) y) (sym (encodes-chars b v))
    ∙ encodes-order (chars a) (chars b)
