-- The tokens found so far, and the tokens of the rest.
use Rattle.std.proofs.Common.{◌≡◌, ℕ, ◌+◌, ◌-◌, ◌<◌, ◌≤◌, ◌==◌, Bool, true, false, cond, List, [], ◌∷◌, ◌++◌, length}
use Rattle.std.proofs.Common.{take, drop, None, refl, sym, ap, ◌∙◌, subst, arith, append-nil, append_assoc}
use Rattle.std.proofs.Common.{length-append, length-drop, drop-drop}
use Rattle.std.specs.Prelude.{not, ◌||◌}
use Rattle.std.proofs.lemmas.List.{drop_at, take_at}
use Rattle.tql_spec.specs.Script.{is_blank, begins_comment, without_lead}
use Rattle.tql_spec.specs.Token.{Token, AreTokens}
use Rattle.tql_spec.specs.FirstToken.{Sort, token_with, first_token}
use Rattle.tql_spec.proofs.TokenLaws.{read, Reads, first_token_sound, first_token_complete, IsRead, token_stands}
use Rattle.tql_spec.proofs.TokenLaws.{end_skipped, same_first, none_some}
use Rattle.tql_lex.proofs.GapLemmas.{gap_before, all_skipped}

-- ---- what is left of a list

rest_left : (bytes used rest : List ℕ) (start : ℕ) → start ≤ length bytes → drop start bytes ≡ used ++ rest
    → drop (length bytes - length rest) bytes ≡ rest
rest_left bytes used rest start le e =
    let behind : length bytes - length rest ≡ start + length used =
    omega (arith, length-drop start bytes, ap length e, length-append used rest) in
    ap (λ (k : ℕ). drop k bytes) behind
    ∙ sym (drop-drop (length used) start bytes) ∙ ap (drop (length used)) e ∙ drop_at used rest (length used) refl

-- the tokens found are those before the rest
pub record SoFar (text : List ℕ) (found : List Token) (rest : List ℕ) : Type 0 where
  pub sound : (ts : List Token) → AreTokens ts rest → AreTokens (found ++ ts) text
  pub complete : (ts : List Token) → AreTokens ts text → (us : List Token) × AreTokens us rest

pub begin_tokens : (text : List ℕ) → SoFar text [] text
begin_tokens text = record { sound = λ ts a. a; complete = λ ts a. (ts, a) }

-- the rest begins with this token, and then continues
pub record Takes (rest bytes : List ℕ) (s : Sort) (n : ℕ) : Type 0 where
  pub at : without_lead false rest ≡ bytes
  pub token : first_token bytes ≡ read s n

before_more : (rest bytes : List ℕ) (s : Sort) (n : ℕ) → Takes rest bytes s n → (ts : List Token)
    → AreTokens ts (drop n bytes) → AreTokens (token_with s (take n bytes) ∷ ts) rest
before_more rest [] s n t ts a = absurd (none_some {X = Sort × ℕ} (s, n) t.token)
before_more rest (b ∷ bs) s n t ts a =
    let r = first_token_sound (b ∷ bs) s n t.token in
    let g = gap_before rest b bs t.at in
    let front : take n (b ∷ bs) ≡ r.text = ap (take n) r.parts ∙ take_at r.text r.rest n r.size in
    let back : drop n (b ∷ bs) ≡ r.rest = ap (drop n) r.parts ∙ drop_at r.text r.rest n r.size in
    rw front (
      g.0,
      r.text,
      r.rest,
      g.1 ∙ ap (λ (z : List ℕ). g.0 ++ z) r.parts ∙ sym (append_assoc g.0 r.text r.rest),
      g.2,
      r.spelled,
      r.longest,
      subst (AreTokens ts) back a,
    )

read_here : (bytes : List ℕ) (s : Sort) (n : ℕ) → (r : Reads bytes s n) → first_token bytes ≡ read s n
    → IsRead (token_with s r.text) r.text r.rest
read_here bytes s n r e = record {
  sort = s;
  read_again = ap first_token (sym r.parts) ∙ e ∙ ap (read s) (sym r.size);
  is = refl;
}

after_first : (rest bytes : List ℕ) (s : Sort) (n : ℕ) → Takes rest bytes s n → (us : List Token) → AreTokens us rest
    → (ts : List Token) × AreTokens ts (drop n bytes)
after_first rest bytes s n t [] a =
    let none : bytes ≡ [] = sym t.at ∙ end_skipped rest a in
    absurd (none_some {X = Sort × ℕ} (s, n) (sym (ap first_token none) ∙ t.token))
after_first rest bytes s n t (u ∷ us) a =
    let r = first_token_sound bytes s n t.token in
    let whole : r.text ++ r.rest ≡ a.1 ++ a.2 = sym r.parts ∙ sym t.at
    ∙ token_stands u rest a.0 a.1 a.2 a.3 a.4 a.5 a.6 in
    let same = same_first (token_with s r.text) u r.text r.rest a.1 a.2 (read_here bytes s n r t.token)
    (first_token_complete u a.1 a.2 a.5 a.6) whole in
    let back : drop n bytes ≡ r.rest = ap (drop n) r.parts ∙ drop_at r.text r.rest n r.size in
    (us, subst (AreTokens us) (same.left_same ∙ sym back) a.7)

pub one_more_token : (text rest bytes : List ℕ) (found : List Token) (s : Sort) (n : ℕ) → SoFar text found rest
    → Takes rest bytes s n → SoFar text (found ++ token_with s (take n bytes) ∷ []) (drop n bytes)
one_more_token text rest bytes found s n p t = record {
  sound = λ ts a. rw (append_assoc found (token_with s (take n bytes) ∷ []) ts)
      (p.sound (token_with s (take n bytes) ∷ ts) (before_more rest bytes s n t ts a));
  complete = λ ts a. let k = p.complete ts a in after_first rest bytes s n t k.0 k.1;
}

pub end_tokens : (text rest : List ℕ) (found : List Token) → SoFar text found rest → without_lead false rest ≡ []
    → AreTokens found text
end_tokens text rest found p e =
    subst (λ (ts : List Token). AreTokens ts text) (append-nil found) (p.sound [] (all_skipped rest e))

no_first : (rest : List ℕ) (us : List Token) → 0 < length (without_lead false rest)
    → first_token (without_lead false rest) ≡ None → AreTokens us rest → ⊥
no_first rest [] some none a = absurd (let n = ap length (end_skipped rest a) in omega arith)
no_first rest (u ∷ us) some none a =
    let r = first_token_complete u a.1 a.2 a.5 a.6 in
    none_some {X = Sort × ℕ} (r.sort, length a.1) (sym none
    ∙ ap first_token (token_stands u rest a.0 a.1 a.2 a.3 a.4 a.5 a.6) ∙ r.read_again)

pub no_tokens : (text rest : List ℕ) (found : List Token) → SoFar text found rest
    → 0 < length (without_lead false rest) → first_token (without_lead false rest) ≡ None → (ts : List Token)
    → AreTokens ts text → ⊥
no_tokens text rest found p some none ts a = let k = p.complete ts a in no_first rest k.0 some none k.1

-- ---- offsets

-- the bytes after the lead are the last ones
lead_cut : (in_comment : Bool) (bytes : List ℕ) → (used : List ℕ) × (bytes ≡ used ++ without_lead in_comment bytes)
lead_cut in_comment [] = ([], refl)
lead_cut true (b ∷ bs) = let k = lead_cut (not (b == 10)) bs in (b ∷ k.0, ap (λ (z : List ℕ). b ∷ z) k.1)
lead_cut false (b ∷ bs) = by (is_blank b || begins_comment b bs) (lead_cut (begins_comment b bs) bs) where
  by : (t : Bool) → ((used : List ℕ) × (bs ≡ used ++ without_lead (begins_comment b bs) bs))
      → (used : List ℕ) × (b ∷ bs ≡ used ++ cond t (without_lead (begins_comment b bs) bs) (b ∷ bs))
  by true k = (b ∷ k.0, ap (λ (z : List ℕ). b ∷ z) k.1)
  by false k = ([], refl)

-- the offset of the first byte that is neither a blank nor in a comment
pub record IsPlace (text : List ℕ) (from start : ℕ) (bytes rest : List ℕ) : Type 0 where
  pub shorter : length rest ≤ length bytes
  pub later : from ≤ start
  pub left : start + length rest ≡ length text
  pub is : without_lead false (drop from text) ≡ drop start text

lead_place : (bytes rest : List ℕ) (from : ℕ) → from ≤ length bytes → rest ≡ without_lead false (drop from bytes)
    → IsPlace bytes from (length bytes - length rest) bytes rest
lead_place bytes rest from le e =
    let k = lead_cut false (drop from bytes) in
    let n : length (drop from bytes) ≡ length k.0 + length rest =
    omega (arith, ap length k.1, length-append k.0 (without_lead false (drop from bytes)), ap length e) in
    let d = length-drop from bytes in
    record {
      shorter = omega arith;
      later = omega arith;
      left = omega arith;
      is = sym e ∙ sym (rest_left bytes k.0 rest from le (k.1 ∙ ap (λ (z : List ℕ). k.0 ++ z) (sym e)));
    }

pub next_place : (text bytes left rest : List ℕ) (from : ℕ) → bytes ≡ text → left ≡ drop from bytes
    → rest ≡ without_lead false left → from ≤ length text → IsPlace text from (length bytes - length rest) bytes rest
next_place text bytes left rest from same back lead le =
    let e : rest ≡ without_lead false (drop from text) = lead ∙ ap (without_lead false) (back ∙ ap (drop from) same) in
    rw same (lead_place text rest from le e)
