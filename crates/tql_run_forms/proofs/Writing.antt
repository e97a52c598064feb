-- From the push of an answer to the contract of the form.
use Rattle.std.proofs.Common.{◌≡◌, refl, ◌∙◌, sym, ap, subst, ℕ, suc, Bool, true, false, List, [], ◌∷◌, ◌++◌, Option}
use Rattle.std.proofs.Common.{Ok, Err, inl, inr}
use Rattle.std.proofs.Common.{arith, ◌+◌, ◌-◌, length-append}
use Rattle.std.proofs.lemmas.List.Folds.{list_any-append}
use Rattle.std.specs.Prelude.{◌⊎◌, ◌||◌, min, length, Result, None, Some, option_map, ⊤}
use Rattle.std.specs.Borrow.{Bor}
use Rattle.std.specs.List.{list_any}
use Rattle.tql_spec.specs.Answer.{Answer, Replied, Accepted}
use Rattle.tql_spec.specs.Machine.{Done, Table, Refused}
use Rattle.tql_detail.specs.declared.detail.Detail.{Detail}
use Rattle.tql_detail.specs.declared.place.Place.{Place}
use Rattle.tql_result.specs.Devices.{Held, Pushes}
use Rattle.tql_result_laws.specs.Json.{Fault, unknown, json_text}
use Rattle.tql_run.specs.Runs.{is_refused}
use Rattle.tql_run.specs.Texts.{Texts, Writes}
use Rattle.tql_run_forms.specs.Faults.{json_of, line_at, line_of_detail, fault_of_detail}
use Rattle.tql_run_forms.specs.Forms.{is_table, csv_answer, csv_texts, IsJsonAnswer, json_texts, json_wrote}
use Rattle.tql_run_forms.specs.Forms.{IsBoxAnswer, accepted_answer, most_numbers}

-- ---- comma-separated values

one_any : (a : Answer) → list_any is_table (a ∷ []) ≡ is_table a
one_any a = by (is_table a) refl
  where
    by : (b : Bool) → is_table a ≡ b → (b || false) ≡ b
    by true e = refl
    by false e = refl

-- one more answer
any_on : (had now : Bool) (earlier : List Answer) (a : Answer) → had ≡ list_any is_table earlier
    → now ≡ (had || is_table a) → now ≡ list_any is_table (earlier ++ a ∷ [])
any_on had now earlier a e is =
    is ∙ ap (λ (b : Bool). b || is_table a) e ∙ ap (λ (b : Bool). list_any is_table earlier || b) (sym (one_any a))
    ∙ sym (list_any-append is_table earlier (a ∷ []))

pub csv_writes : {T E : Type 0} (had now : Bool) (number line : ℕ) (a : Answer) (result : Result T E)
    (o n : Held) (b k : ℕ) → now ≡ (had || is_table a) → Pushes (csv_answer had a) result o n b k
    → Writes csv_texts (λ answers. had ≡ list_any is_table answers) (λ answers. now ≡ list_any is_table answers) number
    line a result o n b k
csv_writes had now number line a (Ok t) o n b k is pushes = record {
  prints = λ earlier e. record {
    text = csv_answer had a;
    is_text = ap (λ (x : Bool). csv_answer x a) e;
    pushes = pushes;
    wrote = any_on had now earlier a e is;
  };
  kept = pushes.kept;
}
csv_writes had now number line a (Err t) o n b k is pushes = record {
  prints = λ earlier e. record {
    text = csv_answer had a;
    is_text = ap (λ (x : Bool). csv_answer x a) e;
    pushes = pushes;
    wrote = tt;
  };
  kept = pushes.kept;
}

-- ---- JSON

-- the number of the next answer
next_number : (n now : ℕ) (earlier : List Answer) → n ≡ min (length earlier) most_numbers
    → now ≡ min (n + 1) most_numbers → now ≡ min (suc (length earlier)) most_numbers
next_number n now earlier e is = omega (arith, e, is)

one_longer : (earlier : List Answer) (a : Answer) → length (earlier ++ a ∷ []) ≡ suc (length earlier)
one_longer earlier a = let sum = length-append earlier (a ∷ []) in omega (arith, sum)

-- a line with a detail is one of the lines that may be written
json_is : (number line : ℕ) (detail : Option (Bor Detail)) (a : Answer)
    → IsJsonAnswer number line a (json_of number line detail a)
json_is number line detail (Replied (Refused e)) = record {
  at = line_of_detail line detail;
  fault = fault_of_detail detail;
  is_at = placed detail;
  is = refl;
}
  where
    placed_at : (place : Option Place) → option_map (λ (p : Place). p.column) place ≡ None → line_at line place ≡ line
    placed_at None e = refl
    placed_at (Some p) e = cc

    placed : (detail : Option (Bor Detail)) → (fault_of_detail detail).column ≡ None → line_of_detail line detail ≡ line
    placed None e = refl
    placed (Some d) e = placed_at d.now.place e
json_is number line detail (Replied (Done v n)) = refl
json_is number line detail (Replied (Table headings rows)) = refl
json_is number line detail Accepted = refl

-- the line of a refusal, given its detail
pub refusal_line : (number line : ℕ) (detail : Option (Bor Detail)) (a : Answer) (at : ℕ) (fault : Fault)
    → is_refused a ≡ true → at ≡ line_of_detail line detail → fault ≡ fault_of_detail detail
    → json_text number at fault a ≡ json_of number line detail a
refusal_line number line detail (Replied (Refused e)) at fault is here known =
    ap (λ (l : ℕ). json_text number l fault (Replied (Refused e))) here
    ∙ ap (λ (f : Fault). json_text number (line_of_detail line detail) f (Replied (Refused e))) known
refusal_line number line detail (Replied (Done v n)) at fault is here known =
    let bad : false ≡ true = is in absurd cc
refusal_line number line detail (Replied (Table headings rows)) at fault is here known =
    let bad : false ≡ true = is in absurd cc
refusal_line number line detail Accepted at fault is here known = let bad : false ≡ true = is in absurd cc

-- any other line
pub other_line : (number line : ℕ) (detail : Option (Bor Detail)) (a : Answer) → is_refused a ≡ false
    → json_text number line unknown a ≡ json_of number line detail a
other_line number line detail (Replied (Refused e)) is = let bad : true ≡ false = is in absurd cc
other_line number line detail (Replied (Done v n)) is = refl
other_line number line detail (Replied (Table headings rows)) is = refl
other_line number line detail Accepted is = refl

pub json_writes : {T E : Type 0} (had now : ℕ) (number line : ℕ) (detail : Option (Bor Detail)) (a : Answer)
    (result : Result T E) (o n : Held) (b k : ℕ) → now ≡ min (had + 1) most_numbers
    → Pushes (json_of now line detail a) result o n b k
    → Writes json_texts (json_wrote had) (json_wrote now) number line a result o n b k
json_writes had now number line detail a (Ok t) o n b k is pushes = record {
  prints = λ earlier e. record {
    text = json_of now line detail a;
    is_text = subst (λ (x : ℕ). IsJsonAnswer x line a (json_of now line detail a)) (next_number had now earlier e is)
        (json_is now line detail a);
    pushes = pushes;
    wrote = next_number had now earlier e is
        ∙ ap (λ (x : ℕ). min x most_numbers) (sym (one_longer earlier a));
  };
  kept = pushes.kept;
}
json_writes had now number line detail a (Err t) o n b k is pushes = record {
  prints = λ earlier e. record {
    text = json_of now line detail a;
    is_text = subst (λ (x : ℕ). IsJsonAnswer x line a (json_of now line detail a)) (next_number had now earlier e is)
        (json_is now line detail a);
    pushes = pushes;
    wrote = tt;
  };
  kept = pushes.kept;
}

-- ---- forms whose texts do not depend on earlier answers

pub always_writes : {T E : Type 0} (texts : Texts) (number line : ℕ) (a : Answer) (text : List ℕ) (result : Result T E)
    (o n : Held) (b k : ℕ) → ((earlier : List Answer) → texts earlier number line a text)
    → Pushes text result o n b k → Writes texts (λ _. ⊤) (λ _. ⊤) number line a result o n b k
always_writes texts number line a text (Ok t) o n b k is pushes = record {
  prints = λ earlier e. record {
    text = text;
    is_text = is earlier;
    pushes = pushes;
    wrote = tt;
  };
  kept = pushes.kept;
}
always_writes texts number line a text (Err t) o n b k is pushes = record {
  prints = λ earlier e. record {
    text = text;
    is_text = is earlier;
    pushes = pushes;
    wrote = tt;
  };
  kept = pushes.kept;
}

-- ---- boxes

-- an answer that is not a table has the same text as in plain text without refusals
pub other_box : (a : Answer) → is_table a ≡ false → IsBoxAnswer a (accepted_answer a)
other_box (Replied (Table headings rows)) is = let bad : true ≡ false = is in absurd cc
other_box (Replied (Refused e)) is = refl
other_box (Replied (Done v n)) is = refl
other_box Accepted is = refl

-- a text with one of two layouts
pub either_text : {L : Type 0} (f : L → List ℕ) (a b l : L) → (l ≡ a) ⊎ (l ≡ b) → (f l ≡ f a) ⊎ (f l ≡ f b)
either_text f a b l (inl e) = inl (ap f e)
either_text f a b l (inr e) = inr (ap f e)
