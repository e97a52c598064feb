-- The text of a timestamp, in terms of its parts.
use Rattle.std.proofs.Common.{◌≡◌, ℕ, ◌/◌, ◌%◌, List, ◌∷◌, ◌++◌, ◌∙◌, ap, subst}
use Rattle.std.specs.Prelude.{ℤ}
use Rattle.tql_spec.specs.Calendar.{Parts, moment_day, moment_micros}
use Rattle.tql_spec.specs.Text.{padded, date_text, fraction_text, time_text}

-- a byte, then hours, minutes and seconds
abbrev pub clock_text : ℕ → ℕ → ℕ → ℕ → List ℕ
clock_text b h m s = b ∷ padded 2 h ++ 58 ∷ padded 2 m ++ 58 ∷ padded 2 s

-- equal parts have equal texts
clock_same : (b : ℕ) {h m s hours minutes seconds : ℕ} → h ≡ hours → m ≡ minutes → s ≡ seconds
    → clock_text b h m s ≡ clock_text b hours minutes seconds
clock_same b {h} {m} {s} {hours} {minutes} {seconds} e f d = ap (λ (k : ℕ). clock_text b k m s) e
    ∙ ap (λ (k : ℕ). clock_text b hours k s) f ∙ ap (λ (k : ℕ). clock_text b hours minutes k) d

-- the text of a timestamp is that of its parts
pub moment_text : (b : ℕ) {given moment : ℤ} {date : Parts} {h m s micros : ℕ} → given ≡ moment
    → date ≡ moment_day given → h ≡ moment_micros given / 1000000 / 3600
    → m ≡ moment_micros given / 1000000 / 60 % 60 → s ≡ moment_micros given / 1000000 % 60
    → micros ≡ moment_micros given % 1000000
    → date_text date ++ (clock_text b h m s ++ fraction_text micros)
    ≡ date_text (moment_day moment) ++ b ∷ time_text (moment_micros moment)
moment_text b {given} {moment} {date} {h} {m} {s} {micros} same d hour minute second fraction =
    let P : ℤ → Type 0 = λ z. date_text date ++ (clock_text b h m s ++ fraction_text micros)
    ≡ date_text (moment_day z) ++ b ∷ time_text (moment_micros z) in
    subst P same
    (ap (λ (q : Parts). date_text q ++ (clock_text b h m s ++ fraction_text micros)) d
    ∙ ap (λ (l : List ℕ). date_text (moment_day given) ++ (l ++ fraction_text micros))
    (clock_same b hour minute second)
    ∙ ap (λ (k : ℕ). date_text (moment_day given) ++
    (clock_text b (moment_micros given / 1000000 / 3600) (moment_micros given / 1000000 / 60 % 60)
    (moment_micros given / 1000000 % 60) ++ fraction_text k)) fraction)
