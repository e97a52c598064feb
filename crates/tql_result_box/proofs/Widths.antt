-- The widths of dates and timestamps.
use Rattle.std.proofs.Common.{◌≡◌, ℕ, ◌/◌, ◌%◌, ◌<◌, List, [], ◌∷◌, ◌++◌, sym, ◌∙◌, ap, arith, length, subst}
use Rattle.std.specs.Prelude.{ℤ}
use Rattle.tql_spec.specs.Calendar.{day_parts, moment_day, moment_micros}
use Rattle.tql_spec.specs.Datum.{Day, Moment}
use Rattle.tql_spec.specs.Text.{cell_text, fraction_text, time_text}
use Rattle.tql_value.specs.Points.{IsDay, IsMoment, IsPrintable}
use Rattle.tql_value.specs.Views.{datum_of_view}
use Rattle.tql_value.specs.declared.value.View.{View}
use Rattle.tql_value.specs.declared.value.View.TheVariants as view
use Rattle.tql_result.proofs.Digits.{padded_six}
use Rattle.tql_result_laws.proofs.Dates.{date_bytes, date_is, clock_bytes, time_is, six_bytes, day_short, moment_short}
use Rattle.tql_result_laws.proofs.Dates.{micros_short}
use Rattle.tql_result_box.specs.Box.{value_width}
use Rattle.tql_result_box.proofs.Characters.{other}

-- a date takes ten characters
pub length_of_day : (d : ℤ) → IsDay d → 10 ≡ length (cell_text (Day d))
length_of_day d h = sym (ap length (date_is (day_parts d) (day_short d h)))

fraction_some : (f : ℕ) → (f ≡ 0 → ⊥) → f < 1000000 → fraction_text f ≡ 46 ∷ six_bytes f
fraction_some f some h = rw (other f 0 some) (ap (λ l. 46 ∷ l) (padded_six f h))

moment_bytes : (m : ℤ) (rest : List ℕ) → IsMoment m → fraction_text (moment_micros m % 1_000_000) ≡ rest
    → cell_text (Moment m) ≡ date_bytes (moment_day m) ++ 32 ∷ clock_bytes (moment_micros m / 1_000_000) rest
moment_bytes m rest h e =
    ap (λ l. l ++ 32 ∷ time_text (moment_micros m)) (date_is (moment_day m) (moment_short m h))
    ∙ ap (λ l. date_bytes (moment_day m) ++ 32 ∷ l) (time_is (moment_micros m) (micros_short m))
    ∙ ap (λ l. date_bytes (moment_day m) ++ 32 ∷ clock_bytes (moment_micros m / 1_000_000) l) e

-- a timestamp at a whole second takes nineteen characters
pub length_of_second : {given moment : ℤ} {micros : ℕ} → given ≡ moment → IsMoment moment
    → micros ≡ moment_micros given % 1_000_000 → micros ≡ 0 → 19 ≡ length (cell_text (Moment moment))
length_of_second {given} {moment} {micros} same h part none =
    let fraction : moment_micros moment % 1_000_000 ≡ 0 =
    sym (ap (λ (m : ℤ). moment_micros m % 1_000_000) same) ∙ sym part ∙ none in
    sym (ap length (moment_bytes moment [] h (ap fraction_text fraction)))

-- any other timestamp takes twenty-six characters
pub length_of_micros : {given moment : ℤ} {micros : ℕ} → given ≡ moment → IsMoment moment
    → micros ≡ moment_micros given % 1_000_000 → (micros ≡ 0 → ⊥) → 26 ≡ length (cell_text (Moment moment))
length_of_micros {given} {moment} {micros} same h part some =
    let f = moment_micros moment % 1_000_000 in
    let fraction : micros ≡ f = part ∙ ap (λ (m : ℤ). moment_micros m % 1_000_000) same in
    let some_left : f ≡ 0 → ⊥ = λ e. some (fraction ∙ e) in
    let small : f < 1000000 = omega arith in
    sym (ap length (moment_bytes moment (46 ∷ six_bytes f) h (fraction_some f some_left small)))

-- the width of a view of a date
pub width_of_day : (v : View) (d : ℤ) → v ≡ view.Day d → IsPrintable (datum_of_view v)
    → 10 ≡ value_width (datum_of_view v)
width_of_day v d e h =
    let P : View → Type 0 = λ w. IsPrintable (datum_of_view w) → 10 ≡ value_width (datum_of_view w) in
    subst P (sym e) (length_of_day d) h
