-- Literals that read as moments are in the calendar.
use Rattle.std.specs.Prelude.{◌≡◌, refl, ℕ, zero, suc, ◌+◌, ◌-◌, ◌*◌, ◌<◌, ◌≤◌, Bool, true, false, cond, ◌&&◌, ◌==◌}
use Rattle.std.specs.Prelude.{nat_le, nat_lt, List, [], ◌∷◌, length, drop, ℤ, ◌≤ℤ◌}
use Rattle.std.specs.Prelude.{Option, Some, None}
use Rattle.std.specs.List.{list_all}
use Rattle.std.proofs.Common.{arith, ap, sym, subst, ◌∙◌}
use Rattle.std.proofs.lemmas.Bool.Decides.{nat_tests}
use Rattle.std.proofs.lemmas.Int.{ints}
use Rattle.tql_spec.specs.Words.{◌>>=◌}
use Rattle.tql_spec.specs.Calendar.{is_leap, days_in_month, days_before_year, days_before_month, is_date}
use Rattle.tql_spec.specs.Calendar.{days_after_start}
use Rattle.tql_spec.specs.Calendar.{day_length, first_moment, high, moment_number, is_digit}
use Rattle.tql_spec.specs.Calendar.{digits_at, has_byte_at, where_true, days_at_start, micros_of}
use Rattle.tql_spec.specs.Calendar.{read_fraction, micros_of_time, read_timestamp, day_count}
use Rattle.tql_spec.proofs.Members.{by_bool}

-- ---- options and tests

then_is : {A B : Type 0} (o : Option A) (f : A → Option B) (y : B) → o >>= f ≡ Some y
    → (x : A) × (o ≡ Some x) × (f x ≡ Some y)
then_is None f y e = absurd (cc)
then_is (Some x) f y e = (x, refl, e)

where_is : {A : Type 0} (b : Bool) (o : Option A) (y : A) → where_true b o ≡ Some y → (b ≡ true) × (o ≡ Some y)
where_is true o y e = (refl, e)
where_is false o y e = absurd (cc)

both : (a b : Bool) → a && b ≡ true → (a ≡ true) × (b ≡ true)
both true b e = (refl, e)
both false b e = absurd (cc)

the_same : {A : Type 0} (x y : A) → Some x ≡ Some y → x ≡ y
the_same x y e = cc

at_most : (a b : ℕ) → nat_le a b ≡ true → a ≤ b
at_most a b e = grind (arith, nat_tests)

less : (a b : ℕ) → nat_lt a b ≡ true → a < b
less a b e = grind (arith, nat_tests)

-- ---- days

-- the number of days in the first months grows with the number of months
upto : (y top m : ℕ) → m ≤ top → days_before_month y m ≤ days_before_month y top
upto y zero zero h = omega arith
upto y zero (suc m) h = absurd (omega arith)
upto y (suc t) m h = by_bool (nat_le m t)
    (λ e. let k = upto y t m (at_most m t e) in omega (arith, k))
    (λ e. let same : m ≡ suc t = grind (arith, nat_tests) in
    subst (λ n. n ≤ days_before_month y (suc t)) (ap (days_before_month y) (sym same)) (omega arith))

-- the number of days of a year
year_length : (y : ℕ) (b : Bool) → is_leap y ≡ b → days_before_month y 12 ≡ 365 + cond b 1 0
year_length y true e = rw e refl
year_length y false e = rw e refl

-- a date is a day of its year
in_year : (y m d : ℕ) (b : Bool) → is_leap y ≡ b → 1 ≤ m → m ≤ 12 → d ≤ days_in_month y m
    → days_before_month y (m - 1) + d ≤ 365 + cond b 1 0
in_year y zero d b e low up h = absurd (omega arith)
in_year y (suc k) d b e low up h =
    let back : suc k - 1 ≡ k = omega arith in
    let k1 = upto y 12 (suc k) up in
    let k2 = year_length y b e in
    rw back (omega (arith, k1, k2))

-- a day of a year up to 9999 is in the calendar; 9999 is not a leap year
days_below : (y n : ℕ) (b : Bool) → is_leap y ≡ b → 1 ≤ y → y ≤ 9999 → n ≤ 365 + cond b 1 0
    → days_before_year y + n ≤ day_count
days_below y n true e low up h = by_bool (nat_le y 9998)
    (λ k. let early = at_most y 9998 k in omega (arith, early))
    (λ k. let last : y ≡ 9999 = grind (arith, nat_tests) in
    absurd (let never : false ≡ true = ap is_leap (sym last) ∙ e in cc))
days_below y n false e low up h = by_bool (nat_le y 9998)
    (λ k. let early = at_most y 9998 k in omega (arith, early))
    (λ k. let last : y ≡ 9999 = grind (arith, nat_tests) in
    subst (λ z. days_before_year z + n ≤ day_count) (sym last) (omega arith))

date_below : (y m d : ℕ) → is_date y m d ≡ true → days_after_start y m d < day_count
date_below y m d e =
    let a = both _ (nat_le d (days_in_month y m)) e in
    let b = both _ (nat_le 1 d) a.0 in
    let c = both _ (nat_le m 12) b.0 in
    let f = both _ (nat_le 1 m) c.0 in
    let g = both (nat_le 1 y) (nat_le y 9999) f.0 in
    let first = at_most 1 d b.1 in
    let n = in_year y m d (is_leap y) refl (at_most 1 m f.1) (at_most m 12 c.1)
    (at_most d (days_in_month y m) a.1) in
    let all = days_below y (days_before_month y (m - 1) + d) (is_leap y) refl (at_most 1 y g.0)
    (at_most y 9999 g.1) n in
    omega (arith, first, all)

-- a date read at the start of a text is in the calendar
days_read : (bs : List ℕ) (n : ℕ) → days_at_start bs ≡ Some n → n < day_count
days_read bs n e =
    let y = then_is (digits_at bs 0 4) _ n e in
    let m = then_is (digits_at bs 5 2) _ n y.2 in
    let d = then_is (digits_at bs 8 2) _ n m.2 in
    let w = where_is _ (Some (days_after_start y.0 m.0 d.0)) n d.2 in
    let t = both (has_byte_at bs 4 45 && has_byte_at bs 7 45) (is_date y.0 m.0 d.0) w.0 in
    subst (λ k. k < day_count) (the_same (days_after_start y.0 m.0 d.0) n w.1) (date_below y.0 m.0 d.0 t.1)

-- ---- times

-- a digit is at most 9
digit : (b : ℕ) → is_digit b ≡ true → b - 48 ≤ 9
digit b e = let t = both (nat_le 48 b) (nat_le b 57) e in
    let low = at_most 48 b t.0 in let up = at_most b 57 t.1 in omega (arith, low, up)

-- six digits spell a number below a million
six_below : (a b c d e f : ℕ) → a ≤ 9 → b ≤ 9 → c ≤ 9 → d ≤ 9 → e ≤ 9 → f ≤ 9
    → 10 * (10 * (10 * (10 * (10 * (10 * 0 + a) + b) + c) + d) + e) + f < 1_000_000
six_below a b c d e f ha hb hc hd he hf = omega arith

-- the microseconds of a fraction are below a million
six_of : (ds : List ℕ) → list_all is_digit ds ≡ true → micros_of ds < 1_000_000
six_of [] h = omega arith
six_of (a ∷ []) h =
    let x = digit a (both (is_digit a) true h).0 in omega (arith, x)
six_of (a ∷ b ∷ []) h =
    let p = both (is_digit a) _ h in let q = both (is_digit b) _ p.1 in
    let x = digit a p.0 in let y = digit b q.0 in omega (arith, x, y)
six_of (a ∷ b ∷ c ∷ []) h =
    let p = both (is_digit a) _ h in let q = both (is_digit b) _ p.1 in let r = both (is_digit c) _ q.1 in
    let x = digit a p.0 in let y = digit b q.0 in let z = digit c r.0 in omega (arith, x, y, z)
six_of (a ∷ b ∷ c ∷ d ∷ []) h =
    let p = both (is_digit a) _ h in let q = both (is_digit b) _ p.1 in let r = both (is_digit c) _ q.1 in
    let s = both (is_digit d) _ r.1 in
    let x = digit a p.0 in let y = digit b q.0 in let z = digit c r.0 in let u = digit d s.0 in
    omega (arith, x, y, z, u)
six_of (a ∷ b ∷ c ∷ d ∷ e ∷ []) h =
    let p = both (is_digit a) _ h in let q = both (is_digit b) _ p.1 in let r = both (is_digit c) _ q.1 in
    let s = both (is_digit d) _ r.1 in let t = both (is_digit e) _ s.1 in
    let x = digit a p.0 in let y = digit b q.0 in let z = digit c r.0 in let u = digit d s.0 in
    let v = digit e t.0 in omega (arith, x, y, z, u, v)
six_of (a ∷ b ∷ c ∷ d ∷ e ∷ f ∷ more) h =
    let p = both (is_digit a) _ h in let q = both (is_digit b) _ p.1 in let r = both (is_digit c) _ q.1 in
    let s = both (is_digit d) _ r.1 in let t = both (is_digit e) _ s.1 in let w = both (is_digit f) _ t.1 in
    six_below (a - 48) (b - 48) (c - 48) (d - 48) (e - 48) (f - 48) (digit a p.0) (digit b q.0) (digit c r.0)
    (digit d s.0) (digit e t.0) (digit f w.0)

fraction_read : (bs : List ℕ) (f : ℕ) → read_fraction bs ≡ Some f → f < 1_000_000
fraction_read [] f e = let same = the_same 0 f e in omega (arith, same)
fraction_read (b ∷ ds) f e =
    let w = where_is _ (Some (micros_of ds)) f e in
    let t = both _ (nat_le (length ds) 12) w.0 in
    let u = both _ (nat_le 1 (length ds)) t.0 in
    let v = both (b == 46) (list_all is_digit ds) u.0 in
    subst (λ k. k < 1_000_000) (the_same (micros_of ds) f w.1) (six_of ds v.1)

time_read : (h m s f n : ℕ) → f < 1_000_000 → micros_of_time h m s f ≡ Some n → n < day_length
time_read h m s f n small e =
    let w = where_is _ (Some (((h * 60 + m) * 60 + s) * 1_000_000 + f)) n e in
    let t = both _ (nat_lt s 60) w.0 in
    let u = both (nat_lt h 24) (nat_lt m 60) t.0 in
    let hours = less h 24 u.0 in
    let minutes = less m 60 u.1 in
    let seconds = less s 60 t.1 in
    let same = the_same (((h * 60 + m) * 60 + s) * 1_000_000 + f) n w.1 in
    omega (arith, hours, minutes, seconds, same)

-- ---- moments

number_within : (days micros : ℕ) → days < day_count → micros < day_length
    → (first_moment ≤ℤ moment_number days micros) × (moment_number days micros ≤ℤ high)
number_within days micros d m = (omega (arith, ints), omega (arith, ints))

-- a literal that reads as a moment reads as one of the calendar
pub moment_read : (bs : List ℕ) (m : ℤ) → read_timestamp bs ≡ Some m → (first_moment ≤ℤ m) × (m ≤ℤ high)
moment_read bs m e =
    let days = then_is (days_at_start bs) _ m e in
    let h = then_is (digits_at bs 11 2) _ m days.2 in
    let mi = then_is (digits_at bs 14 2) _ m h.2 in
    let s = then_is (digits_at bs 17 2) _ m mi.2 in
    let f = then_is (read_fraction (drop 19 bs)) _ m s.2 in
    let n = then_is (micros_of_time h.0 mi.0 s.0 f.0) _ m f.2 in
    let w = where_is _ (Some (moment_number days.0 n.0)) m n.2 in
    subst (λ (k : ℤ). (first_moment ≤ℤ k) × (k ≤ℤ high)) (the_same (moment_number days.0 n.0) m w.1)
    (number_within days.0 n.0 (days_read bs days.0 days.1)
    (time_read h.0 mi.0 s.0 f.0 n.0 (fraction_read (drop 19 bs) f.0 f.1) n.1))
