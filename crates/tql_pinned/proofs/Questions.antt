-- The store query for a query at a pin.
use Rattle.std.proofs.Common.{◌≡◌, false, refl, sym, ap, ◌∙◌, arith, inl, inr}
use Rattle.std.specs.Prelude.{◌⊎◌, ℤ, ◌≤ℤ◌, ◌<ℤ◌, if◌then◌else◌}
use Rattle.std.proofs.lemmas.Int.{ints}
use Rattle.tql_spec.proofs.Members.{lt_tells, le_tells}
use Rattle.tql_spec.specs.Calendar.{high}
use Rattle.tql_spec.specs.Definition.{Stamped, Version}
use Rattle.tql_versions.specs.Changes.{nothing}
use Rattle.tql_versions.specs.Readings.{is_answer}
use Rattle.tql_pinned.specs.Asked.{capped, AsksAt}
use Rattle.tql_value.specs.declared.when.When.{When}
use Rattle.tql_value.specs.declared.when.When.TheVariants.{FromTo, Between}

-- an empty version is never selected
pub nothing_found : (when : When) → is_answer when nothing ≡ false
nothing_found when = refl

-- a version with an end
abbrev ending : Stamped → ℤ → Version
ending r e = record { row = r; end = e }

-- the three cases of a version at a pin: it ended later, it had ended, or it had not begun
record Asks (p : ℤ) (when other : When) : Type 0 where
  pub open_then : (r : Stamped) (e : ℤ) → e ≤ℤ high → r.start ≤ℤ p → p <ℤ e
      → is_answer when (ending r high) ≡ is_answer other (ending r e)
  pub closed_then : (r : Stamped) (e : ℤ) → e ≤ℤ high → r.start ≤ℤ p → e ≤ℤ p
      → is_answer when (ending r e) ≡ is_answer other (ending r e)
  pub unborn_then : (r : Stamped) (e : ℤ) → e ≤ℤ high → p <ℤ r.start → is_answer other (ending r e) ≡ false

asks : (p : ℤ) (when other : When) → Asks p when other → AsksAt p when other
asks p when other a = record {
  tells = λ v top. elim (le_tells v.row.start p) [
    | inl s ↦ elim (lt_tells p v.end) [
      | inl t ↦ ap (λ b. is_answer when (if b then capped p v else nothing)) s.0
          ∙ ap (λ b. is_answer when (ending v.row (if b then high else v.end))) t.0
          ∙ a.open_then v.row v.end top s.1 t.1
      | inr t ↦ ap (λ b. is_answer when (if b then capped p v else nothing)) s.0
          ∙ ap (λ b. is_answer when (ending v.row (if b then high else v.end))) t.0
          ∙ a.closed_then v.row v.end top s.1 t.1
    ]
    | inr s ↦ ap (λ b. is_answer when (if b then capped p v else nothing)) s.0
        ∙ nothing_found when ∙ sym (a.unborn_then v.row v.end top s.1)
  ];
}

-- a query that selects no version
none-asked : (p : ℤ) (when : When)
    → ((r : Stamped) (e : ℤ) → e ≤ℤ high → is_answer when (ending r e) ≡ false) → AsksAt p when when
none-asked p when none = asks p when when (record {
  open_then = λ r e top began l. none r high (omega (arith, ints)) ∙ sym (none r e top);
  closed_then = λ r e top began l. refl;
  unborn_then = λ r e top l. none r e top;
})

-- ---- ranges

-- a range that begins after a pin selects nothing if it is empty or does not begin before the highest moment
pub range-none : (p a b : ℤ) → p <ℤ a → (b ≤ℤ a) ⊎ (high ≤ℤ a) → AsksAt p (FromTo a b) (FromTo a b)
range-none p a b later empty = none-asked p (FromTo a b) (λ r e top. either empty r e top)
  where
    either : (b ≤ℤ a) ⊎ (high ≤ℤ a) → (r : Stamped) (e : ℤ) → e ≤ℤ high
        → is_answer (FromTo a b) (ending r e) ≡ false
    either (inl l) r e top = grind (arith, ints)
    either (inr l) r e top = grind (arith, ints)

pub span-none : (p a b : ℤ) → p <ℤ a → (b <ℤ a) ⊎ (high ≤ℤ a) → AsksAt p (Between a b) (Between a b)
span-none p a b later empty = none-asked p (Between a b) (λ r e top. either empty r e top)
  where
    either : (b <ℤ a) ⊎ (high ≤ℤ a) → (r : Stamped) (e : ℤ) → e ≤ℤ high
        → is_answer (Between a b) (ending r e) ≡ false
    either (inl l) r e top = grind (arith, ints)
    either (inr l) r e top = grind (arith, ints)

-- a range that begins by a pin and ends after it is cut at the pin
pub range-cut : (p a b : ℤ) → a ≤ℤ p → p <ℤ b → AsksAt p (FromTo a b) (Between a p)
range-cut p a b from to = asks p (FromTo a b) (Between a p) (record {
  open_then = λ r e top began l. grind (arith, ints);
  closed_then = λ r e top began l. grind (arith, ints);
  unborn_then = λ r e top l. grind (arith, ints);
})

pub span-cut : (p a b : ℤ) → a ≤ℤ p → p <ℤ b → AsksAt p (Between a b) (Between a p)
span-cut p a b from to = asks p (Between a b) (Between a p) (record {
  open_then = λ r e top began l. grind (arith, ints);
  closed_then = λ r e top began l. grind (arith, ints);
  unborn_then = λ r e top l. grind (arith, ints);
})

-- a range that ends by the pin does not change
pub range-stays : (p a b : ℤ) → a ≤ℤ p → b ≤ℤ p → AsksAt p (FromTo a b) (FromTo a b)
range-stays p a b from to = asks p (FromTo a b) (FromTo a b) (record {
  open_then = λ r e top began l. grind (arith, ints);
  closed_then = λ r e top began l. refl;
  unborn_then = λ r e top l. grind (arith, ints);
})

pub span-stays : (p a b : ℤ) → a ≤ℤ p → b ≤ℤ p → AsksAt p (Between a b) (Between a b)
span-stays p a b from to = asks p (Between a b) (Between a b) (record {
  open_then = λ r e top began l. grind (arith, ints);
  closed_then = λ r e top began l. refl;
  unborn_then = λ r e top l. grind (arith, ints);
})
