-- The faults of a reference, collected part by part.
use Rattle.std.specs.Prelude.{◌≡◌, refl, ℕ, Bool, not, ◌||◌, List, Option, Some, None, is_some, option_map}
use Rattle.std.proofs.Common.{subst, sym}
use Rattle.tql_spec.specs.Words.{listed}
use Rattle.tql_spec.specs.Refusal.{Refusal, TypesDoNotFit, FormNotAllowedHere}
use Rattle.tql_spec.specs.Definition.{TableDef, Application, Reference}
use Rattle.tql_spec.specs.Names.{Checked, ◌>>=◌, sound, refuse_if, check_each}
use Rattle.tql_spec.specs.Creation.{column_number, column_numbers, names_of, kinds_of, kinds_at, kinds_differ}
use Rattle.tql_spec.specs.Creation.{periods_differ, application_kind, application_name, period_called, is_declared_key}
use Rattle.tql_bind_expr.specs.Gathered.{after, Gathers}
use Rattle.tql_bind_expr.proofs.Gathering.{bound, sound_here, unless_asked}
use Rattle.tql_bind_draft.specs.Drafts.{Written, ReferencePart, kinds_in, listed_in}
use Rattle.tql_bind_table.specs.NewTables.{has_one_period, reference_to}

-- a period is present exactly if one is written
pub some_same : {A B : Type 0} (g : A → B) (o : Option A) → is_some o ≡ is_some (option_map g o)
some_same g None = refl
some_same g (Some x) = refl

module _ (w : Written) (as' : List Application) (f : ReferencePart) (parent : TableDef) where
  abbrev kinds : List ℕ → List ℕ → Bool
  kinds cs ps = kinds_differ (kinds_at (kinds_in w.columns) cs) (kinds_at (kinds_of parent) ps)

  abbrev points : Bool
  points = periods_differ (application_kind (kinds_in w.columns) (period_called f.child.period as'))
      (application_kind (kinds_of parent) parent.application) f.child.period f.named.period

  abbrev wrong : List ℕ → Bool
  wrong ps = has_one_period f || not (is_declared_key parent (is_some f.named.period) ps)

  abbrev period : Checked (List ℕ)
  period = check_each (column_number (application_name parent.application)) (listed f.named.period)

  abbrev made : List ℕ → List ℕ → Reference
  made cs ps = record { columns = cs; by_period = is_some f.child.period; parent = f.parent; parent_columns = ps }

  pub reference_gathered : (m0 m1 m2 m3 m4 m5 m6 : Option Refusal) (cs ps : List ℕ) (a b c : Bool) (r : Reference)
      → Gathers (listed_in w as' f.child) m0 m1 cs
      → Gathers (column_numbers (names_of parent) f.named.columns) m1 m2 ps
      → m3 ≡ after m2 period.faults
      → a ≡ kinds cs ps → Gathers (refuse_if a TypesDoNotFit) m3 m4 tt
      → b ≡ points → Gathers (refuse_if b TypesDoNotFit) m4 m5 tt
      → c ≡ wrong ps → Gathers (refuse_if c FormNotAllowedHere) m5 m6 tt
      → r ≡ made cs ps → Gathers (reference_to w as' f parent) m0 m6 r
  reference_gathered m0 m1 m2 m3 m4 m5 m6 cs ps a b c r child named sought is_a asked_a is_b asked_b is_c asked_c is =
      let d = made cs ps in
      let after3 : List ℕ → List ℕ → Checked Reference
      = λ xs ys. refuse_if (wrong ys) FormNotAllowedHere >>= λ z. sound (made xs ys) in
      let after2 : List ℕ → List ℕ → Checked Reference
      = λ xs ys. refuse_if points TypesDoNotFit >>= λ z. after3 xs ys in
      let after1 : List ℕ → List ℕ → Checked Reference
      = λ xs ys. refuse_if (kinds xs ys) TypesDoNotFit >>= λ z. after2 xs ys in
      let from_period : List ℕ → List ℕ → Checked Reference = λ xs ys. period >>= λ q. after1 xs ys in
      let from_named : List ℕ → Checked Reference
      = λ xs. column_numbers (names_of parent) f.named.columns >>= λ ys. from_period xs ys in
      let g6 : Gathers (after3 cs ps) m5 m6 d
      = bound (refuse_if (wrong ps) FormNotAllowedHere) (λ z. sound (made cs ps)) m5 m6 m6 tt d
      (unless_asked c (wrong ps) FormNotAllowedHere tt m5 m6 is_c asked_c) (sound_here d m6) in
      let g5 : Gathers (after2 cs ps) m4 m6 d
      = bound (refuse_if points TypesDoNotFit) (λ z. after3 cs ps) m4 m5 m6 tt d
      (unless_asked b points TypesDoNotFit tt m4 m5 is_b asked_b) g6 in
      let g4 : Gathers (after1 cs ps) m3 m6 d
      = bound (refuse_if (kinds cs ps) TypesDoNotFit) (λ z. after2 cs ps) m3 m4 m6 tt d
      (unless_asked a (kinds cs ps) TypesDoNotFit tt m3 m4 is_a asked_a) g5 in
      let there : Gathers period m2 m3 period.value = record { value = refl; least = sought } in
      let g3 : Gathers (from_period cs ps) m2 m6 d
      = bound period (λ q. after1 cs ps) m2 m3 m6 period.value d there g4 in
      let g2 : Gathers (from_named cs) m1 m6 d
      = bound (column_numbers (names_of parent) f.named.columns) (λ ys. from_period cs ys) m1 m2 m6 ps d named g3 in
      subst (λ (x : Reference). Gathers (reference_to w as' f parent) m0 m6 x) (sym is)
      (bound (listed_in w as' f.child) from_named m0 m1 m6 cs d child g2)
