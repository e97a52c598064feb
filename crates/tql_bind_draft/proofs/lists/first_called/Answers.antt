use Rattle.std.proofs.Common.{◌≡◌, ◌∙◌, ◌≤◌, ℕ, zero, suc, List, [], ◌∷◌, length, map, Some, None, Bor}
use Rattle.std.proofs.Common.{refl, sym, ap, arith}
use Rattle.std.specs.Prelude.{Option, option_map, slice_get}
use Rattle.std.specs.Slice.{IsItemAt}
use Rattle.std.proofs.lemmas.Option.{slice_get-map, slice_get_read}
use borrow.Author.Tests.{ltb-true, ltb-false}
use Rattle.tql_spec.specs.Definition as spec
use Rattle.tql_catalog.specs.Definitions.{application_of}
use Rattle.tql_catalog.specs.declared.definition.Application.{Application}
use Rattle.tql_bind_draft.proofs.PeriodLaws.{at_place, called_at}
use Rattle.tql_bind_draft.proofs.lists.first_called.Goals as goal

past : (xs : List Application) (i : ℕ) → length xs ≤ i → slice_get xs i ≡ None
past [] i h = refl
past (x ∷ xs) zero h = absurd (omega (arith, h))
past (x ∷ xs) (suc i) h = past xs i (omega (arith, h))

-- the period at a position
gotten : (xs : List Application) (i : ℕ) (r : Option (Bor Application)) → IsItemAt xs i r
    → option_map (λ a. application_of a.now) r ≡ slice_get (map application_of xs) i
gotten xs i (Some x) k =
    let there : slice_get xs i ≡ Some x.now = slice_get_read xs (length xs) i x.now refl
    (ltb-true i (length xs) (sym k.0)) k.1 in
    sym (slice_get-map application_of xs i ∙ ap (option_map application_of) there)
gotten xs i None k =
    let there : slice_get xs i ≡ None = past xs i (ltb-false i (length xs) (sym k.0)) in
    sym (slice_get-map application_of xs i ∙ ap (option_map application_of) there)

pub returns-in-Some : goal.returns-in-Some
returns-in-Some c =
    let n = c.args.name.now in
    let as' : List spec.Application = map application_of c.args.applications.now in
    gotten c.args.applications.now c.in-Some.place c.get.result c.get.ensures.lookup
    ∙ ap (λ o. at_place o as') (sym c.in-Some.is ∙ c.place_of.ensures ∙ c.requires.places n) ∙ sym (called_at n as')

pub returns-in-None : goal.returns-in-None
returns-in-None c =
    let n = c.args.name.now in
    let as' : List spec.Application = map application_of c.args.applications.now in
    ap (λ o. at_place o as') (sym c.in-None.is ∙ c.place_of.ensures ∙ c.requires.places n) ∙ sym (called_at n as')
