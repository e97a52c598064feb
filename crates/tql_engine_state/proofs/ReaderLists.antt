-- Lists of readers, in the code and in the model of an engine.
use Rattle.std.proofs.Common.{◌≡◌, refl, ap, ◌∙◌, Bool, true, false, cond, List, [], ◌∷◌, map, filter}
use Rattle.std.proofs.Common.{Option, Some, None}
use Rattle.std.specs.Prelude.{ℤ, ◌||◌, not, if◌then◌else◌, string_bytes}
use Rattle.std.specs.List.{list_any, find}
use Rattle.tql_spec.specs.Definition.{Name}
use Rattle.tql_spec.specs.Words.{same_text}
use Rattle.tql_bound.specs.declared.reader.Reader.{Reader}
use Rattle.tql_engine_state.specs.Readers.{KeptReader, is_passed, pin_of, reader_of}

-- whether a horizon passes one of them
pub passed_kept : (m : ℤ) (rs : List Reader)
    → list_any (λ (r : Reader). is_passed m r.pin) rs
    ≡ list_any (λ (k : KeptReader). is_passed m k.pin) (map reader_of rs)
passed_kept m [] = refl
passed_kept m (r ∷ rs) = ap (λ b. is_passed m r.pin || b) (passed_kept m rs)

-- the readers without those of a name
pub others_kept : (n : Name) (rs : List Reader)
    → map reader_of (filter (λ (r : Reader). not (same_text n (string_bytes r.name))) rs)
    ≡ filter (λ (k : KeptReader). not (same_text n k.name)) (map reader_of rs)
others_kept n [] = refl
others_kept n (r ∷ rs) = either (not (same_text n (string_bytes r.name))) _ _ (others_kept n rs)
  where
    either : (b : Bool) (xs : List Reader) (ys : List KeptReader) → map reader_of xs ≡ ys
        → map reader_of (cond b (r ∷ xs) xs) ≡ cond b (reader_of r ∷ ys) ys
    either true xs ys e = ap {B = List KeptReader} (λ zs. reader_of r ∷ zs) e
    either false xs ys e = e

-- the pin of the reader that is found first
abbrev pub pin_in : Option Reader → Option ℤ
pin_in None = None
pin_in (Some r) = r.pin

pub found_pin : (n : Name) (rs : List Reader)
    → pin_in (find (λ (r : Reader). same_text n (string_bytes r.name)) rs) ≡ pin_of n (map reader_of rs)
found_pin n [] = refl
found_pin n (r ∷ rs) = either (same_text n (string_bytes r.name)) (found_pin n rs)
  where
    either : (b : Bool)
        → pin_in (find (λ (x : Reader). same_text n (string_bytes x.name)) rs) ≡ pin_of n (map reader_of rs)
        → pin_in (if b then Some r else find (λ (x : Reader). same_text n (string_bytes x.name)) rs)
        ≡ (if b then r.pin else pin_of n (map reader_of rs))
    either true e = refl
    either false e = e
