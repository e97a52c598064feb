-- The contents of a device, and how its failures are counted.
use Rattle.std.specs.Prelude.{◌≡◌, ℕ, ◌-◌, ◌^◌, ◌<◌, ◌≤◌, ◌⊎◌, Bool, true, ◌&&◌, ◌==◌, not, List, ◌++◌, length}
use Rattle.std.specs.Prelude.{[], ◌∷◌, Option, Some, None, Result, Ok, Err, OnOk, OnErr, MatchBool}

-- if the old contents are known, the new contents are the old ones followed by these bytes
pub record Appends (old : Option (List ℕ)) (bytes : List ℕ) (new : Option (List ℕ)) : Type 0 where
  pub holds : (xs : List ℕ) → old ≡ Some xs → new ≡ Some (xs ++ bytes)

-- the same for a proper prefix of these bytes
pub record AppendsBeginning (old : Option (List ℕ)) (bytes : List ℕ) (new : Option (List ℕ)) : Type 0 where
  pub front : List ℕ
  pub back : List ℕ
  pub parts : bytes ≡ front ++ back
  pub lacks : 0 < length back
  pub appends : Appends old front new

-- a failure was counted: the count rose, or it was already at the u64 maximum
pub record HasFailed (before now : ℕ) : Type 0 where
  pub no_fewer : before ≤ now
  pub counted : (before < now) ⊎ (before ≡ 2 ^ 64 - 1)

-- the count of failures after a call that failed or succeeded
abbrev pub Counts : Bool → ℕ → ℕ → Type 0
Counts failed before now = MatchBool failed (HasFailed before now) (now ≡ before)

-- whether a push of `len` bytes failed: by an error, or by taking none of a non-empty slice
abbrev pub is_failed_push : {E : Type 0} → Result ℕ E → ℕ → Bool
is_failed_push (Ok n) len = (n == 0) && not (len == 0)
is_failed_push (Err e) len = true

-- the texts that a sink was given to keep, with these after them, if they are known
abbrev pub with_texts : List (List ℕ) → Option (List (List ℕ)) → Option (List (List ℕ))
with_texts texts None = None
with_texts texts (Some earlier) = Some (earlier ++ texts)

-- the same with one text
abbrev pub with_text : List ℕ → Option (List (List ℕ)) → Option (List (List ℕ))
with_text text earlier = with_texts (text ∷ []) earlier

-- what a sink holds: its bytes, and the texts that it was given to keep
pub record Held : Type 0 where
  pub bytes : Option (List ℕ)
  pub kept : Option (List (List ℕ))

-- the same for a sink whose type has these ghosts
abbrev pub held : {S : Type 0} → (written : S → Option (List ℕ)) → (kept : S → Option (List (List ℕ))) → S → Held
held written kept sink = record { bytes = written sink; kept = kept sink }

-- a text was pushed: the whole text without a failure, or a proper prefix of it followed by a failure. A push keeps no
-- text.
pub record Pushes {T E : Type 0} (text : List ℕ) (result : Result T E) (old new : Held) (before now : ℕ) : Type 0 where
  pub whole : OnOk result (Appends old.bytes text new.bytes)
  pub no_failure : OnOk result (now ≡ before)
  pub cut : OnErr result (AppendsBeginning old.bytes text new.bytes)
  pub failure : OnErr result (HasFailed before now)
  pub kept : new.kept ≡ old.kept
