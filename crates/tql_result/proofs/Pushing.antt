-- Successive pushes.
use Rattle.std.proofs.Common.{◌≡◌, ℕ, ◌<◌, List, [], ◌++◌, refl, sym, ◌∙◌, ap, subst, arith, length, take, ◌∷◌}
use Rattle.std.proofs.Common.{append_assoc, length-append, Option, Some}
use Rattle.std.proofs.lemmas.List.{append-nil}
use Rattle.std.proofs.lemmas.Bool.Decides.{nat_tests}
use Rattle.std.specs.Prelude.{Result, Ok, Err, IsOk, IsErr, Bool, true, false, ◌==◌, ◌&&◌, not}
use Rattle.tql_result.specs.Devices.{Appends, AppendsBeginning, HasFailed, Counts, Held, Pushes}

-- the text was pushed except for `rest`, and nothing has failed
pub record Sent (text rest : List ℕ) (old new : Held) (before now : ℕ) : Type 0 where
  pub front : List ℕ
  pub parts : text ≡ front ++ rest
  pub appends : Appends old.bytes front new.bytes
  pub no_failure : now ≡ before
  pub kept : new.kept ≡ old.kept

-- appending nothing
pub Appends-none : (o : Option (List ℕ)) → Appends o [] o
Appends-none o = record { holds = λ xs e. e ∙ ap Some (sym (append-nil xs)) }

-- appending two lists, one after the other
pub Appends-append : {o m n : Option (List ℕ)} {a b : List ℕ} → Appends o a m → Appends m b n → Appends o (a ++ b) n
Appends-append {a = a} {b = b} p q = record {
  holds = λ xs e. q.holds (xs ++ a) (p.holds xs e)
      ∙ ap Some (append_assoc xs a b);
}

pub HasFailed-later : {a b c : ℕ} → b ≡ a → HasFailed b c → HasFailed a c
HasFailed-later {a} {b} {c} e h = subst (λ (k : ℕ). HasFailed k c) e h

pub sent_none : (text : List ℕ) (o : Held) (k : ℕ) → Sent text text o o k k
sent_none text o k = record {
  front = [];
  parts = refl;
  appends = Appends-none o.bytes;
  no_failure = refl;
  kept = refl;
}

pub sent_more : {text rest : List ℕ} {o m n : Held} {b k j : ℕ} (a others : List ℕ)
    → Sent text rest o m b k → rest ≡ a ++ others → Appends m.bytes a n.bytes → j ≡ k → n.kept ≡ m.kept
    → Sent text others o n b j
sent_more a others s e p same still = record {
  front = s.front ++ a;
  parts = s.parts ∙ ap (λ l. s.front ++ l) e ∙ sym (append_assoc s.front a others);
  appends = Appends-append s.appends p;
  no_failure = same ∙ s.no_failure;
  kept = still ∙ s.kept;
}

-- the whole text was pushed
pub pushed_whole : {T E : Type 0} {text : List ℕ} {o n : Held} {b k : ℕ} (r : Result T E) → IsOk r
    → Sent text [] o n b k → Pushes text r o n b k
pushed_whole {text = text} {o = o} {n = n} (Ok x) ok s = record {
  whole = let P : List ℕ → Type 0 = λ t. Appends o.bytes t n.bytes in
      subst P (sym (s.parts ∙ append-nil s.front)) s.appends;
  no_failure = s.no_failure;
  cut = tt;
  failure = tt;
  kept = s.kept;
}
pushed_whole (Err x) ok s = absurd (cc)

-- a prefix of the rest was pushed, and then a failure occurred
pub pushed_cut : {T E : Type 0} {text rest : List ℕ} {o m n : Held} {b k j : ℕ} (r : Result T E)
    (a others : List ℕ) → IsErr r → Sent text rest o m b k → rest ≡ a ++ others
    → AppendsBeginning m.bytes a n.bytes → HasFailed k j → n.kept ≡ m.kept → Pushes text r o n b j
pushed_cut (Ok x) a others err s e p failed still = absurd (cc)
pushed_cut (Err x) a others err s e p failed still = record {
  whole = tt;
  no_failure = tt;
  cut = record {
    front = s.front ++ p.front;
    back = p.back ++ others;
    lacks = let sum = length-append p.back others in let some = p.lacks in omega (arith, sum, some);
    parts = s.parts ∙ ap (λ l. s.front ++ l) (e ∙ ap (λ l. l ++ others) p.parts ∙ append_assoc p.front p.back others)
        ∙ sym (append_assoc s.front p.front (p.back ++ others));
    appends = Appends-append s.appends p.appends;
  };
  failure = HasFailed-later s.no_failure failed;
  kept = still ∙ s.kept;
}

-- one piece of the rest was pushed
pub step : {T E : Type 0} {text rest a : List ℕ} {o m n : Held} {b k j : ℕ} {x : T} (others : List ℕ)
    → Sent text rest o m b k → rest ≡ a ++ others → Pushes {T = T} {E = E} a (Ok x) m n k j → Sent text others o n b j
step {a = a} others s e p = sent_more a others s e p.whole p.no_failure p.kept

-- pushing a piece failed
pub stop : {T U E F : Type 0} {text rest a : List ℕ} {o m n : Held} {b k j : ℕ} {x : F} (r : Result T E)
    (others : List ℕ) → IsErr r → Sent text rest o m b k → rest ≡ a ++ others
    → Pushes {T = U} {E = F} a (Err x) m n k j → Pushes text r o n b j
stop {a = a} r others err s e p = pushed_cut r a others err s e p.cut p.failure p.kept

-- the last piece was pushed
pub last : {T E : Type 0} {text rest a : List ℕ} {o m n : Held} {b k j : ℕ} (r : Result T E)
    → Sent text rest o m b k → rest ≡ a → Pushes a r m n k j → Pushes text r o n b j
last {a = a} (Ok x) s e p = pushed_whole (Ok x) refl (step [] s (e ∙ sym (append-nil a)) p)
last {a = a} (Err x) s e p = stop (Err x) [] refl s (e ∙ sym (append-nil a)) p

-- the empty list is a proper prefix of a non-empty one
pub beginning_none : {o n : Option (List ℕ)} (bytes : List ℕ) → 0 < length bytes → Appends o [] n
    → AppendsBeginning o bytes n
beginning_none bytes some p = record { front = []; back = bytes; parts = refl; lacks = some; appends = p }

-- taking no byte of a non-empty slice counts as a failure
pub failed_at_none : {b k : ℕ} (taken len : ℕ) → taken ≡ 0 → 0 < len → Counts ((taken == 0) && not (len == 0)) b k
    → HasFailed b k
failed_at_none {b} {k} taken len none some h =
    let e : ((taken == 0) && not (len == 0)) ≡ true = grind (arith, nat_tests) in
    let P : Bool → Type 0 = λ t. Counts t b k in subst P e h

-- taking some bytes does not count as a failure
pub counted_at_some : {b k : ℕ} (taken len : ℕ) → (taken ≡ 0 → ⊥) → Counts ((taken == 0) && not (len == 0)) b k → k ≡ b
counted_at_some {b} {k} taken len some h =
    let e : ((taken == 0) && not (len == 0)) ≡ false = grind (arith, nat_tests) in
    let P : Bool → Type 0 = λ t. Counts t b k in subst P e h

-- taking no bytes appends nothing
pub taken_none : {o n : Option (List ℕ)} (taken : ℕ) (bytes : List ℕ) → taken ≡ 0 → Appends o (take taken bytes) n
    → Appends o [] n
taken_none {o} {n} taken bytes e p = let P : ℕ → Type 0 = λ t. Appends o (take t bytes) n in subst P e p

-- a list of length zero is empty
pub empty_list : {A : Type 0} (xs : List A) → length xs ≡ 0 → xs ≡ []
empty_list [] e = refl
empty_list (x ∷ xs) e = absurd (omega arith)

-- if the rest has length zero, the whole text was pushed
pub sent_all : {text : List ℕ} {o n : Held} {b k : ℕ} (rest : List ℕ) → length rest ≡ 0
    → Sent text rest o n b k → Sent text [] o n b k
sent_all {text} {o} {n} {b} {k} rest e s = let P : List ℕ
    → Type 0 = λ l. Sent text l o n b k in subst P (empty_list rest e) s

-- two texts pushed, one after the other
pub joined : {T U E : Type 0} {a t : List ℕ} {o m n : Held} {b k j : ℕ} {x : U} {r : Result T E}
    → Pushes {T = U} {E = E} a (Ok x) o m b k → Pushes t r m n k j → Pushes (a ++ t) r o n b j
joined {a = a} {t = t} {o = o} {b = b} {r = r} p q = last r (step t (sent_none (a ++ t) o b) refl p) refl q

-- a failed text; another would have followed it
pub ended : {T U E F : Type 0} {a : List ℕ} {o n : Held} {b k : ℕ} {x : F} (r : Result T E) (t : List ℕ)
    → IsErr r → Pushes {T = U} {E = F} a (Err x) o n b k → Pushes (a ++ t) r o n b k
ended {a = a} {o = o} {b = b} r t err p = stop r t err (sent_none (a ++ t) o b) refl p

-- equal texts can be replaced
pub as_text : {T E : Type 0} {a t : List ℕ} {o n : Held} {b k : ℕ} {r : Result T E} → a ≡ t
    → Pushes a r o n b k → Pushes t r o n b k
as_text {o = o} {n = n} {b = b} {k = k} {r = r} e p = let P : List ℕ → Type 0 = λ l. Pushes l r o n b k in subst P e p
