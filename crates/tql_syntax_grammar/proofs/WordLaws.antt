-- Optional words, names of periods, moments and points: the reading rules are sound and complete.
use Rattle.std.specs.Prelude.{◌≡◌, ◌⊎◌, refl, ℕ, Bool, true, false, List, codes, Option, Some, None}
use Rattle.std.proofs.Common.{sym, subst, inl, inr}
use Rattle.tql_spec.specs.Definition.{Name}
use Rattle.tql_spec.specs.Token.{Token, Word}
use Rattle.tql_spec.specs.Syntax.{PointTree, DatePoint, MomentPoint}
use Rattle.tql_spec.specs.Grammar.{key, maybe, period_name, moment, point}
use Rattle.tql_syntax_grammar.specs.Outcome.{eat, name_at}
use Rattle.tql_syntax_grammar.specs.ReadingStatements.{period_name_at, moment_at, point_at}
use Rattle.tql_syntax_grammar.proofs.Steps.{Sound, Complete, Stops, into_is, spelled, eat_true, eat_false, eat_of}
use Rattle.tql_syntax_grammar.proofs.Steps.{expected}
use Rattle.tql_syntax_grammar.proofs.Steps.{expected_of, name_is, name_of, name_no_word, quote_is, quote_of, front_is}

-- ---- optional words without meaning

either : (b : Bool) → (b ≡ true) ⊎ (b ≡ false)
either true = inl refl
either false = inr refl

-- the tokens after an optional word
pub noise_spelled : (w : List ℕ) (ts : List Token) → maybe (key w) ts (eat (Word w) ts).1
noise_spelled w ts =
    elim (either (eat (Word w) ts).0) [
      | inl there ↦ inr (eat_true (Word w) ts there)
      | inr other ↦ inl (sym (eat_false (Word w) ts other))
    ]

-- nothing but the optional word is consumed
pub noise_eaten : (w : List ℕ) (ts rest : List Token) → maybe (key w) ts rest → Stops (Word w) rest
    → (eat (Word w) ts).1 ≡ rest
noise_eaten w ts rest s stops =
    elim s [
      | inl same ↦ rw same (eat_false (Word w) rest stops)
      | inr word ↦ rw (eat_of _ _ _ word) refl
    ]

-- ---- names of periods

pub period_name_sound : Sound period_name period_name_at
unfolding period_name_at
period_name_sound ts p rest e =
    elim (front_is (Word (codes "SYSTEM_TIME")) ts e) [
      | inl a ↦ spelled period_name a.1 a.0
      | inr a ↦
          let n = into_is Some (name_at ts) p rest (rw a.0 at a.1) in
          subst (λ (q : Option Name). period_name q ts rest) n.2 (name_is _ _ _ n.1)
    ]

pub period_name_complete : Complete period_name period_name_at
unfolding period_name_at
period_name_complete ts None rest s = rw s refl
period_name_complete ts (Some n) rest s =
    let other = name_no_word (codes "SYSTEM_TIME") n ts rest refl s in
    rw (other, eat_false (Word (codes "SYSTEM_TIME")) ts other, name_of ts n rest s) refl

-- ---- moments and points

pub moment_sound : Sound moment moment_at
unfolding moment_at
moment_sound ts m rest e = let a = expected _ e in (a.0, a.1, quote_is a.0 m rest a.2)

pub moment_complete : Complete moment moment_at
unfolding moment_at
moment_complete ts m rest s = rw (expected_of s.1, quote_of s.0 m rest s.2) refl

pub point_sound : Sound point point_at
unfolding point_at
point_sound ts p rest e =
    elim (front_is (Word (codes "DATE")) ts e) [
      | inl a ↦
          let d = into_is DatePoint _ p rest a.1 in
          subst (λ (q : PointTree). point q ts rest) d.2 (_, a.0, quote_is _ _ _ d.1)
      | inr a ↦
          let m = into_is MomentPoint (moment_at ts) p rest (rw a.0 at a.1) in
          subst (λ (q : PointTree). point q ts rest) m.2 (moment_sound _ _ _ m.1)
    ]

pub point_complete : Complete point point_at
unfolding point_at
point_complete ts (DatePoint t) rest s = rw (s.1, quote_of s.0 t rest s.2) refl
point_complete ts (MomentPoint t) rest s =
    let other : Stops (Word (codes "DATE")) ts = rw s.1 refl in
    rw (other, eat_false (Word (codes "DATE")) ts other, moment_complete ts t rest s) refl
