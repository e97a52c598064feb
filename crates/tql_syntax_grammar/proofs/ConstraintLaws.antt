-- Keys, references and checks: the reading rules are sound and complete.
use Rattle.std.specs.Prelude.{◌≡◌, refl, ℕ, zero, suc, ◌<◌, ◌≤◌, Bool, true, false, List, ◌∷◌, codes, length, Option}
use Rattle.std.specs.Prelude.{Some, None}
use Rattle.std.proofs.Common.{sym, ◌∙◌, ap, subst, arith, inl, inr}
use Rattle.tql_spec.specs.Definition.{Name}
use Rattle.tql_spec.specs.Token.{Token, Word, Sign, Close, Comma}
use Rattle.tql_spec.specs.Syntax.{Condition, RefList, Constraint, KeyTree, ForeignTree, CheckTree}
use Rattle.tql_spec.specs.Grammar.{Phrase, key, sign, ◌⨟◌, ◌∣◌, optional, commas, in_parens, name, condition, reflist}
use Rattle.tql_spec.specs.Grammar.{NoActions, none, more, key_word, without_overlaps, constraint}
use Rattle.tql_syntax_grammar.specs.Outcome.{Read, begins_third, found, eat, keyword, name_at, if_front, next}
use Rattle.tql_syntax_grammar.specs.ReadingStatements.{begins_key_period, begins_reference_period, next_key_column}
use Rattle.tql_syntax_grammar.specs.ReadingStatements.{key_period_at, key_at, next_reference_column}
use Rattle.tql_syntax_grammar.specs.ReadingStatements.{reference_period_at}
use Rattle.tql_syntax_grammar.specs.ReadingStatements.{reflist_at, no_action_at, no_actions_from, foreign_at, check_at}
use Rattle.tql_syntax_grammar.specs.ReadingStatements.{constraint_at}
use Rattle.tql_syntax_grammar.proofs.Ends.{EndsCondition}
use Rattle.tql_syntax_grammar.proofs.ConditionLaws.{condition_sound, condition_complete}
use Rattle.tql_syntax_grammar.proofs.Steps.{Always, behind_comma, more_is, more_of, next_is, Sound, Complete}
use Rattle.tql_syntax_grammar.proofs.Steps.{CompleteBefore}
use Rattle.tql_syntax_grammar.proofs.Steps.{Shortens, Stops, read_is, and_then, choose, spelled, eat_false, begins_eat}
use Rattle.tql_syntax_grammar.proofs.Steps.{begins_of, expected, expected_is, expected_of, name_is, name_of}
use Rattle.tql_syntax_grammar.proofs.Steps.{name_shortens}
use Rattle.tql_syntax_grammar.proofs.Steps.{name_no_word, front_is, option_is, behind_some}

-- ---- keys

key_column_sound : Sound (optional (behind_comma name)) next_key_column
unfolding next_key_column
key_column_sound ts c rest e =
    elim (choose (begins_key_period ts) _ _ c rest e) [
      | inl a ↦ spelled (optional (behind_comma name)) a.1 refl
      | inr a ↦ next_is name name_at name_is ts c rest a.1
    ]

-- the third token is the one after a comma and a name
third_token : (t : Token) (n : Name) (ts rest : List Token) → behind_comma name n ts rest
    → begins_third t ts ≡ (eat t rest).0
third_token t n ts rest s =
    elim s.2 [
      | inl w ↦ rw (s.1, w.0) (begins_eat t rest)
      | inr q ↦ rw (s.1, q) (begins_eat t rest)
    ]

no_key_period : (n : Name) (ts rest : List Token) → behind_comma name n ts rest → Stops (Word (codes "WITHOUT")) rest
    → begins_key_period ts ≡ false
no_key_period n ts rest s stops =
    rw (begins_of (Sign Comma) ts s.0 s.1, third_token (Word (codes "WITHOUT")) n ts rest s, stops) refl

key_column_complete : (ts : List Token) (n : Name) (rest : List Token) → behind_comma name n ts rest
    → Stops (Word (codes "WITHOUT")) rest → next_key_column ts ≡ Read (Some n) rest
unfolding next_key_column
key_column_complete ts n rest s stops =
    rw (no_key_period n ts rest s stops) (behind_some (Sign Comma) name_at ts s.0 n rest s.1 (name_of s.0 n rest s.2))

comma_name_shortens : Shortens (behind_comma name)
comma_name_shortens ts n rest s = let h = name_shortens s.0 n rest s.2 in omega (arith, ap length s.1)

key_period_sound : (ts us : List Token) (p : Name) (rest : List Token) → ts ≡ Sign Comma ∷ us
    → key_period_at us ≡ Read p rest → without_overlaps p ts rest
unfolding key_period_at
key_period_sound ts us p rest comma e =
    let n = and_then e in
    let a = expected _ n.3 in
    let b = expected _ a.2 in
    spelled without_overlaps b.2 (a.0, (n.1, (us, comma, name_is _ _ _ n.2), a.1), b.1)

next_key_period_sound : Sound (optional without_overlaps) (next key_period_at)
next_key_period_sound ts p rest e =
    elim (option_is (Sign Comma) key_period_at ts e) [
      | inl a ↦ subst (λ (q : Option Name). optional without_overlaps q ts rest) (sym a.4)
          (key_period_sound ts a.1 a.0 rest a.2 a.3)
      | inr a ↦ subst (λ (q : Option Name). optional without_overlaps q ts rest) (sym a.0) a.1
    ]

next_key_period_complete : (ts : List Token) (p : Option Name) (rest : List Token)
    → optional without_overlaps p ts rest → Stops (Sign Comma) rest → next key_period_at ts ≡ Read p rest
unfolding key_period_at
next_key_period_complete ts None rest s stops = rw (s, stops, eat_false (Sign Comma) rest stops) refl
next_key_period_complete ts (Some p) rest s stops =
    rw (s.1.1.1, name_of s.1.1.0 p s.1.0 s.1.1.2, expected_of s.1.2, expected_of s.2) refl

-- no column of the key is read before its period, or before the end of its list
no_key_column : (ts : List Token) (p : Option Name) (rest : List Token) → optional without_overlaps p ts rest
    → Stops (Sign Comma) rest → next_key_column ts ≡ Read None ts
unfolding next_key_column
no_key_column ts None rest s stops = rw (s, begins_eat (Sign Comma) rest, stops, eat_false (Sign Comma) rest stops) refl
no_key_column ts (Some p) rest s stops =
    let third : begins_third (Word (codes "WITHOUT")) ts ≡ true =
    third_token (Word (codes "WITHOUT")) p ts s.1.0 s.1.1 ∙ rw s.1.2 refl in
    rw (begins_of (Sign Comma) ts s.1.1.0 s.1.1.1, third) refl

-- WITHOUT is not in front of the optional period of a key
key_period_front : (ts : List Token) (p : Option Name) (rest : List Token) → optional without_overlaps p ts rest
    → Stops (Word (codes "WITHOUT")) rest → Stops (Word (codes "WITHOUT")) ts
key_period_front ts None rest s stops = rw s stops
key_period_front ts (Some p) rest s stops = rw s.1.1.1 refl

key_sound : (primary : Bool) (ts us : List Token) (c : Constraint) (rest : List Token) → key_word primary ts us
    → key_at primary us ≡ Read c rest → constraint c ts rest
unfolding key_at
key_sound primary ts us c rest word e =
    let a = expected _ e in
    let n = and_then a.2 in
    let more = and_then n.3 in
    let p = and_then more.3 in
    let close = expected _ p.3 in
    let columns : (commas name n.0 more.0) a.0 more.1 =
    (n.1, name_is _ _ _ n.2, more_is (behind_comma name) next_key_column key_column_sound _ _ _ more.2) in
    spelled constraint {x = KeyTree primary n.0 more.0 p.0} close.2
    (us, word, (p.1, (a.0, a.1, (more.1, columns, next_key_period_sound _ _ _ p.2)), close.1))

key_complete : (primary : Bool) (c : Name) (cs : List Name) (p : Option Name) (us rest : List Token)
    → in_parens (commas name c cs ⨟ optional without_overlaps p) us rest
    → key_at primary us ≡ Read (KeyTree primary c cs p) rest
unfolding key_at
key_complete primary c cs p us rest s =
    let close : s.0 ≡ Sign Close ∷ rest = s.2 in
    let period = s.1.2.2 in
    let columns = s.1.2.1 in
    let end = s.1.2.0 in
    let more =
    more_of (behind_comma name) next_key_column (Stops (Word (codes "WITHOUT"))) key_column_complete
    (λ ts y vs z. rw z.1 refl) comma_name_shortens columns.0 cs end columns.2
    (key_period_front end p s.0 period (rw close refl))
    (no_key_column end p s.0 period (rw close refl)) in
    rw (
      expected_of s.1.1,
      name_of s.1.0 c columns.0 columns.1,
      more,
      next_key_period_complete end p s.0 period (rw close refl),
      expected_of close,
    ) refl

-- ---- foreign keys

reference_column_sound : Sound (optional (behind_comma name)) next_reference_column
unfolding next_reference_column
reference_column_sound ts c rest e =
    elim (choose (begins_reference_period ts) _ _ c rest e) [
      | inl a ↦ spelled (optional (behind_comma name)) a.1 refl
      | inr a ↦ next_is name name_at name_is ts c rest a.1
    ]

no_reference_period : (n : Name) (ts rest : List Token) → behind_comma name n ts rest
    → begins_reference_period ts ≡ false
no_reference_period n ts rest s =
    let word = name_no_word (codes "PERIOD") n s.0 rest refl s.2 in
    rw (s.1, begins_eat (Word (codes "PERIOD")) s.0, word) refl

reference_column_complete : (ts : List Token) (n : Name) (rest : List Token) → behind_comma name n ts rest
    → next_reference_column ts ≡ Read (Some n) rest
unfolding next_reference_column
reference_column_complete ts n rest s =
    rw (no_reference_period n ts rest s) (behind_some (Sign Comma) name_at ts s.0 n rest s.1 (name_of s.0 n rest s.2))

-- , PERIOD name
abbrev reference_period : Name → Phrase
reference_period p = sign Comma ⨟ key (codes "PERIOD") ⨟ name p

next_reference_period_sound : Sound (optional reference_period) (next reference_period_at)
unfolding reference_period_at
next_reference_period_sound ts p rest e =
    elim (option_is (Sign Comma) reference_period_at ts e) [
      | inl a ↦
          let word = expected _ a.3 in
          subst (λ (q : Option Name). optional reference_period q ts rest) (sym a.4)
          (word.0, (a.1, a.2, word.1), name_is _ _ _ word.2)
      | inr a ↦ subst (λ (q : Option Name). optional reference_period q ts rest) (sym a.0) a.1
    ]

next_reference_period_complete : (ts : List Token) (p : Option Name) (rest : List Token)
    → optional reference_period p ts rest → Stops (Sign Comma) rest → next reference_period_at ts ≡ Read p rest
unfolding reference_period_at
next_reference_period_complete ts None rest s stops = rw (s, stops, eat_false (Sign Comma) rest stops) refl
next_reference_period_complete ts (Some p) rest s stops = rw (s.1.1, expected_of s.1.2, name_of s.0 p rest s.2) refl

-- no column of the foreign key is read before its period, or before the end of its list
no_reference_column : (ts : List Token) (p : Option Name) (rest : List Token) → optional reference_period p ts rest
    → Stops (Sign Comma) rest → next_reference_column ts ≡ Read None ts
unfolding next_reference_column
no_reference_column ts None rest s stops =
    rw (s, begins_eat (Sign Comma) rest, stops, eat_false (Sign Comma) rest stops) refl
no_reference_column ts (Some p) rest s stops = rw (s.1.1, s.1.2) refl

reflist_sound : Sound reflist reflist_at
unfolding reflist_at
reflist_sound ts r rest e =
    let a = expected _ e in
    let n = and_then a.2 in
    let more = and_then n.3 in
    let p = and_then more.3 in
    let close = expected _ p.3 in
    let columns : (commas name n.0 more.0) a.0 more.1 =
    (n.1, name_is _ _ _ n.2, more_is (behind_comma name) next_reference_column reference_column_sound _ _ _ more.2) in
    spelled reflist {x = record { first = n.0; more = more.0; period = p.0 }} close.2
    (p.1, (a.0, a.1, (more.1, columns, next_reference_period_sound _ _ _ p.2)), close.1)

reflist_complete : Complete reflist reflist_at
unfolding reflist_at
reflist_complete ts r rest s =
    let close : s.0 ≡ Sign Close ∷ rest = s.2 in
    let period = s.1.2.2 in
    let columns = s.1.2.1 in
    let end = s.1.2.0 in
    let more =
    more_of (behind_comma name) next_reference_column Always (λ us y vs z known. reference_column_complete us y vs z)
    (λ us y vs z. tt)
    comma_name_shortens columns.0 r.more end columns.2 tt
    (no_reference_column end r.period s.0 period (rw close refl)) in
    rw (
      expected_of s.1.1,
      name_of s.1.0 r.first columns.0 columns.1,
      more,
      next_reference_period_complete end r.period s.0 period (rw close refl),
      expected_of close,
    ) refl

-- ON DELETE NO ACTION, or ON UPDATE NO ACTION
abbrev no_action : Phrase
no_action = key (codes "ON") ⨟ (key (codes "DELETE") ∣ key (codes "UPDATE")) ⨟ key (codes "NO") ⨟ key (codes "ACTION")

changed_sound : (ts : List Token) (u : Unit {0}) (rest : List Token)
    → if_front (Word (codes "DELETE")) (found tt) (keyword (codes "UPDATE")) ts ≡ Read u rest
    → (key (codes "DELETE") ∣ key (codes "UPDATE")) ts rest
changed_sound ts u rest e =
    elim (front_is (Word (codes "DELETE")) ts e) [
      | inl a ↦ inl (spelled (λ (_ : Unit {0}). key (codes "DELETE")) a.1 a.0)
      | inr a ↦ inr (expected_is (rw a.0 at a.1))
    ]

changed_complete : (ts rest : List Token) → (key (codes "DELETE") ∣ key (codes "UPDATE")) ts rest
    → if_front (Word (codes "DELETE")) (found tt) (keyword (codes "UPDATE")) ts ≡ Read tt rest
changed_complete ts rest s = elim s [ inl d ↦ rw d refl | inr u ↦ rw (u, expected_of refl) refl ]

no_action_sound : (ts us : List Token) (u : Unit {0}) (rest : List Token) → ts ≡ Word (codes "ON") ∷ us
    → no_action_at us ≡ Read u rest → no_action ts rest
unfolding no_action_at
no_action_sound ts us u rest on e =
    let which = and_then e in
    let no = expected _ which.3 in
    (no.0, (which.1, (us, on, changed_sound _ _ _ which.2), no.1), expected_is no.2)

no_action_complete : (ts rest : List Token) (s : no_action ts rest) → no_action_at s.1.1.0 ≡ Read tt rest
unfolding no_action_at
no_action_complete ts rest s = rw (changed_complete _ _ s.1.1.2, expected_of s.1.2, expected_of s.2) refl

no_actions_from_sound : (n : ℕ) (ts : List Token) (u : Unit {0}) (rest : List Token)
    → no_actions_from n ts ≡ Read u rest → NoActions ts rest
unfolding no_actions_from
no_actions_from_sound zero ts u rest e = subst (λ (us : List Token). NoActions ts us) (read_is tt u ts rest e).rest none
no_actions_from_sound (suc n) ts u rest e =
    elim (front_is (Word (codes "ON")) ts e) [
      | inl a ↦
          let one = and_then a.1 in
          more (no_action_sound ts _ _ _ a.0 one.2) (no_actions_from_sound n one.1 u rest one.3)
      | inr a ↦ subst (λ (us : List Token). NoActions ts us) (read_is tt u ts rest (rw a.0 at a.1)).rest none
    ]

no_action_shortens : (ts rest : List Token) → no_action ts rest → length rest < length ts
no_action_shortens ts rest s =
    elim s.1.1.2 [
      | inl d ↦ omega (arith, ap length s.1.1.1, ap length d, ap length s.1.2, ap length s.2)
      | inr d ↦ omega (arith, ap length s.1.1.1, ap length d, ap length s.1.2, ap length s.2)
    ]

no_actions_from_complete : (n : ℕ) (ts rest : List Token) → length ts ≤ n → NoActions ts rest
    → Stops (Word (codes "ON")) rest → no_actions_from n ts ≡ Read tt rest
unfolding no_actions_from
no_actions_from_complete zero ts rest fuel none stops = refl
no_actions_from_complete (suc n) ts rest fuel none stops = rw (stops, eat_false (Word (codes "ON")) ts stops) refl
no_actions_from_complete zero ts rest fuel (more {mid = mid} one others) stops = let h =
    no_action_shortens ts mid one in absurd (omega arith)
no_actions_from_complete (suc n) ts rest fuel (more {mid = mid} one others) stops =
    let h = no_action_shortens ts mid one in
    let shorter : length mid ≤ n = omega arith in
    rw (one.1.1.1, no_action_complete ts mid one) (no_actions_from_complete n mid rest shorter others stops)

foreign_sound : (ts us : List Token) (c : Constraint) (rest : List Token) → ts ≡ Word (codes "FOREIGN") ∷ us
    → foreign_at us ≡ Read c rest → constraint c ts rest
unfolding foreign_at
foreign_sound ts us c rest word e =
    let key = expected _ e in
    let child = and_then key.2 in
    let references = expected _ child.3 in
    let table = and_then references.2 in
    let parent = and_then table.3 in
    let actions = and_then parent.3 in
    spelled constraint {x = ForeignTree child.0 table.0 parent.0} actions.3 (
      parent.1,
      (
        table.1,
        (
          references.0,
          (child.1, (key.0, (us, word, key.1), reflist_sound _ _ _ child.2), references.1),
          name_is _ _
              _ table.2,
        ),
        reflist_sound _ _ _ parent.2,
      ),
      no_actions_from_sound _ _ _ _ actions.2,
    )

foreign_complete : (child : RefList) (t : Name) (parent : RefList) (ts rest : List Token)
    (s : constraint (ForeignTree child t parent) ts rest) → Stops (Word (codes "ON")) rest
    → foreign_at s.1.1.1.1.1.0 ≡ Read (ForeignTree child t parent) rest
unfolding foreign_at
foreign_complete child t parent ts rest s stops =
    let references = s.1.1.1 in
    rw (
      expected_of references.1.1.2,
      reflist_complete references.1.0 child references.0 references.1.2,
      expected_of references.2,
      name_of s.1.1.0 t s.1.0 s.1.1.2,
      reflist_complete s.1.0 parent s.0 s.1.2,
      no_actions_from_complete (length s.0) s.0 rest (omega arith) s.2 stops,
    ) refl

-- ---- checks, and all constraints

check_sound : (ts us : List Token) (c : Constraint) (rest : List Token) → ts ≡ Word (codes "CHECK") ∷ us
    → check_at us ≡ Read c rest → constraint c ts rest
unfolding check_at
check_sound ts us c rest word e =
    let a = expected _ e in
    let inner = and_then a.2 in
    let close = expected _ inner.3 in
    spelled constraint {x = CheckTree inner.0} close.2
    (us, word, (inner.1, (a.0, a.1, condition_sound _ _ _ inner.2), close.1))

-- a condition ends before `)`
condition_ends_close : (ts : List Token) → EndsCondition (Sign Close ∷ ts)
condition_ends_close ts = record {
  expr = record { dot = refl; star = refl; plus = refl; minus = refl };
  also = refl;
  or = refl;
}

check_complete : (c : Condition) (ts rest : List Token) → in_parens (condition c) ts rest
    → check_at ts ≡ Read (CheckTree c) rest
unfolding check_at
check_complete c ts rest s =
    let ends = subst EndsCondition (sym s.2) (condition_ends_close rest) in
    rw (expected_of s.1.1, condition_complete s.1.0 c s.0 s.1.2 ends, expected_of s.2) refl

pub constraint_sound : Sound constraint constraint_at
unfolding constraint_at
constraint_sound ts c rest e =
    elim (front_is (Word (codes "PRIMARY")) ts e) [
      | inl a ↦ let key = expected _ a.1 in key_sound true ts key.0 c rest (_, a.0, key.1) key.2
      | inr a ↦
          elim (front_is (Word (codes "UNIQUE")) ts (rw a.0 at a.1)) [
            | inl b ↦ key_sound false ts _ c rest b.0 b.1
            | inr b ↦
                elim (front_is (Word (codes "FOREIGN")) ts (rw b.0 at b.1)) [
                  | inl d ↦ foreign_sound ts _ c rest d.0 d.1
                  | inr d ↦ let check = expected _ (rw d.0 at d.1) in check_sound ts check.0 c rest check.1 check.2
                ]
          ]
    ]

pub constraint_complete : CompleteBefore (Stops (Word (codes "ON"))) constraint constraint_at
unfolding constraint_at
constraint_complete ts (KeyTree true c cs p) rest s stops =
    rw (s.1.1, expected_of s.1.2, key_complete true c cs p s.0 rest s.2) refl
constraint_complete ts (KeyTree false c cs p) rest s stops = rw (s.1, key_complete false c cs p s.0 rest s.2) refl
constraint_complete ts (ForeignTree child t parent) rest s stops =
    rw (s.1.1.1.1.1.1, foreign_complete child t parent ts rest s stops) refl
constraint_complete ts (CheckTree c) rest s stops = rw (s.1, expected_of refl, check_complete c s.0 rest s.2) refl
