-- Types, columns and periods: the reading rules are sound and complete.
use Rattle.std.specs.Prelude.{◌≡◌, refl, ℕ, Bool, true, false, ◌||◌, List, ◌∷◌, codes, Option, Some, None}
use Rattle.std.proofs.Common.{sym, ◌∙◌, subst, inl, inr}
use Rattle.tql_spec.specs.Definition.{Name}
use Rattle.tql_spec.specs.Token.{Token, Word, Number, Sign, Open}
use Rattle.tql_spec.specs.Syntax.{TypeName, IntegerType, VarcharType, DateType, TimestampType, Generated, RowStart}
use Rattle.tql_spec.specs.Syntax.{RowEnd, ColumnTree, Element, ColumnElement, PeriodElement}
use Rattle.tql_spec.specs.Grammar.{Phrase, token, key, ◌⨟◌, maybe, when, optional, in_parens, name, type_name}
use Rattle.tql_spec.specs.Grammar.{generated, not_null, column_tail, column, element}
use Rattle.tql_syntax_grammar.specs.Outcome.{Read, Parser, ◌>>=◌, begins, behind}
use Rattle.tql_syntax_grammar.specs.ReadingStatements.{size_at, precision_at, zone_at, timestamp_type_at, type_at}
use Rattle.tql_syntax_grammar.specs.ReadingStatements.{not_null_at, generated_at, column_of, column_end, column_at}
use Rattle.tql_syntax_grammar.specs.ReadingStatements.{period_at}
use Rattle.tql_syntax_grammar.proofs.WordLaws.{period_name_sound, period_name_complete}
use Rattle.tql_syntax_grammar.proofs.Steps.{Sound, Complete, CompleteBefore, Stops, read_is, and_then, into_is, choose}
use Rattle.tql_syntax_grammar.proofs.Steps.{spelled, into_sound, eat_false, eat_of, begins_eat, begins_of, expected}
use Rattle.tql_syntax_grammar.proofs.Steps.{expected_is, expected_of, name_is, name_of, number_is, number_of, front_is}
use Rattle.tql_syntax_grammar.proofs.Steps.{option_is, behind_some, behind_none}

-- ---- types

-- ( number )
abbrev size : List ℕ → Phrase
size ds = in_parens (token (Number ds))

size_sound : Sound size size_at
unfolding size_at
size_sound ts ds rest e =
    let a = expected _ e in
    let n = and_then a.2 in
    let c = expected _ n.3 in
    spelled size c.2 (n.1, (a.0, a.1, number_is _ _ _ n.2), c.1)

size_complete : Complete size size_at
unfolding size_at
size_complete ts ds rest s = rw (expected_of s.1.1, number_of _ _ _ s.1.2, expected_of s.2) refl

precision_sound : Sound (optional size) precision_at
unfolding precision_at
precision_sound ts p rest e =
    elim (choose (begins (Sign Open) ts) _ _ p rest e) [
      | inl a ↦ into_sound (optional size) Some size_at size_sound ts p rest a.1
      | inr a ↦ spelled (optional size) a.1 refl
    ]

precision_complete : CompleteBefore (Stops (Sign Open)) (optional size) precision_at
unfolding precision_at
precision_complete ts None rest s stops = rw (s, begins_eat (Sign Open) rest, stops) refl
precision_complete ts (Some ds) rest s stops =
    rw (begins_of (Sign Open) ts s.1.0 s.1.1, size_complete ts ds rest s) refl

-- [WITHOUT TIME ZONE]
abbrev zone : Phrase
zone = maybe (key (codes "WITHOUT") ⨟ key (codes "TIME") ⨟ key (codes "ZONE"))

zone_sound : Sound (λ (u : Unit {0}). zone) zone_at
unfolding zone_at
zone_sound ts u rest e =
    elim (front_is (Word (codes "WITHOUT")) ts e) [
      | inl a ↦
          let b = expected _ a.1 in
          inr (b.0, (_, a.0, b.1), expected_is b.2)
      | inr a ↦ inl (read_is tt u ts rest (rw a.0 at a.1)).rest
    ]

zone_complete : CompleteBefore (Stops (Word (codes "WITHOUT"))) (λ (u : Unit {0}). zone) zone_at
unfolding zone_at
zone_complete ts u rest s stops =
    elim s [
      | inl n ↦ rw (n, stops, eat_false (Word (codes "WITHOUT")) rest stops) refl
      | inr w ↦ rw (eat_of _ _ _ w.1.1, expected_of w.1.2, expected_of w.2) refl
    ]

-- the condition on the tokens after a type
pub record EndsType (rest : List Token) : Type 0 where
  pub opened : Stops (Sign Open) rest
  pub without : Stops (Word (codes "WITHOUT")) rest

timestamp_sound : (ts us : List Token) (t : TypeName) (rest : List Token) → ts ≡ Word (codes "TIMESTAMP") ∷ us
    → timestamp_type_at us ≡ Read t rest → type_name t ts rest
unfolding timestamp_type_at
timestamp_sound ts us t rest word e =
    let p = and_then e in
    let z = into_is (λ (_ : Unit {0}). TimestampType p.0) _ t rest p.3 in
    subst (λ (x : TypeName). type_name x ts rest) z.2 (p.1, (us, word, precision_sound _ _ _ p.2), zone_sound _ _ _ z.1)

type_sound : Sound type_name type_at
unfolding type_at
type_sound ts t rest e =
    elim (front_is (Word (codes "INTEGER")) ts e) [
      | inl a ↦ spelled type_name a.1 (inl (inl a.0))
      | inr a ↦
          elim (front_is (Word (codes "INT")) ts (rw a.0 at a.1)) [
            | inl b ↦ spelled type_name b.1 (inl (inr b.0))
            | inr b ↦
                elim (front_is (Word (codes "BIGINT")) ts (rw b.0 at b.1)) [
                  | inl c ↦ spelled type_name c.1 (inr c.0)
                  | inr c ↦
                      elim (front_is (Word (codes "VARCHAR")) ts (rw c.0 at c.1)) [
                        | inl d ↦
                            let x = into_is VarcharType _ t rest d.1 in
                            subst (λ (u : TypeName). type_name u ts rest) x.2 (_, d.0, size_sound _ _ _ x.1)
                        | inr d ↦
                            elim (front_is (Word (codes "DATE")) ts (rw d.0 at d.1)) [
                              | inl f ↦ spelled type_name f.1 f.0
                              | inr f ↦ let g = expected _ (rw f.0 at f.1) in timestamp_sound ts g.0 t rest g.1 g.2
                            ]
                      ]
                ]
          ]
    ]

-- no `(` is in front of [WITHOUT TIME ZONE], if none is after it
zone_front : (ts rest : List Token) → zone ts rest → Stops (Sign Open) rest → Stops (Sign Open) ts
zone_front ts rest s stops = elim s [ inl n ↦ rw n stops | inr w ↦ rw w.1.1 refl ]

type_complete : CompleteBefore EndsType type_name type_at
unfolding type_at timestamp_type_at
type_complete ts IntegerType rest s ends =
    elim s [
      | inl i ↦ elim i [ inl a ↦ rw a refl | inr b ↦ rw b refl ]
      | inr c ↦ rw c refl
    ]
type_complete ts (VarcharType ds) rest s ends = rw (s.1, size_complete s.0 ds rest s.2) refl
type_complete ts DateType rest s ends = rw s refl
type_complete ts (TimestampType p) rest s ends =
    rw (
      s.1.1,
      expected_of refl,
      precision_complete s.1.0 p s.0 s.1.2 (zone_front s.0 rest s.2 ends.opened),
      zone_complete s.0 tt rest s.2 ends.without,
    ) refl

-- ---- columns

required_sound : Sound (λ b. when b not_null) not_null_at
unfolding not_null_at
required_sound ts b rest e =
    elim (front_is (Word (codes "NOT")) ts e) [
      | inl a ↦
          let n = into_is (λ (_ : Unit {0}). true) _ b rest a.1 in
          subst (λ (c : Bool). when c not_null ts rest) n.2 (_, a.0, expected_is n.1)
      | inr a ↦ spelled (λ (c : Bool). when c not_null) (rw a.0 at a.1) refl
    ]

required_complete : CompleteBefore (Stops (Word (codes "NOT"))) (λ b. when b not_null) not_null_at
unfolding not_null_at
required_complete ts true rest s stops = rw (s.1, expected_of s.2) refl
required_complete ts false rest s stops = rw (s, stops, eat_false (Word (codes "NOT")) rest stops) refl

generated_sound : (ts us : List Token) (g : Generated) (rest : List Token) → ts ≡ Word (codes "GENERATED") ∷ us
    → generated_at us ≡ Read g rest → generated g ts rest
unfolding generated_at
generated_sound ts us g rest word e =
    let a = expected _ e in
    let b = expected _ a.2 in
    let c = expected _ b.2 in
    let row : (key (codes "GENERATED") ⨟ key (codes "ALWAYS") ⨟ key (codes "AS") ⨟ key (codes "ROW")) ts c.0 =
    (b.0, (a.0, (us, word, a.1), b.1), c.1) in
    elim (front_is (Word (codes "START")) c.0 c.2) [
      | inl d ↦ spelled generated d.1 (c.0, row, d.0)
      | inr d ↦
          let end = into_is (λ (_ : Unit {0}). RowEnd) _ g rest (rw d.0 at d.1) in
          subst (λ (h : Generated). generated h ts rest) end.2 (c.0, row, expected_is end.1)
    ]

generated_complete : (g : Generated) (ts rest : List Token) (s : generated g ts rest)
    → generated_at s.1.1.1.0 ≡ Read g rest
unfolding generated_at
generated_complete RowStart ts rest s = rw (expected_of s.1.1.1.2, expected_of s.1.1.2, expected_of s.1.2, s.2) refl
generated_complete RowEnd ts rest s =
    rw (expected_of s.1.1.1.2, expected_of s.1.1.2, expected_of s.1.2, s.2, expected_of refl) refl

plain_tail : (first : Bool) (b c d : List Token) → when first not_null b c → c ≡ d
    → column_tail (first || false) None b d
plain_tail true b c d f same = subst (λ (us : List Token). not_null b us) same f
plain_tail false b c d f same = f ∙ same

generated_tail : (first second : Bool) (g : Generated) (b c d rest : List Token) → when first not_null b c
    → generated g c d → when second not_null d rest → column_tail (first || second) (Some g) b rest
generated_tail true true g b c d rest f s t = inl (d, (c, f, s), inr t)
generated_tail true false g b c d rest f s t = inl (d, (c, f, s), inl t)
generated_tail false true g b c d rest f s t = inr (d, subst (λ (us : List Token). generated g us d) (sym f) s, t)
generated_tail false false g b c d rest f s t =
    subst (λ (us : List Token). generated g us rest) (sym f) (subst (λ (us : List Token). generated g c us) t s)

pub column_sound : Sound element column_at
unfolding column_at
column_sound ts e rest r =
    let n = and_then r in
    let t = and_then n.3 in
    let first = and_then t.3 in
    let g = and_then first.3 in
    let head : (name n.0 ⨟ type_name t.0) ts t.1 = (n.1, name_is _ _ _ n.2, type_sound _ _ _ t.2) in
    let not = required_sound _ _ _ first.2 in
    elim (option_is (Word (codes "GENERATED")) generated_at first.1 g.2) [
      | inl o ↦
          let end = subst (λ (x : Option Generated). column_end n.0 t.0 first.0 x g.1 ≡ Read e rest) o.4 g.3 in
          let second = and_then end in
          let last = required_sound _ _ _ second.2 in
          let tail = generated_tail first.0 second.0 o.0 t.1 first.1 g.1 second.1 not
          (generated_sound _ _ _ _ o.2 o.3) last in
          spelled element {x = column_of n.0 t.0 first.0 (Some o.0) second.0} second.3 (t.1, head, tail)
      | inr o ↦
          let end = subst (λ (x : Option Generated). column_end n.0 t.0 first.0 x g.1 ≡ Read e rest) o.0 g.3 in
          let tail = plain_tail first.0 t.1 first.1 g.1 not o.1 in
          spelled element {x = column_of n.0 t.0 first.0 None false} end (t.1, head, tail)
    ]

-- the condition on the tokens after a column
pub record EndsColumn (rest : List Token) : Type 0 where
  pub type_name : EndsType rest
  pub not : Stops (Word (codes "NOT")) rest
  pub generated : Stops (Word (codes "GENERATED")) rest

-- a type ends before the tail of a column
tail_front : (required : Bool) (g : Option Generated) (ts rest : List Token) → column_tail required g ts rest
    → EndsColumn rest → EndsType ts
tail_front false None ts rest s ends = subst EndsType (sym s) ends.type_name
tail_front true None ts rest s ends = record { opened = rw s.1 refl; without = rw s.1 refl }
tail_front false (Some g) ts rest s ends = let w = s.1.1.1.1 in record { opened = rw w refl; without = rw w refl }
tail_front true (Some g) ts rest s ends =
    elim s [
      | inl a ↦ let w = a.1.1.1 in record { opened = rw w refl; without = rw w refl }
      | inr a ↦ let w = a.1.1.1.1.1 in record { opened = rw w refl; without = rw w refl }
    ]

-- the rest of a column after its type
abbrev tail_at : Name → TypeName → Parser Element
tail_at n t ts =
    not_null_at ts >>= λ first c. behind (Word (codes "GENERATED")) generated_at c >>= λ g d. column_end n t first g d

abbrev column_with : Name → TypeName → Bool → Option Generated → Element
column_with n t required g = ColumnElement (record { name = n; type_name = t; required = required; generated = g })

-- GENERATED .. [NOT NULL], with no NOT NULL before it
late_tail : (n : Name) (t : TypeName) (g : Generated) (second : Bool) (ts mid rest : List Token) → generated g ts mid
    → when second not_null mid rest → EndsColumn rest → tail_at n t ts ≡ Read (column_with n t second (Some g)) rest
late_tail n t g second ts mid rest s r ends =
    let word : ts ≡ Word (codes "GENERATED") ∷ s.1.1.1.0 = s.1.1.1.1 in
    let plain : when false not_null ts ts = refl in
    rw (
      required_complete ts false ts plain (rw word refl),
      behind_some (Word (codes "GENERATED")) generated_at ts s.1.1.1.0 g mid word (generated_complete g ts mid s),
      required_complete mid second rest r ends.not,
    ) refl

-- NOT NULL GENERATED .. [NOT NULL]
early_tail : (n : Name) (t : TypeName) (g : Generated) (second : Bool) (ts us mid rest : List Token) → not_null ts us
    → generated g us mid → when second not_null mid rest → EndsColumn rest
    → tail_at n t ts ≡ Read (column_with n t true (Some g)) rest
early_tail n t g second ts us mid rest f s r ends =
    let word : us ≡ Word (codes "GENERATED") ∷ s.1.1.1.0 = s.1.1.1.1 in
    rw (
      required_complete ts true us f (rw word refl),
      behind_some (Word (codes "GENERATED")) generated_at us s.1.1.1.0 g mid word (generated_complete g us mid s),
      required_complete mid second rest r ends.not,
    ) refl

tail_complete : (n : Name) (t : TypeName) (required : Bool) (g : Option Generated) (ts rest : List Token)
    → column_tail required g ts rest → EndsColumn rest → tail_at n t ts ≡ Read (column_with n t required g) rest
tail_complete n t false None ts rest s ends =
    rw (
      required_complete ts false rest s ends.not,
      behind_none (Word (codes "GENERATED")) generated_at rest
          ends.generated,
    ) refl
tail_complete n t true None ts rest s ends =
    rw (
      required_complete ts true rest s ends.not,
      behind_none (Word (codes "GENERATED")) generated_at rest
          ends.generated,
    ) refl
tail_complete n t false (Some g) ts rest s ends = late_tail n t g false ts rest rest s refl ends
tail_complete n t true (Some g) ts rest s ends =
    elim s [
      | inl a ↦
          elim a.2 [
            | inl same ↦ early_tail n t g false ts a.1.0 a.0 rest a.1.1 a.1.2 same ends
            | inr again ↦ early_tail n t g true ts a.1.0 a.0 rest a.1.1 a.1.2 again ends
          ]
      | inr a ↦ late_tail n t g true ts a.0 rest a.1 a.2 ends
    ]

pub column_complete : (ts : List Token) (c : ColumnTree) (rest : List Token) → column c ts rest → EndsColumn rest
    → column_at ts ≡ Read (ColumnElement c) rest
unfolding column_at
column_complete ts c rest s ends =
    let type_ends = tail_front c.required c.generated s.0 rest s.2 ends in
    rw (
      name_of ts c.name s.1.0 s.1.1,
      type_complete s.1.0 c.type_name s.0 s.1.2 type_ends,
      tail_complete c.name c.type_name c.required c.generated s.0 rest s.2 ends,
    ) refl

-- ---- periods

pub period_sound : (ts us : List Token) (e : Element) (rest : List Token) → ts ≡ Word (codes "PERIOD") ∷ us
    → period_at us ≡ Read e rest → element e ts rest
unfolding period_at
period_sound ts us e rest word r =
    let for = expected _ r in
    let p = and_then for.2 in
    let opened = expected _ p.3 in
    let start = and_then opened.2 in
    let comma = expected _ start.3 in
    let end = and_then comma.2 in
    let close = expected _ end.3 in
    spelled element {x = PeriodElement p.0 start.0 end.0} close.2 (
      p.1,
      (for.0, (us, word, for.1), period_name_sound _ _ _ p.2),
      (end.1, (opened.0, opened.1, (comma.0, (start.1, name_is _ _ _ start.2, comma.1), name_is _ _ _ end.2)), close.1),
    )

pub period_complete : (p : Option Name) (start end : Name) (ts rest : List Token)
    (s : element (PeriodElement p start end) ts rest) → period_at s.1.1.0 ≡ Read (PeriodElement p start end) rest
unfolding period_at
period_complete p start end ts rest s =
    let inner = s.2.1.2 in
    rw (
      expected_of s.1.1.2,
      period_name_complete s.1.0 p s.0 s.1.2,
      expected_of s.2.1.1,
      name_of s.2.1.0 start inner.1.0 inner.1.1,
      expected_of inner.1.2,
      name_of inner.0 end s.2.0 inner.2,
      expected_of s.2.2,
    ) refl
