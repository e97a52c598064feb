-- Statements: the reading rules are sound and complete. So a token list spells at most one statement.
use Rattle.std.specs.Prelude.{◌≡◌, refl, List, [], ◌∷◌, codes, Some}
use Rattle.std.proofs.Common.{ap, subst, inl, inr}
use Rattle.tql_spec.specs.Token.{Token, Word}
use Rattle.tql_spec.specs.Syntax.{Statement, CreateTree, DropTree, InsertValues, InsertSelect, UpdateTree, DeleteTree}
use Rattle.tql_spec.specs.Syntax.{QueryTree, StartTree, CommitTree, RollbackTree, AtTree, PruneTree, OpenTree, ReadTree}
use Rattle.tql_spec.specs.Syntax.{CloseTree}
use Rattle.tql_spec.specs.Grammar.{statement, IsStatement, SpellsOnce}
use Rattle.tql_syntax_grammar.specs.Outcome.{Read, whole}
use Rattle.tql_syntax_grammar.specs.ReadingStatements.{prune_at, control_at, change_at, statement_at}
use Rattle.tql_syntax_grammar.specs.ReadingStatements.{read_statement, open_at, close_at, reader_at}
use Rattle.tql_syntax_grammar.proofs.WordLaws.{noise_spelled, noise_eaten, moment_sound, moment_complete}
use Rattle.tql_syntax_grammar.proofs.CreateLaws.{create_sound, create_complete, drop_sound, drop_complete}
use Rattle.tql_syntax_grammar.proofs.QueryLaws.{query_sound, query_complete, read_sound, read_complete}
use Rattle.tql_syntax_grammar.proofs.ChangeLaws.{insert_sound, values_complete, insert_select_complete, update_sound}
use Rattle.tql_syntax_grammar.proofs.ChangeLaws.{update_complete, delete_sound, delete_complete}
use Rattle.tql_syntax_grammar.proofs.Steps.{Sound, into_is, spelled, expected, expected_is, expected_of, front_is}
use Rattle.tql_syntax_grammar.proofs.Steps.{whole_is, name_is, name_of}

prune_sound : (ts us : List Token) (s : Statement) (rest : List Token) → ts ≡ Word (codes "PRUNE") ∷ us
    → prune_at us ≡ Read s rest → statement s ts rest
unfolding prune_at
prune_sound ts us s rest word e =
    let history = expected _ e in
    let before = expected _ history.2 in
    let m = into_is PruneTree _ s rest before.2 in
    subst (λ (x : Statement). statement x ts rest) m.2
    (before.0, (history.0, (us, word, history.1), before.1), moment_sound _ _ _ m.1)

control_sound : Sound statement control_at
unfolding control_at
control_sound ts s rest e =
    elim (front_is (Word (codes "START")) ts e) [
      | inl a ↦
          let t = into_is (λ (_ : Unit {0}). StartTree) _ s rest a.1 in
          subst (λ (x : Statement). statement x ts rest) t.2 (_, a.0, expected_is t.1)
      | inr a ↦
          elim (front_is (Word (codes "COMMIT")) ts (rw a.0 at a.1)) [
            | inl b ↦ spelled statement b.1 (_, b.0, noise_spelled (codes "WORK") _)
            | inr b ↦
                elim (front_is (Word (codes "ROLLBACK")) ts (rw b.0 at b.1)) [
                  | inl c ↦ spelled statement c.1 (_, c.0, noise_spelled (codes "WORK") _)
                  | inr c ↦
                      elim (front_is (Word (codes "PRUNE")) ts (rw c.0 at c.1)) [
                        | inl d ↦ prune_sound ts _ s rest d.0 d.1
                        | inr d ↦
                            let word = expected _ (rw d.0 at d.1) in
                            let m = into_is AtTree _ s rest word.2 in
                            subst (λ (x : Statement). statement x ts rest) m.2
                            (word.0, word.1, moment_sound _ _ _ m.1)
                      ]
                ]
          ]
    ]

open_sound : (ts us : List Token) (s : Statement) (rest : List Token) → ts ≡ Word (codes "OPEN") ∷ us
    → open_at us ≡ Read s rest → statement s ts rest
unfolding open_at
open_sound ts us s rest word e =
    let reader = expected _ e in
    let n = into_is OpenTree _ s rest reader.2 in
    subst (λ (x : Statement). statement x ts rest) n.2 (reader.0, (us, word, reader.1), name_is _ _ _ n.1)

close_sound : (ts us : List Token) (s : Statement) (rest : List Token) → ts ≡ Word (codes "CLOSE") ∷ us
    → close_at us ≡ Read s rest → statement s ts rest
unfolding close_at
close_sound ts us s rest word e =
    let reader = expected _ e in
    let n = into_is CloseTree _ s rest reader.2 in
    subst (λ (x : Statement). statement x ts rest) n.2 (reader.0, (us, word, reader.1), name_is _ _ _ n.1)

reader_sound : Sound statement reader_at
unfolding reader_at
reader_sound ts s rest e =
    elim (front_is (Word (codes "OPEN")) ts e) [
      | inl a ↦ open_sound ts _ s rest a.0 a.1
      | inr a ↦
          elim (front_is (Word (codes "READ")) ts (rw a.0 at a.1)) [
            | inl b ↦ read_sound ts _ s rest b.0 b.1
            | inr b ↦
                elim (front_is (Word (codes "CLOSE")) ts (rw b.0 at b.1)) [
                  | inl c ↦ close_sound ts _ s rest c.0 c.1
                  | inr c ↦ control_sound ts s rest (rw c.0 at c.1)
                ]
          ]
    ]

change_sound : Sound statement change_at
unfolding change_at
change_sound ts s rest e =
    elim (front_is (Word (codes "INSERT")) ts e) [
      | inl a ↦ insert_sound ts _ s rest a.0 a.1
      | inr a ↦
          elim (front_is (Word (codes "UPDATE")) ts (rw a.0 at a.1)) [
            | inl b ↦ update_sound ts _ s rest b.0 b.1
            | inr b ↦
                elim (front_is (Word (codes "DELETE")) ts (rw b.0 at b.1)) [
                  | inl c ↦ delete_sound ts _ s rest c.0 c.1
                  | inr c ↦ reader_sound ts s rest (rw c.0 at c.1)
                ]
          ]
    ]

statement_sound : Sound statement statement_at
unfolding statement_at
statement_sound ts s rest e =
    elim (front_is (Word (codes "SELECT")) ts e) [
      | inl a ↦ query_sound ts _ s rest a.0 a.1
      | inr a ↦
          elim (front_is (Word (codes "CREATE")) ts (rw a.0 at a.1)) [
            | inl b ↦ create_sound ts _ s rest b.0 b.1
            | inr b ↦
                elim (front_is (Word (codes "DROP")) ts (rw b.0 at b.1)) [
                  | inl c ↦ drop_sound ts _ s rest c.0 c.1
                  | inr c ↦ change_sound ts s rest (rw c.0 at c.1)
                ]
          ]
    ]

statement_complete : (s : Statement) (ts : List Token) → statement s ts [] → statement_at ts ≡ Read s []
unfolding statement_at change_at reader_at control_at prune_at open_at close_at
statement_complete (CreateTree n e es v) ts p = rw (p.1.1.1.1, create_complete n e es v ts [] p refl) refl
statement_complete (DropTree n) ts p = rw (p.1.1.1, drop_complete n ts [] p refl) refl
statement_complete (InsertValues n cs t others) ts p = rw (p.1.1.1.1.1, values_complete n cs t others ts p) refl
statement_complete (InsertSelect n cs q) ts p = rw (p.1.1.1.1, insert_select_complete n cs q ts p) refl
statement_complete (UpdateTree n q a others c) ts p = rw (p.1.1.1.1.1, update_complete n q a others c ts p) refl
statement_complete (DeleteTree n q c) ts p = rw (p.1.1.1.1, delete_complete n q c ts p) refl
statement_complete (QueryTree q keys) ts p = rw (p.1.1.1.1.1.1.1.1, query_complete q keys ts p) refl
statement_complete StartTree ts p = rw (p.1, expected_of p.2) refl
statement_complete CommitTree ts p = rw (p.1, noise_eaten (codes "WORK") p.0 [] p.2 refl) refl
statement_complete RollbackTree ts p = rw (p.1, noise_eaten (codes "WORK") p.0 [] p.2 refl) refl
statement_complete (AtTree m) ts p = rw (p.1, expected_of refl, moment_complete p.0 m [] p.2) refl
statement_complete (PruneTree m) ts p =
    let words = p.1.1 in
    rw (words.1, expected_of words.2, expected_of p.1.2, moment_complete p.0 m [] p.2) refl
statement_complete (OpenTree n) ts p = rw (p.1.1, expected_of p.1.2, name_of p.0 n [] p.2) refl
statement_complete (ReadTree n q keys) ts p = rw (p.1.1.1, read_complete n q keys ts p) refl
statement_complete (CloseTree n) ts p = rw (p.1.1, expected_of p.1.2, name_of p.0 n [] p.2) refl

-- what is read is the statement that the tokens spell
pub reads_statement : (ts : List Token) (s : Statement) → read_statement ts ≡ Some s → IsStatement s ts
reads_statement ts s e = statement_sound ts s [] (whole_is (statement_at ts) s e)

-- the statement that the tokens spell is read
pub statement_is_read : (ts : List Token) (s : Statement) → IsStatement s ts → read_statement ts ≡ Some s
statement_is_read ts s p = ap whole (statement_complete s ts p)

-- a token list spells at most one statement
pub spells_once : SpellsOnce
spells_once ts s t p q =
    let a = statement_is_read ts s p in
    let b = statement_is_read ts t q in
    cc
