-- Evaluating scopes one after another.
use Rattle.std.specs.Prelude.{◌≡◌, refl, Bool, true, false, List, [], ◌∷◌, ◌++◌, map}
use Rattle.std.specs.Prelude.{Option, Some, None, Result, Ok, Err, MatchResult}
use Rattle.std.proofs.Common.{sym, ap, append_assoc, ◌∙◌}
use Rattle.std.proofs.lemmas.List.{map-append}
use Rattle.tql_spec.specs.Words.{◌>>=◌, with_front, map_all, kept_if, filter_all}
use Rattle.tql_spec.specs.Datum.{Row}
use Rattle.tql_spec.specs.Expression.{Expr, Cond, eval, passes}
use Rattle.tql_spec.specs.Query.{alone, Scope}
use Rattle.tql_spec.specs.QueryLaws.{shown}
use Rattle.tql_value.specs.declared.refusal.Refusal.{Refusal}
use Rattle.tql_expr.proofs.Evaluations.{fails_with}
use Rattle.tql_expr.specs.Evaluated.{behind, Evaluated, Fails}

-- the value of a kept scope, followed by those of the rest
kept_first : (v : Option Row) (rest : Option (List Row))
    → with_front v rest ≡ with_front v (Some []) >>= λ xs. behind xs rest
kept_first None rest = refl
kept_first (Some x) None = refl
kept_first (Some x) (Some xs) = refl

-- if the rest is out of range, so is the whole
none_behind : (o : Option (List Row)) → None ≡ o >>= λ xs. behind xs None
none_behind None = refl
none_behind (Some xs) = refl

nothing_first : (rest : Option (List Row)) → rest ≡ behind [] rest
nothing_first None = refl
nothing_first (Some xs) = refl

-- one scope by its test
by_test : (f : Scope → Option Row) (s : Scope) (test : Option Bool) (kept : Option (List Scope))
    → kept_if s test kept >>= map_all f ≡ (kept_if s test (Some []) >>= map_all f) >>= λ xs. behind xs
    (kept >>= map_all f)
by_test f s None kept = refl
by_test f s (Some true) None = none_behind (with_front (f s) (Some []))
by_test f s (Some true) (Some ks) = kept_first (f s) (map_all f ks)
by_test f s (Some false) None = refl
by_test f s (Some false) (Some ks) = nothing_first (map_all f ks)

twice_behind : (done : List Row) (o rest : Option (List Row))
    → behind done (o >>= λ xs. behind xs rest) ≡ behind done o >>= λ ys. behind ys rest
twice_behind done None rest = refl
twice_behind done (Some xs) None = refl
twice_behind done (Some xs) (Some ys) = ap {B = Option (List Row)} (λ zs. Some zs) (sym (append_assoc done xs ys))

alone_none : (done : List Row) (o : Option (List Row)) → behind done o ≡ None → o ≡ None
alone_none done None e = refl
alone_none done (Some xs) e = cc

behind_each : (o p rest : Option (List Row))
    → o >>= (λ xs. behind xs (p >>= λ ys. behind ys rest)) ≡ (o >>= λ xs. behind xs p) >>= λ ys. behind ys rest
behind_each None p rest = refl
behind_each (Some xs) p rest = twice_behind xs p rest

module _ (having : List Cond) (items : List Expr) where
  -- the result for the first scope, followed by those for the others
  row_first : (s : Scope) (ss : List Scope)
      → shown having items (s ∷ ss) ≡ shown having items (s ∷ []) >>= λ xs. behind xs (shown having items ss)
  row_first s ss = by_test (λ s. map_all (eval s.group s.row) items) s (passes s.group s.row having)
      (filter_all (λ s. passes s.group s.row having) ss)

  first_shown : (s : Scope) (ss all : List Scope) (done : List Row) → all ≡ s ∷ ss
      → behind done (shown having items all) ≡ behind done (shown having items (s ∷ [])) >>= λ xs. behind xs
      (shown having items ss)
  first_shown s ss all done is =
      ap (λ ws. behind done (shown having items ws)) is ∙ ap (behind done) (row_first s ss)
      ∙ twice_behind done (shown having items (s ∷ [])) (shown having items ss)

  -- one more scope
  pub one_more_shown : (s : Scope) (ss left : List Scope) (done made : List Row) (all : Option (List Row))
      → left ≡ s ∷ ss
      → behind done (shown having items (s ∷ [])) ≡ Some made → behind done (shown having items left) ≡ all
      → behind made (shown having items ss) ≡ all
  one_more_shown s ss left done made all is e h = ap (λ o. o >>= λ xs. behind xs (shown having items ss)) (sym e)
      ∙ sym (first_shown s ss left done is) ∙ h

  -- a scope that is out of range
  pub one_not_shown : (s : Scope) (ss left : List Scope) (done : List Row) (all : Option (List Row)) → left ≡ s ∷ ss
      → behind done (shown having items left) ≡ all → behind done (shown having items (s ∷ [])) ≡ None → all ≡ None
  one_not_shown s ss left done all is h none = sym h ∙ first_shown s ss left done is
      ∙ ap (λ o. o >>= λ xs. behind xs (shown having items ss)) none

  -- one more scope at the end
  pub last_shown : (ss : List Scope) (s : Scope)
      → shown having items (ss ++ s ∷ []) ≡ shown having items ss >>= λ xs. behind xs (shown having items (s ∷ []))
  last_shown [] s = nothing_first (shown having items (s ∷ []))
  last_shown (q ∷ ss) s =
      let one = shown having items (s ∷ []) in
      row_first q (ss ++ s ∷ [])
      ∙ ap (λ o. shown having items (q ∷ []) >>= λ xs. behind xs o) (last_shown ss s)
      ∙ behind_each (shown having items (q ∷ [])) (shown having items ss) one
      ∙ ap (λ o. o >>= λ ys. behind ys one) (sym (row_first q ss))

  module _ (r : Row) (old new : List Row) where
    one_listed : (rows : List Row) → behind old (shown having items (alone r ∷ [])) ≡ Some new
        → shown having items (map alone rows) ≡ Some old → shown having items (map alone (rows ++ r ∷ [])) ≡ Some new
    one_listed rows is h =
        ap (shown having items) (map-append alone rows (r ∷ [])) ∙ last_shown (map alone rows) (alone r)
        ∙ ap (λ o. o >>= λ xs. behind xs (shown having items (alone r ∷ []))) h ∙ is

    -- one more row of a query without groups
    pub listed_if : {U : Type 0} (result : Result U Refusal)
        → Evaluated (λ _. new) (behind old (shown having items (alone r ∷ []))) result
        → MatchResult result (λ _. (rows : List Row) → shown having items (map alone rows) ≡ Some old
        → shown having items (map alone (rows ++ r ∷ [])) ≡ Some new) (Fails (shown having items (alone r ∷ [])))
    listed_if (Ok u) is = λ rows h. one_listed rows is h
    listed_if (Err e) fails =
        fails_with (behind old (shown having items (alone r ∷ []))) (shown having items (alone r ∷ [])) e
        (alone_none old (shown having items (alone r ∷ []))) fails
