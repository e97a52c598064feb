use Rattle.std.proofs.Common.{◌∙◌, ap, sym, Some}
use Rattle.std.specs.Prelude.{is_some, string_bytes}
use Rattle.std.specs.HashMap.{get_by_text}
use Rattle.std.specs.Map.{update}
use Rattle.std.specs.Str.{bytes_eq}
use Rattle.std.proofs.lemmas.Map.Text.{hash_map_updates_text}
use Rattle.tql_bind_draft.proofs.PeriodLaws.{comes, none_there, some_there, stays}
use Rattle.tql_bind_draft.proofs.period_names.PeriodNames.add.Goals as goal

pub returns-in-Some : goal.returns-in-Some
returns-in-Some c =
    let old = c.args.self.now in
    let n = c.args.name.now in
    let found = sym c.place_of.ensures ∙ c.in-Some.is in
    record {
      places = stays (get_by_text old.first) n c.in-Some.first c.args.place found;
      repeated = some_there (is_some old.repeated) (get_by_text old.first n) c.in-Some.first found;
    }

pub returns-in_ok-insert-in-None : goal.returns-in_ok-insert-in-None
returns-in_ok-insert-in-None c =
    let old = c.args.self.now in
    let new = c.insert.new.self in
    let n = c.args.name.now in
    let p = c.args.place in
    let key = string_bytes c.in_ok-name-in-None.name in
    let none = sym c.place_of.ensures ∙ c.in-None.is in
    record {
      places = comes (get_by_text old.first) (get_by_text new) n p none
          (λ m. hash_map_updates_text key old.first new (Some p) c.in_ok-insert-in-None.ensures.updates m
          ∙ ap (λ bs. update bytes_eq (get_by_text old.first) bs (Some p) m) c.in_ok-name-in-None.ensures.ok);
      repeated = none_there (is_some old.repeated) (get_by_text old.first n) none;
    }
