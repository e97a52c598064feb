-- What is left when the loop ends stays as it is.
use Rattle.std.proofs.Common.{◌≡◌, ◌∙◌, ap, sym, map, string_bytes}
use Rattle.std.specs.Str.{bytes_eq}
use Rattle.tql_options.specs.Joining.{dashes, words_joined}
use Rattle.tql_options.proofs.JoinLemmas.{ended_stay, few_stay, rest_added}
use Rattle.tql_options.proofs.joining.push_joined.Goals.{in_default, in-len2-up+then-ends_options}
use Rattle.tql_options.proofs.joining.push_joined.Goals as goal

pub returns : goal.returns
returns c =
    let left = c.loop-left.left.now in
    let stays : words_joined (map string_bytes left) ≡ map string_bytes left = elim c.if-left-lt2.branch [
      | in_default w ↦ few_stay left w.in_default.len_below
      | in-len2-up+then-ends_options w ↦ ended_stay left _ w.in-len2-up.len_at_least
          (sym (ap (λ s. bytes_eq s dashes) (w.as_str.ensures.value ∙ ap string_bytes w.word-item.is))
          ∙ sym w.ends_options.ensures ∙ w.if-ends_options.true)
    ] in
    rest_added c.push_words.result (map string_bytes c.loop-left.joined.items) (map string_bytes left) _ _
    c.loop-left.invariant stays c.push_words.ensures
