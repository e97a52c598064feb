use Rattle.std.proofs.Common.{refl, sym, ap, string_bytes}
use Rattle.tql_spec.specs.Text.{heading_text}
use Rattle.tql_result.proofs.Joining.{joined_parts}
use Rattle.tql_result.proofs.Pushing.{sent_none, step, last}
use Rattle.tql_result.proofs.heading.push_joined.Goals as goal

pub returns-in_ok-push_heading-in-Some : goal.returns-in_ok-push_heading-in-Some
returns-in_ok-push_heading-in-Some g c =
    last _
    (step _ (sent_none _ _ _)
    (joined_parts heading_text string_bytes 124 _ _ _ _ c.in-Some.ensures.cases.0
    (ap heading_text (sym c.as_str.ensures.value)))
    c.in_ok-push_heading-in-Some.ensures)
    refl c.push_next_headings.ensures
