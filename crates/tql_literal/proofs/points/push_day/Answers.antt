use Rattle.tql_literal.proofs.Ascii.{valid_ascii}
use Rattle.tql_literal.proofs.points.push_day.Goals as goal

pub push_ascii-requires : goal.push_ascii-requires
push_ascii-requires c = valid_ascii _ _ _ _ c.day_parts-parts.ensures.valid c.date_bytes.ensures
