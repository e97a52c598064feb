use Rattle.tql_literal.proofs.Ascii.{fraction_ascii}
use Rattle.tql_literal.proofs.points.push_fraction.Goals as goal

pub push_ascii-requires : goal.push_ascii-requires
push_ascii-requires c = fraction_ascii c.args.micros _ c.requires c.fraction_bytes.ensures
