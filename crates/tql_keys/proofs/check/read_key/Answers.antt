use Rattle.tql_catalog.specs.Definitions.{reference_of}
use Rattle.tql_keys.proofs.Earlier.{declared_columns}
use Rattle.tql_keys.proofs.check.read_key.Goals as goal

pub returns : goal.returns
returns c =
    let f = reference_of c.args.reference.now in
    declared_columns c.args.parent.now f.by_period f.parent_columns c.keys.ensures.right.keys c.requires
