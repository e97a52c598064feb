-- The answer to a piece of a script: a reply of the reference model, or `Accepted` for a piece without fault that is
-- checked and not run.
use Rattle.tql_spec.specs.Machine.{Reply}

pub data Answer : Type 0 where
  Replied : Reply → Answer
  Accepted : Answer
