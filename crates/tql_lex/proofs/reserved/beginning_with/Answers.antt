use Rattle.std.proofs.Common.{refl}
use Rattle.tql_lex.proofs.reserved.beginning_with.Goals as goal

pub returns-in-67 : goal.returns-in-67
returns-in-67 c = rw c.in-67.is (λ rest. refl)

pub returns-in-73 : goal.returns-in-73
returns-in-73 c = rw c.in-73.is (λ rest. refl)

pub returns-in-79 : goal.returns-in-79
returns-in-79 c = rw c.in-79.is (λ rest. refl)

pub returns-in-80 : goal.returns-in-80
returns-in-80 c = rw c.in-80.is (λ rest. refl)

pub returns-in-83 : goal.returns-in-83
returns-in-83 c = rw c.in-83.is (λ rest. refl)

pub returns-in-84 : goal.returns-in-84
returns-in-84 c = rw c.in-84.is (λ rest. refl)
