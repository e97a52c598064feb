-- Nodes that refer only to what is before them.
use Rattle.std.specs.Prelude.{ℕ, ◌+◌, Bool, true, ◌&&◌, nat_lt, List, [], ◌∷◌}
use Rattle.tql_expr.specs.declared.node.Node.{Node}
use Rattle.tql_expr.specs.declared.node.Node.TheVariants.{Literal, Column, Negate, Binary, CountRows, Aggregate}
use Rattle.tql_expr.specs.declared.node.Node.TheVariants.{Compare, IsNull, Related, ContainsPoint, Not, And, Or}

-- whether a node at this position refers to one of the first `count` literals and to operands before itself
abbrev pub reads_before : ℕ → ℕ → Node → Bool
reads_before count place (Literal k) = nat_lt k count
reads_before count place (Column i) = true
reads_before count place (Negate a) = nat_lt a place
reads_before count place (Binary op a b) = nat_lt a place && nat_lt b place
reads_before count place CountRows = true
reads_before count place (Aggregate f a) = nat_lt a place
reads_before count place (Compare sign a b) = nat_lt a place && nat_lt b place
reads_before count place (IsNull a) = nat_lt a place
reads_before count place (Related which a b c d) =
    (nat_lt a place && nat_lt b place) && (nat_lt c place && nat_lt d place)
reads_before count place (ContainsPoint a b c) =
    (nat_lt a place && nat_lt b place) && (nat_lt c place && nat_lt c place)
reads_before count place (Not c) = nat_lt c place
reads_before count place (And c d) = nat_lt c place && nat_lt d place
reads_before count place (Or c d) = nat_lt c place && nat_lt d place

-- whether each of these nodes does so, with the first one at this position
abbrev pub all_read_before : ℕ → ℕ → List Node → Bool
all_read_before count place [] = true
all_read_before count place (n ∷ ns) = reads_before count place n && all_read_before count (place + 1) ns
