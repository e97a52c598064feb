use Rattle.std.proofs.Common.{refl, sym, subst}
use Rattle.tql_splitter.specs.Pieces.{StandsFor, Says}
use Rattle.tql_splitter.specs.Stream.{Stream}
use Rattle.tql_splitter.proofs.HoldLemmas.{given_as}
use Rattle.tql_splitter.proofs.splitter.Splitter.next_statement.Goals as goal

pub returns : goal.returns
returns c = (
  (
    refl,
    λ _. tt,
    given_as (Says c.in_ok-finished.finished c.advance.new.self.kept) (StandsFor c.piece.result) c.args.self.now
        c.advance.new.self _ c.in_ok-finished.ensures c.self.view_is
        (λ p says. c.piece.ensures p (subst (λ (s : Stream). Says c.in_ok-finished.finished s.kept p)
        (sym c.self.view_is) says)),
  ),
  record { next = tt },
)
