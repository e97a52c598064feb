use Rattle.std.proofs.Common.{◌≤◌, sym, ap, subst, ◌∙◌, ℕ, List, length, drop}
use Rattle.tql_journal.specs.Windows.{Seen}
use Rattle.tql_journal.proofs.WindowLemmas.{skipped}
use Rattle.tql_journal.proofs.window.Window.skip.Goals as goal

pub returns-clause-bytes : goal.returns-clause-bytes
returns-clause-bytes c =
    let same = ap (λ (s : Seen). s.bytes) c.self.view_is in
    skipped c.self.inside.bytes.items c.self.inside.start c.self.inside.stop c.args.count
    (subst (λ (z : List ℕ). c.args.count ≤ length z) (sym same) c.requires)
    ∙ ap (λ (z : List ℕ). drop c.args.count z) same
