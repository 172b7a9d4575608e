use Rattle.jpa_lines.specs.lines.Run.{Underway}
use Rattle.jpa_lines.proofs.lines.run.answer_lines.Given as goal

abbrev pub invariant-reads : goal.invariant-reads
invariant-reads g l =
    Underway l.language g.P.PersistenceProvider.steps l.fn.provider l.provider (g.R.Read.remaining l.fn.reader) (g.R.Read.remaining l.reader) l.held.items (g.W.Write.contents l.fn.writer) (g.W.Write.contents l.writer)
