use Rattle.std.proofs.Common.{take, length, ◌-◌, ◌≤◌}
use Rattle.jpa_lines.specs.lines.Run.{GoesOn}
use Rattle.jpa_lines.proofs.lines.run.take_piece.Given as goal

abbrev pub invariant-lines : goal.invariant-lines
invariant-lines g l = record {
  within : l.done ≤ length l.piece;
  gone : GoesOn l.language g.P.PersistenceProvider.steps l.fn.provider l.provider l.fn.held.items l.held.items (take l.done l.piece) (g.W.Write.contents l.fn.writer) (g.W.Write.contents l.writer);
}

abbrev pub decreases-lines : goal.decreases-lines
decreases-lines g l = length l.piece - l.done
