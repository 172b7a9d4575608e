use Rattle.std.proofs.Common.{◌≡◌, ◌≤◌, length, take}
use Rattle.jpa_work.specs.undo.Undo.{put_back}
use Rattle.jpa_work.proofs.undo.list.UndoList.undo.Given as goal

abbrev pub invariant-loop-at : goal.invariant-loop-at
invariant-loop-at g l = record {
  since : take l.self-inside.kept (put_back l.self-inside.items.items l.self-inside.overwritten.items) ≡ l.fn.self.since;
  within : l.self-inside.kept ≤ length l.self-inside.items.items;
}

abbrev pub decreases-loop-at : goal.decreases-loop-at
decreases-loop-at g l = length l.self-inside.overwritten.items
