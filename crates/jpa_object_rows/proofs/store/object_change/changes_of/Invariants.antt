use Rattle.std.proofs.Common.{◌≡◌, take}
use Rattle.jpa_object_rows.specs.store.Written.{entries_in, entries_of}
use Rattle.jpa_object_rows.proofs.store.object_change.changes_of.Given as goal

-- so far
abbrev pub invariant-loop-id : goal.invariant-loop-id
invariant-loop-id l = entries_in l.changes.items ≡ entries_of l.view.seen (take l.id-index l.ids)
