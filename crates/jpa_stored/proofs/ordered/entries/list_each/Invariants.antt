use Rattle.std.proofs.Common.{◌<◌, ℕ, get_or}
use Rattle.jpa_stored.specs.declared.ordered.column.Column.{Column}
use Rattle.jpa_stored.specs.ordered.Values.{KeepsAll, HasEntry}
use Rattle.jpa_stored.proofs.ordered.entries.list_each.Given as goal

abbrev pub invariant-loop-column : goal.invariant-loop-column
invariant-loop-column l = record {
  kept : KeepsAll l.initial.entries.items l.entries.items;
  added : (k : ℕ) (d : Column) → k < l.column-index → HasEntry l.entries.items l.entry.0 l.entry.1 (get_or l.columns k d);
}
