use Rattle.std.proofs.Common.{◌≡◌, ◌<◌, ℕ, get_or}
use Rattle.jpa_value.specs.declared.value.Identity.{Identity}
use Rattle.jpa_stored.specs.declared.objects.stored.Stored.{Stored}
use Rattle.jpa_stored.specs.ordered.Values.{HasEntries}
use Rattle.jpa_open.specs.Holding.{KeepsEntries}
use Rattle.jpa_open.proofs.values.add_values.Given as goal

abbrev pub invariant-loop-object : goal.invariant-loop-object
invariant-loop-object l = record {
  columns : (l.values).columns ≡ (l.initial.values).columns;
  kept : KeepsEntries l.initial.values l.values;
  added : (k : ℕ) (e : Identity × Stored) → k < l.object-index → get_or l.objects k e ≡ e → HasEntries l.values e.0 e.1;
}
