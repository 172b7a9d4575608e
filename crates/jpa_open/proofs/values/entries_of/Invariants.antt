use Rattle.std.proofs.Common.{◌≡◌, ◌<◌, ℕ, get_or}
use Rattle.jpa_value.specs.declared.value.Identity.{Identity}
use Rattle.jpa_stored.specs.declared.objects.stored.Stored.{Stored}
use Rattle.jpa_stored.specs.ordered.Values.{HasEntries}
use Rattle.jpa_open.proofs.values.entries_of.Given as goal

-- those so far have theirs
abbrev pub invariant-loop-object : goal.invariant-loop-object
invariant-loop-object l = (k : ℕ) (e : Identity × Stored) → k < l.object-index → get_or l.objects k e ≡ e → HasEntries (record { columns = l.columns; entries = l.entries.items }) e.0 e.1
