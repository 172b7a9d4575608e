use Rattle.std.proofs.Common.{◌≡◌, drop, length}
use Rattle.jpa_operations.specs.ops.States.{detach_each}
use Rattle.jpa_provider.proofs.ending.detach_each.Given as goal

-- what is left of the entries leads from the objects as they are to the whole
abbrev pub invariant-loop-entry : goal.invariant-loop-entry
invariant-loop-entry l = record {
  led : detach_each (drop l.entry-index l.context) l.objects.now ≡ detach_each l.context l.fn.objects.now;
  length : length l.objects.now ≡ length l.fn.objects.now;
  since : l.fn.objects.since ≡ l.fn.objects.now → l.objects.since ≡ l.objects.now;
}
