use Rattle.std.proofs.Common.{◌≡◌, drop, length}
use Rattle.jpa_provider.specs.Serving.{detached_all}
use Rattle.jpa_provider.proofs.ending.detach_objects.Given as goal

-- what is left of the objects leads from those as they are to the whole
abbrev pub invariant-loop-place : goal.invariant-loop-place
invariant-loop-place l = record {
  led : detached_all (drop l.place-index l.gone) l.objects.now ≡ detached_all l.gone l.fn.objects.now;
  length : length l.objects.now ≡ length l.fn.objects.now;
}
