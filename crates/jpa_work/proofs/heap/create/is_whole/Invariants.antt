use Rattle.std.proofs.Common.{◌≡◌, drop}
use Rattle.jpa_work.specs.heap.Objects.{is_whole}
use Rattle.jpa_work.proofs.heap.create.is_whole.Given as goal

abbrev pub invariant-loop-part : goal.invariant-loop-part
invariant-loop-part l = is_whole (drop l.part-index l.key) ≡ is_whole l.key
