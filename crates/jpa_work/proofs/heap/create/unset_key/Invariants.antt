use Rattle.std.proofs.Common.{◌≡◌, ◌++◌, map, drop}
use Rattle.jpa_value.specs.declared.value.Value.{Value}
use Rattle.jpa_work.proofs.heap.create.unset_key.Given as goal

abbrev pub invariant-loop-part : goal.invariant-loop-part
invariant-loop-part l = l.key ++ map (λ part. Value.Null) (drop l._part-index l.parts) ≡ map (λ part. Value.Null) l.parts
