use Rattle.std.proofs.Common.{◌≡◌, map}
use Rattle.std.specs.List.{range_with_len}
use Rattle.jpa_model.specs.Kept.{lineage_of}
use Rattle.jpa_model.proofs.class_index.index_of.Given as goal

abbrev pub invariant-loop-class : goal.invariant-loop-class
invariant-loop-class l = l.found ≡ map (lineage_of l.unit) (range_with_len 0 l.class)
