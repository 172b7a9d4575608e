use Rattle.std.proofs.Common.{◌≡◌, take, length}
use Rattle.jpa_model.specs.Chains.{relations_of}
use Rattle.jpa_object_rows.specs.meaning.Sets.{targets_in}
use Rattle.jpa_object_rows.specs.mapper.Pairs.{owned_with}
use Rattle.jpa_object_rows.proofs.mapper.reading.owned_with.Given as goal

abbrev pub invariant-loop-at : goal.invariant-loop-at
invariant-loop-at l = record {
  filled : l.owned ≡ owned_with (targets_in l.metamodel l.pairs l.id) (take l.at (relations_of l.metamodel l.class)) l.initial.owned;
  whole : length l.owned ≡ length l.initial.owned;
}
