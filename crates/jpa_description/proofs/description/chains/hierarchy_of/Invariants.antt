use Rattle.std.proofs.Common.{◌≡◌, ◌<◌, length}
use Rattle.std.specs.Prelude.{filter, ◌==◌, All}
use Rattle.std.specs.List.{range_with_len}
use Rattle.jpa_model.specs.Drafted.{chain, first_of}
use Rattle.jpa_description.proofs.description.chains.hierarchy_of.Given as goal

abbrev pub invariant-loop-class : goal.invariant-loop-class
invariant-loop-class l = record {
  found : l.members ≡ filter (λ class. first_of (chain l.draft class) == l.root) (range_with_len 0 l.class);
  within : All (λ class. class < length l.draft.entities) l.members;
}
