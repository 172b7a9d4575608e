use Rattle.std.proofs.Common.{◌≡◌, drop}
use Rattle.std.specs.List.{position_from}
use Rattle.jpa_model.specs.Chains.{same_name}
use Rattle.jpql_types.proofs.paths.place_of_part.Given as goal

abbrev pub invariant-loop-place : goal.invariant-loop-place
invariant-loop-place l =
    position_from (λ part. same_name part.name l.name) l.place (drop l.place l.parts) ≡ position_from (λ part. same_name part.name l.name) 0 l.parts
