use Rattle.std.proofs.Common.{◌≡◌, drop}
use Rattle.std.specs.List.{position_from}
use Rattle.jpql_types.specs.Scope.{same_variable}
use Rattle.jpql_types.proofs.paths.place_of.Given as goal

abbrev pub invariant-loop-place : goal.invariant-loop-place
invariant-loop-place l =
    position_from (λ v. same_variable v.name l.name) l.place (drop l.place l.scope) ≡ position_from (λ v. same_variable v.name l.name) 0 l.scope
