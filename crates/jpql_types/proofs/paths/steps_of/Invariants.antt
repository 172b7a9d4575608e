use Rattle.std.proofs.Common.{◌≡◌, ◌++◌, drop, option_map}
use Rattle.jpql_types.specs.Scope.{steps_of}
use Rattle.jpql_types.specs.Within.{IsClass, AreSteps}
use Rattle.jpql_types.proofs.paths.steps_of.Given as goal

abbrev pub invariant-loop-place : goal.invariant-loop-place
invariant-loop-place l = record {
  class : IsClass l.metamodel l.class;
  within : AreSteps l.metamodel l.steps;
  steps : steps_of l.metamodel l.fn.class l.names ≡ option_map (λ more. l.steps ++ more) (steps_of l.metamodel l.class (drop l.place l.names));
}
