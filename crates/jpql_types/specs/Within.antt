-- Classes that are places of entities, which a metamodel's look-ups ask for.
use Rattle.std.specs.Prelude.{ℕ, ◌<◌, List, length, All}
use Rattle.jpa_model.specs.declared.unit.PersistenceUnit.{PersistenceUnit}
use Rattle.jpql_trees.specs.declared.typed.path.Step.{Step}
use Rattle.jpql_trees.specs.declared.typed.path.TypedPath.{TypedPath}
use Rattle.jpql_types.specs.Scope.{Scope}

-- a number is the place of an entity
abbrev pub IsClass : PersistenceUnit → ℕ → Type 0
IsClass m class = class < length m.entities

-- the class of each variable is the place of an entity
abbrev pub IsScope : PersistenceUnit → Scope → Type 0
IsScope m scope = All (λ v. IsClass m v.class) scope

-- the class of each step is the place of an entity
abbrev pub AreSteps : PersistenceUnit → List Step → Type 0
AreSteps m steps = All (λ s. IsClass m s.class) steps

-- the classes of a path and of its steps are places of entities
abbrev pub IsPath : PersistenceUnit → TypedPath → Type 0
IsPath m p = IsClass m p.class × AreSteps m p.steps
