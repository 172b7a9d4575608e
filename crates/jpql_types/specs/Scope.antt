-- Variables in scope, and what paths from them mean (chapter 4.4).
use Rattle.std.specs.Prelude.{ℕ, Bool, true, false, not, ◌&&◌, nat_le, List, [], ◌∷◌, length, slice_get, Option, Some}
use Rattle.std.specs.Prelude.{None, option_map, if◌then◌else◌}
use Rattle.std.specs.List.{list_any, position_from}
use Rattle.std.specs.Str.{str_eq_ignore_ascii_case}
use lib.Pointwise.{pointwise}
use Rattle.jpa_model.specs.Chains.{same_name, member_of, root_of, relations_of, is_to_one}
use Rattle.jpa_model.specs.declared.unit.PersistenceUnit.{PersistenceUnit}
use Rattle.jpa_model.specs.declared.unit.Relation.{Relation}
use Rattle.jpa_model.specs.declared.unit.Member.{Member}
use Rattle.jpql_trees.specs.declared.tree.Path.{Path}
use Rattle.jpql_trees.specs.tree.Names.{Text}
use Rattle.jpql_trees.specs.tree.Steps.{◌>>=◌}
use Rattle.jpql_types.specs.declared.scope.Variable.{Variable}
use Rattle.jpql_types.specs.declared.scope.Clause.{Clause}
use Rattle.jpql_trees.specs.declared.typed.path.Step.{Step}
use Rattle.jpql_trees.specs.declared.typed.path.TypedPath.{TypedPath}

-- a value under a condition
abbrev pub when : {A : Type 0} → Bool → A → Option A
when true a = Some a
when false a = None

-- ---- variables, those of outer blocks first

-- the identification variables that may be named, with their classes (chapter 4.4.2)
abbrev pub Scope : Type 0
Scope = List Variable

-- whether two variables are one: the case of ASCII letters is ignored (chapter 4.4.2)
abbrev pub same_variable : Text → Text → Bool
same_variable = str_eq_ignore_ascii_case

-- the place of the first variable of a name
abbrev pub place_of : Scope → Text → Option ℕ
place_of scope x = position_from (λ v. same_variable v.name x) 0 scope

-- whether no variable of a name may be named yet: in a scope no two have one name (chapter 4.4.2)
abbrev pub is_new : Scope → Text → Bool
is_new scope x = not (list_any (λ v. same_variable v.name x) scope)

-- the class of the variable at a place
abbrev pub class_at : Scope → ℕ → Option ℕ
class_at scope place = option_map (λ v. v.class) (slice_get scope place)

-- ---- steps

-- the relation that a step goes along
abbrev pub relation_of : PersistenceUnit → Step → Option Relation
relation_of m s = along s.member
  where
    along : Member → Option Relation
    along (Member.Relation r) = slice_get (relations_of m s.class) r
    along (Member.KeyPart i) = None
    along Member.Version = None
    along (Member.Attribute i) = None

-- the class that a step leads to, along any relation, to one object and to many
abbrev pub target : PersistenceUnit → Step → Option ℕ
target m s = relation_of m s >>= λ r. Some r.target

-- the class that a step leads to along a relation to one object
abbrev pub target_of_one : PersistenceUnit → Step → Option ℕ
target_of_one m s = relation_of m s >>= λ r. when (is_to_one r.side) r.target

-- the class that a step leads to along a relation to many objects
abbrev pub target_of_many : PersistenceUnit → Step → Option ℕ
target_of_many m s = relation_of m s >>= λ r. when (not (is_to_one r.side)) r.target

-- the step to the member of a name, where the class has one
abbrev pub step_at : PersistenceUnit → ℕ → Text → Option Step
step_at m class name = member_of m class name >>= λ member. Some (record { class = class; member = member })

-- a step from a variable, and the place of that
abbrev pub step_from : PersistenceUnit → Scope → Text → Text → Option (ℕ × Step)
step_from m scope x name =
    place_of scope x >>= λ place. class_at scope place >>= λ class. step_at m class name >>= λ s. Some (place, s)

-- the name of an embedded id, which is one step with that of a part
abbrev pub is_embedded : PersistenceUnit → ℕ → Text → Bool
is_embedded m class name = is (root_of m class).embedded
  where
    is : Option Text → Bool
    is None = false
    is (Some id) = same_name id name

-- the step to the key part of a name, where the class has one
abbrev pub part_at : PersistenceUnit → ℕ → Text → Option Step
part_at m class name = position_from (λ part. same_name part.name name) 0 (root_of m class).key
    >>= λ i. Some (record { class = class; member = Member.KeyPart i })

-- whether a path ends with this name, or with that of a part after it
abbrev pub is_last : PersistenceUnit → ℕ → Text → List Text → Bool
is_last m class name [] = true
is_last m class name (part ∷ names) = is_embedded m class name

-- the last step of a path: to a member, or to a part of an embedded id (chapter 4.4.4)
abbrev pub last_step : PersistenceUnit → ℕ → Text → List Text → Option Step
last_step m class name [] = step_at m class name
last_step m class name (part ∷ []) = part_at m class part
last_step m class name (part ∷ next ∷ names) = None

-- the steps that names are, from a class: each but the last along a relation to one object
abbrev pub steps_of : PersistenceUnit → ℕ → List Text → Option (List Step)
steps_of m class [] = Some []
steps_of m class (name ∷ names) =
    if is_last m class name names then option_map (λ s. s ∷ []) (last_step m class name names)
    else step_at m class name >>= λ s. target_of_one m s >>= λ c. steps_of m c names >>= λ steps. Some (s ∷ steps)

-- ---- paths

-- what a path means
abbrev pub path_of : PersistenceUnit → Scope → Path → Option TypedPath
path_of m scope p =
    place_of scope p.variable >>= λ place. class_at scope place >>= λ class. steps_of m class p.names >>= λ steps.
    Some (record { variable = place; class = class; steps = steps })

-- whether two paths are written with the same variable and the same names
abbrev pub same_path : Path → Path → Bool
same_path p q = same_variable p.variable q.variable && pointwise same_name p.names q.names

-- how many steps the clause allows
abbrev pub allows_steps : Clause → ℕ → Bool
allows_steps Clause.On n = nat_le n 1
allows_steps _ n = true

-- over groups, a path outside aggregates is a grouping path
abbrev pub allows_path : Clause → List Path → Path → Bool
allows_path Clause.Grouped groups p = list_any (same_path p) groups
allows_path Clause.Having groups p = list_any (same_path p) groups
allows_path _ groups p = true

-- what a path means where the clause allows it
abbrev pub resolved : PersistenceUnit → List Path → Scope → Clause → Path → Option TypedPath
resolved m groups scope clause p =
    path_of m scope p >>= λ path. when (allows_steps clause (length path.steps) && allows_path clause groups p) path
