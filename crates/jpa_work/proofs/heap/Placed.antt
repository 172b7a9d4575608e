-- A member of a class that is a relation is one of its relations.
use Rattle.std.proofs.Common.{◌≡◌, ℕ, ◌<◌, List, length, subst, zero-add}
use Rattle.std.specs.Prelude.{Bool, true, false, Option, Some, None, option_map, IfSome, Result, if◌then◌else◌}
use Rattle.std.specs.List.{position_from}
use Rattle.jpa_value.specs.declared.refusal.Cause.{Cause}
use Rattle.jpa_model.specs.declared.unit.Member.{Member}
use Rattle.jpa_model.specs.declared.unit.PersistenceUnit.{PersistenceUnit}
use Rattle.jpa_model.specs.Chains.{same_name, part_name, is_version_name, attributes_of, relations_of, root_of, member_of, or_else}
use Rattle.jpa_model.specs.Described.{IsUnlessMemory}
use Rattle.jpa_model.proofs.Found.{position_from-within}
use Rattle.jpa_work.specs.declared.heap.LiveObject.{LiveObject}
use Rattle.jpa_work.specs.declared.heap.Handed.{Handed}
use Rattle.jpa_work.specs.heap.Objects.{object_at}
use Rattle.jpa_work.specs.heap.Assign.{set_member, set_in}
use Rattle.jpa_work.specs.heap.Shape.{IsPlaced}

pub placed : (m : PersistenceUnit) (class : ℕ) (name : List ℕ) → IsPlaced m class (member_of m class name)
placed m class name =
    part (position_from (λ part. same_name (part_name (root_of m class) part) name) 0 (root_of m class).key) (is_version_name (root_of m class) name)
    (position_from (λ a. same_name a.name name) 0 (attributes_of m class)) (position_from (λ r. same_name r.name name) 0 (relations_of m class))
    (subst (λ n. IfSome (position_from (λ r. same_name r.name name) 0 (relations_of m class)) (λ k. k < n)) (zero-add (length (relations_of m class))) (position_from-within (λ r. same_name r.name name) 0 (relations_of m class)))
  where
    part : (k : Option ℕ) (v : Bool) (a r : Option ℕ) → IfSome r (λ k. k < length (relations_of m class)) →
        IsPlaced m class (or_else (option_map Member.KeyPart k) (or_else (if v then Some Member.Version else None) (or_else (option_map Member.Attribute a) (option_map Member.Relation r))))
    part (Some k) v a r h = tt
    part None true a r h = tt
    part None false (Some a) r h = tt
    part None false None (Some r) h = h
    part None false None None h = tt

-- what is set of an object by the member that the name means is what is set by the name
pub by_name : (m : PersistenceUnit) (objects : List LiveObject) (at' : ℕ) (x : LiveObject) (name : List ℕ) (v : Handed) (member : Option Member) (r : Result LiveObject Cause) →
    x ≡ object_at objects at' → member ≡ member_of m x.class name → IsUnlessMemory r (set_member m objects x v member) → IsUnlessMemory r (set_in m objects at' name v)
by_name m objects at' x name v member r e f h =
    subst (λ y. IsUnlessMemory r (set_member m objects y v (member_of m y.class name))) e (subst (λ o. IsUnlessMemory r (set_member m objects x v o)) f h)
