-- A relation that a name means in a class is one of the class.
use Rattle.std.proofs.Common.{◌≡◌, ℕ, List, Option, subst, sym}
use Rattle.jpa_model.specs.declared.unit.Member.{Member}
use Rattle.jpa_model.specs.declared.unit.PersistenceUnit.{PersistenceUnit}
use Rattle.jpa_model.specs.Chains.{member_of}
use Rattle.jpa_work.specs.heap.Shape.{IsPlaced}
use Rattle.jpa_work.proofs.heap.Placed.{placed}

pub named : (m : PersistenceUnit) (class : ℕ) (name : List ℕ) (member : Option Member) → member ≡ member_of m class name → IsPlaced m class member
named m class name member e = subst (IsPlaced m class) (sym e) (placed m class name)
