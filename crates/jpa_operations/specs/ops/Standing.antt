-- What code that makes an object managed stands on, and what it leaves as it was.
use Rattle.std.specs.Prelude.{◌≡◌, ◌<◌, ℕ, length}
use Rattle.jpa_model.specs.declared.unit.PersistenceUnit.{PersistenceUnit}
use Rattle.jpa_work.specs.declared.context.work.UnitOfWork.{UnitOfWork}
use Rattle.jpa_work.specs.context.Undo.{now, since, IsPlaced}
use Rattle.jpa_work.specs.context.Work.{Work}
use Rattle.jpa_operations.specs.fetch.Grown.{IsReady}
use Rattle.jpa_operations.specs.fetch.Orderly.{IsOrderly}

-- An object can take a key: the unit is orderly, and objects and entries have their shapes and places.
pub record CanTakeKey (m : PersistenceUnit) (w : Work) (n : ℕ) : Type 0 where
  pub orderly : IsOrderly m
  pub placed : IsPlaced m w
  pub object : n < length w.objects

-- An object can become managed: the unit is orderly, operations can go on, and the object stands in the heap.
pub record CanPersist (m : PersistenceUnit) (w : Work) (n : ℕ) : Type 0 where
  pub orderly : IsOrderly m
  pub ready : IsReady m w
  pub object : n < length w.objects

-- No object comes or goes; the set that the manager sees stays, and what undoing gives.
pub record StaysPut (old new : UnitOfWork) : Type 0 where
  pub count : length (now new).objects ≡ length (now old).objects
  pub view : new.view ≡ old.view
  pub since : since new ≡ since old
