-- What code of a merge says of an operation that it carries out: what it did, and that the work goes on.
use Rattle.std.specs.Prelude.{◌≡◌, Result, OnOk}
use Rattle.jpa_value.specs.declared.refusal.Cause.{Cause}
use Rattle.jpa_model.specs.declared.unit.PersistenceUnit.{PersistenceUnit}
use Rattle.jpa_behaviour.specs.Behaviour.{World}
use Rattle.jpa_work.specs.declared.context.work.UnitOfWork.{UnitOfWork}
use Rattle.jpa_work.specs.context.Carries.{Carries}
use Rattle.jpa_work.specs.context.Steps.{Op, Meets}
use Rattle.jpa_work.specs.context.Undo.{now, since}
use Rattle.jpa_operations.specs.fetch.Grown.{GoesOn}

-- It carries the operation out, and where it is done, the work goes on from what it was.
pub record CarriesOn {A : Type 0} (m : PersistenceUnit) (op : Op A) (r : Result A Cause) (old new : UnitOfWork)
    : Type 0 where
  pub carries : Carries op r old new
  pub goes : OnOk r (GoesOn m (now old) (now new))

-- The same of an operation that asks its world for the metamodel alone.
pub record CarriesOnBy {A : Type 0} (m : PersistenceUnit) (op : World → Op A) (r : Result A Cause)
    (old new : UnitOfWork) : Type 0 where
  pub meets : (world : World) → Meets r (now new) (op (record world { model = m }) (now old))
  pub goes : OnOk r (GoesOn m (now old) (now new))
  pub view : new.view ≡ old.view
  pub since : since new ≡ since old
