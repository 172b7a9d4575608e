-- What code says of an operation that it carries out and answers.
use Rattle.std.specs.Prelude.{Result, OnOk, IfOk}
use Rattle.jpa_value.specs.declared.refusal.Cause.{Cause}
use Rattle.jpa_model.specs.declared.unit.PersistenceUnit.{PersistenceUnit}
use Rattle.jpa_work.specs.declared.context.work.UnitOfWork.{UnitOfWork}
use Rattle.jpa_work.specs.context.Carries.{Carries}
use Rattle.jpa_work.specs.context.Steps.{Op}
use Rattle.jpa_work.specs.context.Undo.{now}
use Rattle.jpa_work.specs.context.Work.{Work}
use Rattle.jpa_operations.specs.fetch.Grown.{GoesOn}

-- It carries the operation out, the work goes on, and what is answered stands so in the work then.
pub record Finds {A : Type 0} (m : PersistenceUnit) (op : Op A) (stands : Work → A → Type 0) (r : Result A Cause)
    (old new : UnitOfWork) : Type 0 where
  pub carries : Carries op r old new
  pub within : IfOk r (stands (now new))
  pub goes : OnOk r (GoesOn m (now old) (now new))
