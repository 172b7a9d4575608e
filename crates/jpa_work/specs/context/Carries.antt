-- What code that carries an operation out says of it: what it did, and what of the work stays as it was.
use Rattle.std.specs.Prelude.{◌≡◌, Result}
use Rattle.jpa_value.specs.declared.refusal.Cause.{Cause}
use Rattle.jpa_work.specs.declared.context.work.UnitOfWork.{UnitOfWork}
use Rattle.jpa_work.specs.context.Steps.{Op, Meets}
use Rattle.jpa_work.specs.context.Undo.{now, since}

-- It meets the operation from the work as it was. The set that the manager sees stays, and what undoing gives.
pub record Carries {A : Type 0} (op : Op A) (r : Result A Cause) (old new : UnitOfWork) : Type 0 where
  pub meets : Meets r (now new) (op (now old))
  pub view : new.view ≡ old.view
  pub since : since new ≡ since old
