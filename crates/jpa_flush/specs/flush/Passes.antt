-- What a flush stands on, and what code says of its passes and of what may change the set that is seen.
use Rattle.std.specs.Prelude.{◌≡◌, true, Result, OnOk, T}
use Rattle.std.specs.FinMap.Entries.{is_sorted}
use Rattle.jpa_value.specs.Value.{identity_cmp}
use Rattle.jpa_value.specs.declared.refusal.Cause.{Cause}
use Rattle.jpa_model.specs.declared.unit.PersistenceUnit.{PersistenceUnit}
use Rattle.jpa_stored.specs.objects.Sets.{IsSound}
use Rattle.jpa_work.specs.declared.context.work.UnitOfWork.{UnitOfWork}
use Rattle.jpa_work.specs.context.Carries.{Carries}
use Rattle.jpa_work.specs.context.Steps.{Op, Meets}
use Rattle.jpa_work.specs.context.Undo.{now, since}
use Rattle.jpa_operations.specs.fetch.Grown.{IsReady}
use Rattle.jpa_operations.specs.fetch.Orderly.{IsOrderly}
use Rattle.jpa_operations.specs.ops.Names.{has_distinct_entries}
use Rattle.jpa_flush.specs.flush.Marked.{IsMarked}

-- A work can be flushed (chapter 3.2.4): operations can go on, the set that it sees is sound and stands in rising
-- order, no two entries are of one identity, and the marks say which objects are as their bases say.
pub record IsFlushable (m : PersistenceUnit) (u : UnitOfWork) : Type 0 where
  pub orderly : IsOrderly m
  pub ready : IsReady m (now u)
  pub sound : IsSound m (now u).view
  pub rising : T (is_sorted identity_cmp (now u).view)
  pub distinct : has_distinct_entries m (now u) ≡ true
  pub marked : IsMarked m u

-- It carries the operation out, as a pass of a flush does: operations can go on then, and entries of different
-- identities are so still.
pub record Passes {A : Type 0} (m : PersistenceUnit) (op : Op A) (r : Result A Cause) (old new : UnitOfWork)
    : Type 0 where
  pub carries : Carries op r old new
  pub ready : OnOk r (IsReady m (now new))
  pub named : has_distinct_entries m (now old) ≡ true → OnOk r (has_distinct_entries m (now new) ≡ true)

-- It performs the operation, which may change the set that is seen; what undoing gives stays.
pub record Performs {A : Type 0} (op : Op A) (r : Result A Cause) (old new : UnitOfWork) : Type 0 where
  pub meets : Meets r (now new) (op (now old))
  pub since : since new ≡ since old
