-- What a flush makes of an entry that is as its base says: nothing.
use Rattle.std.specs.Prelude.{◌≡◌, true, None}
use Rattle.jpa_model.specs.declared.unit.PersistenceUnit.{PersistenceUnit}
use Rattle.jpa_work.specs.declared.context.Entry.{Entry}
use Rattle.jpa_work.specs.declared.context.Lock.{Lock}
use Rattle.jpa_work.specs.context.Work.{Work, base_of, is_managed, state_of}
use Rattle.jpa_flush.specs.flush.Flush.{action_of, remembered}
use Rattle.jpa_flush.specs.flush.Marked.{has_no_orphan}

-- There is no action for the entry, no orphan where it is that of its object, and nothing to remember; its object is
-- managed and not locked.
pub record IsAtRest (m : PersistenceUnit) (w : Work) (e : Entry) : Type 0 where
  pub action : action_of m w e ≡ None
  pub orphans : base_of w e.object ≡ e.base → has_no_orphan m w e.object ≡ true
  pub remembered : remembered m w e ≡ e
  pub managed : is_managed (state_of w e.object) ≡ true
  pub unlocked : e.lock ≡ Lock.Unlocked
