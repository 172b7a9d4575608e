-- What code stands on.
use Rattle.std.specs.Prelude.{◌≡◌, Bool, T}
use Rattle.std.specs.FinMap.Entries.{is_sorted}
use Rattle.jpa_value.specs.Value.{identity_cmp}
use Rattle.jpa_model.specs.declared.unit.PersistenceUnit.{PersistenceUnit}
use Rattle.jpa_behaviour.specs.Behaviour.{World}
use Rattle.jpa_work.specs.context.Steps.{Done}
use Rattle.jpa_work.specs.context.Work.{Work}
use Rattle.jpa_operations.specs.fetch.Grown.{IsReady}
use Rattle.jpa_flush.specs.flush.Flush.{flush_if}

-- operations may go on, and what is seen stands in rising order
pub record IsReadyToAsk (m : PersistenceUnit) (w : Work) : Type 0 where
  pub ready : IsReady m w
  pub rising : T (is_sorted identity_cmp w.view)

-- so it is after the flush, if there is one
abbrev pub StaysReady : Bool → World → Work → Type 0
StaysReady flushes world w = (v : Work) → flush_if flushes world w ≡ Done tt v → IsReadyToAsk world.model v
