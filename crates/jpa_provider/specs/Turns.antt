-- The layers of a manager's open transaction go to work and come back.
use Rattle.std.specs.Prelude.{◌≡◌, ℕ, true, false, List, slice_set}
use Rattle.jpa_open.specs.Opened.{Opened, Away, begun_over, seen_over}
use Rattle.jpa_provider.specs.declared.session.EntityManager.{EntityManager}
use Rattle.jpa_provider.specs.Serving.{manager_in, is_begun_status}

-- these layers went to work over what is committed, and those that were at work before went away
pub record AreExchanged (layers : Away) (before : Opened) (away : Away) (after : Opened) : Type 0 where
  pub begun_away : begun_over away before.committed ≡ before.begun
  pub seen_away : seen_over away before.committed ≡ before.kept
  pub begun : after.begun ≡ begun_over layers before.committed
  pub kept : after.kept ≡ seen_over layers before.committed
  pub seen : after.seen ≡ after.kept

-- where the manager's transaction is open its layers and those at work changed places; else nothing
-- changed
pub record HaveTurned (old : List EntityManager) (m : ℕ) (before : Opened) (new : List EntityManager)
    (after : Opened) : Type 0 where
  pub layers : Away
  pub managers : new ≡ slice_set old m (record (manager_in old m) { layers = layers })
  pub committed : after.committed ≡ before.committed
  pub begun : is_begun_status (manager_in old m).status ≡ true →
      AreExchanged (manager_in old m).layers before layers after
  pub none : is_begun_status (manager_in old m).status ≡ false → (layers ≡ (manager_in old m).layers) × (after ≡ before)
