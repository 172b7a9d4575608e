-- Other managers beside a commit: what is kept back for their transactions, so that these see what
-- they saw.
use Rattle.std.specs.Prelude.{◌≡◌, ◌≢◌, ◌<◌, ℕ, T, true, false, List, length}
use Rattle.std.specs.FinMap.Entries.{is_sorted}
use Rattle.jpa_value.specs.declared.value.Identity.{Identity}
use Rattle.jpa_value.specs.Value.{identity_cmp}
use Rattle.jpa_stored.specs.objects.Sets.{StoredSet}
use Rattle.jpa_open.specs.Opened.{Opened, AreAllChanged, IsKeptBack, IsUndone, IsUntouched}
use Rattle.jpa_provider.specs.declared.session.EntityManager.{EntityManager}
use Rattle.jpa_provider.specs.declared.session.Session.{Session}
use Rattle.jpa_provider.specs.Serving.{manager_in, is_begun_status}

-- in the order of identities, each once
abbrev pub Rises : StoredSet → Type 0
Rises s = T (is_sorted identity_cmp s)

-- a manager for whom something may be kept back: over what is committed then, its transaction is
-- what it was
pub record IsHeld (before : StoredSet) (old : EntityManager) (after : StoredSet) (new : EntityManager) : Type 0 where
  pub status : new.status ≡ old.status
  pub mode : new.mode ≡ old.mode
  pub context : new.context ≡ old.context
  pub idle : is_begun_status old.status ≡ false → new.layers ≡ old.layers
  pub untouched : is_begun_status old.status ≡ true → IsUntouched before old.layers after new.layers

-- all managers but the one at work, which stays as it is
pub record AreHeld (before : StoredSet) (old : List EntityManager) (m : ℕ) (after : StoredSet)
    (new : List EntityManager) : Type 0 where
  pub others : (k : ℕ) → k ≢ m → IsHeld before (manager_in old k) after (manager_in new k)
  pub own : manager_in new m ≡ manager_in old m
  pub count : length new ≡ length old

-- what stands under these identities is kept back for the manager at this place, if it's another
-- one whose transaction is open
abbrev pub IsTold : ℕ → List EntityManager → List Identity → ℕ → Type 0
IsTold m managers ids k =
    k ≢ m → is_begun_status (manager_in managers k).status ≡ true → IsKeptBack ((manager_in managers k).layers).back ids

-- and for each such one
abbrev pub AreTold : ℕ → List EntityManager → List Identity → Type 0
AreTold m managers ids = (k : ℕ) → k < length managers → IsTold m managers ids k

-- over what the manager at work sees, the transactions of others are what they are over what is
-- committed
abbrev pub IsBeside : ℕ → Session → Type 0
IsBeside m s = AreHeld (s.work.view).committed s.managers.items m (s.work.view).seen s.managers.items

-- it changed what is under these identities alone, and both sets are in order, so that what others see
-- can be kept back
pub record CanKeepBack (view : Opened) (ids : List Identity) : Type 0 where
  pub elsewhere : AreAllChanged view ids
  pub committed : Rises view.committed
  pub seen : Rises view.seen

-- the manager at work sees what it saw, undone too, and over what is committed the others are what they
-- were
pub record SeeStill (m : ℕ) (old : List EntityManager) (before : Opened) (new : List EntityManager)
    (after : Opened) : Type 0 where
  pub seen : after.seen ≡ before.seen
  pub undone : IsUndone before after
  pub held : AreHeld before.committed old m before.committed new

-- there is room for what the manager at work sees, and once it is committed the others are what they
-- are
pub record HasRoom (m : ℕ) (managers : List EntityManager) (view : Opened) : Type 0 where
  pub ready : view.is_ready ≡ true
  pub beside : AreHeld view.committed managers m view.seen managers
