-- What a flush need not look at: objects that are as their bases say, and that lead to what is
-- stored (Jakarta Persistence 3.1, chapters 3.2.4 synchronization to the database, 2.9 orphan
-- removal).
use Rattle.std.specs.Prelude.{◌≡◌, ◌<◌, ◌≤◌, ◌⊎◌, ℕ, zero, suc, slice_index_or, take, true, false, Bool, not, nat_lt}
use Rattle.std.specs.Prelude.{◌==◌, ◌&&◌, ◌||◌, List, length, Option, Some, None}
use Rattle.std.specs.List.{All, AllByRecursion, list_all, list_any, enumerate_from}
use Rattle.std.specs.Ordering.{is_eq}
use Rattle.jpa_work.specs.undo.Undo.{put_back}
use Rattle.jpa_value.specs.Value.{key_cmp}
use Rattle.jpa_model.specs.declared.unit.PersistenceUnit.{PersistenceUnit}
use Rattle.jpa_model.specs.declared.unit.Relation.{Relation}
use Rattle.jpa_model.specs.Chains.{relations_of}
use Rattle.jpa_work.specs.declared.heap.Held.{Held}
use Rattle.jpa_work.specs.declared.heap.Life.{Life}
use Rattle.jpa_work.specs.declared.heap.LiveObject.{LiveObject}
use Rattle.jpa_work.specs.heap.Objects.{held_at, is_new}
use Rattle.jpa_work.specs.declared.context.Base.{Base}
use Rattle.jpa_work.specs.declared.context.Entry.{Entry}
use Rattle.jpa_work.specs.declared.context.EntityState.{EntityState}
use Rattle.jpa_work.specs.declared.context.Lock.{Lock}
use Rattle.jpa_work.specs.declared.context.work.UnitOfWork.{UnitOfWork}
use Rattle.jpa_work.specs.context.Marks.{Marks, is_marked}
use Rattle.jpa_work.specs.context.Undo.{now, since, undone}
use Rattle.jpa_work.specs.context.Work.{Work, object, state_of, state_from, is_managed}
use Rattle.jpa_operations.specs.fetch.Grown.{objects_held}
use Rattle.jpa_flush.specs.flush.Flush.{is_storable, members_held, orphans_of, same_values}
use Rattle.jpa_flush.specs.flush.Plan.{same_members}

-- ---- an object that is as its base says

-- whether there is no lock
abbrev pub is_unlocked : Lock → Bool
is_unlocked Lock.Unlocked = true
is_unlocked Lock.Read = false
is_unlocked Lock.Write = false

-- the base has its values, and remembers what its relations hold
abbrev pub is_base : PersistenceUnit → Work → ℕ → Option Base → Bool
is_base m w n None = false
is_base m w n (Some b) =
    same_values (object w n).values (b.stored).values && same_members b.members (members_held m w n)

-- an object whose key no call changes any more
abbrev pub is_named : Work → ℕ → Bool
is_named w k = nat_lt k (length w.objects) && not (is_new (object w k).life)

-- a relation holds objects whose keys no call changes any more
abbrev pub holds_named : Work → Held → Bool
holds_named w h = list_all (is_named w) (objects_held h)

-- managed, without a lock, as its base says, and leading to objects that are not new
abbrev pub is_calm : PersistenceUnit → Work → Entry → Bool
is_calm m w e =
    is_managed (state_of w e.object)
    && (is_unlocked e.lock && (is_base m w e.object e.base && list_all (holds_named w) (object w e.object).relations))

-- ---- where it leads

-- an object that persist leaves as it is, or one that may be led to
abbrev pub may_lead : Bool → EntityState → Bool
may_lead true s = is_managed s
may_lead false s = is_storable s

-- a relation leads to objects that may be led to along it
abbrev pub leads_along : Work → ℕ → ℕ × Relation → Bool
leads_along w n p = list_all (λ k. may_lead ((p.1).cascade).persist (state_of w k))
    (objects_held (held_at (object w n) p.0))

-- along relations that cascade persist to managed objects alone, along others to stored ones
abbrev pub is_linked : PersistenceUnit → Work → ℕ → Bool
is_linked m w n = list_all (leads_along w n) (enumerate_from 0 (relations_of m (object w n).class))

-- an object isn't managed, or it is linked
abbrev pub is_linked_if_managed : PersistenceUnit → Work → ℕ → Bool
is_linked_if_managed m w n = not (is_managed (state_of w n)) || is_linked m w n

-- each managed object of the context
abbrev pub are_linked : PersistenceUnit → Work → Bool
are_linked m w = list_all (λ (e : Entry). is_linked_if_managed m w e.object) w.context

-- each managed object has an entry
abbrev pub AreEntered : Work → Type 0
AreEntered w = (n : ℕ) → is_managed (state_of w n) ≡ true → list_any (λ (e : Entry). e.object == n) w.context ≡ true

-- an object has no orphan
abbrev pub has_no_orphan : PersistenceUnit → Work → ℕ → Bool
has_no_orphan m w n = length (orphans_of m w n (state_of w n)) == 0

-- no object of the context has one
abbrev pub are_without_orphans : PersistenceUnit → Work → Bool
are_without_orphans m w = list_all (λ (e : Entry). has_no_orphan m w e.object) w.context

-- ---- the invariant between calls

-- an entry that a flush need not look at: it is calm, and linked where that is known
pub record IsUntouched (m : PersistenceUnit) (w : Work) (linked : Bool) (e : Entry) : Type 0 where
  pub calm : is_calm m w e ≡ true
  pub links : linked ≡ true → is_linked m w e.object ≡ true

-- each object of the context that is not marked is as its base says
abbrev pub AreMarked : PersistenceUnit → Work → Marks → Type 0
AreMarked m w k = All (λ (e : Entry). is_marked k e.object ≡ false → IsUntouched m w k.linked e) w.context

-- ---- in a call

-- the work that undoing gives
abbrev pub before : UnitOfWork → Work
before u = undone (since u).manager (since u)

-- what the marks say, with which the call began, of what undoing gives
abbrev pub AreMarkedBefore : PersistenceUnit → UnitOfWork → Type 0
AreMarkedBefore m u = AreMarked m (before u) (since u).marks

-- what a flush stands on
pub record IsMarked (m : PersistenceUnit) (u : UnitOfWork) : Type 0 where
  pub before : AreMarkedBefore m u
  pub entered : AreEntered (now u)

-- ---- from one call to the next

-- an object that is not new, of the same class and key
pub record IsNamedStill (x y : LiveObject) : Type 0 where
  pub class : y.class ≡ x.class
  pub key : y.key ≡ x.key
  pub old : is_new y.life ≡ false

-- what a call leaves of the objects of a heap, as far as others hang on them: no object that is not
-- new takes another key
pub record GoesOn (w v : Work) : Type 0 where
  pub manager : v.manager ≡ w.manager
  pub count : length w.objects ≤ length v.objects
  pub names : (k : ℕ) → k < length w.objects → is_new (object w k).life ≡ false → IsNamedStill (object w k) (object v k)

-- what may be led to may be led to still
abbrev pub LeadsStill : Work → Work → Type 0
LeadsStill w v = (b : Bool) (k : ℕ) → is_named w k ≡ true → may_lead b (state_of w k) ≡ true → may_lead b (state_of v k)
    ≡ true

-- an entry was looked at and found untouched, or it is marked; or it stands where it did with its
-- object as it was, and was not marked
abbrev pub IsAnew : PersistenceUnit → Work → Work → Marks → Marks → Entry → Type 0
IsAnew m w v old new e =
    IsUntouched m v new.linked e
    ⊎ ((is_marked new e.object ≡ true)
    ⊎ ((i : ℕ) × (i < length w.context) × (slice_index_or w.context i e ≡ e) × (object v e.object ≡ object w e.object)
    × (is_marked old e.object ≡ false)))

-- marks that were made anew say of the work then what the old ones said of the work before
abbrev pub MarksGoOn : Type 0
MarksGoOn =
    (m : PersistenceUnit) (w v : Work) (old new : Marks) → GoesOn w v → (new.linked ≡ true → old.linked ≡ true) →
    (new.linked ≡ true → LeadsStill w v) →
    AreMarked m w old → All (IsAnew m w v old new) v.context → AreMarked m v new

-- ---- what a call may have done to an object that it noted

-- the object as it was is no manager's but this one's, or nobody's
abbrev pub is_free_for : ℕ → Life → Bool
is_free_for manager Life.New = true
is_free_for manager (Life.Managed k) = k == manager
is_free_for manager (Life.Removed k) = k == manager
is_free_for manager Life.Detached = true

-- it was new, or it is not new, of the same class and key
abbrev pub keeps_name : LiveObject → LiveObject → Bool
keeps_name x y = is_new x.life || (not (is_new y.life) && ((y.class == x.class) && is_eq (key_cmp y.key x.key)))

-- it was and is no other manager's
abbrev pub keeps_others : ℕ → LiveObject → LiveObject → Bool
keeps_others manager x y = is_free_for manager x.life && is_free_for manager y.life

-- where an object in one state might be led to, one in the other may be led to
abbrev pub keeps_link : ℕ → Life → Life → Bool
keeps_link manager old new =
    is_managed (state_from manager new)
    || (not (is_managed (state_from manager old))
    && (not (is_storable (state_from manager old)) || is_storable (state_from manager new)))

-- where an object might be led to, it may be led to as it is then
abbrev pub keeps_links : ℕ → LiveObject → LiveObject → Bool
keeps_links manager x y = keeps_link manager x.life y.life

-- the notes of the heap: w as undoing gives it, v as it is
abbrev pub AreNoted : Work → Work → List (ℕ × LiveObject) → Type 0
AreNoted w v os = w.objects ≡ take (length w.objects) (put_back v.objects os)

-- where each noted object keeps its name, each object does that is not new; and where each may be
-- led to still
abbrev pub NamesKept : Type 0
NamesKept =
    (w v : Work) (os : List (ℕ × LiveObject)) → AreNoted w v os →
    AllByRecursion (λ (o : ℕ × LiveObject). keeps_name o.1 (object v o.0) ≡ true) os →
    (k : ℕ) → k < length w.objects → is_new (object w k).life ≡ false → IsNamedStill (object w k) (object v k)

-- where each noted object keeps its links, what may be led to may be led to still
abbrev pub LinksKept : Type 0
LinksKept =
    (w v : Work) (os : List (ℕ × LiveObject)) → AreNoted w v os → v.manager ≡ w.manager →
    AllByRecursion (λ (o : ℕ × LiveObject). keeps_links w.manager o.1 (object v o.0) ≡ true) os → LeadsStill w v

-- ---- walks over some entries

-- where the walk goes on behind the first i of these places, and how far it skips
abbrev pub from : List ℕ → ℕ → ℕ
from places zero = 0
from places (suc i) = suc (slice_index_or places i 0)

-- places within so many, each above the one before
pub record AreRising (n : ℕ) (places : List ℕ) : Type 0 where
  pub within : (i : ℕ) → i < length places → slice_index_or places i 0 < n
  pub rises : (i j : ℕ) → i < j → j < length places → slice_index_or places i 0 < slice_index_or places j 0

-- they are places of entries, and of each entry elsewhere this holds
pub record AreLooked (Silent : Entry → Type 0) (es : List Entry) (places : List ℕ) : Type 0 where
  pub rising : AreRising (length es) places
  pub others : (k : ℕ) (d : Entry) → k < length es → list_any (λ p. p == k) places ≡ false →
      Silent (slice_index_or es k d)

-- entries that are untouched are as their bases say
abbrev pub UntouchedAreCalm : Type 0
UntouchedAreCalm =
    (m : PersistenceUnit) (w : Work) (linked : Bool) (es : List Entry) (places : List ℕ) →
    AreLooked (IsUntouched m w linked) es places →
    AreLooked (λ e. is_calm m w e ≡ true) es places
