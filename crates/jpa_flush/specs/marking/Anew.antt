-- How marks are made anew at the end of a call: entries that it may have touched are looked at, and
-- each other one stands as it did and keeps its mark (Jakarta Persistence 3.1, chapter 3.2.4).
use Rattle.std.specs.Prelude.{◌≡◌, ◌<◌, ◌⊎◌, ℕ, false, length, slice_index_or}
use Rattle.jpa_model.specs.declared.unit.PersistenceUnit.{PersistenceUnit}
use Rattle.jpa_work.specs.heap.Objects.{object_at}
use Rattle.jpa_work.specs.declared.context.Entry.{Entry}
use Rattle.jpa_work.specs.declared.context.work.UnitOfWork.{UnitOfWork}
use Rattle.jpa_work.specs.context.Marks.{Marks, is_marked}
use Rattle.jpa_work.specs.context.Undo.{now}
use Rattle.jpa_work.specs.context.Work.{Work}
use Rattle.jpa_flush.specs.flush.Marked.{IsUntouched}

-- its object is marked where a flush has to look at the entry, and nowhere else unless each object
-- is
pub record IsTold (m : PersistenceUnit) (w : Work) (k : Marks) (e : Entry) : Type 0 where
  pub looked : is_marked k e.object ≡ false → IsUntouched m w k.linked e
  pub taken : k.all ≡ false → IsUntouched m w k.linked e → is_marked k e.object ≡ false

-- of each entry the marks say what is so; but those that were missed, by their places, have the
-- marks that they had
pub record IsGoneOver (m : PersistenceUnit) (w : Work) (Missed : ℕ → Type 0) (old new : Marks) : Type 0 where
  pub all : new.all ≡ old.all
  pub linked : new.linked ≡ old.linked
  pub each : (i : ℕ) (d : Entry) → i < length w.context → IsTold m w new (slice_index_or w.context i d)
      ⊎ ((is_marked new (slice_index_or w.context i d).object ≡ is_marked old (slice_index_or w.context i d).object)
      × Missed i)

-- ---- since the changes were last kept

-- the entry at a place is as it was, where there was one
abbrev pub StandsAt : UnitOfWork → ℕ → Type 0
StandsAt u i = (d : Entry) → i < length u.context.since → slice_index_or u.context.since i d
    ≡ slice_index_or u.context.now i d

-- the object of the entry at a place is as it was, where there was one
abbrev pub HasObjectAsItWas : UnitOfWork → ℕ → Type 0
HasObjectAsItWas u i =
    (d : Entry) → (slice_index_or u.context.now i d).object < length u.objects.since →
    object_at u.objects.since (slice_index_or u.context.now i d).object
    ≡ object_at u.objects.now (slice_index_or u.context.now i d).object

-- there was an entry at a place
abbrev pub WasThere : UnitOfWork → ℕ → Type 0
WasThere u i = i < length u.context.since

-- nothing of it was touched
abbrev pub IsMissed : UnitOfWork → ℕ → Type 0
IsMissed u i = StandsAt u i × (HasObjectAsItWas u i × WasThere u i)

-- of an entry that was touched no mark is left where a flush need not look at it, unless each
-- object is marked
abbrev pub TakesMarksAway : PersistenceUnit → UnitOfWork → Marks → Type 0
TakesMarksAway m u k =
    k.all ≡ false → (i : ℕ) (d : Entry) → i < length u.context.now → (IsMissed u i → ⊥) →
    IsUntouched m (now u) k.linked (slice_index_or u.context.now i d) →
    is_marked k (slice_index_or u.context.now i d).object ≡ false
