-- What a manager at work keeps so that it can undo: what it works on now, and what undoing gives.
use Rattle.std.specs.Prelude.{◌≡◌, ◌<◌, ℕ, All, Bool, List, [], length, true, if◌then◌else◌}
use Rattle.jpa_model.specs.declared.unit.PersistenceUnit.{PersistenceUnit}
use Rattle.jpa_stored.specs.objects.Sets.{StoredSet, all_shaped}
use Rattle.jpa_open.specs.Opened as opened
use Rattle.jpa_work.specs.declared.heap.LiveObject.{LiveObject}
use Rattle.jpa_work.specs.heap.Objects.{object_at, is_whole}
use Rattle.jpa_work.specs.heap.Shape.{HasShape}
use Rattle.jpa_work.specs.declared.context.Entry.{Entry}
use Rattle.jpa_work.specs.context.Marks.{Marks}
use Rattle.jpa_work.specs.declared.context.work.UnitOfWork.{UnitOfWork}
use Rattle.jpa_work.specs.context.Work.{Work}

-- the work as it is
abbrev pub now : UnitOfWork → Work
now u = record {
  manager = u.manager;
  objects = u.objects.now;
  context = u.context.now;
  numbers = u.numbers.now;
  view = opened.now u.view;
  events = u.events;
}

-- the work where it is kept: without a transaction the set that the manager sees stays as it was
abbrev pub now_kept : Bool → UnitOfWork → Work
now_kept is_begun u = if is_begun then now u else record (now u) { view = opened.since u.view }

-- what undoing gives, who is at work, and the marks, which no operation changes: also what is
-- committed, what was at the transaction's begin, and the set that it saw before this call
pub record Since : Type 0 where
  pub manager : ℕ
  pub objects : List LiveObject
  pub context : List Entry
  pub marks : Marks
  pub numbers : List ℕ
  pub kept : StoredSet
  pub begun : StoredSet
  pub committed : StoredSet

-- what undoing gives of a unit of work
abbrev pub since : UnitOfWork → Since
since u =
    record {
      manager = u.manager;
      objects = u.objects.since;
      context = u.context.since;
      marks = u.context.marks;
      numbers = u.numbers.since;
      kept = u.view.kept;
      begun = u.view.begun;
      committed = u.view.committed;
    }

-- the set that the manager sees then
abbrev pub view_since : Since → StoredSet
view_since s = s.kept

-- the work to which a manager is led back, of which nothing is told
abbrev pub undone : ℕ → Since → Work
undone manager s = record {
  manager = manager;
  objects = s.objects;
  context = s.context;
  numbers = s.numbers;
  view = view_since s;
  events = [];
}

-- nothing is to be undone
pub record IsKept (u : UnitOfWork) : Type 0 where
  pub objects : u.objects.since ≡ u.objects.now
  pub context : u.context.since ≡ u.context.now
  pub numbers : u.numbers.since ≡ u.numbers.now
  pub view : u.view.seen ≡ u.view.kept

-- an entry's object has the key under which it entered, which is whole
pub record IsKeyed (objects : List LiveObject) (e : Entry) : Type 0 where
  pub same : (object_at objects e.object).key ≡ e.key
  pub whole : is_whole e.key ≡ true

-- what code that goes by places stands on: objects and the set have the shape of their classes;
-- entries name objects and know their keys; there is a next number for each class
pub record IsPlaced (m : PersistenceUnit) (w : Work) : Type 0 where
  pub objects : All (HasShape m) w.objects
  pub entries : All (λ e. e.object < length w.objects) w.context
  pub keyed : All (IsKeyed w.objects) w.context
  pub numbers : length w.numbers ≡ length m.entities
  pub view : all_shaped m w.view ≡ true
