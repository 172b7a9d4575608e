-- What a call of one manager leaves of the marks of another one, with whom it shares the objects.
use Rattle.std.specs.Prelude.{◌≡◌, ◌≢◌, ◌⊎◌, ℕ, Bool, true, not, ◌||◌, List, length, map}
use Rattle.std.specs.List.{AllByRecursion, filter}
use Rattle.jpa_model.specs.declared.unit.PersistenceUnit.{PersistenceUnit}
use Rattle.jpa_work.specs.declared.heap.Life.{Life}
use Rattle.jpa_work.specs.declared.heap.LiveObject.{LiveObject}
use Rattle.jpa_work.specs.heap.Objects.{object_at, with_life}
use Rattle.jpa_work.specs.declared.context.Entry.{Entry}
use Rattle.jpa_work.specs.declared.context.work.UnitOfWork.{UnitOfWork}
use Rattle.jpa_work.specs.context.Marks.{Marks}
use Rattle.jpa_work.specs.context.Undo.{now}
use Rattle.jpa_work.specs.context.Work.{Work, object, state_of, state_from, is_managed, is_removed, unlocked}
use Rattle.jpa_flush.specs.flush.Marked.{AreMarked, AreNoted, GoesOn, before, keeps_others}

-- the same objects, as another manager with its context works on them
abbrev pub seen_by : ℕ → List Entry → Work → Work
seen_by k es w = record w { manager = k; context = es }

-- where no noted object was or is another manager's, the marks of each other manager say what they
-- said
abbrev pub OthersGoOn : Type 0
OthersGoOn =
    (m : PersistenceUnit) (k : ℕ) (es : List Entry) (marks : Marks) (w v : Work) (os : List (ℕ × LiveObject)) →
    AreNoted w v os → k ≢ w.manager → GoesOn w v →
    AllByRecursion (λ (o : ℕ × LiveObject). keeps_others w.manager o.1 (object v o.0) ≡ true) os →
    AreMarked m (seen_by k es w) marks → AreMarked m (seen_by k es v) marks

-- what a call leaves of the marks of each other manager
abbrev pub OthersStay : UnitOfWork → Type 0
OthersStay u =
    (m : PersistenceUnit) (k : ℕ) (es : List Entry) (marks : Marks) → k ≢ (now u).manager →
    AreMarked m (seen_by k es (before u)) marks →
    AreMarked m (seen_by k es (now u)) marks

-- ---- objects that are let go

-- what is removed for a manager, and what it holds
abbrev pub is_removed_by : ℕ → Life → Bool
is_removed_by m life = is_removed (state_from m life)

-- whether an object is managed or removed for a manager
abbrev pub is_held_by : ℕ → Life → Bool
is_held_by m life = is_removed_by m life || is_managed (state_from m life)

-- some objects whose life passes a test are let go: they are as they were, and detached
pub record LetsGo (test : Life → Bool) (xs ys : List LiveObject) : Type 0 where
  pub count : length ys ≡ length xs
  pub each : (n : ℕ) → (object_at ys n ≡ object_at xs n)
      ⊎ ((test (object_at xs n).life ≡ true) × (object_at ys n ≡ with_life (object_at xs n) Life.Detached))

-- a manager's own marks stay where removed objects are let go
abbrev pub OwnStay : Type 0
OwnStay =
    (m : PersistenceUnit) (w v : Work) (marks : Marks) → v.manager ≡ w.manager → v.context ≡ w.context →
    LetsGo (is_removed_by w.manager) w.objects v.objects →
    AreMarked m w marks → AreMarked m v marks

-- another manager's stay where a manager lets go what it holds
abbrev pub TheirsStay : Type 0
TheirsStay =
    (m : PersistenceUnit) (k : ℕ) (es : List Entry) (marks : Marks) (w v : Work) → k ≢ w.manager →
    LetsGo (is_held_by w.manager) w.objects v.objects →
    AreMarked m (seen_by k es w) marks → AreMarked m (seen_by k es v) marks

-- ---- the end of a commit

-- the context as a commit leaves it: removed objects have left, and locks are over
abbrev pub ended : Work → Work
ended w = record w { context = map unlocked (filter (λ (e : Entry). not (is_removed (state_of w e.object))) w.context) }
