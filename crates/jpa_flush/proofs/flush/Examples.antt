-- A changed person, a removed one and a new one: what a flush writes, takes out and tells, and what the next one finds.
use Rattle.std.specs.Prelude.{◌≡◌, refl, ℕ, ℤ, pos, Bool, true, false, List, [], ◌∷◌, map, Option, Some, None}
use Rattle.jpa_value.specs.declared.value.Value.{Value}
use Rattle.jpa_value.specs.declared.value.Kind.{Kind}
use Rattle.jpa_value.specs.declared.value.Identity.{Identity}
use Rattle.jpa_value.specs.declared.event.LifecycleEvent.{LifecycleEvent}
use Rattle.jpa_value.specs.declared.refusal.Cause.{Cause}
use Rattle.jpa_protocol.specs.declared.event.Told.{Told}
use Rattle.jpa_model.specs.declared.unit.Origin.{Origin}
use Rattle.jpa_model.specs.declared.unit.PersistenceUnit.{PersistenceUnit}
use Rattle.jpql_trees.specs.declared.tree.Language.{Language}
use Rattle.jpa_behaviour.specs.declared.Heard.{Heard}
use Rattle.jpa_behaviour.specs.Behaviour.{World}
use Rattle.jpa_stored.specs.declared.objects.stored.Stored.{Stored}
use Rattle.jpa_work.specs.declared.heap.Life.{Life}
use Rattle.jpa_work.specs.declared.heap.LiveObject.{LiveObject}
use Rattle.jpa_work.specs.declared.context.Base.{Base}
use Rattle.jpa_work.specs.declared.context.Entry.{Entry}
use Rattle.jpa_work.specs.declared.context.Lock.{Lock}
use Rattle.jpa_work.specs.context.Steps.{Done, Outcome, Refused}
use Rattle.jpa_work.specs.context.Work.{Work}
use Rattle.jpa_operations.specs.fetch.Load.{load}
use Rattle.jpa_flush.specs.flush.Flush.{flush}
use Rattle.jpa_flush.specs.flush.Marked.{is_calm}
use Rattle.jpa_operations.specs.ops.Names.{has_distinct_entries}
use Rattle.jpa_flush.specs.flush.Plan.{plan_of, write_each}

-- persons with a name and a version
abbrev unit : PersistenceUnit
unit = record {
  revision = 1;
  listeners = [];
  entities =
      record {
        name = 112 ∷ [];
        origin =
            Origin.Root (record {
              table = 1;
              key = record { name = 105 ∷ []; kind = Kind.Int } ∷ [];
              embedded = None;
              generated = false;
              version = Some (record { name = 118 ∷ []; column = 1 });
            });
        discriminator = 112 ∷ [];
        attributes = record { name = 110 ∷ []; kind = Kind.Text; column = 2; required = true; converter = None } ∷ [];
        relations = [];
        listeners = [];
        callbacks = [];
        exclude_default = false;
        exclude_super = false;
      }
      ∷ [];
}

abbrev world : World
world = record { model = unit; heard = λ name image. Heard.Assign []; column = λ name v. Some v; attribute = λ name v. Some v; language = Language.Profile }

abbrev key : ℕ → List Value
key n = Value.Int (pos n) ∷ []

abbrev id : ℕ → Identity
id n = record { table = 1; key = key n }

abbrev row : ℕ → ℕ → Stored
row version letter = record { class = 0; version = Some (pos version); values = Value.Text (letter ∷ []) ∷ []; owned = [] }

abbrev person : ℕ → Option ℤ → ℕ → Life → LiveObject
person n version letter life = record { class = 0; key = key n; version = version; values = Value.Text (letter ∷ []) ∷ []; relations = []; life = life }

abbrev entry : ℕ → ℕ → Option Base → Entry
entry object n base = record { object = object; key = key n; lock = Lock.Unlocked; base = base }

abbrev base : ℕ → ℕ → Option Base
base version letter = Some (record { stored = row version letter; members = [] })

-- person 1 is changed from A to B, person 2 is removed, person 3 is new; the set has 1 and 2, the latter in this version
abbrev work : ℕ → Work
work version = record {
  manager = 0;
  objects = person 1 (Some (pos 4)) 66 (Life.Managed 0) ∷ person 2 (Some (pos 7)) 67 (Life.Removed 0) ∷ person 3 None 68 (Life.Managed 0) ∷ [];
  context = entry 0 1 (base 4 65) ∷ entry 1 2 (base 7 67) ∷ entry 2 3 None ∷ [];
  numbers = 1 ∷ [];
  view = (id 1, row 4 65) ∷ (id 2, row version 67) ∷ [];
  events = [];
}

abbrev told : LifecycleEvent → ℕ → Told
told event object = record { event = event; object = object; ran = [] }

abbrev flushed : Work
flushed = record {
  manager = 0;
  objects = person 1 (Some (pos 5)) 66 (Life.Managed 0) ∷ person 2 (Some (pos 7)) 67 (Life.Removed 0) ∷ person 3 (Some (pos 0)) 68 (Life.Managed 0) ∷ [];
  context = entry 0 1 (base 5 66) ∷ entry 1 2 None ∷ entry 2 3 (base 0 68) ∷ [];
  numbers = 1 ∷ [];
  view = (id 1, row 5 66) ∷ (id 3, row 0 68) ∷ [];
  events =
      told LifecycleEvent.PreUpdate 1 ∷ told LifecycleEvent.PostUpdate 1 ∷ told LifecycleEvent.PostRemove 2 ∷ told LifecycleEvent.PostPersist 3 ∷ [];
}

apart : has_distinct_entries unit (work 7) ≡ true
apart = refl

once : flush world (work 7) ≡ Done tt flushed
once = refl

-- nothing is left to be written
again : flush world flushed ≡ Done tt flushed
again = refl

-- another transaction changed the row of the removed person
stale : flush world (work 8) ≡ Refused Cause.OptimisticLock (told LifecycleEvent.PreUpdate 1 ∷ [])
stale = refl

-- the plan makes the same set
planned : write_each (plan_of unit (work 7)) (work 7).view ≡ flushed.view
planned = refl

-- ---- what a flush need not look at

-- one is changed, one is removed, one was not written
looked_at : map (is_calm unit (work 7)) (work 7).context ≡ false ∷ false ∷ false ∷ []
looked_at = refl

-- what was written is as its base says; the removed one has none
left : map (is_calm unit flushed) flushed.context ≡ true ∷ false ∷ true ∷ []
left = refl

abbrev all_calm : Outcome ℕ → List Bool
all_calm (Done n w) = map (is_calm unit w) w.context
all_calm (Refused r events) = []

-- so is what was loaded
loaded : all_calm (load world (id 1) (row 4 65) (record (work 7) { objects = []; context = [] })) ≡ true ∷ []
loaded = refl
