-- The flush as a plan: what it does with each entry of the context, and what it writes or takes out
-- under which identity.
use Rattle.std.specs.Prelude.{ℕ, ℤ, Bool, true, false, not, ◌&&◌, is_some, List, [], ◌∷◌, map, Option, Some, None}
use Rattle.std.specs.Prelude.{option_map, ◌==◌}
use Rattle.std.specs.List.{list_any}
use Rattle.jpa_value.specs.declared.value.Identity.{Identity}
use Rattle.jpa_value.specs.declared.refusal.Cause.{Cause}
use Rattle.jpa_value.specs.declared.refusal.PersistenceFault.{PersistenceFault}
use Rattle.jpa_value.specs.declared.event.LifecycleEvent.{LifecycleEvent}
use Rattle.jpa_model.specs.declared.unit.PersistenceUnit.{PersistenceUnit}
use Rattle.jpa_model.specs.Chains.{is_versioned}
use Rattle.jpa_behaviour.specs.Behaviour.{World}
use Rattle.jpa_stored.specs.declared.objects.stored.Stored.{Stored}
use Rattle.jpa_stored.specs.objects.Sets.{StoredSet, with_stored, without}
use Rattle.jpa_work.specs.declared.context.Entry.{Entry}
use Rattle.jpa_work.specs.context.Work.{Work, object, identity_at, row_at, with_entry, with_object}
use Rattle.jpa_work.specs.context.Steps.{◌>>=◌, ◌>>◌, Op, done, require, read, each}
use Rattle.jpa_lifecycle.specs.Callbacks.{callback}
use Rattle.jpa_flush.specs.declared.flush.steps.FlushAction.{FlushAction}
use Rattle.jpa_flush.specs.declared.flush.planning.Planned.{Planned}
use Rattle.jpa_flush.specs.declared.flush.writing.Written.{Written}
use Rattle.jpa_flush.specs.flush.Flush.{Action, Insert, Replace, Drop, action_of, actions, stored_of, written}
use Rattle.jpa_flush.specs.flush.Flush.{first_version}
use Rattle.jpa_flush.specs.flush.Flush.{raised, post_event, same_version, same_identities, can_rise, all_convert}
use Rattle.jpa_flush.specs.flush.Flush.{settled}
use Rattle.jpa_flush.specs.flush.Flush.{all_remembered, check_actions, lowered, members_held, write_all}
use Rattle.jpa_flush.specs.flush.Flush as flushes

-- ---- steps: actions, of whose base the version alone is asked

-- an action as a step, with the version alone of its base
abbrev pub step_as : Option Action → FlushAction
step_as None = FlushAction.Keep
step_as (Some Insert) = FlushAction.Insert
step_as (Some (Replace b)) = FlushAction.Replace (b.stored).version
step_as (Some (Drop b)) = FlushAction.Drop (b.stored).version

-- the step of an entry
abbrev pub step_of : PersistenceUnit → Work → Entry → FlushAction
step_of m w e = step_as (action_of m w e)

-- PreUpdate runs on an object whose row is to be replaced (chapter 3.5)
abbrev pub update : World → ℕ → FlushAction → Op (Unit {0})
update world n FlushAction.Keep = done
update world n FlushAction.Insert = done
update world n (FlushAction.Replace version) = callback world LifecycleEvent.PreUpdate n
update world n (FlushAction.Drop version) = done

-- ---- the checks

-- there is a row, with this version
abbrev pub has_version : Option Stored → Option ℤ → Bool
has_version None version = false
has_version (Some x) version = same_version x.version version

-- the identity is free, and the values can be stored
abbrev pub check_insertion : World → ℕ → Op (Unit {0})
check_insertion world n = do
  free ← read (λ w. not (is_some (row_at w (identity_at world.model w n))))
  require free Cause.EntityExists
  convertible ← read (λ w. all_convert world (object w n))
  require convertible (Cause.Persistence PersistenceFault.Converter)

-- the row has this version, which can rise, and the values can be stored
abbrev pub check_replacement : World → ℕ → Option ℤ → Op (Unit {0})
check_replacement world n version = do
  current ← read (λ w. has_version (row_at w (identity_at world.model w n)) version)
  require current Cause.OptimisticLock
  require (can_rise version) (Cause.Persistence PersistenceFault.Version)
  convertible ← read (λ w. all_convert world (object w n))
  require convertible (Cause.Persistence PersistenceFault.Converter)

-- the row has this version
abbrev pub check_removal : PersistenceUnit → ℕ → Option ℤ → Op (Unit {0})
check_removal m n version = do
  current ← read (λ w. has_version (row_at w (identity_at m w n)) version)
  require current Cause.OptimisticLock

-- the check of a step
abbrev pub check : World → ℕ → FlushAction → Op (Unit {0})
check world n FlushAction.Keep = done
check world n FlushAction.Insert = check_insertion world n
check world n (FlushAction.Replace version) = check_replacement world n version
check world n (FlushAction.Drop version) = check_removal world.model n version

-- what a flush does after PreUpdate
abbrev pub writing : World → Op (Unit {0})
writing world = check_actions world >> write_all world

-- ---- what is written

-- the class of what stands there, if anything does
abbrev pub class_there : Option Stored → Option ℕ
class_there x = option_map (λ (o : Stored). o.class) x

-- an object of the plan: its event, and what stands under its identity before and afterwards
abbrev pub planned_as : PersistenceUnit → Work → ℕ → LifecycleEvent → Option Stored → Planned
planned_as m w n event stored =
    record {
      object = n;
      id = identity_at m w n;
      event = event;
      class_before = class_there (row_at w (identity_at m w n));
      stored = stored;
    }

-- what a plan has of an object whose row is inserted
abbrev pub insertion : PersistenceUnit → Work → ℕ → Planned
insertion m w n = planned_as m w n LifecycleEvent.PostPersist
    (Some (stored_of m w n (first_version (is_versioned m (object w n).class))))

-- what a plan has of an object whose row is replaced
abbrev pub replacement : PersistenceUnit → Work → ℕ → Option ℤ → Planned
replacement m w n version = planned_as m w n LifecycleEvent.PostUpdate (Some (stored_of m w n (raised version)))

-- what a plan has of an object whose row is dropped
abbrev pub removal : PersistenceUnit → Work → ℕ → Planned
removal m w n = planned_as m w n LifecycleEvent.PostRemove None

-- what a plan has of a step, if anything
abbrev pub planned : PersistenceUnit → Work → ℕ → FlushAction → Option Planned
planned m w n FlushAction.Keep = None
planned m w n FlushAction.Insert = Some (insertion m w n)
planned m w n (FlushAction.Replace version) = Some (replacement m w n version)
planned m w n (FlushAction.Drop version) = Some (removal m w n)

-- what the plan has of an action
abbrev pub item : PersistenceUnit → Work → ℕ × Action → Planned
item m w a = planned_as m w a.0 (post_event a.1) (written m w a.0 a.1)

-- what a plan has of an entry
abbrev pub planned_of : PersistenceUnit → Work → Entry → List Planned
planned_of m w e = map (item m w) (flushes.planned m w e (action_of m w e))

-- the plan of a flush, in the order of the context
abbrev pub plan_of : PersistenceUnit → Work → List Planned
plan_of m w = map (item m w) (actions m w)

-- ---- what becomes of a plan

-- what the set has under an identity afterwards, if anything
abbrev pub put_or_take : Option Identity → Option Stored → StoredSet → StoredSet
put_or_take None x s = s
put_or_take (Some id) None s = without (id ∷ []) s
put_or_take (Some id) (Some x) s = with_stored id x s

-- a set after one object of a plan is written or taken out
abbrev pub write : Planned → StoredSet → StoredSet
write p s = put_or_take p.id p.stored s

-- a set after the objects of a plan are written or taken out, in turn
abbrev pub write_each : List Planned → StoredSet → StoredSet
write_each [] s = s
write_each (p ∷ ps) s = write_each ps (write p s)

-- the work after the objects of a plan are settled, in turn
abbrev pub settled_by : List Planned → Work → Work
settled_by [] w = w
settled_by (p ∷ ps) w = settled_by ps (settled p.object p.stored w)

-- an entry whose row was written, and whose base remembers these members at once
abbrev pub learned_entry : List (Option (List Identity)) → Stored → Entry → Entry
learned_entry members x e = record e { base = Some (record { stored = x; members = members }); lock = lowered e.lock }

-- an object settles, and its new base remembers what its relations hold; a dropped one has no base
abbrev pub learned : PersistenceUnit → ℕ → Option Stored → Work → Work
learned m n None w = settled n None w
learned m n (Some x) w =
    with_entry n (learned_entry (members_held m w n) x) (with_object n (record (object w n) { version = x.version }) w)

-- the work after the objects of a plan have learned so, in turn
abbrev pub learned_by : PersistenceUnit → List Planned → Work → Work
learned_by m [] w = w
learned_by m (p ∷ ps) w = learned_by m ps (learned m p.object p.stored w)

-- whether an entry's object is one of a plan
abbrev pub is_planned : List Planned → Entry → Bool
is_planned plan e = list_any (λ (p : Planned). p.object == e.object) plan

-- an object of a plan once it was written
abbrev pub written_as : Planned → Written
written_as p = record { object = p.object; id = p.id; event = p.event; class_before = p.class_before }

-- the objects of a plan once they were written
abbrev pub written_by : List Planned → List Written
written_by plan = map written_as plan

-- the event of a written object runs
abbrev pub tell : World → Written → Op (Unit {0})
tell world x = callback world x.event x.object

-- the events of written objects run, in their order
abbrev pub told_by : World → List Written → Op (Unit {0})
told_by world xs = each (tell world) xs

-- the work after a plan: objects are settled, bases remember, and the view is the new set
abbrev pub applied : PersistenceUnit → List Planned → StoredSet → Work → Work
applied m plan set w = let v = all_remembered m (settled_by plan w) in record v { view = set }

-- ---- what bases remember

-- whether the same is known of a relation: nothing, or the same identities
abbrev pub same_member : Option (List Identity) → Option (List Identity) → Bool
same_member None None = true
same_member None (Some ys) = false
same_member (Some xs) None = false
same_member (Some xs) (Some ys) = same_identities xs ys

-- whether the same is known of each relation
abbrev pub same_members : List (Option (List Identity)) → List (Option (List Identity)) → Bool
same_members [] [] = true
same_members [] (y ∷ ys) = false
same_members (x ∷ xs) [] = false
same_members (x ∷ xs) (y ∷ ys) = same_member x y && same_members xs ys

-- an entry, where another does not take its place
abbrev pub entry_or : Entry → Option Entry → Entry
entry_or e None = e
entry_or e (Some y) = y
