-- Which listeners and callbacks hear an event, in which order, and what they do to the object
-- (Jakarta Persistence 3.1, chapter 3.5).
use Rattle.std.specs.Prelude.{ℕ, suc, Bool, true, false, List, [], ◌∷◌, ◌++◌, map, slice_get, Option, Some, None}
use Rattle.std.specs.Prelude.{if◌then◌else◌}
use Rattle.std.specs.List.{flat_map, list_any, filter, zip}
use Rattle.jpa_value.specs.declared.value.Value.{Value}
use Rattle.jpa_value.specs.declared.refusal.Cause.{Cause}
use Rattle.jpa_value.specs.declared.refusal.PersistenceFault.{PersistenceFault}
use Rattle.jpa_model.specs.declared.unit.PersistenceUnit.{PersistenceUnit}
use Rattle.jpa_model.specs.declared.unit.Listener.{Listener}
use Rattle.jpa_value.specs.declared.event.LifecycleEvent.{LifecycleEvent}
use Rattle.jpa_model.specs.declared.unit.Member.{Member}
use Rattle.jpa_model.specs.declared.unit.Attribute.{Attribute}
use Rattle.jpa_model.specs.declared.unit.VersionColumn.{VersionColumn}
use Rattle.jpa_model.specs.Chains.{chain, entity_at, attributes_of, root_of, member_of, part_name}
use Rattle.jpa_behaviour.specs.declared.Image.{Image}
use Rattle.jpa_behaviour.specs.declared.Named.{Named}
use Rattle.jpa_behaviour.specs.declared.Heard.{Heard}
use Rattle.jpa_behaviour.specs.Behaviour.{World}
use Rattle.jpa_work.specs.declared.heap.LiveObject.{LiveObject}
use Rattle.jpa_work.specs.heap.Objects.{version_value, with_value}
use Rattle.jpa_work.specs.heap.Assign.{fits_attribute}
use Rattle.jpa_work.specs.context.Work.{Work, object, with_object, told}
use Rattle.jpa_lifecycle.specs.declared.firing.Fired.{Fired}
use Rattle.jpa_work.specs.context.Steps.{Outcome, Done, Refused, Op}

-- ---- who hears

-- whether two life cycle events are the same
abbrev pub same_event : LifecycleEvent → LifecycleEvent → Bool
same_event LifecycleEvent.PrePersist LifecycleEvent.PrePersist = true
same_event LifecycleEvent.PostPersist LifecycleEvent.PostPersist = true
same_event LifecycleEvent.PreRemove LifecycleEvent.PreRemove = true
same_event LifecycleEvent.PostRemove LifecycleEvent.PostRemove = true
same_event LifecycleEvent.PreUpdate LifecycleEvent.PreUpdate = true
same_event LifecycleEvent.PostUpdate LifecycleEvent.PostUpdate = true
same_event LifecycleEvent.PostLoad LifecycleEvent.PostLoad = true
same_event _ _ = false

-- the classes from the lowest that leaves the listeners of its superclasses out
abbrev pub heard_from : List ℕ → PersistenceUnit → List ℕ → List ℕ
heard_from kept m [] = kept
heard_from kept m (c ∷ cs) =
    if (entity_at m c).exclude_super then heard_from (c ∷ []) m cs else heard_from (kept ++ c ∷ []) m cs

-- none where a class of the chain leaves them out
abbrev pub default_listeners : PersistenceUnit → List ℕ → List Listener
default_listeners m classes = if list_any (λ c. (entity_at m c).exclude_default) classes then [] else m.listeners

-- default listeners, listeners of the chain, callbacks of the chain
abbrev pub hearers : PersistenceUnit → ℕ → List Listener
hearers m class =
    default_listeners m (chain m class)
    ++ flat_map (λ c. (entity_at m c).listeners) (heard_from [] m (chain m class))
    ++ flat_map (λ c. (entity_at m c).callbacks) (chain m class)

-- whether a listener is for an event
abbrev pub hears : LifecycleEvent → Listener → Bool
hears event l = list_any (same_event event) l.events

-- the names of those among these that hear the event
abbrev pub hearing : LifecycleEvent → List Listener → List (List ℕ)
hearing event ls = map (λ l. l.name) (filter (hears event) ls)

-- the names of those that hear the event, in the order in which they run
abbrev pub order : PersistenceUnit → ℕ → LifecycleEvent → List (List ℕ)
order m class event = hearing event (hearers m class)

-- ---- what a listener sees

-- names with their values, as a listener sees them
abbrev pub named : List (List ℕ × Value) → List Named
named = map (λ p. record { name = p.0; value = p.1 })

-- the version as a listener sees it, where the hierarchy has one
abbrev pub version_image : Option VersionColumn → LiveObject → List Named
version_image None x = []
version_image (Some v) x = record { name = v.name; value = version_value x.version } ∷ []

-- what a listener sees: entity, event, key parts, version and attributes, each by its name
abbrev pub image_of : PersistenceUnit → LifecycleEvent → LiveObject → Image
image_of m event x =
    record {
      entity = (entity_at m x.class).name;
      event = event;
      values = named (zip (map (part_name (root_of m x.class)) (root_of m x.class).key) x.key)
          ++ version_image (root_of m x.class).version x
          ++ named (zip (map (λ a. a.name) (attributes_of m x.class)) x.values);
    }

-- ---- what it changes

-- an attribute takes a value that fits it; nothing else takes one
abbrev pub takes : List Attribute → Option Member → Value → Bool
takes attributes None v = false
takes attributes (Some (Member.KeyPart i)) v = false
takes attributes (Some Member.Version) v = false
takes attributes (Some (Member.Attribute i)) v = fits_attribute (slice_get attributes i) v
takes attributes (Some (Member.Relation r)) v = false

-- an object with a value in a member, where there is the member
abbrev pub assigned_to : Option Member → LiveObject → Value → LiveObject
assigned_to None x v = x
assigned_to (Some member) x v = with_value x member v

-- the object after the assignments, unless one is not allowed
abbrev pub assigned : PersistenceUnit → List Named → LiveObject → Option LiveObject
assigned m [] x = Some x
assigned m (a ∷ as') x =
    let member = member_of m x.class a.name in
    if takes (attributes_of m x.class) member a.value then assigned m as' (assigned_to member x a.value) else None

-- ---- firing

-- what was fired, with a listener before that ran, too
abbrev pub after_name : List ℕ → Fired → Fired
after_name name f = record f { names = name ∷ f.names }

-- why a listener or callback refuses: it threw, or assigned what is not allowed
abbrev pub IsCallbackRefusal : Option Cause → Type 0
IsCallbackRefusal None = Unit {0}
IsCallbackRefusal (Some (Cause.Listener text)) = Unit {0}
IsCallbackRefusal (Some (Cause.Persistence PersistenceFault.Callback)) = Unit {0}
IsCallbackRefusal (Some r) = ⊥

-- after a listener's assignments: the next ones see the object as it is then
abbrev pub after_assignments : (LiveObject → Fired) → List ℕ → LiveObject → Option LiveObject → Fired
after_assignments next name x None =
    record { names = name ∷ []; object = x; refusal = Some (Cause.Persistence PersistenceFault.Callback) }
after_assignments next name x (Some y) = after_name name (next y)

-- after a listener's answer: it assigns, or it threw, and nothing runs after it
abbrev pub after_answer : (LiveObject → Fired) → PersistenceUnit → List ℕ → LiveObject → Heard → Fired
after_answer next m name x (Heard.Assign list) = after_assignments next name x (assigned m list x)
after_answer next m name x (Heard.Throw text) =
    record { names = name ∷ []; object = x; refusal = Some (Cause.Listener text) }

-- after a listener: the object then, and why it refused, if it did
abbrev pub after_turn : (LiveObject → Fired) → List ℕ → LiveObject → Option Cause → Fired
after_turn next name y None = after_name name (next y)
after_turn next name y (Some r) = record { names = name ∷ []; object = y; refusal = Some r }

-- one after another; nothing runs after a refusal
abbrev pub fired_by : World → LifecycleEvent → List (List ℕ) → LiveObject → Fired
fired_by world event [] x = record { names = []; object = x; refusal = None }
fired_by world event (name ∷ names) x =
    after_answer (λ y. fired_by world event names y) world.model name x
    (world.heard name (image_of world.model event x))

-- the listeners and callbacks of an event, run one after another on an object (chapter 3.5)
abbrev pub fire : World → LifecycleEvent → LiveObject → Fired
fire world event x = fired_by world event (order world.model x.class event) x

-- the event is told, whether or not a listener runs
abbrev pub told_fired : LifecycleEvent → ℕ → Fired → Work → Work
told_fired event n f w = told (record { event = event; object = suc n; ran = f.names }) (with_object n f.object w)

-- the end of a callback: done, or refused with the events that were told
abbrev pub ended : Option Cause → Work → Outcome (Unit {0})
ended None w = Done tt w
ended (Some r) w = Refused r w.events

-- the event happens to the object
abbrev pub callback : World → LifecycleEvent → ℕ → Op (Unit {0})
callback world event n w = let f = fire world event (object w n) in ended f.refusal (told_fired event n f w)
