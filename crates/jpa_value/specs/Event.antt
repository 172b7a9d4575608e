-- The names of the life cycle events.
use Rattle.std.specs.Prelude.{ℕ, List, codes}
use Rattle.jpa_value.specs.declared.event.LifecycleEvent.{LifecycleEvent}

-- the name of a life cycle event (chapter 3.5)
abbrev pub event_name : LifecycleEvent → List ℕ
event_name LifecycleEvent.PrePersist = codes "PrePersist"
event_name LifecycleEvent.PostPersist = codes "PostPersist"
event_name LifecycleEvent.PreRemove = codes "PreRemove"
event_name LifecycleEvent.PostRemove = codes "PostRemove"
event_name LifecycleEvent.PreUpdate = codes "PreUpdate"
event_name LifecycleEvent.PostUpdate = codes "PostUpdate"
event_name LifecycleEvent.PostLoad = codes "PostLoad"
