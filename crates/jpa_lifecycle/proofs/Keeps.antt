-- What listeners and callbacks leave of an object, and an event of a work: values of attributes are all that they change.
use Rattle.std.proofs.Common.{◌≡◌, ◌∙◌, ℕ, Bool, true, false, List, [], ◌∷◌, length, refl, ap, sym, subst}
use Rattle.std.specs.Prelude.{Option, Some, None, if◌then◌else◌}
use Rattle.std.proofs.lemmas.Bool.{false≢true}
use Rattle.std.proofs.lemmas.List.{length-set}
use Rattle.jpa_value.specs.declared.value.Value.{Value}
use Rattle.jpa_value.specs.declared.refusal.Cause.{Cause}
use Rattle.jpa_value.specs.declared.event.LifecycleEvent.{LifecycleEvent}
use Rattle.jpa_model.specs.declared.unit.Attribute.{Attribute}
use Rattle.jpa_model.specs.declared.unit.Member.{Member}
use Rattle.jpa_model.specs.declared.unit.PersistenceUnit.{PersistenceUnit}
use Rattle.jpa_model.specs.Chains.{attributes_of, member_of}
use Rattle.jpa_behaviour.specs.declared.Heard.{Heard}
use Rattle.jpa_behaviour.specs.declared.Named.{Named}
use Rattle.jpa_behaviour.specs.Behaviour.{World}
use Rattle.jpa_work.specs.declared.heap.LiveObject.{LiveObject}
use Rattle.jpa_work.specs.heap.Shape.{HasShape}
use Rattle.jpa_work.specs.context.Work.{Work, with_object, object as object_of}
use Rattle.jpa_work.specs.context.Steps.{Done}
use Rattle.jpa_lifecycle.specs.declared.firing.Fired.{Fired}
use Rattle.jpa_lifecycle.specs.Callbacks.{takes, assigned_to, assigned, after_assignments, after_answer, image_of, fired_by, order, IsCallbackRefusal, ended, told_fired, callback}

-- as many values, and everything else as it was
pub record IsRevalued (x y : LiveObject) : Type 0 where
  pub same : y ≡ record x { values = y.values }
  pub count : length y.values ≡ length x.values

pub revalued_twice : (x y z : LiveObject) → IsRevalued x y → IsRevalued y z → IsRevalued x z
revalued_twice x y z h g = record { same = g.same ∙ ap (λ (o : LiveObject). record o { values = z.values }) h.same; count = g.count ∙ h.count }

pub revalued_none : (x : LiveObject) → IsRevalued x x
revalued_none x = record { same = refl; count = refl }

pub revalued_shape : (m : PersistenceUnit) (x y : LiveObject) → IsRevalued x y → HasShape m x → HasShape m y
revalued_shape m x y h s = rw h.same (record { class = s.class; key = s.key; values = h.count ∙ s.values; relations = s.relations })

one_assigned : (as' : List Attribute) (member : Option Member) (x : LiveObject) (v : Value) → takes as' member v ≡ true → IsRevalued x (assigned_to member x v)
one_assigned as' None x v h = absurd (false≢true h)
one_assigned as' (Some (Member.KeyPart i)) x v h = absurd (false≢true h)
one_assigned as' (Some Member.Version) x v h = absurd (false≢true h)
one_assigned as' (Some (Member.Attribute i)) x v h = record { same = refl; count = length-set x.values i v }
one_assigned as' (Some (Member.Relation r)) x v h = absurd (false≢true h)

abbrev IfMade : LiveObject → Option LiveObject → Type 0
IfMade x None = Unit {0}
IfMade x (Some y) = IsRevalued x y

more_assigned : (x y : LiveObject) (o : Option LiveObject) → IsRevalued x y → IfMade y o → IfMade x o
more_assigned x y None h g = tt
more_assigned x y (Some z) h g = revalued_twice x y z h g

all_assigned : (m : PersistenceUnit) (list : List Named) (x : LiveObject) → IfMade x (assigned m list x)
all_assigned m [] x = revalued_none x
all_assigned m (a ∷ list) x =
    let member = member_of m x.class a.name in
    let made = assigned_to member x a.value in
    by (takes (attributes_of m x.class) member a.value) refl (all_assigned m list made)
  where
    by : (b : Bool) → takes (attributes_of m x.class) (member_of m x.class a.name) a.value ≡ b →
        IfMade (assigned_to (member_of m x.class a.name) x a.value) (assigned m list (assigned_to (member_of m x.class a.name) x a.value)) →
        IfMade x (if b then assigned m list (assigned_to (member_of m x.class a.name) x a.value) else None)
    by true e rest =
        let made = assigned_to (member_of m x.class a.name) x a.value in
        more_assigned x made (assigned m list made) (one_assigned (attributes_of m x.class) (member_of m x.class a.name) x a.value e) rest
    by false e rest = tt

-- ---- firing

-- what became of an object: other values at most, and a refusal that is a listener's
pub record IsFiredFrom (x : LiveObject) (f : Fired) : Type 0 where
  pub object : IsRevalued x f.object
  pub refusal : IsCallbackRefusal f.refusal

module _ (world : World) (event : LifecycleEvent) where
  after_made : (next : LiveObject → Fired) (name : List ℕ) (x : LiveObject) (o : Option LiveObject) → ((y : LiveObject) → IsFiredFrom y (next y)) → IfMade x o → IsFiredFrom x (after_assignments next name x o)
  after_made next name x None h g = record { object = revalued_none x; refusal = tt }
  after_made next name x (Some y) h g = record { object = revalued_twice x y (next y).object g (h y).object; refusal = (h y).refusal }

  after_heard : (next : LiveObject → Fired) (name : List ℕ) (x : LiveObject) (heard : Heard) → ((y : LiveObject) → IsFiredFrom y (next y)) → IsFiredFrom x (after_answer next world.model name x heard)
  after_heard next name x (Heard.Assign list) h = after_made next name x (assigned world.model list x) h (all_assigned world.model list x)
  after_heard next name x (Heard.Throw text) h = record { object = revalued_none x; refusal = tt }

  pub fired_from : (names : List (List ℕ)) (x : LiveObject) → IsFiredFrom x (fired_by world event names x)
  fired_from [] x = record { object = revalued_none x; refusal = tt }
  fired_from (name ∷ names) x =
      after_heard (λ y. fired_by world event names y) name x (world.heard name (image_of world.model event x)) (λ y. fired_from names y)

pub fired_refusal : (world : World) (event : LifecycleEvent) (names : List (List ℕ)) (x : LiveObject) (f : Fired) → f ≡ fired_by world event names x → IsCallbackRefusal f.refusal
fired_refusal world event names x f e = subst (λ (o : Fired). IsCallbackRefusal o.refusal) (sym e) (fired_from world event names x).refusal

-- ---- an event

-- an event happened to object n of a work: its object has other values at most, and nothing else is other but what was told
pub record HasHappened (n : ℕ) (w v : Work) : Type 0 where
  pub object : LiveObject
  pub revalued : IsRevalued (object_of w n) object
  pub same : v ≡ record (with_object n object w) { events = v.events }

done_with : (refusal : Option Cause) (w v : Work) → ended refusal w ≡ Done tt v → v ≡ w
done_with None w v e = cc
done_with (Some r) w v e = absurd cc

pub happened : (world : World) (event : LifecycleEvent) (n : ℕ) (w v : Work) → callback world event n w ≡ Done tt v → HasHappened n w v
happened world event n w v e =
    let names = order world.model (object_of w n).class event in
    let f = fired_by world event names (object_of w n) in
    let is : v ≡ told_fired event n f w = done_with f.refusal (told_fired event n f w) v e in
    record {
      object = f.object;
      revalued = (fired_from world event names (object_of w n)).object;
      same = is ∙ (λ i. record (with_object n f.object w) { events = sym (ap (λ (u : Work). u.events) is) i });
    }
