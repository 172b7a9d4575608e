-- What objects hold, as it is shown without reading anything (Jakarta Persistence 3.1, chapters 2.2
-- attributes, 2.9 relations; the call is this provider's own).
use Rattle.std.specs.Prelude.{ℕ, suc, ℤ, List, [], ◌∷◌, ◌++◌, length, map, Option, Some, None, Result, Ok, Err}
use Rattle.std.specs.Prelude.{if◌then◌else◌}
use Rattle.jpa_value.specs.declared.value.Value.{Value}
use Rattle.jpa_value.specs.declared.refusal.Cause.{Cause}
use Rattle.jpa_model.specs.declared.unit.PersistenceUnit.{PersistenceUnit}
use Rattle.jpa_model.specs.Chains.{entity_at, is_versioned}
use Rattle.jpa_behaviour.specs.Behaviour.{World}
use Rattle.jpa_work.specs.declared.heap.Link.{Link}
use Rattle.jpa_work.specs.declared.heap.Collection.{Collection}
use Rattle.jpa_work.specs.declared.heap.Held.{Held}
use Rattle.jpa_work.specs.declared.heap.LiveObject.{LiveObject}
use Rattle.jpa_work.specs.heap.Objects.{object_at, place_of, version_value}
use Rattle.jpa_protocol.specs.declared.reply.Answer.{Answer}
use Rattle.jpa_protocol.specs.declared.reply.Reached.{Reached}
use Rattle.jpa_protocol.specs.declared.reply.Shown.{Shown}
use Rattle.jpa_machine.specs.machine.Machine.{Machine}

-- what a relation holds, as far as it was read
abbrev pub reached : Held → Reached
reached (Held.One Link.None) = Reached.Nothing
reached (Held.One (Link.Object n)) = Reached.Object (suc n)
reached (Held.One (Link.Key id)) = Reached.Key id.key
reached (Held.Many Collection.Unfetched) = Reached.Unread
reached (Held.Many (Collection.Fetched ns)) = Reached.Objects (map suc ns)

-- the version, where the hierarchy has one
abbrev pub version_shown : PersistenceUnit → LiveObject → List Value
version_shown m x = if is_versioned m x.class then version_value x.version ∷ [] else []

-- an object by the name of its class, what its relations hold, and its key, version and attributes
abbrev pub shown : PersistenceUnit → LiveObject → Shown
shown m x =
    record {
      entity = (entity_at m x.class).name;
      relations = map reached x.relations;
      values = x.key ++ version_shown m x ++ x.values;
    }

-- an object before others, where there are both
abbrev pub shown_onto : PersistenceUnit → List LiveObject → Option ℕ → Option (List Shown) → Option (List Shown)
shown_onto m objects None xs = None
shown_onto m objects (Some n) None = None
shown_onto m objects (Some n) (Some xs) = Some (shown m (object_at objects n) ∷ xs)

-- the objects of these numbers; none where a number names no object
abbrev pub all_shown : PersistenceUnit → List LiveObject → List ℤ → Option (List Shown)
all_shown m objects [] = Some []
all_shown m objects (n ∷ ns) = shown_onto m objects (place_of (length objects) n) (all_shown m objects ns)

-- what is shown is told, else NoSuchObject
abbrev pub told_or : Option (List Shown) → Result Answer Cause
told_or None = Err Cause.NoSuchObject
told_or (Some xs) = Ok (Answer.Shown xs)

-- the call values: what objects hold
abbrev pub values_told : List ℤ → World → Machine → Result Answer Cause
values_told ns world M = told_or (all_shown world.model M.objects ns)
