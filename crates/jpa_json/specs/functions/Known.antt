-- Which stored functions a persistence unit names.
use Rattle.std.specs.Prelude.{ℕ, Bool, true, ◌&&◌, List, Option, Some, None, is_some}
use Rattle.std.specs.List.{list_all}
use Rattle.jpa_model.specs.declared.unit.Attribute.{Attribute}
use Rattle.jpa_model.specs.declared.unit.Entity.{Entity}
use Rattle.jpa_model.specs.declared.unit.Listener.{Listener}
use Rattle.jpa_model.specs.declared.unit.PersistenceUnit.{PersistenceUnit}
use Rattle.jpa_behaviour.specs.Registered.{Registered, known_as}

module _ {L C : Type 0} (r : Registered L C) where
  -- a listener or callback that is registered
  abbrev pub listener_is_known : Listener → Bool
  listener_is_known l = is_some (known_as l.name r.listeners)

  -- a converter that is registered, or none
  abbrev pub converter_is_known : Option (List ℕ) → Bool
  converter_is_known None = true
  converter_is_known (Some name) = is_some (known_as name r.converters)

  -- an attribute's converter is registered, or it has none
  abbrev pub attribute_is_known : Attribute → Bool
  attribute_is_known a = converter_is_known a.converter

  -- all that an entity names is registered
  abbrev pub entity_is_known : Entity → Bool
  entity_is_known e = list_all listener_is_known e.listeners && list_all listener_is_known e.callbacks
      && list_all attribute_is_known e.attributes

  -- each listener, callback and converter that the unit names is registered in its sort
  abbrev pub names_are_known : PersistenceUnit → Bool
  names_are_known m = list_all listener_is_known m.listeners && list_all entity_is_known m.entities
