-- When converters that are registered throw.
use Rattle.std.specs.Prelude.{ℕ, Bool, false, List, Option, Some, None, is_none}
use Rattle.jpa_value.specs.declared.value.Value.{Value}
use Rattle.jpa_behaviour.specs.Registered.{Meaning, Registered, column_in}
use Rattle.jpql_meaning.specs.plan.Bulk.{Throws}

module _ {L C : Type 0} (f : Meaning L C) (r : Registered L C) where
  -- a converter throws for a value where it makes nothing of it; without one nothing throws
  abbrev pub throws_by : Option (List ℕ) → Value → Bool
  throws_by None v = false
  throws_by (Some name) v = is_none (column_in f r name v)

  -- an attribute's converter throws where it makes nothing of a value for the column
  abbrev pub throws_in : Throws
  throws_in a v = throws_by a.converter v
