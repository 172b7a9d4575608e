-- Whose pairs the rows of join tables are.
use Rattle.std.specs.Prelude.{ℕ, Bool, true, List, length, take, Option, Some, None}
use Rattle.std.specs.List.{list_all}
use Rattle.jpa_value.specs.declared.value.Value.{Value}
use Rattle.jpa_value.specs.declared.value.Identity.{Identity}
use Rattle.jpa_model.specs.declared.unit.Root.{Root}
use Rattle.jpa_model.specs.declared.unit.PersistenceUnit.{PersistenceUnit}
use Rattle.jpa_model.specs.Chains.{root_of}
use Rattle.jpa_stored.specs.objects.Sets.{StoredSet, stored_at, is_of}
use Rattle.jpa_rows.specs.rows.Rows.{RowId, Rows}
use Rattle.jpa_object_rows.specs.meaning.Identities.{declarer_at}

-- the identity whose key begins a pair's
abbrev pub owner_of : Root → List Value → Identity
owner_of root key = record { table = root.table; key = take (length root.key) key }

-- it stands, and has the relation that the class declares; a row of another table has no owner
abbrev pub is_owned_by : PersistenceUnit → StoredSet → List Value → Option ℕ → Bool
is_owned_by m set key None = true
is_owned_by m set key (Some class) = is_of m (stored_at set (owner_of (root_of m class) key)) class

-- whether the owner of a pair's row stands in the set
abbrev pub is_owned : PersistenceUnit → StoredSet → RowId → Bool
is_owned m set id = is_owned_by m set id.key (declarer_at m id.table)

-- whether the owner of each row stands in the set
abbrev pub are_owned : PersistenceUnit → StoredSet → Rows → Bool
are_owned m set = list_all (λ e. is_owned m set e.0)
