-- Identities read off row ids: what is read off the bytes is a guess, which counts only where its
-- own bytes are the given ones. So each identity has one spelling, also among rows that no program
-- wrote.
use Rattle.std.specs.Prelude.{ℕ, Bool, false, ◌==◌, ◌&&◌, not, is_some, List, ◌++◌, length, drop, find, Option, Some}
use Rattle.std.specs.Prelude.{None, option_map, if◌then◌else◌}
use Rattle.std.specs.List.{list_any}
use Rattle.jpa_value.specs.declared.value.Value.{Value}
use Rattle.jpa_value.specs.declared.value.Identity.{Identity}
use Rattle.jpa_model.specs.declared.unit.Root.{Root}
use Rattle.jpa_model.specs.declared.unit.Origin.{Origin}
use Rattle.jpa_model.specs.declared.unit.Entity.{Entity}
use Rattle.jpa_model.specs.declared.unit.PersistenceUnit.{PersistenceUnit}
use Rattle.jpa_model.specs.Chains.{entity_at, root_in, root_of}
use Rattle.jpa_rows.specs.keys.Keys.{key_bytes}
use Rattle.jpa_rows.specs.keys.Reading.{key_in}
use Rattle.jpa_stored.specs.objects.Sets.{is_identity_of}
use Rattle.jpa_rows.specs.rows.Cells.{join_tables, names_representable}
use Rattle.jpa_rows.specs.laws.Entries.{IsSpelledBy}
use Rattle.jpa_object_rows.specs.meaning.Rows.{RowId, row_of, same_bytes}
use Rattle.jpa_rows.specs.rows.Tables.{classes, kinds_of}

-- ---- main rows

-- whether an origin is a root with this table
abbrev pub has_table : ℕ → Origin → Bool
has_table table (Origin.Root root) = root.table == table
has_table table (Origin.Extends parent) = false

-- the root with this table
abbrev pub root_at : PersistenceUnit → ℕ → Option Root
root_at m table = option_map (λ class. root_in (entity_at m class).origin)
    (find (λ class. has_table table (entity_at m class).origin) (classes m))

-- the identity with a key that was read, where the row's bytes are the key's own
abbrev pub identity_if : Root → RowId → Option (List Value) → Option Identity
identity_if root r None = None
identity_if root r (Some key) =
    let id : Identity = record { table = r.table; key = key } in
    if is_identity_of root id && (names_representable id && same_bytes (key_bytes key) r.row) then Some id else None

-- the identity that a row's bytes spell by a root's key, if they spell one
abbrev pub identity_in : Option Root → RowId → Option Identity
identity_in None r = None
identity_in (Some root) r = identity_if root r (key_in (kinds_of root) r.row)

-- the identity whose main row this is, if it is one of the unit's
abbrev pub identity_at : PersistenceUnit → RowId → Option Identity
identity_at m r = identity_in (root_at m r.table) r

-- an identity of the unit, whose key can be spelled
abbrev pub IsSpelled : PersistenceUnit → Identity → Type 0
IsSpelled m id = IsSpelledBy (identity_at m) row_of id

-- ---- pairs: a row of a join table for each

-- the id of a pair's row: the join table, and the bytes of both keys
abbrev pub pair_row : ℕ → Identity → Identity → RowId
pair_row join owner target = record { table = join; row = key_bytes owner.key ++ key_bytes target.key }

-- whether an entity declares a relation with this join table
abbrev pub declares : ℕ → Entity → Bool
declares join e = list_any (λ r. list_any (λ t. t == join) (join_tables r.side)) e.relations

-- the class that declares the relation with this join table
abbrev pub declarer_at : PersistenceUnit → ℕ → Option ℕ
declarer_at m join = find (λ class. declares join (entity_at m class)) (classes m)

-- whether a class is there, and of the hierarchy with this table
abbrev pub is_within : PersistenceUnit → ℕ → Option ℕ → Bool
is_within m table None = false
is_within m table (Some class) = (root_of m class).table == table

-- the join table is that of a relation of the hierarchy with this table, and no root's
abbrev pub is_join_of : PersistenceUnit → ℕ → ℕ → Bool
is_join_of m join table = not (is_some (root_at m join)) && is_within m table (declarer_at m join)

-- the target with a key that was read, where the row's bytes are those of the pair
abbrev pub target_if : Root → Identity → RowId → Option (List Value) → Option Identity
target_if root owner r None = None
target_if root owner r (Some key) =
    let target : Identity = record { table = root.table; key = key } in
    if is_identity_of root target
    && (names_representable target && same_bytes (key_bytes owner.key ++ key_bytes key) r.row) then Some target
    else None

-- the target of this owner's pair, if the row is one: the owner's own bytes are cut off the front.
-- The join table must be one of the owner's hierarchy. Else a row could be a pair of an identity of
-- another one, whose key begins with the same bytes
abbrev pub target_at : PersistenceUnit → ℕ → Identity → ℕ → RowId → Option Identity
target_at m target owner join r =
    let root = root_of m target in
    if (r.table == join) && is_join_of m join owner.table
    then target_if root owner r (key_in (kinds_of root) (drop (length (key_bytes owner.key)) r.row)) else None
