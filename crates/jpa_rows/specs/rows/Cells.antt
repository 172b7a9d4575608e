-- The cells of a set of stored objects and the next numbers of the generators, and what it is for
-- the cells of a store to stand for them (Jakarta Persistence 3.1, chapters 2.4 keys and 2.10 to
-- 2.12 mapping of relations and hierarchies; the form of the cells is this provider's own).
use Rattle.std.specs.Prelude.{◌≡◌, ◌↔◌, ℕ, ℤ, pos, Bool, true, false, ◌==◌, List, [], ◌∷◌, ◌++◌, map, Option}
use Rattle.std.specs.Prelude.{slice_index_or, Some, None, if◌then◌else◌, Contains, nat_lt, ◌&&◌, ◌||◌, T}
use Rattle.std.specs.List.{flat_map, filter, zip, list_any, list_all}
use Rattle.std.specs.FinMap.{is_sorted}
use Rattle.jpa_value.specs.declared.value.Value.{Value}
use Rattle.jpa_value.specs.declared.value.Identity.{Identity}
use Rattle.jpa_model.specs.declared.unit.PersistenceUnit.{PersistenceUnit}
use Rattle.jpa_model.specs.declared.unit.Attribute.{Attribute}
use Rattle.jpa_model.specs.declared.unit.Origin.{Origin}
use Rattle.jpa_model.specs.declared.unit.Side.{Side}
use Rattle.jpa_model.specs.Chains.{attributes_of, root_of, root_class}
use Rattle.jpa_behaviour.specs.Behaviour.{World}
use Rattle.jpa_stored.specs.declared.objects.stored.Stored.{Stored}
use Rattle.jpa_stored.specs.objects.Sets.{StoredSet, all_shaped, each_fits, IsSound}
use Rattle.jpa_value.specs.Value.{identity_cmp, is_null, is_i64, is_representable}
use Rattle.jpa_rows.specs.keys.Keys.{key_bytes}
pub use Rattle.jpa_rows.specs.rows.ValueBytes.{value_bytes, is_given}
use Rattle.jpa_rows.specs.rows.Rows.{RowId, Row, cells_of}
use Rattle.jpa_rows.specs.rows.ObjectRows.{rows_of}
pub use Rattle.jpa_rows.specs.rows.ObjectRows.{cell_value, column_value}

-- a cell of a store: a table, the bytes of a row, a column, and its own bytes
pub record Cell : Type 0 where
  pub table : ℕ
  pub row : List ℕ
  pub column : ℤ
  pub bytes : List ℕ

-- ---- the cells of all

-- a row as cells: its columns under its table and the bytes of its key
abbrev pub row_cells : RowId × Row → List Cell
row_cells e =
    let row = key_bytes (e.0).key in
    map (λ c. record { table = (e.0).table; row = row; column = c.0; bytes = c.1 }) (cells_of e.1)

-- the cells of the rows of the objects and of next numbers
abbrev pub rows : World → StoredSet → List ℕ → List Cell
rows world set numbers = flat_map row_cells (rows_of world set numbers)

-- ---- the tables of a persistence unit: 0 for next numbers, those of the roots, and join tables

-- the table of a root
abbrev pub root_tables : Origin → List ℕ
root_tables (Origin.Root root) = root.table ∷ []
root_tables (Origin.Extends parent) = []

-- the join table of a side, if it has one
abbrev pub join_tables : Side → List ℕ
join_tables (Side.ManyToOne c) = []
join_tables (Side.OneToOne c) = []
join_tables (Side.OneToOneInverse owner) = []
join_tables (Side.OneToMany owner) = []
join_tables (Side.ManyToMany join) = join ∷ []
join_tables (Side.ManyToManyInverse owner) = []

-- the tables of a unit: 0, those of the roots, and the join tables
abbrev pub tables_of : PersistenceUnit → List ℕ
tables_of m = 0 ∷ flat_map (λ e. root_tables e.origin ++ flat_map (λ r. join_tables r.side) e.relations) m.entities

-- whether a cell is in one of the unit's tables
abbrev pub is_own_cell : PersistenceUnit → Cell → Bool
is_own_cell m c = list_any (λ t. t == c.table) (tables_of m)

-- among a store's cells those of the unit's tables are these and no others; cells of other tables
-- are not looked at
abbrev pub AreRows : World → List Cell → StoredSet → List ℕ → Type 0
AreRows world cells set numbers =
    (c : Cell) → Contains (filter (is_own_cell world.model) cells) c ↔ Contains (rows world set numbers) c

-- ---- what a store can hold

-- null passes no converter, and no other value becomes null
abbrev pub passes : World → Attribute → Value → Bool
passes world a v = is_given (column_value world a.converter v) || is_null v

-- each attribute of a set passes its converter
abbrev pub all_pass : World → StoredSet → Bool
all_pass world set =
    list_all (λ e. list_all (λ p. passes world p.0 p.1) (zip (attributes_of world.model (e.1).class) (e.1).values)) set

-- a generated key lies from 1 to below the next number
abbrev pub is_given_before : ℕ → List Value → Bool
is_given_before next (Value.Int (pos n) ∷ []) = nat_lt 0 n && nat_lt n next
is_given_before next key = false

-- a generated key was given by these next numbers; another key may be any
abbrev pub key_given_by : List ℕ → ℕ → Bool → List Value → Bool
key_given_by numbers root false key = true
key_given_by numbers root true key = is_given_before (slice_index_or numbers root 1) key

-- each generated key of a set was given by these next numbers
abbrev pub keys_given : PersistenceUnit → StoredSet → List ℕ → Bool
keys_given m set numbers =
    list_all (λ e. key_given_by numbers (root_class m (e.1).class) (root_of m (e.1).class).generated (e.0).key) set

-- a number for each class: the next one where it is a root with generated keys, 1 for any other
abbrev pub is_next : Origin → ℕ → Bool
is_next (Origin.Root root) k = if root.generated then nat_lt 0 k && is_i64 (pos k) else k == 1
is_next (Origin.Extends parent) k = k == 1

-- there is one number for each class, as its next one may be
abbrev pub are_numbers : PersistenceUnit → List ℕ → Bool
are_numbers m numbers = each_fits (λ e k. is_next e.origin k) m.entities numbers

-- integers of 64 bits, texts in UTF-8 and bytes alone
abbrev pub names_representable : Identity → Bool
names_representable id = list_all is_representable id.key

-- a version is an integer of 64 bits, where there is one
abbrev pub version_representable : Option ℤ → Bool
version_representable None = true
version_representable (Some n) = is_i64 n

-- what a stored object holds are values of the program
abbrev pub holds_representable : Stored → Bool
holds_representable x = version_representable x.version
    && (list_all is_representable x.values && list_all (list_all names_representable) x.owned)

-- what a set holds are values of the program
abbrev pub all_representable : StoredSet → Bool
all_representable set = list_all (λ e. names_representable e.0 && holds_representable e.1) set

-- a set and next numbers that a store can hold: of values of the program; numbers that generators
-- may have; identities rising, each once; objects of the shape of their classes; sound; no
-- converter throws; generated keys below their next number
pub record CanBeHeld (world : World) (set : StoredSet) (numbers : List ℕ) : Type 0 where
  pub representable : all_representable set ≡ true
  pub numbered : are_numbers world.model numbers ≡ true
  pub rising : T (is_sorted identity_cmp set)
  pub shaped : all_shaped world.model set ≡ true
  pub sound : IsSound world.model set
  pub converted : all_pass world set ≡ true
  pub given : keys_given world.model set numbers ≡ true

-- a store's cells are those of the set and the numbers, which it can hold
pub record StandFor (world : World) (cells : List Cell) (set : StoredSet) (numbers : List ℕ) : Type 0 where
  pub rows : AreRows world cells set numbers
  pub held : CanBeHeld world set numbers
