-- What rows stand for: the set of stored objects, the pairs of an owner, and the next numbers.
use Rattle.std.specs.Prelude.{◌≡◌, ℕ, pos, negsuc, true, List, [], ◌∷◌, map, Option, Some, None, option_map}
use Rattle.std.specs.Prelude.{if◌then◌else◌}
use Rattle.std.specs.List.{flat_map, zip, AllByRecursion}
use Rattle.std.specs.FinMap.{find}
use Rattle.std.specs.Ordering.{nat_cmp}
use Rattle.jpa_value.specs.declared.value.Value.{Value}
use Rattle.jpa_value.specs.declared.value.Identity.{Identity}
use Rattle.jpa_value.specs.Value.{identity_cmp, same_value}
use Rattle.jpa_model.specs.declared.unit.Origin.{Origin}
use Rattle.jpa_model.specs.declared.unit.PersistenceUnit.{PersistenceUnit}
use Rattle.jpa_model.specs.Chains.{root_of, relations_of}
use Rattle.jpa_behaviour.specs.Behaviour.{World}
use Rattle.jpa_stored.specs.declared.objects.stored.Stored.{Stored}
use Rattle.jpa_stored.specs.objects.Sets.{StoredSet}
use Rattle.jpa_rows.specs.declared.rows.row.Content.{Content}
use Rattle.jpa_rows.specs.rows.Rows.{RowId, Row, Rows, table_rows}
use Rattle.jpa_rows.specs.rows.Tables.{schema_of}
use Rattle.jpa_object_rows.specs.meaning.Unambiguous.{is_class, joins_of}
use Rattle.jpa_object_rows.specs.meaning.View.{set_of, Pairs, PairsAre}
use Rattle.jpa_object_rows.specs.meaning.Raw.{raw, AreRowsOf, AreWhole, AreFilled}
use Rattle.jpa_object_rows.specs.meaning.Objects.{main_row, number_id, pair_row}
pub use Rattle.jpa_rows.specs.rows.ObjectRows.{with_set, rows_of}

-- the set that rows stand for
abbrev pub set_in : World → Rows → StoredSet
set_in world rows = set_of world (raw rows)

-- ---- what stands in a column

-- the columns of a row, each with its content
abbrev pub placed : Row → List (ℕ × Content)
placed = map (λ f. (f.column, f.content))

-- what stands in a column of a row, if anything
abbrev pub content_at : ℕ → Row → Option Content
content_at column row = find nat_cmp column (placed row)

-- ---- pairs: rows of the join table whose keys begin with the owner's

-- what of a key follows another one
abbrev pub key_after : List Value → List Value → Option (List Value)
key_after [] key = Some key
key_after (v ∷ owner) [] = None
key_after (v ∷ owner) (w ∷ key) = if same_value v w then key_after owner key else None

-- the identity of a table and a key
abbrev pub identity_of : ℕ → List Value → Identity
identity_of table key = record { table = table; key = key }

-- the target of an owner's pair, by the id of its row
abbrev pub target_in : PersistenceUnit → ℕ → Identity → RowId → Option Identity
target_in m target owner id = option_map (identity_of (root_of m target).table) (key_after owner.key id.key)

-- an identity as a list, or the empty list
abbrev pub if_any : Option Identity → List Identity
if_any None = []
if_any (Some id) = id ∷ []

-- the targets of an owner's pairs in a join table, in the order of its rows
abbrev pub targets_in : PersistenceUnit → Rows → Identity → Pairs
targets_in m rows owner join target = flat_map (λ e. if_any (target_in m target owner e.0)) (table_rows join rows)

-- the rows of this table are those of pairs
abbrev pub AreOnes : ℕ → Rows → Type 0
AreOnes join rows = AllByRecursion (λ e. e.1 ≡ pair_row) (table_rows join rows)

-- and so are those of each join table
abbrev pub HoldsOnes : PersistenceUnit → Rows → Type 0
HoldsOnes m rows = (class : ℕ) → is_class m class ≡ true → AllByRecursion (λ join. AreOnes join rows)
    (joins_of (relations_of m class))

-- rows of a unit: rising, each a row of the table that its id names and with a column, those of
-- join tables pairs
pub record AreUnitRows (m : PersistenceUnit) (rows : Rows) : Type 0 where
  pub named : AreRowsOf (schema_of m) rows
  pub whole : AreWhole (schema_of m) rows
  pub filled : AreFilled rows
  pub ones : HoldsOnes m rows

-- an object stands in rows: its main row, its pairs, and no other pairs
pub record StandsIn (world : World) (rows : Rows) (id : Identity) (x : Stored) : Type 0 where
  pub main : find identity_cmp id rows ≡ Some (main_row world x)
  pub pairs : PairsAre (targets_in world.model rows id) (zip (relations_of world.model x.class) x.owned)

-- ---- next numbers: 1 where no row says another one

-- the next number that a content is; 1 where it is none
abbrev pub next_in : Option Content → ℕ
next_in None = 1
next_in (Some (Content.Value Value.Null)) = 1
next_in (Some (Content.Value (Value.Int (pos k)))) = k
next_in (Some (Content.Value (Value.Int (negsuc k)))) = 1
next_in (Some (Content.Value (Value.Text bytes))) = 1
next_in (Some (Content.Value (Value.Bytes bytes))) = 1
next_in (Some (Content.Reference key)) = 1

-- the next number in a row; 1 where there is no row
abbrev pub number_in : Option Row → ℕ
number_in None = 1
number_in (Some row) = next_in (content_at 0 row)

-- the next number of a root with generated keys, 1 of other classes
abbrev pub next_at : Rows → Origin → ℕ
next_at rows (Origin.Root root) =
    if root.generated then number_in (find identity_cmp (number_id root.table) rows) else 1
next_at rows (Origin.Extends parent) = 1

-- the next numbers of all classes
abbrev pub numbers_in : PersistenceUnit → Rows → List ℕ
numbers_in m rows = map (λ e. next_at rows e.origin) m.entities
