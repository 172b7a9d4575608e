-- Worked examples: a store of persons that is migrated, stores that are damaged, a hierarchy, and what a set's cells are.
use Rattle.std.specs.Prelude.{codes, ◌≡◌, refl, ℕ, pos, negsuc, true, false, List, [], ◌∷◌, Some, sum_by}
use Rattle.jpa_value.specs.declared.value.Value.{Value}
use Rattle.jpa_value.specs.declared.value.Kind.{Kind}
use Rattle.jpa_value.specs.declared.value.Identity.{Identity}
use Rattle.jpa_rows.specs.keys.Keys.{int_bytes}
use Rattle.jpa_behaviour.specs.Behaviour.{World, without_functions}
use Rattle.jpa_description.specs.history.History.{unchanged}
use Rattle.jpa_stored.specs.declared.objects.stored.Stored.{Stored}
use Rattle.jpa_rows.specs.rows.Cells.{Cell as FlatCell, rows, keys_given}
use Rattle.jpa_cells.specs.declared.meaning.CellRow.{CellRow}
use Rattle.jpa_cells.specs.meaning.Tables.{Tables, tables_after, statements_of}
use Rattle.jpa_opening.specs.migration.Migration.{cell, opened_tables, is_due, changes_due, defaults_pass}
use Rattle.jpa_opening.proofs.migration.Sample.{persons, first_persons, history, animals, animal_history, person, order, attribute, row, store, int_cell, text_cell}

-- ---- a store with one person

abbrev ada_before : CellRow
ada_before = row 1 (text_cell 0 (codes "Person") ∷ int_cell 1 0 ∷ text_cell 2 (codes "Ada") ∷ [])

abbrev ada_after : CellRow
ada_after = row 1 (text_cell 0 (codes "Person") ∷ int_cell 1 0 ∷ int_cell 3 0 ∷ text_cell 4 (codes "Ada") ∷ [])

abbrev two : CellRow
two = row 1 (int_cell 0 2 ∷ [])

abbrev marked : CellRow
marked = row 0 (int_cell 0 2 ∷ [])

abbrev before : Tables
before = store (two ∷ []) (ada_before ∷ []) []

abbrev after : Tables
after = store (marked ∷ two ∷ []) (ada_after ∷ []) []

numbers_migrated : opened_tables persons history before (pos 0) ≡ marked ∷ two ∷ []
numbers_migrated = refl

-- name from column 2 to 4, hits in column 3
persons_migrated : opened_tables persons history before (pos 1) ≡ ada_after ∷ []
persons_migrated = refl

orders_migrated : opened_tables persons history before (pos 2) ≡ []
orders_migrated = refl

-- 7 writes: the revision's row is dropped and put, Ada's is dropped and put with 4 cells
seven_writes : sum_by statements_of (changes_due persons history before) ≡ 7
seven_writes = refl

-- what is written makes the migrated tables
numbers_written : tables_after (changes_due persons history before) before (pos 0) ≡ marked ∷ two ∷ []
numbers_written = refl

persons_written : tables_after (changes_due persons history before) before (pos 1) ≡ ada_after ∷ []
persons_written = refl

-- opened again: as found, and no write
opened_again : opened_tables persons history after ≡ after
opened_again = refl

none_written : changes_due persons history after ≡ []
none_written = refl

-- revision 1 opens each store as it is found, this one too, where row [Int(0)] is then damaged
opened_first : opened_tables first_persons unchanged after ≡ after
opened_first = refl

-- an empty store has the revision's row alone afterwards (2 writes)
empty_numbers : opened_tables persons history (λ t. []) (pos 0) ≡ marked ∷ []
empty_numbers = refl

empty_persons : opened_tables persons history (λ t. []) (pos 1) ≡ []
empty_persons = refl

two_writes : sum_by statements_of (changes_due persons history (λ t. [])) ≡ 2
two_writes = refl

-- ---- orders: the amount goes, whatever it holds; what is left is not written again

abbrev order_row : ℕ → CellRow
order_row n = row n (text_cell 0 (codes "Order") ∷ cell 2 (4 ∷ 1 ∷ 128 ∷ 0 ∷ 0 ∷ 0 ∷ 0 ∷ 0 ∷ 0 ∷ 1 ∷ []) ∷ [])

abbrev with_orders : Tables
with_orders = store [] [] (row 9 (text_cell 0 (codes "Order") ∷ int_cell 1 5 ∷ []) ∷ order_row 10 ∷ row 11 (text_cell 0 (codes "Order") ∷ cell 1 (255 ∷ []) ∷ []) ∷ [])

amounts_gone : opened_tables persons history with_orders (pos 2) ≡ row 9 (text_cell 0 (codes "Order") ∷ []) ∷ order_row 10 ∷ row 11 (text_cell 0 (codes "Order") ∷ []) ∷ []
amounts_gone = refl

-- 2 for the revision, 2 for each of the rows 9 and 11, none for the row 10
six_writes : sum_by statements_of (changes_due persons history with_orders) ≡ 6
six_writes = refl

-- ---- damaged: a new column that has a cell already (the name's, the hits'), also without the old one; a row without a cell

abbrev unreadable : ℕ → CellRow
unreadable n = row n (cell 0 [] ∷ [])

both_names : opened_tables persons history (store [] (row 1 (text_cell 0 (codes "Person") ∷ int_cell 1 0 ∷ text_cell 2 (codes "Ada") ∷ text_cell 4 (codes "Ada") ∷ []) ∷ []) []) (pos 1) ≡ unreadable 1 ∷ []
both_names = refl

has_hits : opened_tables persons history (store [] (row 1 (text_cell 0 (codes "Person") ∷ int_cell 1 0 ∷ int_cell 3 7 ∷ []) ∷ ada_before ∷ []) []) (pos 1) ≡ unreadable 1 ∷ ada_after ∷ []
has_hits = refl

only_dropped : opened_tables persons history (store [] [] (row 9 (int_cell 1 5 ∷ []) ∷ [])) (pos 2) ≡ unreadable 9 ∷ []
only_dropped = refl

-- a row of no class keeps what it has and gets no default: its column 0 is damaged as before
of_no_class : opened_tables persons history (store [] (row 1 (text_cell 0 (codes "Nobody") ∷ text_cell 2 (codes "Ada") ∷ []) ∷ []) []) (pos 1) ≡ row 1 (text_cell 0 (codes "Nobody") ∷ text_cell 4 (codes "Ada") ∷ []) ∷ []
of_no_class = refl

-- a row [Int(0)] that says something else is judged as it is, and nothing is migrated
says_three : is_due persons.model (row 0 (int_cell 0 3 ∷ []) ∷ []) ≡ false
says_three = refl

-- ---- a hierarchy: defaults along the chain, through their converters; what moves and what goes in the rows of all classes

abbrev zoo : Tables
zoo = store [] (
    row 1 (text_cell 0 (codes "Animal") ∷ int_cell 6 8 ∷ []) ∷ row 2 (text_cell 0 (codes "Dog") ∷ []) ∷ row 3 (text_cell 0 (codes "Cat") ∷ int_cell 3 9 ∷ [])
    ∷ row 4 (text_cell 0 (codes "Dog") ∷ int_cell 3 9 ∷ []) ∷ row 5 (text_cell 0 (codes "Cat") ∷ int_cell 2 1 ∷ []) ∷ []
    ) []

-- 5 through no converter; 7 through one that answers -1-n; the last row has a cell in a column that is new in another class
animals_migrated : opened_tables animals animal_history zoo (pos 1)
    ≡ row 1 (text_cell 0 (codes "Animal") ∷ int_cell 9 5 ∷ [])
    ∷ row 2 (text_cell 0 (codes "Dog") ∷ cell 2 (1 ∷ int_bytes (negsuc 7)) ∷ int_cell 9 5 ∷ [])
    ∷ row 3 (text_cell 0 (codes "Cat") ∷ int_cell 4 9 ∷ int_cell 9 5 ∷ [])
    ∷ row 4 (text_cell 0 (codes "Dog") ∷ cell 2 (1 ∷ int_bytes (negsuc 7)) ∷ int_cell 4 9 ∷ int_cell 9 5 ∷ [])
    ∷ unreadable 5 ∷ []
animals_migrated = refl

-- ---- defaults and converters

defaults_there : defaults_pass persons history ≡ true
defaults_there = refl

defaults_converted : defaults_pass animals animal_history ≡ true
defaults_converted = refl

-- a converter that throws for 0
abbrev throwing : World
throwing = without_functions (record persons.model {
  entities = record person { attributes = attribute (codes "name") Kind.Text 4 ∷ record (attribute (codes "hits") Kind.Int 3) { converter = Some (codes "small") } ∷ [] } ∷ order ∷ [];
})

default_thrown : defaults_pass throwing history ≡ false
default_thrown = refl

-- ---- the set that stands afterwards, and its cells

abbrev ada : Stored
ada = record { class = 0; version = Some (pos 0); values = Value.Text (codes "Ada") ∷ Value.Int (pos 0) ∷ []; owned = [] ∷ [] }

abbrev one : Identity
one = record { table = 1; key = Value.Int (pos 1) ∷ [] }

abbrev flat : ℕ → ℕ → ℕ → List ℕ → FlatCell
flat table n column bytes = record { table = table; row = (row n []).row; column = pos column; bytes = bytes }

revision_counted : rows persons [] (1 ∷ 1 ∷ []) ≡ flat 0 0 0 (int_cell 0 2).value ∷ []
revision_counted = refl

-- the 6 cells are those of the set with Ada and of the next number 2: the revision's, the generator's, the object's
cells_stand : rows persons ((one, ada) ∷ []) (2 ∷ 1 ∷ [])
    ≡ flat 0 0 0 (int_cell 0 2).value ∷ flat 0 1 0 (int_cell 0 2).value
    ∷ flat 1 1 0 (2 ∷ codes "Person") ∷ flat 1 1 1 (int_cell 0 0).value ∷ flat 1 1 3 (int_cell 0 0).value ∷ flat 1 1 4 (2 ∷ codes "Ada") ∷ []
cells_stand = refl

keys_lie_below : keys_given persons.model ((one, ada) ∷ []) (2 ∷ 1 ∷ []) ≡ true
keys_lie_below = refl
