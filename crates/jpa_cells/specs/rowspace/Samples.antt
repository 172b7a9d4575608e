-- A schema of one table and a change of one of its rows; a schema of persons and orders and the
-- first rows of both.
use Rattle.std.specs.Prelude.{codes, ℕ, ℤ, pos, List, [], ◌∷◌, Some}
use Rattle.jpa_value.specs.declared.value.Kind.{Kind}
use Rattle.jpa_value.specs.declared.value.Value.{Value}
use Rattle.jpa_rows.specs.declared.rows.row.Content.{Content}
use Rattle.jpa_rows.specs.declared.rows.row.RowChange.{RowChange}
use Rattle.jpa_rows.specs.declared.rows.schema.Holds.{Holds}
use Rattle.jpa_rows.specs.declared.rows.schema.Schema.{Schema}
use Rattle.jpa_rows.specs.declared.rows.schema.TableRule.{TableRule}
use Rattle.jpa_rows.specs.rows.Reading.{field}
use Rattle.jpa_rows.specs.rows.Rows.{RowId, Row}
use Rattle.jpa_rows.specs.rows.Tables.{rule, next_numbers}

-- table 1 by one integer, with an integer in column 0
abbrev pub numbers : Schema
numbers = record {
  tables = record {
    table = 1;
    key = Kind.Int ∷ [];
    columns = record { column = 0; holds = Holds.Kind Kind.Int } ∷ [];
  } ∷ [];
}

-- a key of one integer
abbrev pub key : ℤ → List Value
key number = Value.Int number ∷ []

-- the id of row 1 of table 1
abbrev pub first : RowId
first = record { table = 1; key = key (pos 1) }

-- a row that says 7
abbrev pub seven : Row
seven = record { column = 0; content = Content.Value (Value.Int (pos 7)) } ∷ []

-- the change that puts it at row 1 of table 1
abbrev pub adds_seven : RowChange
adds_seven = record { id = first; row = Some seven }

-- ---- persons with a version and a name, and orders, each of which leads to a person
-- (removing-a-referenced-person)

-- the table of persons: discriminator, version and name
abbrev pub persons : TableRule
persons = record {
  table = 1;
  key = Kind.Int ∷ [];
  columns = rule 0 (Holds.Kind Kind.Text) ∷ rule 1 (Holds.Kind Kind.Int) ∷ rule 2 (Holds.Kind Kind.Text) ∷ [];
}

-- the table of orders: discriminator, version and the person that an order leads to
abbrev pub orders : TableRule
orders = record {
  table = 2;
  key = Kind.Int ∷ [];
  columns = rule 0 (Holds.Kind Kind.Text) ∷ rule 1 (Holds.Kind Kind.Int)
      ∷ rule 2 (Holds.Reference (Kind.Int ∷ [])) ∷ [];
}

-- the schema of persons and orders
abbrev pub shop : Schema
shop = record { tables = next_numbers ∷ persons ∷ orders ∷ [] }

-- a change that puts a row under a number
abbrev pub puts : ℕ → ℤ → Row → RowChange
puts table number row = record { id = record { table = table; key = key number }; row = Some row }

-- the next person has the number 2
abbrev pub number_row : Row
number_row = field 0 (Content.Value (Value.Int (pos 2))) ∷ []

-- the row of a person without a name, of version 0
abbrev pub person_row : Row
person_row = field 0 (Content.Value (Value.Text (codes "Person"))) ∷ field 1 (Content.Value (Value.Int (pos 0))) ∷ []

-- the row of an order that leads to person 1
abbrev pub order_row : Row
order_row = field 0 (Content.Value (Value.Text (codes "Order"))) ∷ field 2 (Content.Reference (key (pos 1))) ∷ []

-- the changes that put the first person and the first order
abbrev pub first_rows : List RowChange
first_rows = puts 0 (pos 1) number_row ∷ puts 1 (pos 1) person_row ∷ puts 2 (pos 10) order_row ∷ []
