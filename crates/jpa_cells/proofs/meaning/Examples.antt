-- The definitions on worked examples, and in the words of a layer above.
use Rattle.std.proofs.Common.{◌≡◌, ℕ, ℤ, pos, negsuc, List, [], ◌∷◌, codes, refl, sym, lit≤, true≢false, arith}
use Rattle.std.specs.List.{AllByRecursion}
use Rattle.jpa_cells.specs.declared.meaning.Cell.{Cell}
use Rattle.jpa_cells.specs.declared.meaning.CellChange.{CellChange}
use Rattle.jpa_cells.specs.meaning.Tables.{Tables, row_of, cells_at, tables_after, ColumnsDiffer, AreShort, statements_of}
use Rattle.sqlite.specs.declared.types.Value.TheVariants.{Int, Blob}
use Rattle.sqlite.specs.Order.{Row}
use Rattle.jpa_cells.specs.meaning.Content.{IsFollowed, HasRowids, CanTake}
use Rattle.jpa_cells.specs.meaning.Schema.{cell_schema}

abbrev none : Tables
none t = []

-- the key 1, as eight bytes after its kind
abbrev one : List ℕ
one = 1 ∷ 128 ∷ 0 ∷ 0 ∷ 0 ∷ 0 ∷ 0 ∷ 0 ∷ 1 ∷ []

abbrev discriminator : Cell
discriminator = record { column = pos 0; value = 2 ∷ codes "Person" }

abbrev name : Cell
name = record { column = pos 2; value = 2 ∷ codes "Ada" }

-- a person's row, its cells written in another order
abbrev person : CellChange
person = record { table = pos 1; row = one; cells = name ∷ discriminator ∷ [] }

written : tables_after (person ∷ []) none (pos 1) ≡ row_of one (discriminator ∷ name ∷ []) ∷ []
written = refl

another_table : tables_after (person ∷ []) none (pos 2) ≡ []
another_table = refl

found : cells_at one (tables_after (person ∷ []) none (pos 1)) ≡ discriminator ∷ name ∷ []
found = refl

not_found : cells_at (1 ∷ []) (tables_after (person ∷ []) none (pos 1)) ≡ []
not_found = refl

counted : statements_of person ≡ 3
counted = refl

-- without cells the row is dropped
dropped : tables_after (person ∷ record person { cells = [] } ∷ []) none (pos 1) ≡ []
dropped = refl

-- rows rise by their bytes, and a row that is there is replaced
abbrev first : CellChange
first = record { table = negsuc 0; row = 2 ∷ []; cells = name ∷ [] }

abbrev second : CellChange
second = record { table = negsuc 0; row = 1 ∷ 255 ∷ []; cells = name ∷ [] }

abbrev third : CellChange
third = record { table = negsuc 0; row = 2 ∷ []; cells = discriminator ∷ [] }

ordered : tables_after (first ∷ second ∷ third ∷ []) none (negsuc 0) ≡ row_of (1 ∷ 255 ∷ []) (name ∷ []) ∷ row_of (2 ∷ []) (discriminator ∷ []) ∷ []
ordered = refl

-- ---- what can be written

differ : ColumnsDiffer person.cells
differ = ((λ same. cc, tt), (tt, tt))

twice : ColumnsDiffer (name ∷ discriminator ∷ name ∷ []) → ⊥
twice h = h.0.1.0 refl

short : AreShort one person.cells
short = (lit≤ tt, (lit≤ tt, tt))

-- nothing but a fault stands against the first row of an empty table
possible : CanTake (record { schema = cell_schema; trees = λ t. [] }) (person ∷ [])
possible = record { differ = (differ, tt); short = (short, tt); rowids = (λ n within. grind arith, tt) }

-- a row with this rowid
abbrev numbered : ℤ → Row
numbered id = Int id ∷ Int (pos 1) ∷ Blob one ∷ Int (pos 2) ∷ Blob [] ∷ []

-- at the greatest rowid none is left
full : HasRowids 1 (numbered (pos 9223372036854775807) ∷ []) → ⊥
full h = true≢false (sym (h.1.0 1 (lit≤ tt)))

-- one below it one is left, and no second
one_left : IsFollowed 1 (pos 9223372036854775806)
one_left n within = grind arith

one_alone : IsFollowed 2 (pos 9223372036854775806) → ⊥
one_alone h = true≢false (sym (h 2 (lit≤ tt)))

-- What a layer above says: the cells of these tables are exactly these.
abbrev Hold : List ℤ → Tables → Tables → Type 0
Hold numbers rows tables = AllByRecursion (λ t. tables t ≡ rows t) numbers

-- after a commit they are the rows of what was committed, and other tables are left alone
kept : (numbers : List ℤ) (rows tables : Tables) (t : ℤ) → Hold (t ∷ numbers) rows tables → tables t ≡ rows t
kept numbers rows tables t h = h.0
