-- Which functions JSON data describes: each object has its name, its make, and the members of the
-- make and no others.
use Rattle.std.specs.Prelude.{ℕ, ◌==◌, List, [], codes, bytes_eq, if◌then◌else◌, Option, Some, None}
use Rattle.std.specs.Str.{is_utf8}
use Rattle.serde_json.specs.Data.{Data, Items, no_items, item}
use Rattle.serde_json.specs.Find.{get, as_array}
use Rattle.jpa_json.specs.readers.Members.{count_of, text_at, list_of}
use Rattle.jpa_json.specs.readers.Outcome.{◌>>=◌, guard, proof_of}
use Rattle.jpa_json.specs.readers.Values.{value_of}
use Rattle.jpa_json.specs.declared.functions.make.Function.{Function}
use Rattle.jpa_json.specs.declared.functions.make.Make.{Make}
use Rattle.jpa_json.specs.declared.functions.make.Listener.{Listener}
use Rattle.jpa_json.specs.declared.functions.make.Converter.{Converter}
use Rattle.jpa_json.specs.declared.functions.make.Pair.{Pair}
use Rattle.jpa_json.specs.declared.functions.make.SetText.{SetText}
use Rattle.jpa_json.specs.declared.functions.make.Table.{Table}
use Rattle.jpa_json.specs.functions.Pairs.{are_apart}
use Rattle.jpa_json.specs.functions.Sorts.{are_named_once}

-- ---- tables

-- a list of two values: the attribute's and the column's
abbrev pub pair_in : Items → Option Pair
pair_in (item a (item c no_items)) = do
  attribute ← value_of a
  column ← value_of c
  Some (record { attribute = attribute; column = column })
pair_in ds = None

-- a pair of a table
abbrev pub pair_of : Data → Option Pair
pair_of d = as_array d >>= pair_in

-- a table of pairs that share no side
unfoldable pub table_with : List Pair → Option Table
table_with pairs = do
  apart ← proof_of (are_apart pairs)
  Some (record { pairs = pairs; apart = apart })

-- a table: its name, its make and its pairs
unfoldable pub table_of : Data → Option Converter
table_of d = do
  all ← guard (count_of d == 3)
  member ← get (codes "pairs") d
  pairs ← list_of pair_of member
  table ← table_with pairs
  Some (Converter.Table table)

-- ---- listeners

-- an attribute with its text, which JSON has in UTF-8
unfoldable pub text_for : List ℕ → List ℕ → Option SetText
text_for attribute value = do
  is_text ← proof_of (is_utf8 value)
  Some (record { attribute = attribute; value = value; is_text = is_text })

-- a listener that sets an attribute to a text
unfoldable pub set_text_of : Data → Option Listener
set_text_of d = do
  all ← guard (count_of d == 4)
  attribute ← text_at (codes "attribute") d
  value ← text_at (codes "value") d
  given ← text_for attribute value
  Some (Listener.SetText given)

-- a listener that copies one attribute to another
unfoldable pub copy_of : Data → Option Listener
copy_of d = do
  all ← guard (count_of d == 4)
  from ← text_at (codes "from") d
  to ← text_at (codes "to") d
  Some (Listener.Copy from to)

-- a listener that counts in an attribute
unfoldable pub count_listener_of : Data → Option Listener
count_listener_of d = do
  all ← guard (count_of d == 3)
  attribute ← text_at (codes "attribute") d
  Some (Listener.Count attribute)

-- a listener that requires an attribute
unfoldable pub require_of : Data → Option Listener
require_of d = do
  all ← guard (count_of d == 3)
  attribute ← text_at (codes "attribute") d
  Some (Listener.Require attribute)

-- ---- functions

-- a listener as a function
abbrev pub listener : Option Listener → Option Make
listener l = l >>= λ m. Some (Make.Listener m)

-- a converter as a function
abbrev pub converter : Option Converter → Option Make
converter c = c >>= λ m. Some (Make.Converter m)

-- that has no members of its own
abbrev pub bare : Make → Data → Option Make
bare make d = guard (count_of d == 2) >>= λ all. Some make

-- what d says of a function whose make is this word
abbrev pub made_of : List ℕ → Data → Option Make
made_of word d =
    if bytes_eq word (codes "set_text") then listener (set_text_of d)
    else if bytes_eq word (codes "copy") then listener (copy_of d)
    else if bytes_eq word (codes "count") then listener (count_listener_of d)
    else if bytes_eq word (codes "require") then listener (require_of d)
    else if bytes_eq word (codes "note") then bare (Make.Listener Listener.Note) d
    else if bytes_eq word (codes "flip") then bare (Make.Converter Converter.Flip) d
    else if bytes_eq word (codes "table") then converter (table_of d)
    else if bytes_eq word (codes "hextext") then bare (Make.Converter Converter.Hextext) d
    else None

-- a function: its name, and what it makes
unfoldable pub function_of : Data → Option Function
function_of d = do
  name ← text_at (codes "name") d
  word ← text_at (codes "make") d
  make ← made_of word d
  Some (record { name = name; make = make })

-- a list of functions in which no name of a sort stands twice
unfoldable pub functions_of : Data → Option (List Function)
functions_of d = do
  functions ← list_of function_of d
  once ← guard (are_named_once functions)
  Some functions

-- the member `functions`, which may be absent
abbrev pub functions_if_there : Option Data → Option (List Function)
functions_if_there (Some d) = functions_of d
functions_if_there None = Some []
