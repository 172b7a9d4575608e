-- The limits of the profile, each once; the code's constants have the same names.
use Rattle.std.specs.Prelude.{ℕ}

-- bytes of a text or a byte value
abbrev pub most_bytes : ℕ
most_bytes = 65535

-- objects that are ever made or loaded
abbrev pub most_objects : ℕ
most_objects = 1000000

-- managers that are open at a time
abbrev pub most_open_managers : ℕ
most_open_managers = 16

-- managers that are ever made
abbrev pub most_managers : ℕ
most_managers = 1000000

-- bytes of a line, without its line feed
abbrev pub most_line_bytes : ℕ
most_line_bytes = 1048576

-- bytes of a query's text
abbrev pub most_query_bytes : ℕ
most_query_bytes = 16384

-- parentheses of a query that are open at some place
abbrev pub most_open_parentheses : ℕ
most_open_parentheses = 32

-- variables that a query declares
abbrev pub most_query_variables : ℕ
most_query_variables = 8
