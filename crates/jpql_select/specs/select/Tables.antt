-- The rows of a table.
use Rattle.std.specs.Prelude.{List, map}
use Rattle.std.specs.Global.{Vec}
use Rattle.jpql_meaning.specs.declared.eval.datum.Datum.{Datum}
use Rattle.jpql_meaning.specs.declared.eval.seen.Seen.{Seen}
use Rattle.jpql_meaning.specs.eval.Seen.{seen}
use Rattle.jpql_meaning.specs.plan.Selection.{Row}

-- the rows of a table, as data
abbrev pub rows_in : Vec (Vec Seen) → List (List Datum)
rows_in table = map (λ (row : Vec Seen). map seen row.items) table.items

-- the items of rows
abbrev pub items_in : List Row → List (List Datum)
items_in rows = map (λ (r : Row). r.items) rows
