-- What rows are ordered by.
use Rattle.std.specs.Prelude.{List, [], ◌∷◌, map}
use Rattle.jpql_meaning.specs.declared.eval.datum.Datum.{Datum}
use Rattle.jpql_meaning.specs.eval.Seen.{seen}
use Rattle.jpql_select.specs.declared.select.row.Sorting.{Sorting}

-- what a row is ordered by, as data
abbrev pub sorting_data : Sorting → List Datum
sorting_data (Sorting.One x) = seen x ∷ []
sorting_data (Sorting.Several xs) = map seen xs.items
