-- What stands for parameters, one after another.
use Rattle.std.proofs.Common.{List, ◌++◌, Option, Some, None}
use Rattle.jpql_meaning.specs.declared.eval.datum.Datum.{Datum}

-- those so far before the rest
abbrev pub before : List Datum → Option (List Datum) → Option (List Datum)
before ds None = None
before ds (Some es) = Some (ds ++ es)
