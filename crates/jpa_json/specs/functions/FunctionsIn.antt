-- Which functions the bytes of a mapping describe.
use Rattle.std.specs.Prelude.{ℕ, List, codes, Result, Err}
use Rattle.std.specs.Option.{ok_or}
use Rattle.jpa_value.specs.declared.refusal.Cause.{Cause}
use Rattle.jpa_value.specs.declared.refusal.MappingFault.{MappingFault}
use Rattle.serde_json.specs.Data.{Data, null, boolean, number, string, array, object}
use Rattle.serde_json.specs.Find.{get}
use Rattle.jpa_json.specs.readers.JsonOf.{json_of}
use Rattle.jpa_json.specs.readers.Outcome.{and_then}
use Rattle.jpa_json.specs.declared.functions.make.Function.{Function}
use Rattle.jpa_json.specs.functions.FunctionsOf.{functions_if_there}

-- a mapping is an object
abbrev pub functions_at : Data → Result (List Function) Cause
functions_at null = Err (Cause.Mapping MappingFault.Shape)
functions_at (boolean b) = Err (Cause.Mapping MappingFault.Shape)
functions_at (number n) = Err (Cause.Mapping MappingFault.Shape)
functions_at (string s) = Err (Cause.Mapping MappingFault.Shape)
functions_at (array ds) = Err (Cause.Mapping MappingFault.Shape)
functions_at (object ms) =
    ok_or (functions_if_there (get (codes "functions") (object ms))) (Cause.Mapping MappingFault.Function)

-- the functions, or the first that is wrong: the text, the object, the functions
unfoldable pub functions_in : List ℕ → Result (List Function) Cause
functions_in bytes = and_then (json_of bytes) functions_at
