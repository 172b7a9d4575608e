use Rattle.std.proofs.Common.{◌≡◌, ◌∷◌, take, map}
use Rattle.std.specs.Prelude.{string_bytes}
use Rattle.std.specs.Str.{str_to_ascii_lowercase}
use Rattle.jpql_types.proofs.index.path_key.PathKey.of.Given as goal

abbrev pub invariant-loop-name : goal.invariant-loop-name
invariant-loop-name l = map string_bytes l.words.items ≡ str_to_ascii_lowercase l.variable ∷ take l.name-index l.names
