use Rattle.std.proofs.Common.{◌≡◌, ◌++◌, drop}
use Rattle.std.specs.List.{flat_map}
use Rattle.jpql_types.specs.Names.{in_key}
use Rattle.jpql_types.proofs.names.add_in_keys.Given as goal

abbrev pub invariant-loop-key : goal.invariant-loop-key
invariant-loop-key l =
    l.fn.names ++ flat_map (in_key l.which) l.keys ≡ l.names ++ flat_map (in_key l.which) (drop l.key-index l.keys)
