use Rattle.std.proofs.Common.{◌≡◌, ◌++◌, map, drop}
use Rattle.jpa_description.proofs.description.names.push_names.Given as goal

abbrev pub invariant-loop-item : goal.invariant-loop-item
invariant-loop-item g l =
    map (λ n. n.now) l.names.items ++ map g.T.Named.name_of (drop l.item-index l.items)
    ≡ map (λ n. n.now) l.fn.names.items ++ map g.T.Named.name_of l.items
