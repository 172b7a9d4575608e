use Rattle.std.proofs.Common.{◌≡◌, drop}
use Rattle.std.specs.List.{position_from}
use Rattle.jpa_model.specs.Chains.{same_name}
use Rattle.jpa_description.proofs.description.names.place_by_name.Given as goal

abbrev pub invariant-loop-i : goal.invariant-loop-i
invariant-loop-i g l =
    position_from (λ item. same_name (g.T.Named.name_of item) l.name) l.i (drop l.i l.items)
    ≡ position_from (λ item. same_name (g.T.Named.name_of item) l.name) 0 l.items
