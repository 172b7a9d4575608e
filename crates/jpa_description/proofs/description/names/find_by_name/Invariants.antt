use Rattle.std.proofs.Common.{◌≡◌, drop}
use Rattle.std.specs.Prelude.{find}
use Rattle.jpa_model.specs.Chains.{same_name}
use Rattle.jpa_description.proofs.description.names.find_by_name.Given as goal

abbrev pub invariant-loop-item : goal.invariant-loop-item
invariant-loop-item g l =
    find (λ item. same_name (g.T.Named.name_of item) l.name) (drop l.item-index l.items) ≡ find (λ item. same_name (g.T.Named.name_of item) l.name) l.items
