use Rattle.std.proofs.Common.{◌≡◌, ◌++◌, map, drop}
use Rattle.jpa_model.specs.Drafted.{declared_by, member_names}
use Rattle.jpa_description.proofs.description.along.names_along.Given as goal

abbrev pub invariant-loop-class : goal.invariant-loop-class
invariant-loop-class l =
    map (λ n. n.now) l.names.items ++ declared_by member_names l.draft (drop l.class-index l.chain) ≡ declared_by member_names l.draft l.chain
