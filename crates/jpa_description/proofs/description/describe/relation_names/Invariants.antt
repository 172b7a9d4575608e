use Rattle.std.proofs.Common.{◌≡◌, ◌++◌, map, drop}
use Rattle.jpa_model.specs.Drafted.{declared_by}
use Rattle.jpa_description.proofs.description.describe.relation_names.Given as goal

abbrev pub invariant-loop-class : goal.invariant-loop-class
invariant-loop-class l =
    map (λ n. n.now) l.names.items ++ map (λ r. r.name) (declared_by (λ e. e.relations) l.draft (drop l.class-index l.chain))
    ≡ map (λ r. r.name) (declared_by (λ e. e.relations) l.draft l.chain)
