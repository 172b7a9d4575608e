use Rattle.std.proofs.Common.{◌≡◌, drop}
use Rattle.std.specs.Prelude.{find}
use Rattle.jpa_model.specs.Chains.{same_name}
use Rattle.jpa_model.specs.Drafted.{declared_by}
use Rattle.jpa_description.proofs.description.relations.relation_named.Given as goal

abbrev pub invariant-loop-class : goal.invariant-loop-class
invariant-loop-class l =
    find (λ o. same_name o.name l.name) (declared_by (λ e. e.relations) l.draft (drop l.class-index l.chain))
    ≡ find (λ o. same_name o.name l.name) (declared_by (λ e. e.relations) l.draft l.chain)
