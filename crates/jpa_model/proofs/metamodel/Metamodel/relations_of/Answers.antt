use Rattle.std.proofs.Common.{rules, ◌<◌, length, subst, sym}
use Rattle.std.specs.Prelude.{All}
use Rattle.jpa_model.specs.declared.unit.Relation.{Relation}
use Rattle.jpa_model.proofs.Within.{relations-within}
use Rattle.jpa_model.proofs.metamodel.Metamodel.relations_of.Goals as goal

pub returns-clause-within : goal.returns-clause-within
returns-clause-within c =
    subst (All (λ (r : Relation). r.target < length c.args.self.now.entities)) (sym (search rules)) (relations-within c.args.self.now c.class_at.ensures.described c.args.class)
