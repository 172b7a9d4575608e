use Rattle.std.specs.Prelude.{List, position}
use Rattle.std.proofs.Common.{ap, ◌∙◌, rules, SFits, w64}
use Rattle.std.proofs.lemmas.Int.{to_z-of_z}
use Rattle.jpa_model.specs.Chains.{no_entity}
use Rattle.jpa_model.specs.declared.unit.Entity.{Entity}
use Rattle.jpa_opening.specs.migration.Migration.{has_table}
use Rattle.jpa_opening.proofs.migration.Roots.{first_place}
use Rattle.jpa_opening.proofs.migration.table.root_with.Goals as goal

pub returns-clause-root : goal.returns-clause-root
returns-clause-root c =
    let fits : SFits w64 c.args.table = search rules in
    let p = λ (e : Entity). has_table c.args.table e.origin in
    c.place_with.ensures.place ∙ ap (λ table. position (λ (e : Entity). has_table table e.origin) c.entities.result.now) (to_z-of_z w64 c.args.table fits)
    ∙ ap (λ (es : List Entity). position p es) c.entities.ensures ∙ first_place p no_entity c.args.metamodel.now.entities
