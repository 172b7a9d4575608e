use Rattle.std.proofs.Common.{sym, ◌∙◌}
use Rattle.jpa_model.specs.Chains.{same_name}
use Rattle.jpa_model.specs.Drafted.{entity_at}
use Rattle.jpa_model.specs.declared.draft.DraftRelation.{DraftRelation}
use Rattle.jpa_model.proofs.Found.{flat_map-find_here, flat_map-find_later}
use Rattle.jpa_description.proofs.description.relations.relation_named.Goals as goal

pub returns-in-Some : goal.returns-in-Some
returns-in-Some c =
    sym (flat_map-find_here (λ class. (entity_at c.args.draft.now class).relations) (λ (o : DraftRelation). same_name o.name c.args.name.now) c.args.chain.now c.loop-class.class-index 0 c.in-Some.found.now c.loop-class-test.true (sym c.in-Some.ensures))
    ∙ c.loop-class.invariant

pub loop-class-preserved : goal.loop-class-preserved
loop-class-preserved c =
    flat_map-find_later (λ class. (entity_at c.args.draft.now class).relations) (λ (o : DraftRelation). same_name o.name c.args.name.now) c.args.chain.now c.loop-class.class-index 0 c.loop-class-test.true (sym c.in_default.ensures)
    ∙ c.loop-class.invariant
