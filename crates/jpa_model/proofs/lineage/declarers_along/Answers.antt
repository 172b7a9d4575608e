use Rattle.std.proofs.Common.{map}
use Rattle.jpa_model.specs.Chains.{entity_at}
use Rattle.jpa_model.proofs.Pushed.{flat_map_more}
use Rattle.jpa_model.proofs.lineage.declarers_along.Goals as goal

pub loop-class-preserved : goal.loop-class-preserved
loop-class-preserved c =
    flat_map_more (λ k. map (λ r. k) (entity_at c.args.unit.now k).relations) c.args.chain.now c.loop-class.class-index 0 c.loop-class.found _ _ c.loop-class-test.true c.loop-class.invariant c.in_ok-push_declarer_of.ensures.added
