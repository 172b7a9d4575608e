use Rattle.jpa_model.specs.Kept.{lineage_of}
use Rattle.jpa_model.proofs.Pushed.{map_more}
use Rattle.jpa_model.proofs.class_index.index_of.Goals as goal

pub loop-class-preserved : goal.loop-class-preserved
loop-class-preserved c =
    map_more (lineage_of c.args.unit.now) c.loop-class.class c.loop-class.found _ _ c.loop-class.invariant c.in_ok-of.ensures.found c.in_ok-push.ensures.ok
