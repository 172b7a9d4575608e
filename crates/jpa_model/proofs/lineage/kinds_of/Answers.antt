use Rattle.std.specs.Prelude.{◌==◌}
use Rattle.std.specs.List.{list_any}
use Rattle.jpa_model.proofs.Pushed.{map_more}
use Rattle.jpa_model.proofs.lineage.kinds_of.Goals as goal

pub loop-above-preserved : goal.loop-above-preserved
loop-above-preserved c =
    map_more (λ above. list_any (λ k. k == above) c.args.chain.now) c.loop-above.above c.loop-above.kinds _ c.has_class.result c.loop-above.invariant c.has_class.ensures c.in_ok-push.ensures.ok
