use Rattle.jpa_behaviour.specs.Served.{world_of_unit}
use Rattle.jpa_lifecycle.proofs.Keeps.{fired_refusal}
use Rattle.jpa_lifecycle.proofs.telling.callback.Goals as goal

-- what a listener refuses
pub conclude-requires-clause-refusal : goal.conclude-requires-clause-refusal
conclude-requires-clause-refusal g c =
    fired_refusal (world_of_unit g.B.Behaviour.meaning c.args.unit.now) c.args.event c.in_ok-names.names c.in_ok-live.live c.in_ok-fired.fired c.in_ok-fired.ensures.fired
