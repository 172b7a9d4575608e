use Rattle.std.proofs.Common.{◌≡◌, ◌<◌, ◌++◌, drop, length}
use Rattle.std.specs.Prelude.{All}
use Rattle.std.specs.List.{flat_map}
use Rattle.jpa_behaviour.specs.Served.{world_of_unit}
use Rattle.jpa_work.specs.context.Steps.{each}
use Rattle.jpa_work.specs.context.Undo.{now}
use Rattle.jpa_flush.specs.flush.Flush.{check_one, check_actions}
use Rattle.jpa_flush.specs.flush.Plan.{planned_of}
use Rattle.jpa_flush.specs.flush.Marked.{from}
use Rattle.jpa_flush.proofs.flush.walking.plan_at.Given as goal

abbrev pub invariant-loop-place : goal.invariant-loop-place
invariant-loop-place g l =
    let world = world_of_unit g.B.Behaviour.meaning l.unit in
    let w = now l.work in
    let m = l.unit.metamodel in record {
      planned : l.plan ++ flat_map (planned_of m w) (drop (from l.places l.place-index) w.context) ≡ flat_map (planned_of m w) w.context;
      objects : All (λ p. p.object < length w.objects) l.plan;
      rest : each (check_one world) (drop (from l.places l.place-index) w.context) w ≡ check_actions world w;
    }
