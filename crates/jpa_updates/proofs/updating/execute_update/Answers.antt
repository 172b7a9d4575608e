use Rattle.jpa_work.specs.context.Undo.{now}
use Rattle.jpa_updates.proofs.updating.execute_update.Goals as goal

pub run-requires : goal.run-requires
run-requires g c = record { in_order = c.requires.then_sound (now c.flush_if.new.work) c.in_ok-flush_if.ensures.meets }
