use Rattle.jpa_machine.proofs.machine.Isolated.{step_moves}
use Rattle.jpa_machine.proofs.machine.move_law.Goals as goal

pub returns : goal.returns
returns c =
    record {
      moves = λ world M call reply N orderly regular holds hands step. step_moves M orderly regular holds call hands reply N step;
    }
