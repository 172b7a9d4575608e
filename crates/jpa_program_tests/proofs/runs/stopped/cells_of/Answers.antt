use Rattle.jpa_cells.proofs.meaning.Found.{files_in_order}
use Rattle.jpa_program_tests.proofs.runs.stopped.cells_of.Goals as goal

pub cells_in-requires : goal.cells_in-requires
cells_in-requires g c = files_in_order _ c.in-Ok.conn c.in-Ok.ensures.opened (λ clean. (c.in-Ok.ensures.found clean).reads)
