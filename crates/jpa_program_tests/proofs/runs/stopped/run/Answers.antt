use Rattle.jpa_cells.proofs.meaning.Found.{files_in_order}
use Rattle.jpa_program_tests.proofs.runs.stopped.run.Goals as goal

pub served-steps-requires : goal.served-steps-requires
served-steps-requires g c = files_in_order _ c.in-Ok.conn c.in-Ok.ensures.opened (λ clean. (c.in-Ok.ensures.found clean).reads)
