use Rattle.jpa_cells.proofs.meaning.Found.{files_in_order}
use Rattle.jpa_tests.proofs.stops.run.Goals as goal

pub written-requires : goal.written-requires
written-requires g c = files_in_order _ c.in-Ok.conn c.in-Ok.ensures.opened (λ clean. (c.in-Ok.ensures.found clean).reads)
