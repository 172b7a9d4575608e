use Rattle.jpa_cells.proofs.meaning.Found.{files_in_order}
use Rattle.jpa_tests.proofs.stops.is_whole.Goals as goal

pub is_whole_over-requires : goal.is_whole_over-requires
is_whole_over-requires g c = files_in_order _ c.in-Ok.conn c.in-Ok.ensures.opened (λ clean. (c.in-Ok.ensures.found clean).reads)
