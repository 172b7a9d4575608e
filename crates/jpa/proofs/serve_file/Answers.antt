use Rattle.jpa_cells.proofs.meaning.Found.{files_in_order}
use Rattle.jpa.proofs.serve_file.Goals as goal

pub serve-requires : goal.serve-requires
serve-requires c = files_in_order _ c.in-Ok.conn c.in-Ok.ensures.opened (λ clean. (c.in-Ok.ensures.found clean).reads)
