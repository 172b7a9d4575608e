use Rattle.std.specs.Prelude.{Some}
use Rattle.jpa_rows.proofs.overlay.Changes.{seen_ok}
use Rattle.jpa_rows.proofs.overlay.overlay.Overlay.put.Goals as goal

pub returns-clause-seen : goal.returns-clause-seen
returns-clause-seen c = seen_ok c.change.result c.args.self.now c.change.new.self c.args.id (Some c.args.row) c.change.ensures.ok
