use Rattle.std.specs.Prelude.{None}
use Rattle.jpa_rows.proofs.overlay.Changes.{seen_ok}
use Rattle.jpa_rows.proofs.overlay.overlay.Overlay.drop_row.Goals as goal

pub returns-clause-seen : goal.returns-clause-seen
returns-clause-seen c = seen_ok c.change.result c.args.self.now c.change.new.self c.args.id None c.change.ensures.ok
