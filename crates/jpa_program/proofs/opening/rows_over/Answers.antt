use Rattle.std.proofs.Common.{rules, subst, sym}
use Rattle.jpa_cells.specs.rowspace.Space.{Space}
use Rattle.jpa_cells.specs.cells.Calls.{EnduresMaking}
use Rattle.jpa_program.proofs.opening.rows_over.Goals as goal

pub returns-in-Ok-open-clause-made : goal.returns-in-Ok-open-clause-made
returns-in-Ok-open-clause-made g c = record {
  schema = search rules;
  opens = search rules;
  crash = subst (λ (space : Space g.row.S.Denot). EnduresMaking g.S.Store c.args.conn space.store.conn) (sym c.new.ensures) c.in-Ok-open.ensures.opened.crash;
}
