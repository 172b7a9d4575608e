use Rattle.std.proofs.Common.{subst}
use Rattle.jpa_behaviour.proofs.Regular.{regular_of}
use Rattle.jpa_rows.specs.declared.rows.schema.Schema.{Schema}
use Rattle.jpa_object_rows.specs.meaning.Sets.{rows_of}
use Rattle.jpa_cells.specs.rowspace.Space.{HoldsRows}
use Rattle.jpql_trees.specs.declared.tree.Language.{Language}
use Rattle.jpa_machine.specs.machine.Step.{Step}
use Rattle.jpa_provider.specs.Provided.{Steps, world_in}
use Rattle.jpa_program.specs.Run.{EndsAs, rows_over}
use Rattle.jpa_program.proofs.Isolated.{isolates}
use Rattle.jpa_program.proofs.Machines.{ended, same_unit}
use Rattle.jpa_program.proofs.Standing.{rows_held}
use Rattle.jpa_program.proofs.running.run.Goals as goal

pub returns-clause-machine : goal.returns-clause-machine
returns-clause-machine g c =
    let ran = c.run-ran.ensures in
    subst (λ (l : Language). EndsAs l (Step (world_in g.B.Behaviour.meaning c.args.provider.now)) (c.args.provider.now).machine (c.run-ran.new.provider).machine c.run-ran.result
    (g.R.Read.remaining c.args.reader.now) (g.R.Read.remaining c.run-ran.new.reader) (g.W.Write.contents c.args.writer.now) (g.W.Write.contents c.run-ran.new.writer))
    c.language.ensures
    (ended _ _ _ c.args.provider.now c.run-ran.new.provider _ _ _ c.run-ran.result _ (record { ok = ran.ok; err = ran.err; read = ran.read }))

pub returns-clause-calls : goal.returns-clause-calls
returns-clause-calls g c =
    let ran = c.run-ran.ensures in
    subst (λ (l : Language). EndsAs l (Steps g.B.Behaviour.meaning (rows_over g.S.Store)) c.args.provider.now c.run-ran.new.provider c.run-ran.result
    (g.R.Read.remaining c.args.reader.now) (g.R.Read.remaining c.run-ran.new.reader) (g.W.Write.contents c.args.writer.now) (g.W.Write.contents c.run-ran.new.writer))
    c.language.ensures
    (record { ok = ran.ok; err = ran.err; read = ran.read })

pub returns-clause-isolated : goal.returns-clause-isolated
returns-clause-isolated g c = isolates g.B.Behaviour.meaning (rows_over g.S.Store) c.args.provider.now

pub returns-clause-unit : goal.returns-clause-unit
returns-clause-unit g c =
    let ran = c.run-ran.ensures in
    same_unit _ _ _ c.args.provider.now c.run-ran.new.provider _ _ _ c.run-ran.result _ (record { ok = ran.ok; err = ran.err; read = ran.read })

pub returns-clause-cells : goal.returns-clause-cells
returns-clause-cells g c =
    let p = c.run-ran.new.provider in
    let l = c.stands.ensures in
    rows_held g.S.Store (world_in g.B.Behaviour.meaning p) l.described (regular_of g.B.Behaviour.meaning g.met.B.Behaviour.inverse g.met.B.Behaviour.representable p.model p.registry) l.discriminators
    (p.rows).store.conn (p.machine).committed (p.machine).stored_numbers l.held
    (λ clean. subst (λ (schema : Schema). HoldsRows g.S.Store schema (p.rows).store.conn (rows_of (world_in g.B.Behaviour.meaning p) (p.machine).committed (p.machine).stored_numbers)) l.schema (l.stands clean))
