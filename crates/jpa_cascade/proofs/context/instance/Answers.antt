use Rattle.std.proofs.Common.{rules}
use Rattle.jpa_work.specs.context.Undo.{now}
use Rattle.jpa_work.proofs.context.Found.{instance_near}
use Rattle.jpa_cascade.proofs.context.instance.Goals as goal

-- the first of those near the key is the first of all
pub returns-clause-instance : goal.returns-clause-instance
returns-clause-instance c = search (rules, instance_near c.args.metamodel.now (now c.args.work.now) c.args.id.now c.requires.placed.keyed)
