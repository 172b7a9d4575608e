use Rattle.std.proofs.Common.{◌≡◌, rules}
use Rattle.jpa_behaviour.specs.Behaviour.{without_functions}
use Rattle.jpa_work.specs.declared.context.work.UnitOfWork.{UnitOfWork}
use Rattle.jpa_work.specs.context.Steps.{Done}
use Rattle.jpa_work.specs.context.Undo.{now}
use Rattle.jpa_operations.specs.ops.States.{become_managed}
use Rattle.jpa_operations.proofs.ops.Persisted.{IsNamedFrom, became}
use Rattle.jpa_operations.proofs.ops.persisting.become_managed.Goals as goal

-- the work as the definition leaves it
abbrev after : goal.In_ok-push → UnitOfWork
after c = record (c.set_life.new.work) { context = c.push.new.self }

done : (c : goal.In_ok-push) → become_managed (without_functions c.args.metamodel.now) c.args.object (now c.args.work.now) ≡ Done tt (now (after c))
done c = search (rules, c.give_key.ensures.meets (without_functions c.args.metamodel.now))

goes : (c : goal.In_ok-push) → IsNamedFrom c.args.metamodel.now (now c.args.work.now) (now (after c))
goes c = became (without_functions c.args.metamodel.now) c.args.object (now c.args.work.now) (now (after c)) c.requires.orderly c.requires.ready c.requires.object (done c)

pub returns-clause-goes : goal.returns-clause-goes
returns-clause-goes c = (goes c).from

pub returns-clause-named : goal.returns-clause-named
returns-clause-named c = (goes c).named
