use Rattle.std.proofs.Common.{ap, sym, subst, inl, ◌∙◌}
use Rattle.std.specs.Prelude.{not}
use Rattle.std.proofs.lemmas.Bool.{true≢false}
use Rattle.jpa_behaviour.specs.Served.{world_of_unit}
use Rattle.jpa_machine.specs.machine.Routes.{is_commit}
use Rattle.jpa_machine.specs.machine.Updating.{is_bulk}
use Rattle.jpa_machine.proofs.machine.Isolated.{step_moves}
use Rattle.jpa_machine.proofs.machine.Left.{step_left, step_undone, step_rises}
use Rattle.jpa_machine.proofs.machine.Outcome.{plain_made}
use Rattle.jpa_machine.proofs.machine.Still.{step_still}
use Rattle.jpa_machine.proofs.machine.Updated.{ok_from}
use Rattle.jpa_provider.specs.Provided.{StoresCall}
use Rattle.jpa_provider.specs.Serving.{machine_of}
use Rattle.jpa_provider.proofs.Serving.{serves_on}
use Rattle.jpa_provider.proofs.Stored.{either_way, left_alone}
use Rattle.jpa_provider.proofs.provider.serve.Goals as goal

pub returns-clause-changes : goal.returns-clause-changes
returns-clause-changes g c =
    let world = world_of_unit g.B.Behaviour.meaning c.args.unit.now in
    let M = machine_of c.args.session.now in
    let N = machine_of c.served.new.session in
    let call = c.args.call in
    let reply = c.served.result in
    let step = c.served.ensures.step in
    let serving = c.requires.serving in
    record {
      still = step_still M world call reply N step;
      left = step_left M world call reply N step;
      undone = step_undone M world call reply N step;
      rising = step_rises M call reply N serving.orderly serving.regular serving.inherited c.hands_representable.ensures
          (either_way (is_bulk call) (λ bulk. c.served.ensures.made bulk) (λ other. ok_from reply.answer (plain_made world M call (ap not other)))) serving.machine step;
    }

pub returns-clause-moves : goal.returns-clause-moves
returns-clause-moves g c =
    let s = c.requires.serving in
    step_moves (machine_of c.args.session.now) s.orderly s.regular s.machine c.args.call c.hands_representable.ensures c.served.result (machine_of c.served.new.session) c.served.ensures.step

pub returns-clause-stores : goal.returns-clause-stores
returns-clause-stores g c =
    let world = world_of_unit g.B.Behaviour.meaning c.args.unit.now in
    let M = machine_of c.args.session.now in
    let N = machine_of c.served.new.session in
    let rows = c.args.rows.now in
    let call = c.args.call in
    let reply = c.served.result in
    either_way (is_commit call) (λ commits. c.served.ensures.stores commits)
    (λ other. subst (λ new. StoresCall world g.R.RowSource M call reply N rows new) (sym (c.served.ensures.others other).0)
    (left_alone world g.R.RowSource M N call reply rows (g.met.R.RowSource.still rows) (c.served.ensures.others other).1 (λ commits. absurd (true≢false (sym commits ∙ other)))
    (step_still M world call reply N c.served.ensures.step (inl other)) c.requires.holds))

pub returns-clause-serving : goal.returns-clause-serving
returns-clause-serving g c =
    let world = world_of_unit g.B.Behaviour.meaning c.args.unit.now in
    let s = c.args.session.now in
    let call = c.args.call in
    let reply = c.served.result in
    let rest = c.served.ensures.rest in
    let stores = returns-clause-stores g c in
    record {
      serving = serves_on world s c.served.new.session call reply c.requires.serving c.hands_representable.ensures
          (either_way (is_bulk call) (λ bulk. c.served.ensures.made bulk) (λ other. ok_from reply.answer (plain_made world (machine_of s) call (ap not other))))
          c.served.ensures.step rest.settled rest.marked;
      schema = stores.same ∙ c.requires.schema;
      holds = stores.holds;
    }
