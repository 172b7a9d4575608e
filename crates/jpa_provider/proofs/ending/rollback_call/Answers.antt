use Rattle.std.proofs.Common.{◌≡◌, true, ap, sym, ◌∙◌}
use Rattle.jpa_behaviour.specs.Served.{world_of_unit}
use Rattle.jpa_provider.specs.Serving.{is_begun_status, manager_in}
use Rattle.jpa_provider.proofs.Serving.{entries_in}
use Rattle.jpa_provider.proofs.ending.rollback_call.Goals as goal

pub release-requires : goal.release-requires
release-requires g c = record { within = c.in-Some.ensures.within; entries = entries_in c.args.session.now c.requires.machine c.in-Some.manager }

pub returns-clause-rest : goal.returns-clause-rest
returns-clause-rest g c =
    let s = c.args.session.now in
    let begun : is_begun_status (manager_in s.managers.items c.in-Some.manager).status ≡ true = ap is_begun_status (sym c.status_of.ensures) ∙ sym c.is_begun.ensures ∙ c.if-not-is_begun.false in
    record {
      settled = c.release.ensures.settled c.requires.settled begun;
      marked = c.release.ensures.marked (world_of_unit g.B.Behaviour.meaning c.args._unit.now) c.requires.machine c.requires.marked;
    }
