use Rattle.std.proofs.Common.{◌≡◌, ap, sym, subst, ◌∙◌}
use Rattle.std.specs.Prelude.{Some}
use Rattle.std.proofs.Math.Facts.{to_z-of_z}
use Rattle.jpa_behaviour.specs.Served.{world_of_unit}
use Rattle.jpa_protocol.specs.declared.call.Call.{Call}
use Rattle.jpa_provider.specs.Serving.{named, Serves}
use Rattle.jpa_provider.proofs.Asked.{clear_clears}
use Rattle.jpa_provider.proofs.Serving.{entries_in}
use Rattle.jpa_provider.proofs.ending.clear_call.Goals as goal

pub clear-requires : goal.clear-requires
clear-requires g c = record { within = c.in-Some.ensures.within; entries = entries_in c.args.session.now c.requires.machine c.in-Some.manager }

pub returns-clause-step : goal.returns-clause-step
returns-clause-step g c =
    let world = world_of_unit g.B.Behaviour.meaning c.args._unit.now in
    let s = c.args.session.now in
    let t = c.clear.new.session in
    let m = c.in-Some.manager in
    let is : named s c.args.em ≡ Some m = ap (named s) (sym (to_z-of_z c.ranges.em)) ∙ sym c.in-Some.ensures.named in
    subst (λ r. Serves world s (Call.Clear c.args.em) r t) (sym c.accepted.ensures) (clear_clears world s t c.args.em m is c.clear.ensures.cleared.machine)

pub returns-clause-rest : goal.returns-clause-rest
returns-clause-rest g c = record {
  settled = c.clear.ensures.settled c.requires.settled;
  marked = c.clear.ensures.marked (world_of_unit g.B.Behaviour.meaning c.args._unit.now) c.requires.machine c.requires.marked;
}
