use Rattle.std.proofs.Common.{ℕ, List, rules, subst}
use Rattle.jpa_behaviour.specs.Served.{world_of_unit}
use Rattle.jpa_protocol.specs.declared.call.Given.{Given}
use Rattle.jpa_work.specs.context.Carries.{Carries}
use Rattle.jpa_machine.specs.machine.Routes.{find_call}
use Rattle.jpa_provider.proofs.finding.find_by_key.Goals as goal

pub returns : goal.returns
returns g c =
    let world = world_of_unit g.B.Behaviour.meaning c.args.unit.now in
    let carries : List ℕ → List Given → Type 0 = λ entity key. Carries (find_call world entity key) c.find_slices.result c.args.work.now c.find_slices.new.work in
    subst (carries c.args.entity.now) c.as_slice.ensures (subst (λ entity. carries entity c.as_slice.result.now) c.as_str.ensures c.find_slices.ensures)
