use Rattle.std.proofs.Common.{◌∙◌, ap}
use Rattle.jpa_behaviour.specs.Registered.{known_as}
use Rattle.jpa_behaviour.proofs.Names.{found}
use Rattle.jpa_behaviour.proofs.by_name.ByName.get.Goals as goal

pub returns : goal.returns
returns g c = c.get.ensures.value ∙ found c.args.name.now c.self.inside.known.entries ∙ ap (known_as c.args.name.now) c.self.view_is
