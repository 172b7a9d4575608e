use Rattle.jpa_behaviour.proofs.Regular.{regular_of}
use Rattle.jpa_behaviour.proofs.registry.Registry.laws.Goals as goal

pub returns-clause-regular : goal.returns-clause-regular
returns-clause-regular g c = λ m. regular_of g.B.Behaviour.meaning g.met.B.Behaviour.inverse g.met.B.Behaviour.representable m c.args.self.now
