use Rattle.std.proofs.Common.{rules, ◌<◌, length, subst, sym}
use Rattle.std.specs.Prelude.{All}
use Rattle.jpa_model.proofs.Within.{chain-within}
use Rattle.jpa_model.proofs.metamodel.Metamodel.chain.Goals as goal

pub returns-clause-within : goal.returns-clause-within
returns-clause-within c =
    subst (All (λ k. k < length c.args.self.now.entities)) (sym (search rules)) (chain-within c.args.self.now c.class_at.ensures.described c.args.class c.requires)
