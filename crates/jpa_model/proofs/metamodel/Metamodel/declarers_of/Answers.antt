use Rattle.std.proofs.Common.{rules, ◌<◌, ◌≡◌, length, subst, ap, sym, ◌∙◌}
use Rattle.std.specs.Prelude.{All}
use Rattle.jpa_model.specs.Chains.{declarers_of}
use Rattle.jpa_model.proofs.Within.{declarers-within, length-declarers}
use Rattle.jpa_model.proofs.metamodel.Metamodel.declarers_of.Goals as goal

pub returns-clause-within : goal.returns-clause-within
returns-clause-within c =
    subst (All (λ k. k < length c.args.self.now.entities)) (sym (search rules)) (declarers-within c.args.self.now c.class_at.ensures.described c.args.class c.requires)

pub returns-clause-count : goal.returns-clause-count
returns-clause-count c =
    let all : c.declarers.result.now ≡ declarers_of c.args.self.now c.args.class = search rules in
    ap length all ∙ length-declarers c.args.self.now c.args.class
