use Rattle.std.proofs.Common.{◌<◌, length, get_or, ap, ◌∙◌, arith}
use Rattle.std.proofs.lemmas.List.{get_or_default}
use Rattle.jpa_model.proofs.metamodel.Metamodel.declarer_of.Goals as goal

pub returns-clause-declarer : goal.returns-clause-declarer
returns-clause-declarer c =
    let within : c.args.relation < length c.declarers_of.result.now = omega arith in
    get_or_default c.declarers_of.result.now c.args.relation 0 c.args.class within ∙ ap (λ ds. get_or ds c.args.relation c.args.class) c.declarers_of.ensures.declarers
