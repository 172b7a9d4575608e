use Rattle.std.proofs.Common.{rules}
use Rattle.std.proofs.lemmas.Fn.{filter_same}
use Rattle.jpql_run.specs.Bounds.{passes}
use Rattle.jpql_run.proofs.bounds.passing.Goals as goal

pub returns : goal.returns
returns c = filter_same _ (passes c.args.run.now c.args.bound.now) _ (λ x b f' k. search rules) _ _ c.retain.ensures.filtered
