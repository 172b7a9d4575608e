use Rattle.std.proofs.Common.{◌<◌}
use Rattle.jpa_work.proofs.context.Found.{found, instance_near, near_within}
use Rattle.jpa_work.proofs.context.laws.near_laws.Goals as goal

pub returns-clause-within : goal.returns-clause-within
returns-clause-within c = λ n. near_within (λ k. k < n)

pub returns-clause-found : goal.returns-clause-found
returns-clause-found c = found

pub returns-clause-instance : goal.returns-clause-instance
returns-clause-instance c = instance_near
