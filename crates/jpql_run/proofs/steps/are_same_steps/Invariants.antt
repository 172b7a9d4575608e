use Rattle.std.proofs.Common.{◌≡◌, take}
use Rattle.jpql_run.proofs.steps.are_same_steps.Given as goal

abbrev pub invariant-loop-place : goal.invariant-loop-place
invariant-loop-place l = take l.place l.some ≡ take l.place l.others
