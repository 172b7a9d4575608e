use Rattle.std.proofs.Common.{◌≡◌, ◌++◌, Some, drop, length}
use Rattle.jpql_meaning.specs.eval.Answers.{under}
use Rattle.jpql_meaning.specs.plan.Paths.{Tuple}
use Rattle.jpql_meaning.specs.plan.Meaning as meaning
use Rattle.jpql_run.specs.Ready.{Tells}
use Rattle.jpql_run.specs.Runs as runs
use Rattle.jpql_run.proofs.ready.kept_at_once.Given as goal

-- what was kept, and what is kept of those that are left; what was made ready stays as it is
abbrev pub invariant-loop-tuple : goal.invariant-loop-tuple
invariant-loop-tuple l =
    let test = λ (t : Tuple). runs.test_of l.run (Some l.condition) t in
    record {
      kept : meaning.kept test l.fn.tuples.items ≡ under (λ more. l.left.items ++ more) (meaning.kept test (drop (length l.yielded) l.fn.tuples.items));
      ready : Tells l.run l.condition l.around l.ready;
    }
