use Rattle.jpql_run.proofs.Alike.{PlainBefore}
use Rattle.jpql_run.proofs.likes.plain_front.Given as goal

-- the bytes before are plain
abbrev pub invariant-loop-i : goal.invariant-loop-i
invariant-loop-i l = PlainBefore l.escape l.pattern l.i
