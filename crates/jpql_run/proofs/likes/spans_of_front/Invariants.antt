use Rattle.std.proofs.Common.{[]}
use Rattle.jpql_run.specs.Likes.{CoversBegun, CoversOthers}
use Rattle.jpql_run.proofs.likes.spans_of_front.Given as goal

-- the first parts before have their spans, and the whole front has its own
abbrev pub invariant-loop-i : goal.invariant-loop-i
invariant-loop-i l = CoversOthers l.front l.i l.all.items × CoversBegun l.front [] l.all.items
