use Rattle.std.proofs.Common.{◌≡◌, ◌++◌, map, drop}
use Rattle.jpql_meaning.specs.plan.Meaning.{alone}
use Rattle.jpql_select.specs.select.Cases.{case_in}
use Rattle.jpql_select.proofs.select.case.each_alone.Given as goal

-- those before, and those that are left
abbrev pub invariant-loop-tuple : goal.invariant-loop-tuple
invariant-loop-tuple l = map alone l.tuples ≡ map case_in l.cases.items ++ map alone (drop l.tuple-index l.tuples)
