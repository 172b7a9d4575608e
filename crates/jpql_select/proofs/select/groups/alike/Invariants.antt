use Rattle.std.proofs.Common.{◌≡◌, true, take}
use Rattle.std.specs.Prelude.{All}
use Rattle.jpql_meaning.specs.plan.Paths.{Tuple}
use Rattle.jpql_meaning.specs.eval.Data.{same_data}
use Rattle.jpql_select.specs.select.Selects.{group_key}
use Rattle.jpql_select.proofs.select.groups.alike.Given as goal

-- those before all have the key
abbrev pub invariant-loop-tuple : goal.invariant-loop-tuple
invariant-loop-tuple l =
    record {
      count : l.count ≡ l.tuple-index;
      alike : All (λ (t : Tuple). same_data l.key (group_key l.run l.paths t) ≡ true) (take l.tuple-index l.tuples);
    }
