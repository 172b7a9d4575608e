use Rattle.std.proofs.Common.{◌≡◌, ◌++◌, map, drop}
use Rattle.jpql_meaning.specs.plan.Paths.{Entry}
use Rattle.jpql_run.specs.Objects.{entry, identities}
use Rattle.jpql_bulk.proofs.bulk.delete.identities_of.Given as goal

-- those before, and those that are left
abbrev pub invariant-loop-object : goal.invariant-loop-object
invariant-loop-object l =
    map (λ (e : Entry). e.0) (map entry l.objects)
    ≡ identities l.ids.items ++ map (λ (e : Entry). e.0) (map entry (drop l.object-index l.objects))
