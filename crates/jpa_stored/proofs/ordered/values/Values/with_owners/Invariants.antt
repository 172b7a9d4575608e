use Rattle.std.proofs.Common.{◌≡◌, ◌++◌, map}
use Rattle.jpa_stored.specs.ordered.Values.{owners_of, lent_ids}
use Rattle.jpa_stored.proofs.ordered.values.Values.with_owners.Given as goal

-- the owners of those so far
abbrev pub invariant-loop-entry : goal.invariant-loop-entry
invariant-loop-entry l = record {
  rest : map (λ r. r.now) l.yielded ++ l.entry-iterator ≡ l.initial.entry-iterator;
  found : lent_ids l.found.items ≡ lent_ids l.initial.found.items ++ owners_of (map (λ r. r.now) l.yielded);
}
