use Rattle.std.proofs.Common.{◌≡◌, ◌++◌, drop}
use Rattle.jpa_stored.specs.ordered.Values.{owners_in, lent_ids}
use Rattle.jpa_stored.proofs.ordered.values.Values.owners.Given as goal

-- with those of the spans that are left they are all
abbrev pub invariant-loop-span : goal.invariant-loop-span
invariant-loop-span l = lent_ids l.found.items ++ owners_in (l.self).entries l.number (drop l.span-index l.spans) ≡ owners_in (l.self).entries l.number l.spans
