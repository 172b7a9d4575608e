use Rattle.std.proofs.Common.{◌≡◌, ◌||◌, ◌++◌, map}
use Rattle.jpa_value.specs.declared.value.Identity.{Identity}
use Rattle.jpa_open.proofs.Indexed.{yielded_owner}
use Rattle.jpa_open.proofs.Led.{among}
use Rattle.jpa_open.proofs.open.leading.with_known.Given as goal

abbrev pub invariant-loop-reference : goal.invariant-loop-reference
invariant-loop-reference l =
    record {
      rest : map (λ r. r.now) l.yielded ++ l.reference-iterator ≡ l.initial.reference-iterator;
      known : (q : Identity) → among l.found.items q ≡ (yielded_owner l.yielded q || among l.initial.found.items q);
    }
