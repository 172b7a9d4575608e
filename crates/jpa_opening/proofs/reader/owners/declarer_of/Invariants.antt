use Rattle.std.proofs.Common.{◌≡◌, ◌-◌, length}
use Rattle.std.specs.Prelude.{find}
use Rattle.std.specs.List.{range_with_len}
use Rattle.jpa_model.specs.Chains.{entity_at}
use Rattle.jpa_object_rows.specs.meaning.Identities.{declares, declarer_at}
use Rattle.jpa_opening.proofs.reader.owners.declarer_of.Given as goal

abbrev pub invariant-loop-class : goal.invariant-loop-class
invariant-loop-class l =
    find (λ class. declares l.table (entity_at l.metamodel class)) (range_with_len l.class (length l.metamodel.entities - l.class)) ≡ declarer_at l.metamodel l.table
