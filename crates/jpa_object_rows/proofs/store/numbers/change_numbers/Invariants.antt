use Rattle.std.proofs.Common.{◌≡◌}
use Rattle.jpa_behaviour.specs.Behaviour.{World, IsRegular}
use Rattle.jpa_stored.specs.objects.Sets.{StoredSet}
use Rattle.jpa_rows.specs.rows.Rows.{Rows}
use Rattle.jpa_object_rows.specs.meaning.View.{AreStorable}
use Rattle.jpa_object_rows.specs.meaning.Sets.{rows_of}
use Rattle.jpa_object_rows.specs.store.Shown.{Show, Recall}
use Rattle.jpa_object_rows.proofs.store.Stepped.{stepped}
use Rattle.jpa_object_rows.proofs.store.numbers.change_numbers.Given as goal

abbrev pub invariant-loop-class : goal.invariant-loop-class
invariant-loop-class l =
    record {
      shown : (world : World) (base : Rows) (set : StoredSet) → world.model ≡ l.metamodel → IsRegular world → Show world base l.fn.overlay set l.before → Show world base l.overlay set (stepped l.class l.next l.before);
      noted : (world : World) (set : StoredSet) → world.model ≡ l.metamodel → IsRegular world → AreStorable world set → Recall (rows_of world set l.before) l.fn.stood l.fn.overlay → Recall (rows_of world set l.before) l.stood l.overlay;
    }
