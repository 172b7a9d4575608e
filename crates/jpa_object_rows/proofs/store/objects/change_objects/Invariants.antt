use Rattle.std.proofs.Common.{ℕ, List, take}
use Rattle.jpa_behaviour.specs.Registered.{world_of}
use Rattle.jpa_rows.specs.rows.Cells.{CanBeHeld}
use Rattle.jpa_rows.specs.rows.Rows.{Rows}
use Rattle.jpa_object_rows.specs.meaning.Sets.{rows_of}
use Rattle.jpa_object_rows.specs.store.Shown.{Show, Recall}
use Rattle.jpa_object_rows.specs.store.Written.{entries_in, set_after}
use Rattle.jpa_object_rows.proofs.store.objects.change_objects.Given as goal

abbrev pub invariant-loop-change : goal.invariant-loop-change
invariant-loop-change g l =
    let world = world_of g.B.Behaviour.meaning l.metamodel l.registry in
    record {
      shown : (base : Rows) (numbers : List ℕ) → Show world base l.fn.overlay l.view.committed numbers → Show world base l.overlay (set_after (take l.change-index (entries_in l.changes)) l.view.committed) numbers;
      noted : (before : List ℕ) → CanBeHeld world l.view.committed before → Recall (rows_of world l.view.committed before) l.fn.stood l.fn.overlay → Recall (rows_of world l.view.committed before) l.stood l.overlay;
    }
