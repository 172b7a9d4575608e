use Rattle.std.proofs.Common.{◌≡◌, take, map}
use Rattle.jpa_value.specs.declared.value.Identity.{Identity}
use Rattle.jpa_flush.specs.flush.Changes.{place_of}
use Rattle.jpa_constraints.specs.Changed.{class_at}
use Rattle.jpa_provider.proofs.commit_work.changes_of.Given as goal

abbrev pub invariant-loop-id : goal.invariant-loop-id
invariant-loop-id l = map place_of l.changes.items ≡ map (λ (id : Identity). (id, class_at (l.view).committed id)) (take l.id-index l.ids)
