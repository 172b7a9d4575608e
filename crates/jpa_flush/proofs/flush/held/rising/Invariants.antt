use Rattle.std.proofs.Common.{◌≡◌, ℕ, true, [], drop}
use Rattle.std.specs.List.{flat_map}
use Rattle.jpa_stored.specs.objects.Sets.{is_rising}
use Rattle.jpa_work.specs.context.Undo.{now}
use Rattle.jpa_work.specs.context.Work.{identity_at}
use Rattle.jpa_flush.specs.flush.Flush.{listed}
use Rattle.jpa_flush.proofs.flush.Rising.{noted}
use Rattle.jpa_flush.proofs.flush.held.rising.Given as goal

-- those that are there, with those that are left
abbrev pub invariant-loop-object : goal.invariant-loop-object
invariant-loop-object l =
    let named = λ (k : ℕ). listed (identity_at l.metamodel (now l.work) k) in record {
      rest : noted (flat_map named (drop l.object-index l.objects)) l.ids.items ≡ noted (flat_map named l.objects) [];
      rising : is_rising l.ids.items ≡ true;
    }
