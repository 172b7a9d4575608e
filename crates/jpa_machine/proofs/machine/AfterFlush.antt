-- What holds once a flush ended, of the set and the next numbers that are stored then.
use Rattle.std.proofs.Common.{◌≡◌, ℕ, true, subst}
use Rattle.std.specs.Prelude.{nat_le}
use Rattle.jpa_behaviour.specs.Behaviour.{World, IsRegular}
use Rattle.jpa_stored.specs.objects.Sets.{each_fits}
use Rattle.jpa_work.specs.context.Work.{Work}
use Rattle.jpa_work.specs.context.Steps.{Done}
use Rattle.jpa_flush.specs.flush.Flush.{flush}
use Rattle.jpa_machine.specs.machine.Machine.{Machine}
use Rattle.jpa_machine.specs.machine.Invariant.{IsMachine}
use Rattle.jpa_machine.proofs.machine.Facts.{numbers_trans}
use Rattle.jpa_machine.specs.machine.Going.{HoldsAfter}
use Rattle.jpa_machine.proofs.machine.AtWork.{IsAtWork}
use Rattle.jpa_machine.proofs.machine.Flushed.{flush_goes}
use Rattle.jpa_machine.proofs.machine.Going.{More, only}
use Rattle.jpa_operations.specs.fetch.Orderly.{IsOrderly}
use Rattle.jpa_open.specs.Differences.{merged}
use Rattle.jpa_machine.proofs.machine.Facts.{held_more}
use Rattle.jpa_machine.proofs.machine.Flushed.{viewed_at_work}
use Rattle.jpa_machine.specs.machine.Machine.{begun_set}
use Rattle.jpa_machine.specs.machine.Transactions.{commit_work}
use Rattle.jpa_machine.proofs.machine.Handed.{commit_work_holds}
use Rattle.jpa_machine.proofs.machine.MergedHeld.{merged_held}

pub flushed_at_work : {world : World} (M : Machine) {m : ℕ} {w : Work} (w' : Work) → IsOrderly world.model → IsRegular world → IsAtWork world M m w → flush world w ≡ Done tt w' →
    IsAtWork world M m w'
flushed_at_work {world} M {m} {w} w' orderly regular h e = (subst (HoldsAfter (λ u v. IsAtWork world M m v × More w v)) e (flush_goes orderly regular h)).0

-- no next number falls below the stored one
pub numbers_rise : {world : World} {M : Machine} {m : ℕ} {w : Work} → IsMachine world M → IsAtWork world M m w → each_fits nat_le M.stored_numbers w.numbers ≡ true
numbers_rise {world} {M} {m} {w} h at = numbers_trans M.stored_numbers M.numbers w.numbers h.stored at.raised

-- and of a commit: its set is one that a store can hold
pub still_at_work : {world : World} {M : Machine} {m : ℕ} {w : Work} (w' : Work) → IsOrderly world.model → IsRegular world → IsMachine world M → IsAtWork world M m w →
    commit_work world M.committed (begun_set M m) w ≡ Done tt w' → IsAtWork world M m w'
still_at_work {world} {M} {m} {w} w' orderly regular h at e =
    subst (HoldsAfter (λ u v. IsAtWork world M m v)) e
    (commit_work_holds world (IsAtWork world M m) w (only (IsAtWork world M m) w (flush world w) (flush_goes orderly regular at)) M.committed (begun_set M m) (IsAtWork world M m)
    (λ v p current sound.
    viewed_at_work (merged M.committed (begun_set M m) v.view)
    (merged_held M.committed (begun_set M m) v.view v.numbers (held_more v.numbers h.committed (numbers_rise h p) p.numbered) p.view sound) p))
