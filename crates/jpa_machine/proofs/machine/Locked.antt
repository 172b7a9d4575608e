-- What holds while a manager is at work is kept where an entry takes another lock.
use Rattle.std.proofs.Common.{◌≡◌, ℕ, refl}
use Rattle.std.specs.Prelude.{◌==◌, if◌then◌else◌}
use Rattle.std.proofs.lemmas.Bool.{cond_both}
use Rattle.jpa_behaviour.specs.Behaviour.{World}
use Rattle.jpa_work.specs.declared.context.Entry.{Entry}
use Rattle.jpa_work.specs.declared.context.Lock.{Lock}
use Rattle.jpa_work.specs.context.Work.{Work, with_lock}
use Rattle.jpa_machine.specs.machine.Consistent.{IsConsistent, IsEntry, Others}
use Rattle.jpa_machine.proofs.machine.Planned.{mapped_at_work}

-- an entry of the same object, key and base
abbrev locked_by : Lock → Entry → Entry
locked_by l e = record e { lock = l }

pub locked_at_work : {world : World} {M : Others} {m : ℕ} {w : Work} (n : ℕ) (l : Lock) → IsConsistent world M m w → IsConsistent world M m (with_lock n l w)
locked_at_work {world} {M} {m} {w} n l h =
    mapped_at_work (λ e. if e.object == n then locked_by l e else e)
    (λ e. cond_both (e.object == n) (locked_by l e) e (λ (y : Entry). y.object ≡ e.object) (λ q. refl) (λ q. refl))
    (λ e k. cond_both (e.object == n) (locked_by l e) e (IsEntry world.model w.objects w.numbers m)
    (λ q. record { within = k.within; keyed = k.keyed; held = k.held; whole = k.whole; given = k.given; base = k.base })
    (λ q. k)) h
