-- What a flush of the manager at work stands on, and what it leaves.
use Rattle.std.proofs.Common.{◌≡◌, ◌<◌, ℕ, Bool, true, false, List, length, ap, sym, subst, ◌∙◌}
use Rattle.std.specs.Prelude.{All}
use Rattle.jpa_behaviour.specs.Behaviour.{World}
use Rattle.jpa_stored.specs.objects.Sets.{IsSound}
use Rattle.jpa_rows.specs.rows.Cells.{CanBeHeld, all_representable}
use Rattle.jpa_work.specs.declared.context.Entry.{Entry}
use Rattle.jpa_work.specs.context.Work.{Work}
use Rattle.jpa_work.specs.context.Steps.{Outcome, Done, Refused}
use Rattle.jpa_queries.specs.Premises.{StaysReady}
use Rattle.jpa_flush.specs.flush.Flush.{flush_if}
use Rattle.jpa_updates.specs.Updates.{StaysSound}
use Rattle.jpa_work.specs.context.Undo.{now, Since}
use Rattle.jpa_operations.specs.fetch.Grown.{IsReady}
use Rattle.jpa_flush.specs.flush.Flush.{flush}
use Rattle.jpa_operations.specs.ops.Names.{has_distinct_entries}
use Rattle.jpa_provider.specs.declared.session.Session.{Session}
use Rattle.jpa_machine.specs.machine.Machine.{work_of}
use Rattle.jpa_machine.specs.machine.Invariant.{IsMachine, context_of}
use Rattle.jpa_provider.specs.Beside.{Rises}
use Rattle.jpa_provider.specs.Serving.{machine_of, AreMarkedAway, IsServing}
use Rattle.jpa_provider.specs.Stages.{CanFlush}
use Rattle.jpa_machine.proofs.machine.AtWork.{each_manager, taken, work_ready}
use Rattle.jpa_machine.proofs.machine.AfterFlush.{flushed_at_work}
use Rattle.jpa_machine.proofs.machine.Ready.{ready_at_work}
use Rattle.jpa_provider.proofs.Marked.{taken_marked}
use Rattle.jpa_provider.proofs.Serving.{entries_in}
use Rattle.jpa_provider.proofs.Sessions.{manager_there}

-- the entries that undoing gives back
pub entries_since : {world : World} (s : Session) (m : ℕ) (x : Since) → IsMachine world (machine_of s) → x.objects ≡ (machine_of s).objects → x.context ≡ context_of (machine_of s) m →
    All (λ (e : Entry). e.object < length x.objects) x.context
entries_since s m x h o c =
    subst (λ (p : List Entry × ℕ). All (λ (e : Entry). e.object < p.1) p.0) (λ i. ((sym (c ∙ ap (λ y. y.context) (manager_there s m))) i, length (sym o i))) (entries_in s h m)

-- the manager went to work, and its work can be flushed
pub can_flush : (world : World) (s t : Session) (m : ℕ) → IsServing world s → now t.work ≡ work_of (machine_of s) m → AreMarkedAway world.model (machine_of s) m t → CanFlush world.model t.work
can_flush world s t m h work away =
    let view = (taken m h.machine).view in
    record {
      orderly = h.orderly;
      ready = subst (IsReady world.model) (sym work) (work_ready m h.machine);
      sound = subst (λ (w : Work). IsSound world.model w.view) (sym work) view.sound;
      rising = subst (λ (w : Work). Rises w.view) (sym work) view.rising;
      distinct = subst (λ (w : Work). has_distinct_entries world.model w ≡ true) (sym work) (each_manager h.machine m).distinct;
      marked = taken_marked world s t m h work away;
    }

-- the work of an outcome that is done
abbrev work_in : Work → Outcome (Unit {0}) → Work
work_in w (Done u v) = v
work_in w (Refused r events) = w

-- what was flushed is ready for what comes next
pub flushed_ready : (world : World) (s : Session) (m : ℕ) → IsServing world s → (w : Work) → flush world (work_of (machine_of s) m) ≡ Done tt w → IsReady world.model w
flushed_ready world s m h w e = ready_at_work (flushed_at_work (machine_of s) w h.orderly h.regular (taken m h.machine) e)

-- what is worked on after a flush, if there is one
flush_if_ready : (world : World) (s : Session) (m : ℕ) → IsServing world s → (flushes : Bool) (v : Work) → flush_if flushes world (work_of (machine_of s) m) ≡ Done tt v → IsReady world.model v
flush_if_ready world s m h true v e = flushed_ready world s m h v e
flush_if_ready world s m h false v e = subst (IsReady world.model) (ap (work_in v) e) (work_ready m h.machine)

-- what is seen after a flush, if there is one
flush_if_held : (world : World) (s : Session) (m : ℕ) → IsServing world s → (flushes : Bool) (v : Work) → flush_if flushes world (work_of (machine_of s) m) ≡ Done tt v → CanBeHeld world v.view v.numbers
flush_if_held world s m h true v e = (flushed_at_work (machine_of s) v h.orderly h.regular (taken m h.machine) e).view
flush_if_held world s m h false v e = subst (λ (u : Work). CanBeHeld world u.view u.numbers) (ap (work_in v) e) (taken m h.machine).view

-- whether a query flushes first or not
pub query_ready : (world : World) (s : Session) (m : ℕ) → IsServing world s → (flushes : Bool) → StaysReady flushes world (work_of (machine_of s) m)
query_ready world s m h flushes v e = record { ready = flush_if_ready world s m h flushes v e; rising = (flush_if_held world s m h flushes v e).rising }

pub update_sound : (world : World) (s : Session) (m : ℕ) → IsServing world s → (flushes : Bool) → StaysSound flushes world (work_of (machine_of s) m)
update_sound world s m h flushes v e = let held = flush_if_held world s m h flushes v e in record { sound = held.sound; rising = held.rising; shaped = held.shaped }

pub update_representable : (world : World) (s : Session) (m : ℕ) → IsServing world s → (flushes : Bool) (v : Work) → flush_if flushes world (work_of (machine_of s) m) ≡ Done tt v → all_representable v.view ≡ true
update_representable world s m h flushes v e = (flush_if_held world s m h flushes v e).representable
