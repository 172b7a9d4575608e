-- How close steps.
use Rattle.jpa_work.specs.context.Marks.{none_marked}
use Rattle.std.proofs.Common.{◌≡◌, inl, ℕ, ℤ, true, false, [], ap, sym, ◌∙◌}
use Rattle.std.specs.Prelude.{slice_set, Some, None, if◌then◌else◌}
use Rattle.jpa_value.specs.declared.refusal.Cause.{Cause}
use Rattle.jpa_value.specs.declared.refusal.State.{State}
use Rattle.jpa_behaviour.specs.Behaviour.{World}
use Rattle.jpa_work.specs.declared.context.work.UnitOfWork.{UnitOfWork}
use Rattle.jpa_protocol.specs.declared.call.Call.{Call}
use Rattle.jpa_protocol.specs.declared.reply.Answer.{Answer}
use Rattle.jpa_provider.specs.declared.session.Session.{Session}
use Rattle.jpa_provider.specs.declared.session.Status.{Status}
use Rattle.jpa_provider.specs.declared.session.EntityManager.{EntityManager}
use Rattle.jpa_machine.specs.machine.Machine.{Machine, Manager, manager_at, closed, cleared, with_manager}
use Rattle.jpa_machine.specs.machine.Calls.{because, accepted}
use Rattle.jpa_machine.specs.machine.Routes.{close}
use Rattle.jpa_provider.specs.Serving.{manager_in, managers_of, machine_of, is_begun_status, named, Serves}
use Rattle.jpa_provider.proofs.Opened.{told, refusal, none_there}
use Rattle.jpa_provider.proofs.Sessions.{managers_changed, manager_there, begun_there}
use Rattle.jpa_provider.proofs.Worked.{of_manager, of_nobody}

pub close_alone : (world : World) (s : Session) (em : ℤ) → named s em ≡ None → Serves world s (Call.Close em) (refusal Cause.NoSuchManager) s
close_alone world s em e = inl (of_nobody s (close (machine_of s)) em e)

pub close_active : (world : World) (s : Session) (em : ℤ) (m : ℕ) → named s em ≡ Some m → is_begun_status (manager_in s.managers.items m).status ≡ true →
    Serves world s (Call.Close em) (refusal (Cause.IllegalState State.Active)) s
close_active world s em m e h =
    let M = machine_of s in
    inl (of_manager s (close M) em m e ∙ ap (λ b. if b then because M (Cause.IllegalState State.Active) else accepted [] Answer.Null (closed M m)) (begun_there s m ∙ h))

pub close_closes : (world : World) (s t : Session) (em : ℤ) (m : ℕ) → named s em ≡ Some m → is_begun_status (manager_in s.managers.items m).status ≡ false → machine_of t ≡ closed (machine_of s) m →
    Serves world s (Call.Close em) (told Answer.Null) t
close_closes world s t em m e h f =
    let M = machine_of s in
    inl (of_manager s (close M) em m e ∙ ap (λ b. if b then because M (Cause.IllegalState State.Active) else accepted [] Answer.Null (closed M m)) (begun_there s m ∙ h)
    ∙ (λ i. (told Answer.Null, sym f i)))

-- of a session whose manager was cleared
pub shut_there : (s u t : Session) (m : ℕ) → is_begun_status (manager_in s.managers.items m).status ≡ false → machine_of u ≡ cleared (machine_of s) m → u.work.view ≡ s.work.view →
    t.managers.items ≡ slice_set s.managers.items m (record (manager_in s.managers.items m) { status = Status.Closed; context = record { now = []; since = []; marks = none_marked } }) → t.work ≡ u.work → t.stored ≡ u.stored → machine_of t ≡ closed (machine_of s) m
shut_there s u t m h clear v f w k =
    let M = machine_of s in
    let C = (s.work.view).committed in
    let x : EntityManager = record (manager_in s.managers.items m) { status = Status.Closed; context = record { now = []; since = []; marks = none_marked } } in
    let mode : x.mode ≡ (manager_at M m).mode = sym (ap (λ (y : Manager). y.mode) (manager_there s m)) in
    let view : t.work.view ≡ s.work.view = ap (λ (y : UnitOfWork). y.view) w ∙ v in
    (λ i. record {
      objects = (ap (λ (y : UnitOfWork). y.objects.now) w ∙ ap (λ (N : Machine). N.objects) clear) i;
      managers = ((λ j. managers_of (view j).committed (f j)) ∙ managers_changed C s.managers.items m x) i;
      numbers = (ap (λ (y : UnitOfWork). y.numbers.now) w ∙ ap (λ (N : Machine). N.numbers) clear) i;
      stored_numbers = (k ∙ ap (λ (N : Machine). N.stored_numbers) clear) i;
      committed = (view i).committed;
    })
    ∙ (λ i. record (closed M m) { managers = with_manager M m (record { is_open = false; mode = mode i; context = []; transaction = sym (none_there s m h) i }) })
