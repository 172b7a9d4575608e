-- How contains, clear and setFlushMode step.
use Rattle.jpa_work.specs.context.Marks.{Entries}
use Rattle.std.proofs.Common.{◌≡◌, inl, ℕ, ℤ, Bool, [], length, ap, sym, ◌∙◌}
use Rattle.std.specs.Prelude.{slice_set, Some, None}
use Rattle.jpa_value.specs.declared.refusal.Cause.{Cause}
use Rattle.jpa_behaviour.specs.Behaviour.{World}
use Rattle.jpa_work.specs.heap.Objects.{place_of, object_at}
use Rattle.jpa_work.specs.context.Work.{is_managed, state_from}
use Rattle.jpa_operations.specs.ops.States.{detach_each}
use Rattle.jpa_protocol.specs.declared.call.Call.{Call}
use Rattle.jpa_protocol.specs.declared.call.FlushMode.{FlushMode}
use Rattle.jpa_protocol.specs.declared.reply.Answer.{Answer}
use Rattle.jpa_protocol.specs.declared.reply.Reply.{Reply}
use Rattle.jpa_provider.specs.declared.session.Session.{Session}
use Rattle.jpa_machine.specs.machine.Machine.{Machine, Manager, with_manager, with_mode, cleared}
use Rattle.jpa_machine.specs.machine.Calls.{accepted}
use Rattle.jpa_machine.specs.machine.Routes.{answered, contains, contains_in}
use Rattle.jpa_open.specs.Opened.{Opened}
use Rattle.jpa_provider.specs.Serving.{manager_in, machine_of, named, Serves}
use Rattle.jpa_provider.proofs.Opened.{told, refusal}
use Rattle.jpa_provider.proofs.Sessions.{manager_there, replaced}
use Rattle.jpa_provider.proofs.Worked.{of_manager, of_nobody}

-- ---- contains

module _ (world : World) (s : Session) (em number : ℤ) where
  abbrev asked : ℕ → Reply × Machine
  asked m = answered (machine_of s) (contains number (machine_of s) m)

  pub contains_alone : named s em ≡ None → Serves world s (Call.Contains em number) (refusal Cause.NoSuchManager) s
  contains_alone e = inl (of_nobody s asked em e)

  pub contains_unknown : (m : ℕ) → named s em ≡ Some m → place_of (length s.work.objects.now) number ≡ None →
      Serves world s (Call.Contains em number) (refusal Cause.NoSuchObject) s
  contains_unknown m e place = inl (of_manager s asked em m e ∙ ap (λ o. answered (machine_of s) (contains_in (machine_of s) m o)) place)

  pub contains_told : (m n : ℕ) (b : Bool) → named s em ≡ Some m → place_of (length s.work.objects.now) number ≡ Some n →
      b ≡ is_managed (state_from m (object_at s.work.objects.now n).life) → Serves world s (Call.Contains em number) (told (Answer.Truth b)) s
  contains_told m n b e place same =
      inl (of_manager s asked em m e ∙ ap (λ o. answered (machine_of s) (contains_in (machine_of s) m o)) place ∙ ap (λ c. (told (Answer.Truth c), machine_of s)) (sym same))

-- ---- clear

pub clear_alone : (world : World) (s : Session) (em : ℤ) → named s em ≡ None → Serves world s (Call.Clear em) (refusal Cause.NoSuchManager) s
clear_alone world s em e = inl (of_nobody s (λ m. accepted [] Answer.Null (cleared (machine_of s) m)) em e)

pub clear_clears : (world : World) (s t : Session) (em : ℤ) (m : ℕ) → named s em ≡ Some m → machine_of t ≡ cleared (machine_of s) m →
    Serves world s (Call.Clear em) (told Answer.Null) t
clear_clears world s t em m e f =
    inl (of_manager s (λ k. accepted [] Answer.Null (cleared (machine_of s) k)) em m e ∙ (λ i. (told Answer.Null, sym f i)))

pub cleared_there : (s t : Session) (m : ℕ) (c : Entries) → t.managers.items ≡ slice_set s.managers.items m (record (manager_in s.managers.items m) { context = c }) → c.now ≡ [] →
    t.work.objects.now ≡ detach_each (manager_in s.managers.items m).context.now s.work.objects.now → t.work.view ≡ s.work.view → t.work.numbers.now ≡ s.work.numbers.now → t.stored ≡ s.stored →
    machine_of t ≡ cleared (machine_of s) m
cleared_there s t m c f e o v n k =
    let there = manager_there s m in
    replaced s t m (record (manager_in s.managers.items m) { context = c }) f (ap (λ (w : Opened). w.committed) v) n k
    ∙ (λ i. record (machine_of s) {
      objects = (o ∙ ap (λ (x : Manager). detach_each x.context s.work.objects.now) (sym there)) i;
      managers = with_manager (machine_of s) m (record (sym there i) { context = e i });
    })

-- ---- the flush mode

pub mode_alone : (world : World) (s : Session) (em : ℤ) (mode : FlushMode) → named s em ≡ None → Serves world s (Call.SetFlushMode em mode) (refusal Cause.NoSuchManager) s
mode_alone world s em mode e = inl (of_nobody s (λ m. accepted [] Answer.Null (with_mode (machine_of s) m mode)) em e)

pub mode_set : (world : World) (s t : Session) (em : ℤ) (mode : FlushMode) (m : ℕ) → named s em ≡ Some m → machine_of t ≡ with_mode (machine_of s) m mode →
    Serves world s (Call.SetFlushMode em mode) (told Answer.Null) t
mode_set world s t em mode m e f =
    inl (of_manager s (λ k. accepted [] Answer.Null (with_mode (machine_of s) k mode)) em m e ∙ (λ i. (told Answer.Null, sym f i)))
