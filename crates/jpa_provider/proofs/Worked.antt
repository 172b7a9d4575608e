-- How the calls that work on a manager's context step.
use Rattle.std.proofs.Common.{◌≡◌, ◌⊎◌, inl, inr, ℕ, ℤ, Bool, true, false, List, [], length, refl, ap, sym, subst, ◌∙◌}
use Rattle.std.specs.Prelude.{Option, Some, None, is_some, Result, Ok, Err, OnOk, OnErr, if◌then◌else◌}
use Rattle.std.specs.Option.{unwrap_or}
use Rattle.std.proofs.lemmas.Bool.{false≢true, true≢false}
use Rattle.jpa_value.specs.declared.refusal.Cause.{Cause}
use Rattle.jpa_value.specs.declared.refusal.Refusal.{Refusal}
use Rattle.jpa_behaviour.specs.Behaviour.{World}
use Rattle.jpa_protocol.specs.declared.call.Call.{Call}
use Rattle.jpa_protocol.specs.declared.event.Told.{Told}
use Rattle.jpa_protocol.specs.declared.reply.Answer.{Answer}
use Rattle.jpa_protocol.specs.declared.reply.Reply.{Reply}
use Rattle.jpa_work.specs.heap.Objects.{place_of}
use Rattle.jpa_open.specs.Opened.{begun_over, seen_over}
use Rattle.jpa_work.specs.declared.context.work.UnitOfWork.{UnitOfWork}
use Rattle.jpa_work.specs.context.Work.{Work}
use Rattle.jpa_work.specs.context.Steps.{Outcome, Refused, IsRefusedAs, Meets}
use Rattle.jpa_work.specs.context.Undo.{since, Since}
use Rattle.jpa_provider.specs.declared.session.Session.{Session}
use Rattle.jpa_provider.specs.declared.session.EntityManager.{EntityManager}
use Rattle.jpa_provider.specs.declared.replies.Rule.{Rule}
use Rattle.jpa_machine.specs.machine.Machine.{Machine, Manager, manager_at}
use Rattle.jpa_machine.specs.machine.Calls.{because, ended, marks, marks_if_callback, marked_if}
use Rattle.jpa_machine.specs.machine.Routes.{by_manager, if_open, takes_nothing}
use Rattle.jpa_machine.specs.machine.Step.{Step, IsGivenUp, gives_up, outcome}
use Rattle.jpa_provider.specs.Operations.{told_of, is_marked_by, Concludes, EndsSo}
use Rattle.jpa_provider.specs.Serving.{machine_of, manager_in, transaction_in, is_open_status, if_named, named, IsAway, IsWorking}
use Rattle.jpa_machine.proofs.machine.Updated.{ok_from}
use Rattle.jpa_provider.proofs.Sessions.{manager_there, managers_count}

-- ---- refusals

-- a refusal is the definition's, or the code gave up
abbrev pub IsEnd : {A : Type 0} → Cause → List Told → Outcome A → Type 0
IsEnd r events o = (((r ≡ Cause.OutOfMemory) ⊎ (r ≡ Cause.StoreFault)) × (told_of r events ≡ [])) ⊎ ((o ≡ Refused r events) × (told_of r events ≡ events))

pub ends : {A : Type 0} (r : Cause) (events : List Told) (o : Outcome A) → IsRefusedAs r events o → IsEnd r events o
ends Cause.OutOfMemory events o h = inl (inl refl, refl)
ends Cause.StoreFault events o h = absurd h
ends Cause.BadLine events o h = inr (h, refl)
ends Cause.NoSuchManager events o h = inr (h, refl)
ends Cause.NoSuchObject events o h = inr (h, refl)
ends Cause.TransactionRequired events o h = inr (h, refl)
ends Cause.EntityExists events o h = inr (h, refl)
ends Cause.EntityNotFound events o h = inr (h, refl)
ends Cause.OptimisticLock events o h = inr (h, refl)
ends Cause.NoResult events o h = inr (h, refl)
ends Cause.NonUniqueResult events o h = inr (h, refl)
ends Cause.Overflow events o h = inr (h, refl)
ends Cause.Busy events o h = inr (h, refl)
ends Cause.Limit events o h = inr (h, refl)
ends (Cause.IllegalArgument a) events o h = inr (h, refl)
ends (Cause.IllegalState a) events o h = inr (h, refl)
ends (Cause.Persistence a) events o h = inr (h, refl)
ends (Cause.Listener a) events o h = inr (h, refl)
ends (Cause.Mapping a) events o h = inr (h, refl)
ends (Cause.Damaged t row) events o h = inr (h, refl)

-- ---- the manager that a number names

pub some_same : (a b : ℕ) → Some a ≡ Some b → a ≡ b
some_same a b e = ap (λ o. unwrap_or o a) e

module _ (s : Session) (next : ℕ → Reply × Machine) (em : ℤ) where
  abbrev M : Machine
  M = machine_of s

  abbrev xs : List EntityManager
  xs = s.managers.items

  by_number : by_manager M em next ≡ if_open M (place_of (length xs) em) next
  by_number = ap (λ n. if_open M (place_of n em) next) (managers_count s)

  open_there : (k : ℕ) → (manager_at M k).is_open ≡ is_open_status (manager_in xs k).status
  open_there k = ap (λ (x : Manager). x.is_open) (manager_there s k)

  -- a call of this manager
  pub of_manager : (m : ℕ) → named s em ≡ Some m → by_manager M em next ≡ next m
  of_manager m e = by_number ∙ by_place (place_of (length xs) em) e
    where
      by_flag : (k : ℕ) (b : Bool) → is_open_status (manager_in xs k).status ≡ b → (if b then Some k else None) ≡ Some m → if_open M (Some k) next ≡ next m
      by_flag k true o q = ap (λ c. if c then next k else because M Cause.NoSuchManager) (open_there k ∙ o) ∙ ap next (some_same k m q)
      by_flag k false o q = absurd (false≢true (ap is_some q))

      by_place : (o : Option ℕ) → if_named xs o ≡ Some m → if_open M o next ≡ next m
      by_place None q = absurd (false≢true (ap is_some q))
      by_place (Some k) q = by_flag k (is_open_status (manager_in xs k).status) refl q

  pub of_nobody : named s em ≡ None → by_manager M em next ≡ because M Cause.NoSuchManager
  of_nobody e = by_number ∙ by_place (place_of (length xs) em) e
    where
      by_flag : (k : ℕ) (b : Bool) → is_open_status (manager_in xs k).status ≡ b → (if b then Some k else None) ≡ None → if_open M (Some k) next ≡ because M Cause.NoSuchManager
      by_flag k true o q = absurd (true≢false (ap is_some q))
      by_flag k false o q = ap (λ c. if c then next k else because M Cause.NoSuchManager) (open_there k ∙ o)

      by_place : (o : Option ℕ) → if_named xs o ≡ None → if_open M o next ≡ because M Cause.NoSuchManager
      by_place None q = refl
      by_place (Some k) q = by_flag k (is_open_status (manager_in xs k).status) refl q

-- such a manager is open
pub named_open : (s : Session) (em : ℤ) (m : ℕ) → named s em ≡ Some m → is_open_status (manager_in s.managers.items m).status ≡ true
named_open s em m e = by_place (place_of (length s.managers.items) em) e
  where
    by_flag : (k : ℕ) (b : Bool) → is_open_status (manager_in s.managers.items k).status ≡ b → (if b then Some k else None) ≡ Some m → is_open_status (manager_in s.managers.items m).status ≡ true
    by_flag k true o q = ap (λ j. is_open_status (manager_in s.managers.items j).status) (sym (some_same k m q)) ∙ o
    by_flag k false o q = absurd (false≢true (ap is_some q))

    by_place : (o : Option ℕ) → if_named s.managers.items o ≡ Some m → is_open_status (manager_in s.managers.items m).status ≡ true
    by_place None q = absurd (false≢true (ap is_some q))
    by_place (Some k) q = by_flag k (is_open_status (manager_in s.managers.items k).status) refl q

-- a number names one manager
pub named_same : (s : Session) (em : ℤ) (m k : ℕ) → named s em ≡ Some m → place_of (length (machine_of s).managers) em ≡ Some k → m ≡ k
named_same s em m k e place =
    by_flag (is_open_status (manager_in s.managers.items k).status) (sym (ap (if_named s.managers.items) (ap (λ n. place_of n em) (sym (managers_count s)) ∙ place)) ∙ e)
  where
    by_flag : (b : Bool) → (if b then Some k else None) ≡ Some m → m ≡ k
    by_flag true q = sym (some_same k m q)
    by_flag false q = absurd (false≢true (ap is_some q))

-- ---- while it works

-- the view keeps what is committed, and the sets of the transaction that undoing leads back to
pub still_away : {M : Machine} {m : ℕ} (s : Session) (u : UnitOfWork) → IsAway M m s → (u.view).kept ≡ (s.work.view).kept → (u.view).begun ≡ (s.work.view).begun → (u.view).committed ≡ (s.work.view).committed →
    IsAway M m (record s { work = u })
still_away {M} {m} s u h k b c =
    let x = manager_in s.managers.items m in
    record {
      within = h.within;
      committed = c ∙ h.committed;
      stored = h.stored;
      status = (λ i. transaction_in x.status (b i) (k i)) ∙ h.status;
      apart = λ none. let rests = (h.apart none).0 in (record { begun = b ∙ rests.begun ∙ sym c; kept = k ∙ rests.kept ∙ sym c }, (h.apart none).1);
      home = ap (begun_over x.layers) c ∙ h.home ∙ sym c;
      home_too = ap (seen_over x.layers) c ∙ h.home_too ∙ sym c;
      managers = h.managers;
      is_open = h.is_open;
      mode = h.mode;
      idle = h.idle;
      counted = record { opened = (h.counted).opened };
    }

pub still_working : {M : Machine} {m : ℕ} (s : Session) (u : UnitOfWork) → IsWorking M m s → since u ≡ since s.work → IsWorking M m (record s { work = u })
still_working s u h e =
    record {
      away = still_away s u h.away (ap (λ (x : Since). x.kept) e) (ap (λ (x : Since). x.begun) e) (ap (λ (x : Since). x.committed) e);
      objects = ap (λ (x : Since). x.objects) e ∙ h.objects;
      context = ap (λ (x : Since). x.context) e ∙ h.context;
      numbers = ap (λ (x : Since). x.numbers) e ∙ h.numbers;
    }

pub if_refused : {A : Type 0} {P : Type 0} (r : Result A Cause) → P → OnErr r P
if_refused (Ok a) h = tt
if_refused (Err e) h = h

-- where it was refused
pub on_err : {A : Type 0} {P Q : Type 0} (r : Result A Cause) → (P → Q) → OnErr r P → OnErr r Q
on_err (Ok a) f h = h
on_err (Err e) f h = f h

-- ---- the end

gave : (r : Cause) (reply : Reply) → (r ≡ Cause.OutOfMemory) ⊎ (r ≡ Cause.StoreFault) → reply ≡ record { events = []; answer = Err (Refusal.Because r) } → IsGivenUp reply
gave r reply (inl x) y = inl (y ∙ ap gives_up x)
gave r reply (inr x) y = inr (y ∙ ap gives_up x)

-- these mark no transaction
unmarked : (rule : Rule) (r : Cause) → (r ≡ Cause.OutOfMemory) ⊎ (r ≡ Cause.StoreFault) → is_marked_by rule r ≡ false
unmarked Rule.OfManager r (inl e) = ap marks e
unmarked Rule.OfManager r (inr e) = ap marks e
unmarked Rule.OfObject r (inl e) = ap marks_if_callback e
unmarked Rule.OfObject r (inr e) = ap marks_if_callback e

pub ends_so : (rule : Rule) (M N : Machine) (m : ℕ) (o : Outcome Answer) (answered : Result Answer Cause) (w : Work) (reply : Reply) → Meets answered w o → Concludes rule M m w answered reply N → EndsSo rule M m o reply N
ends_so rule M N m o (Ok answer) w reply a c = inl (ap (ended (is_marked_by rule) M m) a ∙ (λ i. (sym c.0 i, sym c.1 i)))
ends_so rule M N m o (Err r) w reply a c = by_end (ends r w.events o a)
  where
    by_end : IsEnd r w.events o → EndsSo rule M m o reply N
    by_end (inl g) = inr (gave r reply g.0 (c.0 ∙ ap (λ es. record { events = es; answer = Err (Refusal.Because r) }) g.1), c.1 ∙ ap (λ b. marked_if b M m) (unmarked rule r g.0))
    by_end (inr g) = inl (ap (ended (is_marked_by rule) M m) g.0 ∙ (λ i. (sym (c.0 ∙ ap (λ es. record { events = es; answer = Err (Refusal.Because r) }) g.1) i, sym c.1 i)))

-- what an answer tells the reply does
pub told_ok : (X : Type 0) (rule : Rule) (M N : Machine) (m : ℕ) (w : Work) (answered : Result Answer Cause) (reply : Reply) → Concludes rule M m w answered reply N → OnOk answered X → OnOk reply.answer X
told_ok X rule M N m w (Ok a) reply c x = ok_from reply.answer x
told_ok X rule M N m w (Err r) reply c x = subst (λ (y : Reply). OnOk y.answer X) (sym c.0) tt

-- a call along a route that takes memory steps so
pub ended_step : (world : World) {M N : Machine} {reply : Reply} (call : Call) (rule : Rule) (m : ℕ) (o : Outcome Answer) → takes_nothing call ≡ false → outcome world M call ≡ ended (is_marked_by rule) M m o →
    EndsSo rule M m o reply N → Step world M call reply N
ended_step world call rule m o takes e (inl h) = inl (e ∙ h)
ended_step world call rule m o takes e (inr g) = inr (takes, g.0, g.1)
