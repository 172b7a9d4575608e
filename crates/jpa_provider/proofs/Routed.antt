-- How calls step whose route is an operation: of a manager that is named, or of whoever holds an object.
use Rattle.std.proofs.Common.{◌≡◌, ◌<◌, inl, ℕ, ℤ, Bool, true, false, List, length, refl, ap, sym, subst, ◌∙◌}
use Rattle.std.specs.Prelude.{Option, Some, None, is_some, if◌then◌else◌}
use Rattle.std.proofs.lemmas.Bool.{false≢true, true≢false}
use Rattle.jpa_value.specs.declared.refusal.Cause.{Cause}
use Rattle.jpa_behaviour.specs.Behaviour.{World}
use Rattle.jpa_work.specs.declared.heap.Life.{Life}
use Rattle.jpa_work.specs.heap.Objects.{place_of, object_at}
use Rattle.jpa_work.specs.context.Work.{Work}
use Rattle.jpa_work.specs.context.Steps.{Op, after, done}
use Rattle.jpa_protocol.specs.declared.call.Call.{Call}
use Rattle.jpa_protocol.specs.declared.call.Parameter.{Parameter}
use Rattle.jpa_machine.specs.machine.Updating.{update_outcome}
use Rattle.jpa_protocol.specs.declared.reply.Answer.{Answer}
use Rattle.jpa_protocol.specs.declared.reply.Reply.{Reply}
use Rattle.jpa_provider.specs.declared.replies.Rule.{Rule}
use Rattle.jpa_provider.specs.declared.session.Session.{Session}
use Rattle.jpa_machine.specs.machine.Machine.{Machine, flushes_first, work_of}
use Rattle.jpa_machine.specs.machine.Calls.{because, ended, marks, marks_if_callback, give_or}
use Rattle.jpa_machine.specs.machine.Routes.{OfManager, ToQuery, InTransaction, OfObject, by_route, holder, holder_in, if_begun, transaction_required, required_of, stands_numbered, flush_call, is_free, route}
use Rattle.jpa_provider.specs.Operations.{on_numbered, manager_holding, EndsSo}
use Rattle.jpa_machine.specs.machine.Consistent.{stands_in}
use Rattle.jpa_machine.specs.machine.Invariant.{IsMachine, context_of}
use Rattle.jpa_provider.specs.Serving.{machine_of, manager_in, is_begun_status, named, Serves}
use Rattle.jpa_machine.proofs.machine.AtWork.{IsOpen, holding_open}
use Rattle.jpa_provider.proofs.Opened.{refusal}
use Rattle.jpa_provider.proofs.Worked.{of_manager, of_nobody, some_same, ended_step}
use Rattle.jpa_provider.proofs.Sessions.{managers_count, begun_there}

-- ---- of a manager that is named

module _ (world : World) (s : Session) (em : ℤ) (op : World → Op Answer) (call : Call) (e : route call ≡ OfManager em op) where
  pub worked_alone : named s em ≡ None → Serves world s call (refusal Cause.NoSuchManager) s
  worked_alone place =
      let M = machine_of s in
      inl (ap (by_route world M) e ∙ of_nobody s (λ m. ended marks M m (op world (work_of M m))) em place)

  pub worked_so : (t : Session) (m : ℕ) (reply : Reply) → named s em ≡ Some m →
      EndsSo Rule.OfManager (machine_of s) m (op world (work_of (machine_of s) m)) reply (machine_of t) → Serves world s call reply t
  worked_so t m reply place h =
      let M = machine_of s in
      ended_step world call Rule.OfManager m (op world (work_of M m)) (ap is_free e) (ap (by_route world M) e ∙ of_manager s (λ k. ended marks M k (op world (work_of M k))) em m place) h

-- ---- of a manager's open transaction

-- what is refused of an object by its number where no transaction is open
without_transaction : (M : Machine) (w : Work) (o : Option ℕ) → transaction_required M (after (give_or Cause.NoSuchObject o w) (λ n. done)) ≡ because M (required_of o)
without_transaction M w None = refl
without_transaction M w (Some n) = refl

module _ (world : World) (s : Session) (em : ℤ) (given : Op (Unit {0})) (op : World → Op Answer) (call : Call) (e : route call ≡ InTransaction em given op) where
  abbrev beginning : ℕ → Reply × Machine
  beginning m = let M = machine_of s in if_begun M m (given (work_of M m)) (ended marks M m (op world (work_of M m)))

  pub begun_alone : named s em ≡ None → Serves world s call (refusal Cause.NoSuchManager) s
  begun_alone place = inl (ap (by_route world (machine_of s)) e ∙ of_nobody s beginning em place)

  pub begun_idle : (m : ℕ) (r : Cause) → named s em ≡ Some m → is_begun_status (manager_in s.managers.items m).status ≡ false →
      transaction_required (machine_of s) (given (work_of (machine_of s) m)) ≡ because (machine_of s) r → Serves world s call (refusal r) s
  begun_idle m r place h why =
      let M = machine_of s in
      inl (ap (by_route world M) e ∙ of_manager s beginning em m place
      ∙ ap (λ b. if b then ended marks M m (op world (work_of M m)) else transaction_required M (given (work_of M m))) (begun_there s m ∙ h) ∙ why)

  pub begun_so : (t : Session) (m : ℕ) (reply : Reply) → named s em ≡ Some m → is_begun_status (manager_in s.managers.items m).status ≡ true →
      EndsSo Rule.OfManager (machine_of s) m (op world (work_of (machine_of s) m)) reply (machine_of t) → Serves world s call reply t
  begun_so t m reply place begun h =
      let M = machine_of s in
      ended_step world call Rule.OfManager m (op world (work_of M m)) (ap is_free e)
      (ap (by_route world M) e ∙ of_manager s beginning em m place
      ∙ ap (λ b. if b then ended marks M m (op world (work_of M m)) else transaction_required M (given (work_of M m))) (begun_there s m ∙ begun)) h

module _ (world : World) (s : Session) (em : ℤ) where
  pub flush_alone : named s em ≡ None → Serves world s (Call.Flush em) (refusal Cause.NoSuchManager) s
  flush_alone = begun_alone world s em done flush_call (Call.Flush em) refl

  pub flush_idle : (m : ℕ) → named s em ≡ Some m → is_begun_status (manager_in s.managers.items m).status ≡ false → Serves world s (Call.Flush em) (refusal Cause.TransactionRequired) s
  flush_idle m place h = begun_idle world s em done flush_call (Call.Flush em) refl m Cause.TransactionRequired place h refl

  pub flush_so : (t : Session) (m : ℕ) (reply : Reply) → named s em ≡ Some m → is_begun_status (manager_in s.managers.items m).status ≡ true →
      EndsSo Rule.OfManager (machine_of s) m (flush_call world (work_of (machine_of s) m)) reply (machine_of t) → Serves world s (Call.Flush em) reply t
  flush_so = begun_so world s em done flush_call (Call.Flush em) refl

-- on an object by its number
pub object_idle : (world : World) (s : Session) (em object : ℤ) (op : World → Op Answer) (call : Call) → route call ≡ InTransaction em (stands_numbered object) op → (m : ℕ) → named s em ≡ Some m →
    is_begun_status (manager_in s.managers.items m).status ≡ false → Serves world s call (refusal (required_of (place_of (length s.work.objects.now) object))) s
object_idle world s em object op call e m place h =
    let o = place_of (length s.work.objects.now) object in
    begun_idle world s em (stands_numbered object) op call e m (required_of o) place h (without_transaction (machine_of s) (work_of (machine_of s) m) o)

-- the number names none
pub unknown_so : (world : World) (M : Machine) (m : ℕ) (number : ℤ) (op : World → ℕ → Op Answer) (reply : Reply) → place_of (length M.objects) number ≡ None → reply ≡ refusal Cause.NoSuchObject →
    EndsSo Rule.OfManager M m (on_numbered number op world (work_of M m)) reply M
unknown_so world M m number op reply place e =
    inl (ap (λ o. ended marks M m (after (give_or Cause.NoSuchObject o (work_of M m)) (op world))) place ∙ (λ i. (sym e i, M)))

-- ---- of a manager whose objects may be flushed first

module _ (world : World) (s : Session) (em : ℤ) (op : Bool → World → Op Answer) (call : Call) (e : route call ≡ ToQuery em op) where
  abbrev asking : ℕ → Reply × Machine
  asking m = let M = machine_of s in ended marks M m (op (flushes_first M m) world (work_of M m))

  pub asked_alone : named s em ≡ None → Serves world s call (refusal Cause.NoSuchManager) s
  asked_alone place = inl (ap (by_route world (machine_of s)) e ∙ of_nobody s asking em place)

  pub asked_so : (t : Session) (m : ℕ) (reply : Reply) → named s em ≡ Some m →
      EndsSo Rule.OfManager (machine_of s) m (op (flushes_first (machine_of s) m) world (work_of (machine_of s) m)) reply (machine_of t) → Serves world s call reply t
  asked_so t m reply place h =
      let M = machine_of s in
      ended_step world call Rule.OfManager m (op (flushes_first M m) world (work_of M m)) (ap is_free e) (ap (by_route world M) e ∙ of_manager s asking em m place) h

-- ---- of a manager that is told whether its transaction is open

pub update_so : (world : World) (s : Session) (em : ℤ) (text : List ℕ) (ps : List Parameter) (t : Session) (m : ℕ) (reply : Reply) → named s em ≡ Some m →
    EndsSo Rule.OfManager (machine_of s) m (update_outcome world (machine_of s) text ps m) reply (machine_of t) → Serves world s (Call.ExecuteUpdate em text ps) reply t
update_so world s em text ps t m reply place h =
    let M = machine_of s in
    ended_step world (Call.ExecuteUpdate em text ps) Rule.OfManager m (update_outcome world M text ps m) refl (of_manager s (λ k. ended marks M k (update_outcome world M text ps k)) em m place) h

-- ---- of whoever holds an object

abbrev by_given : World → Machine → (World → ℕ → Op Answer) → Option ℕ → Reply × Machine
by_given world M op o = ended marks_if_callback M (holder M o) (after (give_or Cause.NoSuchObject o (work_of M (holder M o))) (op world))

module _ (world : World) (s : Session) (number : ℤ) (op : World → ℕ → Op Answer) (call : Call) (e : route call ≡ OfObject number op) where
  pub held_alone : place_of (length s.work.objects.now) number ≡ None → Serves world s call (refusal Cause.NoSuchObject) s
  held_alone place = let M = machine_of s in inl (ap (by_route world M) e ∙ ap (by_given world M op) place)

  pub held_so : (t : Session) (n m : ℕ) (reply : Reply) → place_of (length s.work.objects.now) number ≡ Some n → holder_in (machine_of s) (object_at s.work.objects.now n).life ≡ m →
      EndsSo Rule.OfObject (machine_of s) m (op world n (work_of (machine_of s) m)) reply (machine_of t) → Serves world s call reply t
  held_so t n m reply place holds h =
      let M = machine_of s in
      ended_step world call Rule.OfObject m (op world n (work_of M m)) (ap is_free e)
      (ap (by_route world M) e ∙ ap (by_given world M op) place ∙ ap (λ k. ended marks_if_callback M k (op world n (work_of M k))) holds) h

-- ---- who holds it

pub holds : (M : Machine) (life : Life) (m : ℕ) → manager_holding life ≡ Some m → holder_in M life ≡ m
holds M Life.New m e = absurd (false≢true (ap is_some e))
holds M (Life.Managed k) m e = some_same k m e
holds M (Life.Removed k) m e = some_same k m e
holds M Life.Detached m e = absurd (false≢true (ap is_some e))

pub holds_not : (M : Machine) (life : Life) → manager_holding life ≡ None → holder_in M life ≡ length M.managers
holds_not M Life.New e = refl
holds_not M (Life.Managed k) e = absurd (true≢false (ap is_some e))
holds_not M (Life.Removed k) e = absurd (true≢false (ap is_some e))
holds_not M Life.Detached e = refl

holding_life : {world : World} (M : Machine) (n : ℕ) (life : Life) → IsMachine world M → stands_in (context_of M) n life ≡ true → is_some (manager_holding life) ≡ true → IsOpen M (holder_in M life)
holding_life M n Life.New h stands some = absurd (false≢true some)
holding_life M n (Life.Managed k) h stands some = holding_open M k n h stands
holding_life M n (Life.Removed k) h stands some = holding_open M k n h stands
holding_life M n Life.Detached h stands some = absurd (false≢true some)

-- the manager that holds an object is one that was made
pub holder_within : {world : World} (s : Session) (n m : ℕ) → IsMachine world (machine_of s) → n < length s.work.objects.now → manager_holding (object_at s.work.objects.now n).life ≡ Some m → m < length s.managers.items
holder_within {world} s n m h l e =
    let M = machine_of s in
    let life = (object_at s.work.objects.now n).life in
    let o = holding_life M n life h (h.placed n l) (ap is_some e) in
    subst (λ k. m < k) (managers_count s) (subst (λ k. k < length M.managers) (holds M life m e) o.within)
