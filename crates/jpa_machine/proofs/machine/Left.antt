-- What a refused call leaves, what a rollback keeps, and that no next number falls.
use Rattle.std.proofs.Common.{◌≡◌, ◌⊎◌, inl, inr, ℕ, Bool, true, false, List, [], ◌∷◌, map, refl, ap, sym, subst, ◌∙◌}
use Rattle.std.specs.Prelude.{Option, Some, None, IsErr, OnOk, Result, Ok, Err, nat_le, slice_set}
use Rattle.jpa_value.specs.declared.refusal.Refusal.{Refusal}
use Rattle.jpa_protocol.specs.declared.reply.Answer.{Answer}
use Rattle.jpql_bulk.specs.kept.Fits.{AreInherited}
use Rattle.jpa_machine.specs.machine.Updating.{MakesRepresentable}
use Rattle.std.proofs.lemmas.Bool.{false≢true, true≢false}
use Rattle.std.proofs.Math.Seq.{map-set_same}
use Rattle.jpa_behaviour.specs.Behaviour.{World, IsRegular}
use Rattle.jpa_stored.specs.objects.Sets.{each_fits}
use Rattle.jpa_work.specs.declared.heap.Life.{Life}
use Rattle.jpa_work.specs.declared.heap.LiveObject.{LiveObject}
use Rattle.jpa_work.specs.heap.Objects.{object_at, no_object, with_life}
use Rattle.jpa_work.specs.declared.context.Entry.{Entry}
use Rattle.jpa_operations.specs.ops.States.{detach_each}
use Rattle.jpa_protocol.specs.declared.call.Call.{Call}
use Rattle.jpa_protocol.specs.declared.reply.Reply.{Reply}
use Rattle.jpa_machine.specs.machine.Machine.{Machine, Transaction, manager_at, no_manager, marked_in, rolled_back}
use Rattle.jpa_machine.specs.machine.Calls.{marked_if}
use Rattle.jpa_machine.specs.machine.Routes.{Route, commits, rolls_back, route, is_commit, is_rollback}
use Rattle.jpa_machine.specs.machine.Step.{Step}
use Rattle.jpa_machine.specs.machine.Invariant.{IsMachine, hands_representable}
use Rattle.jpa_machine.specs.machine.Left.{unmarked, unmarked_in, stateless, LivesAsBefore, HoldsSameValues}
use Rattle.jpa_machine.proofs.machine.Facts.{numbers_same}
use Rattle.jpa_machine.proofs.machine.Ways.{IsOther, Ways, does_something, on_route, on_step}
use Rattle.jpa_machine.proofs.machine.Operated.{IsDone, does}
use Rattle.jpa_operations.specs.fetch.Orderly.{IsOrderly}

unmarked_same : (t : Option Transaction) → unmarked_in (marked_in t) ≡ unmarked_in t
unmarked_same None = refl
unmarked_same (Some t) = refl

detached_same : (es : List Entry) (os : List LiveObject) → map stateless (detach_each es os) ≡ map stateless os
detached_same [] os = refl
detached_same (e ∷ es) os =
    detached_same es (slice_set os e.object (with_life (object_at os e.object) Life.Detached))
    ∙ map-set_same stateless os e.object (with_life (object_at os e.object) Life.Detached) no_object refl

module _ (M : Machine) where
  -- ---- a call that is refused, and is no commit

  same : LivesAsBefore M M
  same = record { objects = refl; managers = refl; numbers = refl }

  marked_or_not : (b : Bool) (m : ℕ) → LivesAsBefore M (marked_if b M m)
  marked_or_not false m = same
  marked_or_not true m =
      record {
        objects = refl;
        managers = map-set_same unmarked M.managers m _ no_manager (ap (λ t. record (manager_at M m) { transaction = t }) (unmarked_same (manager_at M m).transaction));
        numbers = refl;
      }

  abbrev IsLeft : Route → Reply × Machine → Type 0
  IsLeft r o = commits r ≡ false → IsErr (o.0).answer → LivesAsBefore M o.1

  left_ways : (world : World) (r : Route) → Ways world M r (IsLeft r) (λ m w. Unit {0})
  left_ways world r =
      record {
        same = λ cause apart h. same;
        creates = λ other few apart h. absurd (false≢true h);
        makes = λ other class within few apart h. absurd (false≢true h);
        keeps = λ other m w a n k apart h. absurd (false≢true h);
        refuses = λ other m events cause b apart h. marked_or_not b m;
        begins = λ other m o n free apart h. absurd (false≢true h);
        marking = λ other m apart h. absurd (false≢true h);
        tells = λ other answer apart h. absurd (false≢true h);
        clears = λ other m o apart h. absurd (false≢true h);
        sets_mode = λ other m o mode apart h. absurd (false≢true h);
        closes = λ other m o none apart h. absurd (false≢true h);
        restarts = λ other none apart h. absurd (false≢true h);
        rolls = λ none m o n apart h. absurd (false≢true h);
        stores = λ writes none m w o n has k apart h. absurd (false≢true h);
        undoes = λ writes none m events why o n apart h. absurd (true≢false (sym writes ∙ apart));
      }

  -- ---- a rollback, also that of a commit which is refused

  unchanged : HoldsSameValues M M
  unchanged = record { objects = refl; numbers = refl }

  rolled : (m : ℕ) → HoldsSameValues M (rolled_back M m)
  rolled m = record { objects = detached_same (manager_at M m).context M.objects; numbers = refl }

  -- the calls after which a transaction is rolled back, if it was open
  abbrev IsUndone : Route → Reply × Machine → Type 0
  IsUndone r o = (rolls_back r ≡ true) ⊎ ((commits r ≡ true) × IsErr (o.0).answer) → HoldsSameValues M o.1

  neither : {A B : Type 0} {r : Route} → IsOther r → (rolls_back r ≡ true) ⊎ ((commits r ≡ true) × A) → B
  neither other (inl writes) = absurd (true≢false (sym writes ∙ other.no_rollback))
  neither other (inr writes) = absurd (true≢false (sym writes.0 ∙ other.no_commit))

  not_refused : {B : Type 0} (r : Route) → commits r ≡ true → rolls_back r ≡ false → (rolls_back r ≡ true) ⊎ ((commits r ≡ true) × (false ≡ true)) → B
  not_refused r writes apart (inl rolls) = absurd (true≢false (sym rolls ∙ apart))
  not_refused r writes apart (inr refused) = absurd (false≢true refused.1)

  undone_ways : (world : World) (r : Route) → Ways world M r (IsUndone r) (λ m w. Unit {0})
  undone_ways world r =
      record {
        same = λ cause h. unchanged;
        creates = λ other few. neither other;
        makes = λ other class within few. neither other;
        keeps = λ other m w a n k. neither other;
        refuses = λ other m events cause b. neither other;
        begins = λ other m o n free. neither other;
        marking = λ other m. neither other;
        tells = λ other answer. neither other;
        clears = λ other m o. neither other;
        sets_mode = λ other m o mode. neither other;
        closes = λ other m o none. neither other;
        restarts = λ other none. neither other;
        rolls = λ apart m o n h. rolled m;
        stores = λ writes apart m w o n has k. not_refused r writes apart;
        undoes = λ writes apart m events why o n h. rolled m;
      }

  -- ---- next numbers

  abbrev Rises : Reply × Machine → Type 0
  Rises o = each_fits nat_le M.numbers (o.1).numbers ≡ true

  stay : each_fits nat_le M.numbers M.numbers ≡ true
  stay = numbers_same M.numbers

  marked_stay : (b : Bool) (m : ℕ) → each_fits nat_le M.numbers (marked_if b M m).numbers ≡ true
  marked_stay true m = stay
  marked_stay false m = stay

  rising_ways : (world : World) (r : Route) → Ways world M r Rises (IsDone world M)
  rising_ways world r =
      record {
        same = λ cause. stay;
        creates = λ other few. stay;
        makes = λ other class within few. stay;
        keeps = λ other m w a n k. (k.at).raised;
        refuses = λ other m events cause b. marked_stay b m;
        begins = λ other m o n free. stay;
        marking = λ other m. stay;
        tells = λ other answer. stay;
        clears = λ other m o. stay;
        sets_mode = λ other m o mode. stay;
        closes = λ other m o none. stay;
        restarts = λ other none. stay;
        rolls = λ apart m o n. stay;
        stores = λ writes apart m w o n has k. (k.at).raised;
        undoes = λ writes apart m events why o n. stay;
      }

  -- a refused call gives none
  refused_rising : (world : World) (r : Route) → Ways world M r (λ o. IsErr (o.0).answer → Rises o) (λ m w. Unit {0})
  refused_rising world r =
      record {
        same = λ cause e. stay;
        creates = λ other few e. stay;
        makes = λ other class within few e. stay;
        keeps = λ other m w a n k e. absurd (false≢true e);
        refuses = λ other m events cause b e. marked_stay b m;
        begins = λ other m o n free e. stay;
        marking = λ other m e. stay;
        tells = λ other answer e. stay;
        clears = λ other m o e. stay;
        sets_mode = λ other m o mode e. stay;
        closes = λ other m o none e. stay;
        restarts = λ other none e. stay;
        rolls = λ apart m o n e. stay;
        stores = λ writes apart m w o n has k e. absurd (false≢true e);
        undoes = λ writes apart m events why o n e. stay;
      }

-- ---- of a step

pub step_left : (M : Machine) (world : World) (call : Call) (reply : Reply) (N : Machine) → Step world M call reply N → is_commit call ≡ false → IsErr reply.answer → LivesAsBefore M N
step_left M world call reply N step =
    let r = route call in
    on_step world call (IsLeft M r) (on_route r (left_ways M world r) (does_something world M r)) (λ apart h. same M) step

pub step_undone : (M : Machine) (world : World) (call : Call) (reply : Reply) (N : Machine) → Step world M call reply N → (is_rollback call ≡ true) ⊎ ((is_commit call ≡ true) × IsErr reply.answer) → HoldsSameValues M N
step_undone M world call reply N step =
    let r = route call in
    on_step world call (IsUndone M r) (on_route r (undone_ways M world r) (does_something world M r)) (λ h. unchanged M) step

pub step_rises : (M : Machine) {world : World} (call : Call) (reply : Reply) (N : Machine) → IsOrderly world.model → IsRegular world → AreInherited world.model → hands_representable call ≡ true →
    OnOk reply.answer (MakesRepresentable world M call) → IsMachine world M → Step world M call reply N → each_fits nat_le M.numbers N.numbers ≡ true
step_rises M {world} call reply N orderly regular inherited rep made h step = by_answer reply.answer refl made
  where
    by_answer : (a : Result Answer Refusal) → reply.answer ≡ a → OnOk a (MakesRepresentable world M call) → each_fits nat_le M.numbers N.numbers ≡ true
    by_answer (Ok a) e made = on_step world call (Rises M) (on_route (route call) (rising_ways M world (route call)) (does world M orderly regular inherited call rep made h)) (stay M) step
    by_answer (Err r) e made =
        on_step world call (λ o. IsErr (o.0).answer → Rises M o) (on_route (route call) (refused_rising M world (route call)) (does_something world M (route call))) (λ refused. stay M) step (subst IsErr (sym e) refl)
