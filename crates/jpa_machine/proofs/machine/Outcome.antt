-- What holds of the machine between calls is kept by each call, in every orderly unit whose functions are regular.
use Rattle.std.proofs.Common.{◌≡◌, ℕ, Bool, true, false, List, [], ◌∷◌, refl, sym, subst}
use Rattle.std.specs.Prelude.{not, IsErr, OnOk, Result, Ok, Err}
use Rattle.std.specs.List.{list_all}
use Rattle.std.proofs.lemmas.Bool.{and_parts, false≢true}
use Rattle.jpa_value.specs.declared.refusal.Refusal.{Refusal}
use Rattle.jpa_behaviour.specs.Behaviour.{World, IsRegular}
use Rattle.jpa_protocol.specs.declared.call.Call.{Call}
use Rattle.jpa_protocol.specs.declared.reply.Answer.{Answer}
use Rattle.jpa_protocol.specs.declared.reply.Reply.{Reply}
use Rattle.jpql_bulk.specs.kept.Fits.{AreInherited}
use Rattle.jpa_machine.specs.machine.Updating.{MakesRepresentable, is_bulk}
use Rattle.jpa_machine.specs.machine.Machine.{Machine}
use Rattle.jpa_machine.specs.machine.Calls.{marked_if}
use Rattle.jpa_machine.specs.machine.Routes.{Route, route}
use Rattle.jpa_machine.specs.machine.Step.{outcome, machine_after, Step}
use Rattle.jpa_machine.specs.machine.Invariant.{IsMachine, hands_representable}
use Rattle.jpa_machine.proofs.machine.AtWork.{returned}
use Rattle.jpa_machine.proofs.machine.Settled.{restarted_holds, created_holds, begun_holds, marked_holds, mode_holds}
use Rattle.jpa_machine.proofs.machine.Created.{object_made}
use Rattle.jpa_machine.proofs.machine.Ended.{cleared_holds, closed_holds, committed_holds, rolled_back_holds}
use Rattle.jpa_machine.proofs.machine.Ways.{Ways, does_something, on_route, on_step}
use Rattle.jpa_machine.proofs.machine.Operated.{IsDone, does}
use Rattle.jpa_operations.specs.fetch.Orderly.{IsOrderly}

ways : {world : World} {M : Machine} (r : Route) → IsMachine world M → Ways world M r (λ o. IsMachine world o.1) (IsDone world M)
ways {world} {M} r h =
    record {
      same = λ cause. h;
      creates = λ other few. created_holds h few;
      makes = λ other class within few. object_made class within few h;
      keeps = λ other m w a n k. returned k.back h k.at;
      refuses = λ other m events cause b. marked_or_not b m;
      begins = λ other m o n free. begun_holds m o.within o.is_open h;
      marking = λ other m. marked_holds m h;
      tells = λ other a. h;
      clears = λ other m o. cleared_holds m o.within o.is_open h;
      sets_mode = λ other m o mode. mode_holds m mode o.within h;
      closes = λ other m o none. closed_holds m o.within o.is_open none h;
      restarts = λ other none. restarted_holds h;
      rolls = λ apart m o n. rolled_back_holds m o.within o.is_open h;
      stores = λ writes apart m w o n has k. committed_holds o.within o.is_open h k.at;
      undoes = λ writes apart m events why o n. rolled_back_holds m o.within o.is_open h;
    }
  where
    marked_or_not : (b : Bool) (m : ℕ) → IsMachine world (marked_if b M m)
    marked_or_not true m = marked_holds m h
    marked_or_not false m = h

-- a refused call keeps it whatever its operation did
refused_ways : {world : World} {M : Machine} (r : Route) → IsMachine world M → Ways world M r (λ o. IsErr (o.0).answer → IsMachine world o.1) (λ m w. Unit {0})
refused_ways {world} {M} r h =
    record {
      same = λ cause e. h;
      creates = λ other few e. created_holds h few;
      makes = λ other class within few e. object_made class within few h;
      keeps = λ other m w a n k e. absurd (false≢true e);
      refuses = λ other m events cause b e. marked_or_not b m;
      begins = λ other m o n free e. begun_holds m o.within o.is_open h;
      marking = λ other m e. marked_holds m h;
      tells = λ other a e. h;
      clears = λ other m o e. cleared_holds m o.within o.is_open h;
      sets_mode = λ other m o mode e. mode_holds m mode o.within h;
      closes = λ other m o none e. closed_holds m o.within o.is_open none h;
      restarts = λ other none e. restarted_holds h;
      rolls = λ apart m o n e. rolled_back_holds m o.within o.is_open h;
      stores = λ writes apart m w o n has k e. absurd (false≢true e);
      undoes = λ writes apart m events why o n e. rolled_back_holds m o.within o.is_open h;
    }
  where
    marked_or_not : (b : Bool) (m : ℕ) → IsMachine world (marked_if b M m)
    marked_or_not true m = marked_holds m h
    marked_or_not false m = h

-- each call keeps what holds of the machine
pub outcome_keeps : {world : World} {M : Machine} → IsOrderly world.model → IsRegular world → AreInherited world.model → (call : Call) → hands_representable call ≡ true → MakesRepresentable world M call → IsMachine world M →
    IsMachine world (outcome world M call).1
outcome_keeps {world} {M} orderly regular inherited call rep made h = on_route (route call) (ways (route call) h) (does world M orderly regular inherited call rep made h)

-- ---- steps and runs

pub step_keeps : {world : World} {M N : Machine} {reply : Reply} → IsOrderly world.model → IsRegular world → AreInherited world.model → (call : Call) → hands_representable call ≡ true →
    OnOk reply.answer (MakesRepresentable world M call) → IsMachine world M → Step world M call reply N → IsMachine world N
step_keeps {world} {M} {N} {reply} orderly regular inherited call rep made h step = by_answer reply.answer refl made
  where
    by_answer : (a : Result Answer Refusal) → reply.answer ≡ a → OnOk a (MakesRepresentable world M call) → IsMachine world N
    by_answer (Ok a) e made = on_step world call (λ o. IsMachine world o.1) (outcome_keeps orderly regular inherited call rep made h) h step
    by_answer (Err r) e made =
        on_step world call (λ o. IsErr (o.0).answer → IsMachine world o.1) (on_route (route call) (refused_ways (route call) h) (does_something world M (route call))) (λ refused. h) step (subst IsErr (sym e) refl)

-- a call that is no UPDATE or DELETE puts nothing that it computes
pub plain_made : (world : World) (M : Machine) (call : Call) → not (is_bulk call) ≡ true → MakesRepresentable world M call
plain_made world M (Call.ExecuteUpdate em text parameters) h = absurd (false≢true h)
plain_made world M call h = tt

-- the machine after calls that hand in values of the program, none of them an UPDATE or DELETE
pub machine_after_keeps : {world : World} (orderly : IsOrderly world.model) (regular : IsRegular world) (inherited : AreInherited world.model) (M : Machine) (calls : List Call) → list_all hands_representable calls ≡ true →
    list_all (λ call. not (is_bulk call)) calls ≡ true → IsMachine world M → IsMachine world (machine_after world M calls)
machine_after_keeps orderly regular inherited M [] rep plain h = h
machine_after_keeps {world} orderly regular inherited M (call ∷ calls) rep plain h =
    let p = and_parts (hands_representable call) (list_all hands_representable calls) rep in
    let q = and_parts (not (is_bulk call)) (list_all (λ c. not (is_bulk c)) calls) plain in
    machine_after_keeps orderly regular inherited (outcome world M call).1 calls p.1 q.1 (outcome_keeps orderly regular inherited call p.0 (plain_made world M call q.0) h)
