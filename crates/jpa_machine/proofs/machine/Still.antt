-- Only a commit that is accepted changes what is committed.
use Rattle.std.proofs.Common.{◌≡◌, ◌⊎◌, inl, inr, ℕ, Bool, true, false, refl, sym, ◌∙◌}
use Rattle.std.specs.Prelude.{IsErr}
use Rattle.std.proofs.lemmas.Bool.{false≢true, true≢false}
use Rattle.jpa_behaviour.specs.Behaviour.{World}
use Rattle.jpa_protocol.specs.declared.call.Call.{Call}
use Rattle.jpa_protocol.specs.declared.reply.Reply.{Reply}
use Rattle.jpa_machine.specs.machine.Machine.{Machine, IsStoredAs}
use Rattle.jpa_machine.specs.machine.Calls.{marked_if}
use Rattle.jpa_machine.specs.machine.Routes.{Route, commits, route, is_commit}
use Rattle.jpa_machine.specs.machine.Step.{Step}
use Rattle.jpa_machine.proofs.machine.Ways.{Ways, does_something, on_route, on_step}

still : (M : Machine) → IsStoredAs M M
still M = record { committed = refl; numbers = refl }

marked_or_not : (M : Machine) (b : Bool) (m : ℕ) → IsStoredAs M (marked_if b M m)
marked_or_not M true m = record { committed = refl; numbers = refl }
marked_or_not M false m = still M

abbrev IsStill : Machine → Route → Reply × Machine → Type 0
IsStill M r o = (commits r ≡ false) ⊎ IsErr (o.0).answer → IsStoredAs M o.1

neither : {A : Type 0} (r : Route) → commits r ≡ true → (commits r ≡ false) ⊎ (false ≡ true) → A
neither r writes (inl apart) = absurd (true≢false (sym writes ∙ apart))
neither r writes (inr apart) = absurd (false≢true apart)

ways : (world : World) (M : Machine) (r : Route) → Ways world M r (IsStill M r) (λ m w. Unit {0})
ways world M r =
    record {
      same = λ cause h. still M;
      creates = λ other few h. record { committed = refl; numbers = refl };
      makes = λ other class within few h. record { committed = refl; numbers = refl };
      keeps = λ other m w a n k h. record { committed = refl; numbers = refl };
      refuses = λ other m events cause b h. marked_or_not M b m;
      begins = λ other m o n free h. record { committed = refl; numbers = refl };
      tells = λ other a h. still M;
      clears = λ other m o h. record { committed = refl; numbers = refl };
      sets_mode = λ other m o mode h. record { committed = refl; numbers = refl };
      closes = λ other m o none h. record { committed = refl; numbers = refl };
      restarts = λ other none h. record { committed = refl; numbers = refl };
      marking = λ other m h. record { committed = refl; numbers = refl };
      rolls = λ apart m o n h. record { committed = refl; numbers = refl };
      stores = λ writes apart m w o n has k. neither r writes;
      undoes = λ writes apart m events why o n h. record { committed = refl; numbers = refl };
    }

pub step_still : (M : Machine) (world : World) (call : Call) (reply : Reply) (N : Machine) → Step world M call reply N → (is_commit call ≡ false) ⊎ IsErr reply.answer → IsStoredAs M N
step_still M world call reply N step =
    let r = route call in
    on_step world call (IsStill M r) (on_route r (ways world M r) (does_something world M r)) (λ h. still M) step
