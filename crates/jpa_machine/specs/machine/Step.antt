-- The reply to a call and the machine after it, the step relation over it, and runs (Jakarta
-- Persistence 3.1, chapter 3.1.1 EntityManager).
use Rattle.std.specs.Prelude.{◌≡◌, ◌⊎◌, false, List, [], ◌∷◌, Err}
use Rattle.jpa_value.specs.declared.refusal.Cause.{Cause}
use Rattle.jpa_value.specs.declared.refusal.Refusal.{Refusal}
use Rattle.jpa_behaviour.specs.Behaviour.{World}
use Rattle.jpa_protocol.specs.declared.call.Call.{Call}
use Rattle.jpa_protocol.specs.declared.reply.Reply.{Reply}
use Rattle.jpa_machine.specs.machine.Machine.{Machine}
use Rattle.jpa_machine.specs.machine.Routes.{by_route, route, takes_nothing}

-- the reply to a call, and the machine after it
abbrev pub outcome : World → Machine → Call → Reply × Machine
outcome world M call = by_route world M (route call)

-- ---- steps and runs

-- the reply to a call that is given up: this cause, and no events
abbrev pub gives_up : Cause → Reply
gives_up r = record { events = []; answer = Err (Refusal.Because r) }

-- want of memory, or a fault of the store
abbrev pub IsGivenUp : Reply → Type 0
IsGivenUp reply = (reply ≡ gives_up Cause.OutOfMemory) ⊎ (reply ≡ gives_up Cause.StoreFault)

-- nothing was done and nothing is told
abbrev pub GivesUp : Machine → Call → Reply → Machine → Type 0
GivesUp M call reply after_it =
    (takes_nothing call ≡ false) × IsGivenUp reply × (after_it ≡ M)

-- the reply and the machine after it are the call's outcome, or the call gave up
abbrev pub Step : World → Machine → Call → Reply → Machine → Type 0
Step world M call reply after_it = (outcome world M call ≡ (reply, after_it)) ⊎ GivesUp M call reply after_it

-- each reply is that of a step from where the last one left the machine
abbrev pub Runs : World → Machine → List Call → List Reply → Machine → Type 0
Runs world M [] [] last = last ≡ M
Runs world M (call ∷ calls) (reply ∷ replies) last =
    (mid : Machine) × Step world M call reply mid × Runs world mid calls replies last
Runs world M [] (reply ∷ replies) last = ⊥
Runs world M (call ∷ calls) [] last = ⊥

-- the replies and the last machine where no call gives up
abbrev pub replies_of : World → Machine → List Call → List Reply
replies_of world M [] = []
replies_of world M (call ∷ calls) = let o = outcome world M call in o.0 ∷ replies_of world o.1 calls

-- the machine after calls of which none gives up
abbrev pub machine_after : World → Machine → List Call → Machine
machine_after world M [] = M
machine_after world M (call ∷ calls) = let o = outcome world M call in machine_after world o.1 calls
