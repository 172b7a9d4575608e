-- What is refused on the way is refused.
use Rattle.std.proofs.Common.{List, ap}
use Rattle.jpa_value.specs.declared.refusal.Cause.{Cause}
use Rattle.jpa_protocol.specs.declared.event.Told.{Told}
use Rattle.jpa_work.specs.context.Steps.{Outcome, Op, after, IsRefusedAs}

pub refused_after : {A B : Type 0} (r : Cause) (events : List Told) (o : Outcome A) (f : A → Op B) → IsRefusedAs r events o → IsRefusedAs r events (after o f)
refused_after Cause.OutOfMemory events o f h = tt
refused_after Cause.StoreFault events o f h = h
refused_after r events o f h = ap (λ p. after p f) h
