-- What an operation keeps.
use Rattle.jpa_work.specs.context.Steps.{Outcome, Done, Refused, Op}
use Rattle.jpa_work.specs.context.Work.{Work}

-- where it is done, this holds of its answer and of the work then
abbrev pub HoldsAfter : {A : Type 0} → (A → Work → Type 0) → Outcome A → Type 0
HoldsAfter P (Done a w) = P a w
HoldsAfter P (Refused r events) = Unit {0}

-- from each work of which P holds it goes to one of which P holds; G relates both, and Q holds of
-- the answer
abbrev pub Goes : (Work → Type 0) → (Work → Work → Type 0) → {A : Type 0} → (A → Work → Type 0) → Op A → Type 0
Goes P G Q op = (w : Work) → P w → HoldsAfter (λ a v. P v × G w v × Q a v) (op w)
