-- What a call leaves as it was (Jakarta Persistence 3.1, chapters 3.3.3 rollback, 7.5 transactions;
-- that a refused call changes nothing is this provider's own).
use Rattle.std.specs.Prelude.{◌≡◌, false, map, Option, Some, None}
use Rattle.jpa_work.specs.declared.heap.Life.{Life}
use Rattle.jpa_work.specs.declared.heap.LiveObject.{LiveObject}
use Rattle.jpa_work.specs.heap.Objects.{with_life}
use Rattle.jpa_machine.specs.machine.Machine.{Machine, Manager, Transaction}

-- a manager but for the mark of its transaction
abbrev pub unmarked_in : Option Transaction → Option Transaction
unmarked_in None = None
unmarked_in (Some t) = Some (record t { is_marked = false })

-- a manager without the mark of its transaction
abbrev pub unmarked : Manager → Manager
unmarked x = record x { transaction = unmarked_in x.transaction }

-- all that lives is as before, but for marks
pub record LivesAsBefore (M N : Machine) : Type 0 where
  pub objects : N.objects ≡ M.objects
  pub managers : map unmarked N.managers ≡ map unmarked M.managers
  pub numbers : N.numbers ≡ M.numbers

-- a live object but for its state: its class, key, version, values and relations
abbrev pub stateless : LiveObject → LiveObject
stateless x = with_life x Life.New

-- objects have another state at most, and no next number is another
pub record HoldsSameValues (M N : Machine) : Type 0 where
  pub objects : map stateless N.objects ≡ map stateless M.objects
  pub numbers : N.numbers ≡ M.numbers
