-- Entries that leave, and the place of an object's entry: worked examples.
use Rattle.std.specs.Prelude.{◌≡◌, ℕ, pos, List, [], ◌∷◌, Some, None}
use Rattle.std.proofs.Common.{refl}
use Rattle.jpa_value.specs.declared.value.Value.{Value}
use Rattle.jpa_work.specs.declared.heap.Life.{Life}
use Rattle.jpa_work.specs.declared.heap.LiveObject.{LiveObject}
use Rattle.jpa_work.specs.heap.Objects.{no_object, with_life}
use Rattle.jpa_work.specs.declared.context.Entry.{Entry}
use Rattle.jpa_work.specs.declared.context.Lock.{Lock}
use Rattle.jpa_work.specs.context.Places.{entry_place, without_objects, without_removed}

entry : ℕ → Entry
entry n = record { object = n; key = Value.Int (pos n) ∷ []; lock = Lock.Unlocked; base = None }

three : List Entry
three = entry 4 ∷ entry 1 ∷ entry 0 ∷ []

third_place : entry_place 0 three ≡ Some 2
unfolding three entry
third_place = refl

no_place : entry_place 2 three ≡ None
unfolding three entry
no_place = refl

first_of_two : entry_place 4 (entry 1 ∷ entry 4 ∷ entry 4 ∷ []) ≡ Some 1
unfolding entry
first_of_two = refl

two_leave : without_objects (0 ∷ 4 ∷ 7 ∷ []) three ≡ entry 1 ∷ []
unfolding three entry
two_leave = refl

-- the object at place 0 is removed for manager 1, that at place 1 for another, that at place 4 is managed
objects : List LiveObject
objects =
    with_life no_object (Life.Removed 1) ∷ with_life no_object (Life.Removed 2) ∷ no_object ∷ no_object ∷ with_life no_object (Life.Managed 1) ∷ []

one_removed : without_removed objects 1 three ≡ entry 4 ∷ entry 1 ∷ []
unfolding three entry objects
one_removed = refl
