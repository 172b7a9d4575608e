-- What holds of the machine is kept by a new object.
use Rattle.jpa_value.specs.Limits.{most_objects}
use Rattle.std.proofs.Common.{◌≡◌, ◌<◌, ◌+◌, ℕ, suc, Bool, true, false, List, [], ◌∷◌, ◌++◌, length, refl, ap, sym, arith}
use Rattle.std.specs.Prelude.{nat_lt, Option, Some, if◌then◌else◌, is_some}
use Rattle.std.specs.List.{position_from}
use Rattle.std.specs.Option.{unwrap_or}
use Rattle.std.proofs.lemmas.Bool.{true≢false, lt-ltb}
use Rattle.std.proofs.lemmas.List.{length-append}
use Rattle.jpa_model.specs.declared.unit.PersistenceUnit.{PersistenceUnit}
use Rattle.jpa_model.specs.Chains.{class_of, same_name}
use Rattle.jpa_behaviour.specs.Behaviour.{World}
use Rattle.jpa_work.specs.heap.Objects.{new_object}
use Rattle.jpa_machine.proofs.machine.Facts.{numbers_same}
use Rattle.jpa_machine.proofs.machine.Kept.{holds_more, live_more, placed_more, new_live}
use Rattle.jpa_machine.specs.machine.Machine.{Machine}
use Rattle.jpa_machine.specs.machine.Invariant.{IsMachine, context_of}
use Rattle.jpa_machine.proofs.machine.AtWork.{manager_kept}

-- ---- a new object

position_step : (b : Bool) (i l n : ℕ) (o : Option ℕ) → (o ≡ Some n → n < (i + 1) + l) → (if b then Some i else o) ≡ Some n → n < i + suc l
position_step true i l n o k e = let s : i ≡ n = ap (λ o'. unwrap_or o' n) e in omega (arith, s)
position_step false i l n o k e = let h = k e in omega (arith, h)

position_within : {A : Type 0} (p : A → Bool) (i : ℕ) (xs : List A) (n : ℕ) → position_from p i xs ≡ Some n → n < i + length xs
position_within p i [] n e = absurd (true≢false (sym (ap is_some e)))
position_within p i (x ∷ xs) n e = position_step (p x) i (length xs) n (position_from p (i + 1) xs) (position_within p (i + 1) xs n) e

pub class_within : (m : PersistenceUnit) (name : List ℕ) (class : ℕ) → class_of m name ≡ Some class → nat_lt class (length m.entities) ≡ true
class_within m name class e = let l = position_within (λ e'. same_name e'.name name) 0 m.entities class e in lt-ltb class (length m.entities) (omega (arith, l))

pub object_made : {world : World} {M : Machine} (class : ℕ) → nat_lt class (length (world.model).entities) ≡ true → length M.objects < most_objects → IsMachine world M →
    IsMachine world (record M { objects = M.objects ++ new_object world.model class ∷ [] })
object_made {world} {M} class within few h =
    let x = new_object world.model class in
    record {
      objects = live_more world.model M.objects x h.objects (new_live world.model (M.objects ++ x ∷ []) class within);
      managers = λ k l. manager_kept (holds_more k M.objects x) (numbers_same M.numbers) h.numbered (h.managers k l);
      placed = placed_more (context_of M) M.objects x h.placed refl;
      committed = h.committed;
      numbered = h.numbered;
      stored = h.stored;
      objects_few = let n = length-append M.objects (x ∷ []) in omega (arith, n, few);
      managers_few = h.managers_few;
    }
