-- Operations but for a flush and a bulk statement leave the set that the manager sees.
use Rattle.std.proofs.Common.{◌≡◌, ℕ, suc, Bool, true, false, refl, ◌∙◌}
use Rattle.std.specs.Prelude.{Option, Some, None, not, nat_lt, slice_index_or}
use Rattle.std.specs.List.{list_all}
use Rattle.jpa_value.specs.Value.{is_null}
use Rattle.jpa_value.specs.declared.refusal.Cause.{Cause}
use Rattle.jpa_value.specs.declared.refusal.PersistenceFault.{PersistenceFault}
use Rattle.jpa_value.specs.declared.event.LifecycleEvent.{LifecycleEvent}
use Rattle.jpa_model.specs.Chains.{root_of, root_class}
use Rattle.jpa_behaviour.specs.Behaviour.{World}
use Rattle.jpa_stored.specs.objects.Sets.{StoredSet}
use Rattle.jpa_work.specs.heap.Objects.{is_whole}
use Rattle.jpa_work.specs.context.Work.{Work, object, identity_at}
use Rattle.jpa_work.specs.context.Steps.{Outcome, Done, Refused, change}
use Rattle.jpa_lifecycle.specs.Callbacks.{callback, fire, ended, told_fired}
use Rattle.jpa_operations.specs.ops.States.{become_managed, give_key, has_instance, last_number, with_number, with_key, number_part}
use Rattle.jpa_machine.specs.machine.Going.{HoldsAfter}
use Rattle.jpa_machine.proofs.machine.Going.{after_holds, require_holds, require_holds_last, More}
use Rattle.jpa_machine.proofs.machine.Laws.{Steps}

-- both hold
with_more : {A : Type 0} (P Q R : Work → Type 0) (o : Outcome A) → HoldsAfter (λ a v. P v × Q v) o → HoldsAfter (λ a v. R v) o → HoldsAfter (λ a v. (P v × R v) × Q v) o
with_more P Q R (Done a v) p r = ((p.0, r), p.1)
with_more P Q R (Refused r events) p q = tt

heard_same : (world : World) (event : LifecycleEvent) (n : ℕ) (w : Work) → HoldsAfter (λ u v. v.view ≡ w.view) (callback world event n w)
heard_same world event n w = by_refusal (fire world event (object w n)).refusal
  where
    by_refusal : (o : Option Cause) → HoldsAfter (λ u v. v.view ≡ w.view) (ended o (told_fired event n (fire world event (object w n)) w))
    by_refusal None = refl
    by_refusal (Some r) = tt

given_same : (world : World) (n : ℕ) (b : Bool) (w : Work) → HoldsAfter (λ u v. v.view ≡ w.view) (give_key world n b w)
given_same world n false w = require_holds_last (λ u v. v.view ≡ w.view) (is_whole (object w n).key) (Cause.Persistence PersistenceFault.Key) w (λ e. refl)
given_same world n true w =
    require_holds (λ u v. v.view ≡ w.view) (list_all is_null (object w n).key) (Cause.Persistence PersistenceFault.Key) w _ (λ unset.
    let root = root_class world.model (object w n).class in
    let k = slice_index_or w.numbers root 1 in
    require_holds {B = Unit {0}} (λ u v. v.view ≡ w.view) (nat_lt k last_number) (Cause.Persistence PersistenceFault.Generator) w (λ x. change (λ w'. with_number root (suc k) (with_key n (number_part k) w'))) (λ few. refl))

become_same : (world : World) (n : ℕ) (w : Work) → HoldsAfter (λ u v. v.view ≡ w.view) (become_managed world n w)
become_same world n w =
    after_holds (λ u v. v.view ≡ w.view) (λ u v. v.view ≡ w.view) (give_key world n (root_of world.model (object w n).class).generated w) _ (given_same world n (root_of world.model (object w n).class).generated w)
    (λ u v e. require_holds (λ u' v'. v'.view ≡ w.view) (not (has_instance world.model v (identity_at world.model v n))) Cause.EntityExists v _ (λ free. e))

from_same : {A : Type 0} (s : StoredSet) (w : Work) → w.view ≡ s → (o : Outcome A) → HoldsAfter (λ a v. v.view ≡ w.view) o → HoldsAfter (λ a v. v.view ≡ s) o
from_same s w e (Done a v) h = h ∙ e
from_same s w e (Refused r events) h = tt

-- what the steps keep, and that set
pub same_view : {world : World} {P : Work → Type 0} (s : StoredSet) → Steps world P → Steps world (λ w. P w × (w.view ≡ s))
same_view {world} {P} s steps =
    record {
      stands = λ w p. steps.stands w p.0;
      heard = λ event n w p l. with_more P (More w) (λ v. v.view ≡ s) (callback world event n w) (steps.heard event n w p.0 l) (from_same s w p.1 (callback world event n w) (heard_same world event n w));
      becomes = λ n w p l new. with_more P (More w) (λ v. v.view ≡ s) (become_managed world n w) (steps.becomes n w p.0 l new) (from_same s w p.1 (become_managed world n w) (become_same world n w));
      revives = λ n w p l gone. (steps.revives n w p.0 l gone, p.1);
      loads = λ id x w p e free few. (steps.loads id x w p.0 e free few, p.1);
      sets = λ n y w p l set. (steps.sets n y w p.0 l set, p.1);
      reads = λ n r ids w p rising. (steps.reads n r ids w p.0 rising, p.1);
      removes = λ n w p l managed. (steps.removes n w p.0 l managed, p.1);
      reloads = λ n id x w p l managed named stored class. (steps.reloads n id x w p.0 l managed named stored class, p.1);
      lets_go = λ n w p l held. (steps.lets_go n w p.0 l held, p.1);
      makes = λ x w p live new few. (steps.makes x w p.0 live new few, p.1);
      locks = λ n l w p. (steps.locks n l w p.0, p.1);
    }
