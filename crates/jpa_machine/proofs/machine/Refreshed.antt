-- What holds while a manager is at work is kept where an object is loaded again.
use Rattle.std.proofs.Common.{◌≡◌, ◌<◌, ℕ, Bool, true, false, length, refl, ap, sym, subst, ◌∙◌}
use Rattle.std.specs.Prelude.{Option, Some, None, ◌==◌, if◌then◌else◌}
use Rattle.std.specs.Option.{unwrap_or}
use Rattle.std.proofs.lemmas.Bool.{cond_both, eqb-true}
use Rattle.jpa_value.specs.declared.value.Identity.{Identity}
use Rattle.jpa_model.specs.declared.unit.PersistenceUnit.{PersistenceUnit}
use Rattle.jpa_model.specs.Chains.{root_of}
use Rattle.jpa_behaviour.specs.Behaviour.{World}
use Rattle.jpa_stored.specs.declared.objects.stored.Stored.{Stored}
use Rattle.jpa_work.specs.declared.heap.Life.{Life}
use Rattle.jpa_work.specs.declared.heap.LiveObject.{LiveObject}
use Rattle.jpa_work.specs.heap.Objects.{identity_of, is_whole, object_at}
use Rattle.jpa_work.specs.declared.context.Base.{Base}
use Rattle.jpa_work.specs.declared.context.Entry.{Entry}
use Rattle.jpa_work.specs.context.Work.{Work, object, identity_at, row}
use Rattle.jpa_operations.specs.fetch.Orderly.{IsOrderly}
use Rattle.jpa_operations.specs.fetch.Load.{object_loaded, base_loaded}
use Rattle.jpa_operations.specs.ops.States.{reloaded}
use Rattle.jpa_machine.specs.machine.Consistent.{IsConsistent, IsEntry, Others, base_fits}
use Rattle.jpa_machine.proofs.machine.Setting.{IsSet}
use Rattle.jpa_machine.proofs.machine.Changed.{changed_at_work}
use Rattle.jpa_machine.proofs.machine.Persisted.{at_place}
use Rattle.jpa_machine.proofs.machine.Loaded.{is_row, loaded_live, loaded_base}
use Rattle.jpa_machine.proofs.machine.Planned.{mapped_at_work, based_entry}

-- an object's identity has its key
key_named : (m : PersistenceUnit) (x : LiveObject) (id : Identity) → identity_of m x ≡ Some id → id.key ≡ x.key
key_named m x id e = by_test (is_whole x.key) e
  where
    by_test : (b : Bool) → (if b then Some (record { table = (root_of m x.class).table; key = x.key }) else None) ≡ Some id → id.key ≡ x.key
    by_test true e = sym (ap (λ (o : Option Identity). (unwrap_or o id).key) e)
    by_test false e = cc

same_if : (b : Bool) (x e : Entry) → x.object ≡ e.object → (if b then x else e).object ≡ e.object
same_if true x e q = q
same_if false x e q = refl

pub reloaded_at_work : {world : World} {M : Others} {m : ℕ} {w : Work} → IsOrderly world.model → (n : ℕ) (id : Identity) (x : Stored) → IsConsistent world M m w → n < length w.objects →
    (object w n).life ≡ Life.Managed w.manager → identity_at world.model w n ≡ Some id → row w id ≡ Some x → (object w n).class ≡ x.class → IsConsistent world M m (reloaded world n id x w)
reloaded_at_work {world} {M} {m} {w} orderly n id x h l managed named stored class =
    let model = world.model in
    let os = w.objects in
    let y = object_loaded model w.manager w.view id x in
    let b : Option Base = Some (base_loaded model w.view id x) in
    let r = is_row orderly id x w.view h.view stored in
    let is_set : IsSet model os (object w n) y =
    record { class = sym class; life = sym managed; key = λ old. key_named model (object w n) id named; live = λ alive _. loaded_live os w.manager r } in
    mapped_at_work (λ e. if e.object == n then record e { base = b } else e) (λ e. same_if (e.object == n) (record e { base = b }) e refl)
    (λ e k. cond_both (e.object == n) (record e { base = b }) e (IsEntry model _ w.numbers m)
    (λ q. based_entry e b
    (subst (λ (z : LiveObject). base_fits model z b ≡ true) (sym (ap (object_at _) (eqb-true e.object n q) ∙ at_place os n y l)) (loaded_base w.manager r)) k)
    (λ q. k))
    (changed_at_work n y l is_set h)
