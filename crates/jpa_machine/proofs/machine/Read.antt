-- What holds while a manager is at work is kept where a base takes what a relation held when it was read.
use Rattle.std.proofs.Common.{◌≡◌, ℕ, Bool, true, List, refl}
use Rattle.std.specs.Prelude.{Option, Some, None, ◌==◌, if◌then◌else◌}
use Rattle.std.proofs.lemmas.Bool.{and_from, and_parts, cond_both}
use Rattle.jpa_value.specs.declared.value.Identity.{Identity}
use Rattle.jpa_model.specs.declared.unit.PersistenceUnit.{PersistenceUnit}
use Rattle.jpa_model.specs.Chains.{relations_of}
use Rattle.jpa_behaviour.specs.Behaviour.{World}
use Rattle.jpa_stored.specs.objects.Sets.{is_rising, is_shaped}
use Rattle.jpa_rows.specs.rows.Cells.{holds_representable}
use Rattle.jpa_work.specs.declared.heap.LiveObject.{LiveObject}
use Rattle.jpa_work.specs.declared.context.Base.{Base}
use Rattle.jpa_work.specs.declared.context.Entry.{Entry}
use Rattle.jpa_work.specs.context.Work.{Work, object}
use Rattle.jpa_operations.specs.fetch.Members.{with_members, with_read}
use Rattle.jpa_machine.specs.machine.Consistent.{IsConsistent, IsEntry, Others, base_fits, known_fits, name_of}
use Rattle.jpa_machine.proofs.machine.Facts.{each_fits_set}
use Rattle.jpa_machine.proofs.machine.Planned.{based_entry, mapped_at_work}

read_base : (m : PersistenceUnit) (x : LiveObject) (r : ℕ) (ids : List Identity) (b : Option Base) → is_rising ids ≡ true → base_fits m x b ≡ true → base_fits m x (with_members r ids b) ≡ true
read_base m x r ids None rising h = refl
read_base m x r ids (Some b) rising h =
    let a = and_parts ((b.stored).class == x.class) _ h in
    let c = and_parts (is_shaped m (name_of m x) b.stored) _ a.1 in
    let d = and_parts (holds_representable b.stored) _ c.1 in
    and_from ((b.stored).class == x.class) _ a.0
    (and_from (is_shaped m (name_of m x) b.stored) _ c.0
    (and_from (holds_representable b.stored) _ d.0 (each_fits_set known_fits (relations_of m x.class) b.members r (Some ids) d.1 (λ relation at. rising))))

same_if : (b : Bool) (x e : Entry) → x.object ≡ e.object → (if b then x else e).object ≡ e.object
same_if b x e q = cond_both b x e (λ (y : Entry). y.object ≡ e.object) (λ _. q) (λ _. refl)

pub read_at_work : {world : World} {M : Others} {m : ℕ} {w : Work} (n r : ℕ) (ids : List Identity) → is_rising ids ≡ true → IsConsistent world M m w → IsConsistent world M m (with_read n r ids w)
read_at_work {world} {M} {m} {w} n r ids rising h =
    mapped_at_work (λ e. if e.object == n then record e { base = with_members r ids e.base } else e)
    (λ e. same_if (e.object == n) (record e { base = with_members r ids e.base }) e refl)
    (λ e k. cond_both (e.object == n) (record e { base = with_members r ids e.base }) e (IsEntry world.model w.objects w.numbers m)
    (λ q. based_entry e (with_members r ids e.base) (read_base world.model (object w e.object) r ids e.base rising k.base) k)
    (λ q. k)) h
