-- A work of which this holds is one on which code may go by places.
use Rattle.std.proofs.Common.{◌<◌, ℕ, List, length, ap, sym, ◌∙◌}
use Rattle.std.proofs.lemmas.Bool.{ltb-true}
use Rattle.std.proofs.lemmas.List.Elements.{All-weaker}
use Rattle.jpa_model.specs.declared.unit.PersistenceUnit.{PersistenceUnit}
use Rattle.jpa_model.specs.Chains.{root_of, attributes_of, relations_of}
use Rattle.jpa_behaviour.specs.Behaviour.{World}
use Rattle.jpa_work.specs.declared.heap.LiveObject.{LiveObject}
use Rattle.jpa_work.specs.heap.Objects.{object_at, is_whole}
use Rattle.jpa_work.specs.heap.Shape.{HasShape}
use Rattle.jpa_work.specs.declared.context.Entry.{Entry}
use Rattle.jpa_work.specs.context.Undo.{IsKeyed, IsPlaced}
use Rattle.jpa_work.specs.context.Work.{Work}
use Rattle.jpa_machine.specs.machine.Consistent.{IsLive, IsEntry, IsConsistent, Others}
use Rattle.jpa_machine.proofs.machine.Facts.{each_fits_length, key_is_whole}

live_shape : (m : PersistenceUnit) (os : List LiveObject) (x : LiveObject) → IsLive m os x → HasShape m x
live_shape m os x h =
    record {
      class = ltb-true x.class (length m.entities) h.class;
      key = sym (each_fits_length _ (root_of m x.class).key x.key h.key);
      values = sym (each_fits_length _ (attributes_of m x.class) x.values h.values);
      relations = sym (each_fits_length _ (relations_of m x.class) x.relations h.relations);
    }

-- an entry's object has its key, which is whole
entry_keyed : (m : PersistenceUnit) (os : List LiveObject) (ns : List ℕ) (k : ℕ) (e : Entry) → IsEntry m os ns k e → IsKeyed os e
entry_keyed m os ns k e h =
    let x = object_at os e.object in
    record { same = h.keyed; whole = ap is_whole (sym h.keyed) ∙ key_is_whole (root_of m x.class).key x.key h.whole }

pub placed_at_work : {world : World} {M : Others} {m : ℕ} {w : Work} → IsConsistent world M m w → IsPlaced world.model w
placed_at_work {world} {M} {m} {w} h =
    record {
      objects = All-weaker (IsLive world.model w.objects) (HasShape world.model) (live_shape world.model w.objects) w.objects h.objects;
      entries = All-weaker (IsEntry world.model w.objects w.numbers m) (λ (e : Entry). e.object < length w.objects) (λ e k. k.within) w.context h.entries;
      keyed = All-weaker (IsEntry world.model w.objects w.numbers m) (IsKeyed w.objects) (entry_keyed world.model w.objects w.numbers m) w.context h.entries;
      numbers = sym (each_fits_length _ (world.model).entities w.numbers h.numbered);
      view = (h.view).shaped;
    }
