-- What the passes of a merge stand on is kept: nodes and images stand in the heap still, and are of one class.
use Rattle.std.proofs.Common.{◌∙◌, ◌<◌, ℕ, List, length, ap, sym, refl, arith, Result, Ok, Err}
use Rattle.std.specs.Prelude.{OnOk}
use Rattle.std.proofs.lemmas.List.Elements.{All-get_or, All-weaker}
use Rattle.jpa_model.specs.declared.unit.PersistenceUnit.{PersistenceUnit}
use Rattle.jpa_model.specs.Chains.{attributes_of}
use Rattle.jpa_value.specs.declared.refusal.Cause.{Cause}
use Rattle.jpa_value.specs.declared.event.LifecycleEvent.{LifecycleEvent}
use Rattle.jpa_behaviour.specs.Behaviour.{World}
use Rattle.jpa_work.specs.declared.heap.LiveObject.{LiveObject}
use Rattle.jpa_work.specs.heap.Objects.{no_object}
use Rattle.jpa_work.specs.heap.Shape.{HasShape}
use Rattle.jpa_work.specs.context.Steps.{Meets}
use Rattle.jpa_work.specs.context.Work.{Work, object}
use Rattle.jpa_lifecycle.specs.Callbacks.{callback}
use Rattle.jpa_lifecycle.proofs.Keeps.{happened}
use Rattle.jpa_operations.specs.fetch.Grown.{HasGrown, IsReady, GoesOn}
use Rattle.jpa_operations.proofs.fetch.Grown.{grown_happened, grown_set, placed_happened, placed_set, ready_on}
use Rattle.jpa_operations.proofs.ops.Ready.{links_same}
use Rattle.jpa_merge.specs.declared.images.NodeImage.{NodeImage}
use Rattle.jpa_merge.specs.Imaged.{AreImaged, IsImaged}
use Rattle.jpa_merge.specs.Merge.{with_values_of}

pub imaged_on : (w v : Work) (x : NodeImage) → HasGrown w v → IsImaged w x → IsImaged v x
imaged_on w v x g h =
    record {
      node = let more = g.count in let l = h.node in omega (arith, more, l);
      image = let more = g.count in let l = h.image in omega (arith, more, l);
      class = g.classes x.image h.image ∙ h.class ∙ sym (g.classes x.node h.node);
    }

pub are_imaged_on : (w v : Work) (xs : List NodeImage) → HasGrown w v → AreImaged w xs → AreImaged v xs
are_imaged_on w v xs g h = All-weaker (IsImaged w) (IsImaged v) (λ x. imaged_on w v x g) xs h

-- ---- an image takes the values of its node

module _ (m : PersistenceUnit) (w : Work) (x : NodeImage) (ready : IsReady m w) (h : IsImaged w x) where
  valued : LiveObject
  valued = record (object w x.image) { values = (object w x.node).values }

  valued_shape : HasShape m valued
  unfolding valued
  valued_shape =
      let own = All-get_or (HasShape m) w.objects x.image no_object h.image (ready.placed).objects in
      let node = All-get_or (HasShape m) w.objects x.node no_object h.node (ready.placed).objects in
      record { class = own.class; key = own.key; values = node.values ∙ ap (λ c. length (attributes_of m c)) (sym h.class); relations = own.relations }

  pub values_grown : HasGrown w (with_values_of x w)
  unfolding valued
  values_grown = grown_set w x.image valued refl h.image (links_same w x.image valued refl h.image)

  pub values_ready : IsReady m (with_values_of x w)
  unfolding valued
  values_ready = ready_on m w (with_values_of x w) ready (placed_set m w x.image valued ready.placed h.image valued_shape refl) values_grown

-- ---- an event happened to an image

pub told_from : (world : World) (event : LifecycleEvent) (n : ℕ) (w v : Work) (r : Result (Unit {0}) Cause) → IsReady world.model w → n < length w.objects → Meets r v (callback world event n w) → OnOk r (GoesOn world.model w v)
told_from world event n w v (Ok a) ready l met =
    let h = happened world event n w v met in
    let grown = grown_happened n w v l h in
    record { ready = ready_on world.model w v ready (placed_happened world.model n w v ready.placed l h) grown; grown = grown }
told_from world event n w v (Err e) ready l met = tt
