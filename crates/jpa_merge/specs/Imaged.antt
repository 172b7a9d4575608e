-- What the second pass of a merge stands on: nodes and images stand in the heap, and are of one
-- class.
use Rattle.std.specs.Prelude.{◌≡◌, ◌<◌, ℕ, All, List, length}
use Rattle.jpa_model.specs.declared.unit.PersistenceUnit.{PersistenceUnit}
use Rattle.jpa_model.specs.Chains.{relations_of}
use Rattle.jpa_work.specs.heap.Objects.{object_at}
use Rattle.jpa_work.specs.context.Work.{Work, object}
use Rattle.jpa_operations.specs.fetch.Grown.{IsReady}
use Rattle.jpa_merge.specs.declared.images.NodeImage.{NodeImage}

-- a node and its image stand in the heap, and are of one class
pub record IsImaged (w : Work) (x : NodeImage) : Type 0 where
  pub node : x.node < length w.objects
  pub image : x.image < length w.objects
  pub class : (object w x.image).class ≡ (object w x.node).class

-- each of these nodes and its image stand in the heap, and are of one class
abbrev pub AreImaged : Work → List NodeImage → Type 0
AreImaged w images = All (IsImaged w) images

-- A node can be copied into its image: operations can go on, and each of the nodes is in place with its image, as this
-- one is.
pub record CanCopy (m : PersistenceUnit) (w : Work) (images : List NodeImage) (x : NodeImage) : Type 0 where
  pub ready : IsReady m w
  pub imaged : AreImaged w images
  pub image : IsImaged w x

-- An image can hold these objects in a relation: the work is in order, the image has the relation, and they stand in
-- the heap.
pub record CanHold (m : PersistenceUnit) (w : Work) (n r : ℕ) (targets : List ℕ) : Type 0 where
  pub ready : IsReady m w
  pub object : n < length w.objects
  pub relation : r < length (relations_of m (object_at w.objects n).class)
  pub within : All (λ k. k < length w.objects) targets
