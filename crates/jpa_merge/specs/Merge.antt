-- merge, in three passes (Jakarta Persistence 3.1, chapter 3.2.7.1).
use Rattle.jpa_value.specs.Limits.{most_objects}
use Rattle.std.specs.Prelude.{ℕ, ℤ, Bool, true, false, not, nat_lt, ◌==◌, ◌||◌, List, [], ◌∷◌, length, Option, Some}
use Rattle.std.specs.Prelude.{None, if◌then◌else◌}
use Rattle.std.specs.List.{enumerate_from}
use Rattle.std.specs.Ordering.{is_eq, int_cmp}
use Rattle.jpa_value.specs.declared.value.Value.{Value}
use Rattle.jpa_value.specs.declared.value.Identity.{Identity}
use Rattle.jpa_value.specs.declared.refusal.Cause.{Cause}
use Rattle.jpa_value.specs.declared.refusal.Argument.{Argument}
use Rattle.jpa_value.specs.declared.refusal.State.{State}
use Rattle.jpa_value.specs.declared.event.LifecycleEvent.{LifecycleEvent}
use Rattle.jpa_model.specs.declared.unit.PersistenceUnit.{PersistenceUnit}
use Rattle.jpa_model.specs.declared.unit.Relation.{Relation}
use Rattle.jpa_model.specs.Chains.{root_of, relations_of}
use Rattle.jpa_behaviour.specs.Behaviour.{World}
use Rattle.jpa_stored.specs.declared.objects.stored.Stored.{Stored}
use Rattle.jpa_work.specs.declared.heap.Link.{Link}
use Rattle.jpa_work.specs.declared.heap.Collection.{Collection}
use Rattle.jpa_work.specs.declared.heap.Held.{Held}
use Rattle.jpa_work.specs.declared.heap.LiveObject.{LiveObject}
use Rattle.jpa_work.specs.heap.Objects.{held_at, new_object}
use Rattle.jpa_work.specs.declared.context.EntityState.{EntityState}
use Rattle.jpa_work.specs.context.Steps.{Op, ◌>>=◌, ◌>>◌, give, done, refuse, require, read, change, each}
use Rattle.jpa_work.specs.context.Work.{Work, object, state_of, is_removed, instance, row_at, identity_at, with_object}
use Rattle.jpa_lifecycle.specs.Callbacks.{callback}
use Rattle.jpa_cascade.specs.declared.Operation.{Operation}
use Rattle.jpa_cascade.specs.Waves.{waves, live_nodes, goes_along, members_now}
use Rattle.jpa_operations.specs.fetch.Load.{load, reach, made}
use Rattle.jpa_operations.specs.fetch.Members.{with_relation, is_held, collect, with_read}
use Rattle.jpa_operations.specs.ops.States.{become_managed}
use Rattle.jpa_merge.specs.declared.images.NodeImage.{NodeImage}

-- ---- first pass: the images

-- the image is of the very class of its node
abbrev pub of_class_of : ℕ → ℕ → Op NodeImage
of_class_of n k = do
  same ← read (λ w. (object w n).class == (object w k).class)
  require same (Cause.IllegalArgument Argument.Type)
  give (record { node = n; image = k; fresh = false })

-- an instance of the context is the image, unless it is removed or of another class
abbrev pub image_of_instance : ℕ → ℕ → Op NodeImage
image_of_instance n k = do
  gone ← read (λ w. is_removed (state_of w k))
  require (not gone) (Cause.IllegalArgument Argument.State)
  of_class_of n k

-- the row, loaded, is the image, where it is of the node's class
abbrev pub image_of_row : World → ℕ → Identity → Stored → Op NodeImage
image_of_row world n id x = do
  k ← load world id x
  of_class_of n k

-- a new object of the class, with the key copied where it is not generated
abbrev pub image_key : Bool → List Value → List Value → List Value
image_key true copied unset = unset
image_key false copied unset = copied

-- the new object of a node's class, with the node's key unless keys are generated
abbrev pub fresh_object : PersistenceUnit → LiveObject → LiveObject
fresh_object m x =
    let blank = new_object m x.class in
    record blank { key = image_key (root_of m x.class).generated x.key blank.key }

-- a work with the new object of a node's class, last in the heap
abbrev pub with_fresh : PersistenceUnit → ℕ → Work → Work
with_fresh m n w = made (fresh_object m (object w n)) w

-- whether a version is null
abbrev pub is_unset : Option ℤ → Bool
is_unset None = true
is_unset (Some v) = false

-- a new object, which becomes managed, is the image; for a node with a version it is OptimisticLock
-- (chapter 3.2.7.1)
abbrev pub fresh_image : World → ℕ → Op NodeImage
fresh_image world n = do
  unset ← read (λ w. is_unset (object w n).version)
  require unset Cause.OptimisticLock
  k ← read (λ w. length w.objects)
  require (nat_lt k most_objects) Cause.Limit
  change (with_fresh world.model n)
  become_managed world k
  give (record { node = n; image = k; fresh = true })

-- the context's instance of the identity, else its row, loaded, else a new object
abbrev pub image_by : World → ℕ → Identity → Option ℕ → Option Stored → Op NodeImage
image_by world n id (Some k) x = image_of_instance n k
image_by world n id None (Some x) = image_of_row world n id x
image_by world n id None None = fresh_image world n

-- the image by the node's identity; without a whole key it is a new object
abbrev pub image_named : World → ℕ → Option Identity → Op NodeImage
image_named world n None w = fresh_image world n w
image_named world n (Some id) w = image_by world n id (instance world.model w id) (row_at w (Some id)) w

-- the image of a node that is not its own image
abbrev pub image_elsewhere : World → ℕ → Op NodeImage
image_elsewhere world n w = image_named world n (identity_at world.model w n) w

-- the image by the node's state: a managed one is its own, a removed one is refused (chapter
-- 3.2.7.1)
abbrev pub image_in : World → ℕ → EntityState → Op NodeImage
image_in world n EntityState.New = image_elsewhere world n
image_in world n EntityState.Managed = give (record { node = n; image = n; fresh = false })
image_in world n EntityState.Removed = refuse (Cause.IllegalArgument Argument.State)
image_in world n EntityState.Detached = image_elsewhere world n

-- the image of a node
abbrev pub image_of_node : World → ℕ → Op NodeImage
image_of_node world n w = image_in world n (state_of w n) w

-- ---- second pass: values and relations

-- the image of a node; none of what is no node
abbrev pub image_among : List NodeImage → ℕ → Option ℕ
image_among [] n = None
image_among (x ∷ xs) n = if x.node == n then Some x.image else image_among xs n

-- what stands for a target in the image: a node's image, an object that the manager holds, else the
-- instance of its identity or its row loaded
abbrev pub replaced_far : World → Option Identity → Op ℕ
replaced_far world None = refuse (Cause.IllegalState State.Reference)
replaced_far world (Some id) = reach world (Cause.IllegalState State.Reference) id

-- an object that the manager holds stands for itself; for another stands that of its identity
abbrev pub replaced_unless : World → ℕ → Bool → Op ℕ
replaced_unless world k true w = give k w
replaced_unless world k false w = replaced_far world (identity_at world.model w k) w

-- what stands for an object outside the cascade
abbrev pub replaced_outside : World → ℕ → Op ℕ
replaced_outside world k w = replaced_unless world k (is_held (state_of w k)) w

-- what stands for an object: its image where it has one
abbrev pub replaced_by : World → ℕ → Option ℕ → Op ℕ
replaced_by world k (Some image) = give image
replaced_by world k None = replaced_outside world k

-- what stands for an object that a node leads to
abbrev pub replaced : World → List NodeImage → ℕ → Op ℕ
replaced world images k = replaced_by world k (image_among images k)

-- of a collection that was not read, the image's base takes what the view has in it
abbrev pub read_if_unread : World → ℕ → ℕ → Held → Op (Unit {0})
read_if_unread world image r (Held.Many Collection.Unfetched) =
    change (λ w. with_read image r (members_now world.model w image r) w)
read_if_unread world image r (Held.Many (Collection.Fetched ks)) = done
read_if_unread world image r (Held.One l) = done

-- the collection holds these then
abbrev pub settle_members : World → ℕ → ℕ → List ℕ → Op (Unit {0})
settle_members world image r targets = do
  before ← read (λ w. held_at (object w image) r)
  read_if_unread world image r before
  change (with_relation image r (Held.Many (Collection.Fetched targets)))

-- the image's collection takes what stands for the node's members
abbrev pub copy_members : World → List NodeImage → ℕ → ℕ → List ℕ → Op (Unit {0})
copy_members world images image r ks = do
  targets ← collect (replaced world images) ks
  settle_members world image r targets

-- the image's link takes what stands for the node's target
abbrev pub copy_target : World → List NodeImage → ℕ → ℕ → ℕ → Op (Unit {0})
copy_target world images image r k = do
  target ← replaced world images k
  change (with_relation image r (Held.One (Link.Object target)))

-- what was not read is not copied
abbrev pub copy_held : World → List NodeImage → ℕ → ℕ → Held → Op (Unit {0})
copy_held world images image r (Held.One Link.None) = change (with_relation image r (Held.One Link.None))
copy_held world images image r (Held.One (Link.Object k)) = copy_target world images image r k
copy_held world images image r (Held.One (Link.Key id)) = done
copy_held world images image r (Held.Many (Collection.Fetched ks)) = copy_members world images image r ks
copy_held world images image r (Held.Many Collection.Unfetched) = done

-- the relation stands at place r
abbrev pub copy_at : World → List NodeImage → NodeImage → ℕ → Op (Unit {0})
copy_at world images x r w = copy_held world images x.image r (held_at (object w x.node) r) w

-- a managed node, which is its own image, has its targets along the cascade alone replaced by their
-- images
abbrev pub takes : NodeImage → Relation → Bool
takes x relation = not (x.node == x.image) || goes_along Operation.Merge relation

-- a relation is copied where the image takes it
abbrev pub copy_relation : World → List NodeImage → NodeImage → ℕ × Relation → Op (Unit {0})
copy_relation world images x p = if takes x p.1 then copy_at world images x p.0 else done

-- in declared order, those of superclasses first
abbrev pub copy_relations : World → List NodeImage → NodeImage → Op (Unit {0})
copy_relations world images x w =
    each (copy_relation world images x) (enumerate_from 0 (relations_of world.model (object w x.node).class)) w

-- a node without a version is of any version
abbrev pub version_is : Option ℤ → Option ℤ → Bool
version_is None now = true
version_is (Some v) None = false
version_is (Some v) (Some now) = is_eq (int_cmp v now)

-- a work in which the image has the attributes of its node
abbrev pub with_values_of : NodeImage → Work → Work
with_values_of x w = with_object x.image (record (object w x.image) { values = (object w x.node).values }) w

-- an image takes the values and the read relations of its node
abbrev pub copy_to_other : World → List NodeImage → NodeImage → Op (Unit {0})
copy_to_other world images x = do
  current ← read (λ w. version_is (object w x.node).version (object w x.image).version)
  require current Cause.OptimisticLock
  change (with_values_of x)
  copy_relations world images x

-- a node is copied to its image; a managed one has its relations alone replaced (chapter 3.2.7.1)
abbrev pub copy_node : World → List NodeImage → NodeImage → Op (Unit {0})
copy_node world images x = if x.node == x.image then copy_relations world images x else copy_to_other world images x

-- ---- third pass

-- PrePersist runs on an image that is new (chapter 3.5)
abbrev pub pre_persist_fresh : World → NodeImage → Op (Unit {0})
pre_persist_fresh world x = if x.fresh then callback world LifecycleEvent.PrePersist x.image else done

-- the image of the first node; without nodes it is the object itself
abbrev pub first_image : ℕ → List NodeImage → ℕ
first_image n [] = n
first_image n (x ∷ xs) = x.image

-- the start is the first of the nodes, and its image the answer
abbrev pub merge : World → ℕ → Op ℕ
merge world n = do
  nodes ← read (λ w. live_nodes (waves world.model Operation.Merge w n))
  images ← collect (image_of_node world) nodes
  each (copy_node world images) images
  each (pre_persist_fresh world) images
  give (first_image n images)
