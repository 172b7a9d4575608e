-- What stands under an identity, and the rest of a copy after its first steps.
use Rattle.std.proofs.Common.{◌≡◌, ◌∙◌, ℕ, true, List, ap, sym, subst, Result, Some, None}
use Rattle.jpa_value.specs.declared.value.Identity.{Identity}
use Rattle.jpa_value.specs.declared.refusal.Cause.{Cause}
use Rattle.jpa_behaviour.specs.Behaviour.{World}
use Rattle.jpa_stored.specs.declared.objects.stored.Stored.{Stored}
use Rattle.jpa_work.specs.context.Steps.{◌>>◌, Done, Meets, after, change, require}
use Rattle.jpa_work.specs.context.Work.{Work, identity_at, instance, object, row}
use Rattle.jpa_operations.specs.fetch.Load.{load, reach, reached}
use Rattle.jpa_merge.specs.declared.images.NodeImage.{NodeImage}
use Rattle.jpa_merge.specs.Merge.{copy_relations, copy_to_other, fresh_image, image_by, image_elsewhere, image_named, image_of_row, version_is, with_values_of}

-- what has a row and no instance is loaded
module _ (world : World) (id : Identity) (x y : Stored) (w new : Work) (none : instance world.model w id ≡ None) (stored : row w id ≡ Some y) (same : x ≡ y) where
  pub reaches_row : (r : Cause) (res : Result ℕ Cause) → Meets res new (load world id x w) → Meets res new (reach world r id w)
  reaches_row r res met =
      subst (Meets res new)
      (sym (ap (λ o. reached world r id o (row w id) w) none ∙ ap (λ s. reached world r id None s w) stored ∙ ap (λ z. load world id z w) (sym same))) met

  pub images_row : (n : ℕ) (res : Result NodeImage Cause) → Meets res new (image_of_row world n id x w) → Meets res new (image_named world n (Some id) w)
  images_row n res met =
      subst (Meets res new)
      (sym (ap (λ o. image_by world n id o (row w id) w) none ∙ ap (λ s. image_by world n id None s w) stored ∙ ap (λ z. image_of_row world n id z w) (sym same))) met

-- where the version is the image's, the values are copied, then the relations
pub copies : (world : World) (images : List NodeImage) (x : NodeImage) (w u new : Work) (res : Result (Unit {0}) Cause) → version_is (object w x.node).version (object w x.image).version ≡ true → change (with_values_of x) w ≡ Done tt u →
    Meets res new (copy_relations world images x u) → Meets res new (copy_to_other world images x w)
copies world images x w u new res current valued met =
    subst (Meets res new)
    (sym (ap (λ b. after (require b Cause.OptimisticLock w) (λ _. change (with_values_of x) >> copy_relations world images x)) current
    ∙ ap (λ o. after o (λ _. copy_relations world images x)) valued)) met

-- what has no identity has a new object as its image
pub images_unnamed : (world : World) (n : ℕ) (w new : Work) (res : Result NodeImage Cause) → identity_at world.model w n ≡ None → Meets res new (fresh_image world n w) → Meets res new (image_elsewhere world n w)
images_unnamed world n w new res unnamed met = subst (Meets res new) (sym (ap (λ id. image_named world n id w) unnamed)) met
