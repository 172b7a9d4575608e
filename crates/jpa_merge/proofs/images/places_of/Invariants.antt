use Rattle.std.proofs.Common.{◌≡◌, ℕ, take}
use Rattle.std.specs.Prelude.{nat_eq}
use Rattle.std.specs.HashMap.{get}
use Rattle.jpa_merge.specs.Merge.{image_among}
use Rattle.jpa_merge.proofs.images.places_of.Given as goal

abbrev pub invariant-loop-image : goal.invariant-loop-image
invariant-loop-image l = (n : ℕ) → get nat_eq l.places n ≡ image_among (take l.image-index l.list) n
