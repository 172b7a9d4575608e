use Rattle.jpa_merge.proofs.Found.{noted_more}
use Rattle.jpa_merge.proofs.images.places_of.Goals as goal

pub loop-image-preserved : goal.loop-image-preserved
loop-image-preserved c = λ n. noted_more c.args.list.now c.loop-image.image-index _ n _ _ c.loop-image-test.true (c.in_ok-note.ensures.noted n) (c.loop-image.invariant n)
