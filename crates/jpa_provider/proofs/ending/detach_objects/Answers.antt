use Rattle.std.proofs.Common.{◌+◌, drop, get_or, length, ap, ◌∙◌}
use Rattle.std.proofs.lemmas.List.{length-set, get_or_default}
use Rattle.jpa_work.specs.declared.heap.Life.{Life}
use Rattle.jpa_work.specs.heap.Objects.{object_at, with_life}
use Rattle.jpa_provider.specs.Serving.{detached_all}
use Rattle.jpa_provider.proofs.Opened.{detached_next}
use Rattle.jpa_provider.proofs.ending.detach_objects.Goals as goal

pub loop-place-preserved : goal.loop-place-preserved
loop-place-preserved c =
    let ns = c.args.gone.now in
    let os = c.loop-place.objects.now in
    let i = c.loop-place.place-index in
    let l = c.loop-place-test.true in
    let n = get_or ns i 0 in
    let same = c.detach_one.ensures.now in
    record {
      led = ap (detached_all (drop (c.loop-place.place-index + 1) ns)) same ∙ detached_next ns os i n l (get_or_default ns i 0 n l) ∙ c.loop-place.invariant.led;
      length = ap length same ∙ length-set os n (with_life (object_at os n) Life.Detached) ∙ c.loop-place.invariant.length;
    }
