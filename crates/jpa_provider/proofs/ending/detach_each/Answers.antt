use Rattle.std.proofs.Common.{◌+◌, drop, length, ap, ◌∙◌}
use Rattle.std.proofs.lemmas.List.{length-set}
use Rattle.jpa_work.specs.declared.heap.Life.{Life}
use Rattle.jpa_work.specs.heap.Objects.{object_at, with_life}
use Rattle.jpa_operations.specs.ops.States.{detach_each}
use Rattle.jpa_provider.proofs.Opened.{detached_one}
use Rattle.jpa_provider.proofs.ending.detach_each.Goals as goal

pub loop-entry-preserved : goal.loop-entry-preserved
loop-entry-preserved c =
    let es = c.args.context.now in
    let os = c.loop-entry.objects.now in
    let n = c.entry-item.result.object in
    let same = c.detach_one.ensures.now in
    record {
      led = ap (detach_each (drop (c.loop-entry.entry-index + 1) es)) same ∙ detached_one es os c.loop-entry.entry-index c.entry-item.result c.loop-entry-test.true c.entry-item.is ∙ c.loop-entry.invariant.led;
      length = ap length same ∙ length-set os n (with_life (object_at os n) Life.Detached) ∙ c.loop-entry.invariant.length;
      since = λ e. c.detach_one.ensures.since;
    }
