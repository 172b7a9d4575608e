use Rattle.std.proofs.Common.{ap, ◌∙◌}
use Rattle.std.specs.Prelude.{slice_set}
use Rattle.jpa_work.specs.declared.heap.LiveObject.{LiveObject}
use Rattle.jpa_work.specs.declared.heap.Life.{Life}
use Rattle.jpa_provider.proofs.Opened.{detached_twice}
use Rattle.jpa_provider.proofs.ending.detach_one.Goals as goal

pub returns-clause-now : goal.returns-clause-now
returns-clause-now c =
    let os = c.args.objects.now.now in
    let n = c.args.place in
    let x = c.put-object.result in
    let y : LiveObject = record x { life = Life.Detached } in
    c.put.ensures.now ∙ ap (λ ys. slice_set ys n y) c.put-object.ensures.now ∙ detached_twice os n x c.no_object.result c.put-object.ensures.old
