use Rattle.std.proofs.Common.{◌≡◌, ◌∙◌, ap}
use Rattle.std.specs.Prelude.{slice_set}
use Rattle.jpa_work.specs.declared.heap.Life.{Life}
use Rattle.jpa_work.specs.declared.heap.LiveObject.{LiveObject}
use Rattle.jpa_work.specs.heap.Objects.{object_at, with_life}
use Rattle.jpa_work.specs.context.Undo.{now}
use Rattle.jpa_operations.proofs.ops.LetGo.{put_back}
use Rattle.jpa_operations.proofs.ops.detaching.let_go.Goals as goal

pub returns-clause-gone : goal.returns-clause-gone
returns-clause-gone c =
    let w = now c.args.work.now in
    let n = c.args.object in
    let x = c.put-detached.result in
    let y : LiveObject = record x { life = Life.Detached } in
    let objects : c.put.new.self.now ≡ slice_set w.objects n (with_life (object_at w.objects n) Life.Detached) =
    c.put.ensures.now ∙ ap (λ ys. slice_set ys n y) c.put-detached.ensures.now ∙ put_back w.objects n x c.no_object.result c.put-detached.ensures.old in
    let context = c.leave.ensures.now ∙ c.place_laws.ensures.one n w.context in
    λ i. record w { objects = objects i; context = context i }
