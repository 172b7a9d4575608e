use Rattle.std.proofs.Common.{◌≡◌, ◌∙◌, ap}
use Rattle.std.proofs.lemmas.Result.{on_ok_weaker}
use Rattle.jpa_work.specs.declared.heap.Collection.{Collection}
use Rattle.jpa_work.specs.declared.heap.Held.{Held}
use Rattle.jpa_work.specs.context.Undo.{now}
use Rattle.jpa_operations.specs.fetch.Members.{with_relation}
use Rattle.jpa_operations.proofs.fetch.Read.{fetched_grown, fetched_ready}
use Rattle.jpa_operations.proofs.fetch.changing.set_fetched.Goals as goal

pub returns-clause-goes : goal.returns-clause-goes
returns-clause-goes c =
    let m = c.args.metamodel.now in
    let n = c.args.object in
    let r = c.args.relation in
    let ids = c.args.ids.now in
    let ks = c.args.places.now in
    let w = now c.args.work.now in
    let u = now c.set_relation.new.work in
    let v = now c.set_read.new.work in
    let held : u ≡ with_relation n r (Held.Many (Collection.Fetched ks)) w =
    c.in_ok-set_relation.ensures.ok ∙ ap (λ xs. with_relation n r (Held.Many (Collection.Fetched xs)) w) (c.of-copies.ensures ∙ c.in_ok-from_slice.ensures.items) in
    on_ok_weaker c.set_read.result
    (λ read. record {
      ready = fetched_ready m n r ids ks w u v c.requires.object c.requires.within held read c.requires.ready;
      grown = fetched_grown m n r ids ks w u v c.requires.object c.requires.within held read;
    })
    c.set_read.ensures.ok
