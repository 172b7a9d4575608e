use Rattle.std.proofs.Common.{◌≡◌, ◌∙◌, ap, map}
use Rattle.jpa_work.specs.declared.heap.Life.{Life}
use Rattle.jpa_open.specs.Opened as opened
use Rattle.jpa_operations.specs.fetch.Load.{held_from, held_loaded}
use Rattle.jpa_operations.proofs.fetch.Loaded.{held_by_base}
use Rattle.jpa_operations.proofs.fetch.loading.object_of_row.Goals as goal

pub returns-clause-object : goal.returns-clause-object
returns-clause-object c =
    let m = c.args.metamodel.now in
    let s = opened.now c.args.view.now in
    let x = c.args.row in
    let held : c.in_ok-held_loaded.field-0 ≡ held_loaded m s c.args.id.now x =
    c.in_ok-held_loaded.ensures.ok ∙ ap (map held_from) (c.as_slice.ensures ∙ c.in_ok-members.ensures.ok) ∙ held_by_base m s c.args.id.now x in
    λ i. record { class = x.class; key = c.in_ok-try_copy.ensures.equal i; version = x.version; values = c.in_ok-try_copy-2.ensures.equal i; relations = held i; life = Life.Managed c.args.manager }
