use Rattle.std.proofs.Common.{ap, arith}
use Rattle.jpa_object_rows.specs.store.Shown.{with_puts}
use Rattle.jpa_object_rows.proofs.store.Over.{put_last, all_put}
use Rattle.jpa_object_rows.proofs.store.rows.put_rows.Goals as goal

pub loop-id-init : goal.loop-id-init
loop-id-init c = ap (λ rows. with_puts rows c.args.overlay.now) c.into_vec-left.ensures

pub loop-id-preserved : goal.loop-id-preserved
loop-id-preserved c =
    let before = c.loop-id in
    put_last before.left.items c.pop.new.self.items (c.in-Some.id, c.in-Some.row) before.overlay _ _ c.in-Some.ensures.items c.in_ok-put.ensures.ok before.invariant

pub returns-clause-ok : goal.returns-clause-ok
returns-clause-ok c = all_put c.loop-id.left.items c.loop-id.overlay _ (let none = c.in_default.ensures.cases.0 in omega arith) c.loop-id.invariant
