use Rattle.std.specs.Prelude.{None}
use Rattle.std.proofs.Common.{◌∙◌, ap, arith}
use Rattle.jpa_rows.specs.overlay.Overlay.{with_change}
use Rattle.jpa_object_rows.specs.store.Shown.{with_puts, with_drops}
use Rattle.jpa_object_rows.proofs.store.Over.{put_last, drop_last, all_put, all_dropped}
use Rattle.jpa_object_rows.proofs.store.rows.drop_rows.Goals as goal

pub loop-id-init : goal.loop-id-init
loop-id-init c = record {
  dropped = ap (λ rows. with_drops rows c.args.overlay.now) c.into_vec-left.ensures;
  noted = ap (λ rows. with_puts rows c.args.stood.now) c.into_vec-left.ensures;
}

pub loop-id-preserved : goal.loop-id-preserved
loop-id-preserved c =
    let before = c.loop-id in
    record {
      dropped = drop_last before.left.items c.pop.new.self.items (c.in-Some.id, c.in-Some.row) before.overlay _ _ c.in-Some.ensures.items
          (c.in_ok-drop_row.ensures.ok ∙ ap (λ id. with_change id None before.overlay) c.in_ok-try_copy.ensures.equal) before.invariant.dropped;
      noted = put_last before.left.items c.pop.new.self.items (c.in-Some.id, c.in-Some.row) before.stood _ _ c.in-Some.ensures.items c.in_ok-put.ensures.ok before.invariant.noted;
    }

pub returns-clause-ok : goal.returns-clause-ok
returns-clause-ok c = all_dropped c.loop-id.left.items c.loop-id.overlay _ (let none = c.in_default.ensures.cases.0 in omega arith) c.loop-id.invariant.dropped

pub returns-clause-noted : goal.returns-clause-noted
returns-clause-noted c = all_put c.loop-id.left.items c.loop-id.stood _ (let none = c.in_default.ensures.cases.0 in omega arith) c.loop-id.invariant.noted
