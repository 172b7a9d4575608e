use Rattle.std.proofs.Common.{Some, subst, sym, ap, ◌∙◌, arith, drop, ◌+◌}
use Rattle.std.proofs.lemmas.Result.{err_from_is_err_and}
use Rattle.serde_json.specs.View.{items_view}
use Rattle.jpa_json.specs.readers.Members as members
use Rattle.jpa_json.specs.readers.Outcome.{Fails}
use Rattle.jpa_json.proofs.readers.Items.{with_front, item_read, item_refused, items_end}
use Rattle.jpa_json.proofs.readers.described.each.Goals as goal

pub returns-in_err-entry : goal.returns-in_err-entry
returns-in_err-entry g c =
    let p = err_from_is_err_and c.from_residual.result c.from_residual.ensures.1 in
    rw (p.1, p.2) (subst (Fails _) c.loop-item.invariant (item_refused g.T.Described.meaning c.args.items.now c.loop-item.item-index c.item-item.result c.loop-item.list.items _ (omega arith) c.item-item.is c.in_err-entry.ensures))

pub loop-item-preserved : goal.loop-item-preserved
loop-item-preserved g c =
    ap (λ xs. with_front xs (members.each g.T.Described.meaning (items_view (drop (c.loop-item.item-index + 1) c.args.items.now)))) c.in_ok-push.ensures.items
    ∙ sym (item_read g.T.Described.meaning c.args.items.now c.loop-item.item-index c.item-item.result c.loop-item.list.items c.in_ok-entry.entry (omega arith) c.item-item.is c.in_ok-entry.ensures)
    ∙ c.loop-item.invariant

pub returns : goal.returns
returns g c =
    sym c.loop-item.invariant ∙ items_end g.T.Described.meaning c.args.items.now c.loop-item.item-index c.loop-item.list.items (omega arith)
    ∙ ap Some (sym c.of.ensures)
