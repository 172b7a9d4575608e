use Rattle.std.proofs.Common.{◌≡◌, drop}
use Rattle.serde_json.specs.View.{items_view}
use Rattle.jpa_json.specs.readers.Members as members
use Rattle.jpa_json.proofs.readers.Items.{with_front}
use Rattle.jpa_json.proofs.readers.described.each.Given as goal

abbrev pub invariant-loop-item : goal.invariant-loop-item
invariant-loop-item g l = with_front l.list.items (members.each g.T.Described.meaning (items_view (drop l.item-index l.items))) ≡ members.each g.T.Described.meaning (items_view l.items)
