use Rattle.std.proofs.Common.{rules, ◌≡◌}
use Rattle.std.proofs.lemmas.Fn.{always_returns_same}
use Rattle.jpa_opening.proofs.migration.Sorting.{sorted_placed}
use Rattle.jpa_opening.proofs.migration.row.put_in_order.Goals as goal

pub returns : goal.returns
returns c differ =
    let e = c.sort_unstable_by_key.ensures in
    sorted_placed c.args.cells.now.items c.sort_unstable_by_key.new.self.items differ e.permutation
    (e.sorted (λ cell. cell.column) (always_returns_same _ (λ a r. r ≡ a.0.now.column) _ (λ a r q k. search rules)))
