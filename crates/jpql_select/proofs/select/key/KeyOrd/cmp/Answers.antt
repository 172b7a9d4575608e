use Rattle.std.proofs.Common.{rules}
use Rattle.jpql_select.proofs.select.Keys.{by_seen}
use Rattle.jpql_select.proofs.select.key.KeyOrd.cmp.Goals as goal

pub returns : goal.returns
returns c =
    let a = c.cmp.ensures in
    let b = by_seen c.self.inside.data.items c.other.inside.data.items in
    let d = c.self.view_is in
    let f = c.other.view_is in
    first_of (cc, search (rules, a, b, d, f))
