use Rattle.std.proofs.Common.{rules}
use Rattle.jpql_types.proofs.ByPath.{by_bytes}
use Rattle.jpql_types.proofs.index.path_key.PathKeyOrd.cmp.Goals as goal

pub returns : goal.returns
returns c =
    let a = c.cmp.ensures in
    let b = by_bytes c.self.inside.words.items c.other.inside.words.items in
    let d = c.self.view_is in
    let f = c.other.view_is in
    first_of (cc, search (rules, a, b, d, f))
