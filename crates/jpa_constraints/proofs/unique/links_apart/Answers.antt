use Rattle.std.proofs.Common.{sym, ap, ◌∙◌, drop}
use Rattle.jpa_constraints.specs.Judged.{links_apart}
use Rattle.jpa_constraints.proofs.Leading.{no_pairs_left}
use Rattle.jpa_constraints.proofs.unique.links_apart.Goals as goal

pub returns : goal.returns
returns c = sym (c.loop-i.invariant ∙ ap links_apart (no_pairs_left (drop c.loop-i.i c.args.relations.now) c.args.owned.now c.loop-i.i c.loop-i-test.false))
