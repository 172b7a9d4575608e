use Rattle.std.proofs.Common.{sym, ◌∙◌, drop}
use Rattle.jpa_stored.proofs.objects.Zips.{all_end}
use Rattle.jpa_constraints.proofs.reference.links_lead.Goals as goal

pub returns : goal.returns
returns c = sym (c.loop-i.invariant ∙ all_end _ (drop c.loop-i.i c.args.relations.now) c.args.owned.now c.loop-i.i c.loop-i-test.false)
