use Rattle.std.proofs.Common.{sym, ap, ◌∙◌, ◌++◌, arith}
use Rattle.std.proofs.lemmas.List.{append-nil}
use Rattle.std.proofs.lemmas.Grind.{common_steps}
use Rattle.jpa_work.specs.context.Undo.{now}
use Rattle.jpa_cascade.proofs.Rows.{nothing_past}
use Rattle.jpa_cascade.proofs.targets.push_live_targets.Goals as goal

pub returns-in_default-clause-found : goal.returns-in_default-clause-found
returns-in_default-clause-found c =
    sym (ap (λ ns. c.args.found.now.items ++ ns) (nothing_past c.args.metamodel.now c.args.operation (now c.args.work.now) c.args.object (grind (arith, common_steps, c.in_default.ensures.lookup, c.as_slice.ensures))) ∙ append-nil c.args.found.now.items)
