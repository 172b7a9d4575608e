use Rattle.std.proofs.Common.{rules, ◌<◌, length}
use Rattle.jpa_work.specs.context.Undo.{now}
use Rattle.jpa_work.proofs.context.Found.{near_within}
use Rattle.jpa_cascade.proofs.context.near.Goals as goal

pub returns-clause-within : goal.returns-clause-within
returns-clause-within c =
    let w = now c.args.work.now in
    search (rules, near_within (λ n. n < length w.objects) c.args.key.now w.context c.requires.placed.entries)
