use Rattle.std.proofs.Common.{◌∙◌, sym}
use Rattle.jpa_work.specs.context.Undo.{now}
use Rattle.jpa_flush.specs.flush.Flush.{members_held}
use Rattle.jpa_flush.proofs.flush.Remembered.{remembers_already}
use Rattle.jpa_flush.proofs.flush.remembering.relearned.Goals as goal

pub returns-then-branch-clause-ok : goal.returns-then-branch-clause-ok
returns-then-branch-clause-ok c =
    let e = c.args.entry.now in
    let members = members_held c.args.metamodel.now (now c.args.work.now) e.object in
    remembers_already e c.in-Some.base members c.in-Some.is (sym c.in_ok-knows_all_still.ensures.ok ∙ c.if-branch.true)
