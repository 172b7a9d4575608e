use Rattle.std.proofs.Common.{ap, ◌∙◌}
use Rattle.std.specs.Prelude.{slice_set}
use Rattle.jpa_work.specs.context.Work.{unlocked}
use Rattle.jpa_work.proofs.context.Unlocked.{put_back}
use Rattle.jpa_work.proofs.context.unlocking.unlock_at.Goals as goal

pub returns-clause-now : goal.returns-clause-now
returns-clause-now c = λ d.
    let es = c.args.entries.now.now in
    let n = c.args.place in
    let y = c.put-entry.result in
    c.put.ensures.now ∙ ap (λ ys. slice_set ys n (unlocked y)) c.put-entry.ensures.now ∙ put_back es n y c.no_entry.result d c.put-entry.ensures.old
