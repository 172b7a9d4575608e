use Rattle.std.proofs.Common.{◌≡◌, ◌++◌, drop}
use Rattle.jpa_work.specs.context.Undo.{now}
use Rattle.jpa_flush.specs.flush.Marked.{from}
use Rattle.jpa_provider.proofs.Walks.{gone_in}
use Rattle.jpa_provider.proofs.committing.removed_of.Given as goal

-- with those of the entries that are left they are all
abbrev pub invariant-loop-place : goal.invariant-loop-place
invariant-loop-place l =
    let w = now l.work in
    l.gone ++ gone_in w (drop (from l.places l.place-index) w.context) ≡ gone_in w w.context
