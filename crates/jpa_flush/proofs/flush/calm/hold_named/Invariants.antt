use Rattle.std.proofs.Common.{◌≡◌, drop}
use Rattle.std.specs.List.{list_all}
use Rattle.jpa_work.specs.context.Undo.{now}
use Rattle.jpa_flush.specs.flush.Marked.{holds_named}
use Rattle.jpa_flush.proofs.flush.calm.hold_named.Given as goal

abbrev pub invariant-loop-held : goal.invariant-loop-held
invariant-loop-held l = list_all (holds_named (now l.work)) (drop l.held-index l.relations) ≡ list_all (holds_named (now l.work)) l.relations
