use Rattle.std.proofs.Common.{◌≡◌, drop}
use Rattle.std.specs.List.{list_all}
use Rattle.jpa_work.specs.context.Undo.{now}
use Rattle.jpa_flush.specs.flush.Marked.{is_named}
use Rattle.jpa_flush.proofs.flush.calm.all_named.Given as goal

abbrev pub invariant-loop-object : goal.invariant-loop-object
invariant-loop-object l = list_all (is_named (now l.work)) (drop l.object-index l.objects) ≡ list_all (is_named (now l.work)) l.objects
