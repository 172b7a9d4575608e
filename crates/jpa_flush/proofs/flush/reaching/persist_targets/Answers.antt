use Rattle.std.proofs.Common.{◌<◌, ◌∙◌, ℕ, length, sym, subst}
use Rattle.std.specs.Prelude.{All}
use Rattle.jpa_work.specs.context.Undo.{now}
use Rattle.jpa_flush.proofs.flush.Reached.{targets_within}
use Rattle.jpa_flush.proofs.flush.reaching.persist_targets.Goals as goal

pub persist_each-requires-clause-within : goal.persist_each-requires-clause-within
persist_each-requires-clause-within g c =
    let w = now c.args.work.now in
    subst (All (λ (k : ℕ). k < length w.objects)) (sym (c.as_slice.ensures ∙ c.in_ok-targets-in-Managed.ensures.ok))
    (targets_within c.args.unit.now.metamodel w c.requires.ready.linked c.args.object c.requires.object)
