use Rattle.std.proofs.Common.{◌∙◌, sym, rules}
use Rattle.jpa_behaviour.specs.Served.{world_of_unit}
use Rattle.jpa_work.specs.context.Undo.{now}
use Rattle.jpa_flush.proofs.flush.Unreached.{removes_none}
use Rattle.jpa_flush.proofs.flush.walking.remove_orphans_at.Goals as goal

-- where none has an orphan, there is nothing to be done
pub returns-then-branch : goal.returns-then-branch
returns-then-branch g c =
    record {
      carries = record {
        meets = removes_none (world_of_unit g.B.Behaviour.meaning c.args.unit.now) (now c.args.work.now) (sym c.in_ok-are_without_orphans.ensures.ok ∙ c.if-branch.true);
        view = search rules;
        since = search rules;
      };
      ready = search rules;
      named = search rules;
    }
