use Rattle.std.proofs.Common.{◌∙◌, sym, rules}
use Rattle.jpa_behaviour.specs.Served.{world_of_unit}
use Rattle.jpa_work.specs.context.Undo.{now}
use Rattle.jpa_flush.proofs.flush.Unreached.{linked_none}
use Rattle.jpa_flush.proofs.flush.walking.persist_from_looked.Goals as goal

-- where each is linked, there is nothing to be done
pub returns-then-are_linked : goal.returns-then-are_linked
returns-then-are_linked g c =
    record {
      carries = record {
        meets = linked_none (world_of_unit g.B.Behaviour.meaning c.args.unit.now) (now c.args.work.now) c.requires.entered (sym c.are_linked.ensures ∙ c.if-are_linked.true);
        view = search rules;
        since = search rules;
      };
      ready = search rules;
      named = search rules;
    }
