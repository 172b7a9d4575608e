use Rattle.std.proofs.Common.{◌≡◌, take, flat_map}
use Rattle.jpa_questions.specs.questions.Plans.{entity_line}
use Rattle.jpa_questions.proofs.questions.plan.tell_entities.Given as goal

abbrev pub invariant-loop-entity : goal.invariant-loop-entity
invariant-loop-entity l = l.text.items ≡ flat_map entity_line (take l.entity-index l.entities)
