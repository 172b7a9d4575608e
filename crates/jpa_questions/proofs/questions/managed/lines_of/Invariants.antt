use Rattle.std.proofs.Common.{◌≡◌, take, flat_map}
use Rattle.jpa_questions.specs.questions.ManagedPlans.{line}
use Rattle.jpa_questions.proofs.questions.managed.lines_of.Given as goal

abbrev pub invariant-loop-found : goal.invariant-loop-found
invariant-loop-found l = l.text.items ≡ flat_map (line l.metamodel) (take l.found-index l.all)
