use Rattle.std.proofs.Common.{◌≡◌, map, take}
use Rattle.jpa_questions.specs.questions.Questions.{named_sort}
use Rattle.jpa_questions.proofs.questions.question.sorts_of.Given as goal

abbrev pub invariant-loop-one : goal.invariant-loop-one
invariant-loop-one l = l.sorts ≡ map named_sort (take l.one-index l.bound)
