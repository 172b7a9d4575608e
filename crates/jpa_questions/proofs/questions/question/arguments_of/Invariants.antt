use Rattle.std.proofs.Common.{◌≡◌, map, take}
use Rattle.jpa_questions.specs.questions.Questions.{argument_of}
use Rattle.jpa_questions.proofs.questions.question.arguments_of.Given as goal

abbrev pub invariant-loop-one : goal.invariant-loop-one
invariant-loop-one l = l.arguments ≡ map argument_of (take l.one-index l.bound)
