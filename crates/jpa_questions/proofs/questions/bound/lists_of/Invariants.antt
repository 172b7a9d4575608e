use Rattle.std.proofs.Common.{◌≡◌, ◌++◌, drop}
use Rattle.jpa_questions.specs.questions.Questions.{lists_of}
use Rattle.jpa_questions.proofs.questions.bound.lists_of.Given as goal

abbrev pub invariant-loop-parameter : goal.invariant-loop-parameter
invariant-loop-parameter l = l.lists ++ lists_of (drop l.parameter-index l.parameters) ≡ lists_of l.parameters
