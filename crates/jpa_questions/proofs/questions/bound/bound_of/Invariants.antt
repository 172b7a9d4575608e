use Rattle.std.proofs.Common.{◌≡◌, ◌++◌, drop}
use Rattle.jpa_questions.specs.questions.Questions.{bound_of}
use Rattle.jpa_questions.proofs.questions.bound.bound_of.Given as goal

-- those so far, before what the rest makes, are all
abbrev pub invariant-loop-parameter : goal.invariant-loop-parameter
invariant-loop-parameter l = l.bound ++ bound_of (drop l.parameter-index l.parameters) ≡ bound_of l.parameters
