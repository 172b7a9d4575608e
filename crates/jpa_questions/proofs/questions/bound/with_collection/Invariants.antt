use Rattle.std.proofs.Common.{◌≡◌, ◌++◌, suc, drop}
use Rattle.jpa_questions.specs.questions.Questions.{values_from}
use Rattle.jpa_questions.proofs.questions.bound.with_collection.Given as goal

-- those so far, before what the rest makes, are all
abbrev pub invariant-loop-place : goal.invariant-loop-place
invariant-loop-place l =
    l.all ++ values_from l.name (suc l.place) (drop l.place l.values) ≡ l.fn.bound ++ values_from l.name 1 l.values
