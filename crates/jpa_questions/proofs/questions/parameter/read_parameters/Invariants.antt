use Rattle.std.proofs.Common.{◌≡◌, [], drop}
use Rattle.jpa_questions.specs.questions.Parameters.{with_words}
use Rattle.jpa_questions.proofs.questions.parameter.read_parameters.Given as goal

abbrev pub invariant-loop-word : goal.invariant-loop-word
invariant-loop-word l = with_words l.language l.parameters (drop l.word-index l.words) ≡ with_words l.language [] l.words
