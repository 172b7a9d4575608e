use Rattle.std.proofs.Common.{◌≡◌, true}
use Rattle.jpa_questions.specs.by_key.Own.{all_below, is_single_if_held}
use Rattle.jpa_questions.proofs.by_key.held.is_single.Given as goal

-- it has its link in the classes before
abbrev pub invariant-loop-kind : goal.invariant-loop-kind
invariant-loop-kind l = all_below (is_single_if_held l.fn.metamodel l.fn.class l.fn.relation) l.kind ≡ true
