use Rattle.std.proofs.Common.{◌≡◌, true}
use Rattle.jpa_questions.specs.by_key.Own.{all_below}
use Rattle.jpa_questions.specs.by_key.ByKey.{is_keyed}
use Rattle.jpa_questions.proofs.by_key.key.keyed_table.Given as goal

-- so are the classes before
abbrev pub invariant-loop-kind : goal.invariant-loop-kind
invariant-loop-kind l = all_below (is_keyed l.fn.metamodel l.fn.class l.table) l.kind ≡ true
