use Rattle.std.proofs.Common.{◌≡◌, ◌++◌, map, drop}
use Rattle.jpa_description.specs.history.Condition.{class_history_of}
use Rattle.jpa_description.proofs.history.described.history_of.Given as goal

abbrev pub invariant-loop-class : goal.invariant-loop-class
invariant-loop-class l =
    l.classes ++ map class_history_of (drop l.class-index l.draft.classes) ≡ map class_history_of l.draft.classes
