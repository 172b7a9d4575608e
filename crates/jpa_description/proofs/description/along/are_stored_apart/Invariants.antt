use Rattle.std.proofs.Common.{◌≡◌, ◌-◌, length}
use Rattle.std.specs.List.{list_all, range_with_len}
use Rattle.jpa_model.specs.Drafted.{hierarchy, classes}
use Rattle.jpa_model.specs.WellFormed.{is_stored_apart}
use Rattle.jpa_description.proofs.description.along.are_stored_apart.Given as goal

abbrev pub invariant-loop-root : goal.invariant-loop-root
invariant-loop-root l =
    list_all (λ root. is_stored_apart l.draft (hierarchy l.draft root)) (range_with_len l.root (length l.draft.entities - l.root))
    ≡ list_all (λ root. is_stored_apart l.draft (hierarchy l.draft root)) (classes l.draft)
