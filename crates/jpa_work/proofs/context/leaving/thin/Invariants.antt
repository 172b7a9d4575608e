use Rattle.std.proofs.Common.{◌≡◌, ℕ, cond, take}
use Rattle.std.specs.Prelude.{filter}
use Rattle.std.specs.List.{list_any}
use Rattle.jpa_work.specs.context.Indexed.{under, has_place, places_with}
use Rattle.jpa_work.proofs.context.Staying.{leaves_under}
use Rattle.jpa_work.proofs.context.leaving.thin.Given as goal

-- where an entry so far leaves, the objects without a place are gone
abbrev pub invariant-loop-entry : goal.invariant-loop-entry
invariant-loop-entry l =
    (print : ℕ)
    → under l.index print
    ≡ cond (list_any (leaves_under (has_place l.at) print) (take l.entry-index l.entries)) (filter (has_place l.at) (places_with print l.entries)) (places_with print l.entries)
