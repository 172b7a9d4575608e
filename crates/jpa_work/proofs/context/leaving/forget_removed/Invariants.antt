use Rattle.std.proofs.Common.{◌≡◌, ℕ, cond, take, None}
use Rattle.std.specs.Prelude.{◌==◌, ◌&&◌}
use Rattle.std.specs.List.{list_any}
use Rattle.jpa_work.specs.heap.Objects.{object_at}
use Rattle.jpa_work.specs.context.Indexed.{place_in}
use Rattle.jpa_work.specs.context.Work.{state_from, is_removed}
use Rattle.jpa_work.proofs.context.leaving.forget_removed.Given as goal

-- those so far that are removed have none
abbrev pub invariant-loop-entry : goal.invariant-loop-entry
invariant-loop-entry l =
    (n : ℕ)
    → place_in l.at n ≡ cond (list_any (λ e. is_removed (state_from l.manager (object_at l.objects e.object).life) && (e.object == n)) (take l.entry-index l.entries)) None (place_in l.fn.at n)
