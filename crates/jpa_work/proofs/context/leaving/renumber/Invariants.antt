use Rattle.std.proofs.Common.{◌≡◌, ℕ, cond, drop, None}
use Rattle.std.specs.Prelude.{◌==◌}
use Rattle.std.specs.List.{position_from}
use Rattle.std.specs.Option.{option_or}
use Rattle.jpa_work.specs.context.Indexed.{place_in, has_place}
use Rattle.jpa_work.proofs.context.leaving.renumber.Given as goal

-- the entries from here on have given their objects places
abbrev pub invariant-loop-i : goal.invariant-loop-i
invariant-loop-i l =
    (n : ℕ) → place_in l.at n ≡ cond (has_place l.fn.at n) (option_or (position_from (λ e. e.object == n) l.i (drop l.i l.entries)) (place_in l.fn.at n)) None
