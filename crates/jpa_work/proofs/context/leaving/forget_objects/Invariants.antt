use Rattle.std.proofs.Common.{◌≡◌, ℕ, cond, take, None}
use Rattle.std.specs.Prelude.{◌==◌}
use Rattle.std.specs.List.{list_any}
use Rattle.jpa_work.specs.context.Indexed.{place_in}
use Rattle.jpa_work.proofs.context.leaving.forget_objects.Given as goal

-- those so far have none
abbrev pub invariant-loop-object : goal.invariant-loop-object
invariant-loop-object l = (n : ℕ) → place_in l.at n ≡ cond (list_any (λ m. m == n) (take l.object-index l.objects)) None (place_in l.fn.at n)
