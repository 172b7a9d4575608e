-- A plan is made class by class.
use Rattle.std.specs.Prelude.{◌≡◌, ℕ, ◌+◌, ◌==◌, [], filter}
use Rattle.std.proofs.Common.{ap, ◌∙◌}
use Rattle.std.specs.List.{range_with_len}
use Rattle.jpa_model.specs.Chains.{root_class}
use Rattle.jpa_behaviour.specs.Behaviour.{World}
use Rattle.jpa_description.specs.declared.history.history.History.{History}
use Rattle.jpa_rows.proofs.rows.Classes.{passed, taken}
use Rattle.jpa_opening.specs.declared.migration.plan.Plan.{Plan}
use Rattle.jpa_opening.specs.migration.Plans.{Adds, plan_of_classes, taken_by, moves_by, defaults_of}

module _ (world : World) (h : History) (root n : ℕ) (plan : Plan) where
  -- a class of the hierarchy
  pub class_added : (now : Plan) → plan ≡ plan_of_classes world h root (filter (λ c. root_class world.model c == root) (range_with_len 0 n)) → root_class world.model n ≡ root → Adds world h n plan now
      → now ≡ plan_of_classes world h root (filter (λ c. root_class world.model c == root) (range_with_len 0 (n + 1)))
  class_added now e is adds =
      let columns = taken (taken_by world h) (root_class world.model) root n [] plan.taken now.taken (ap (λ (p : Plan). p.taken) e) is adds.taken in
      let moves = taken (moves_by world h) (root_class world.model) root n [] plan.moves now.moves (ap (λ (p : Plan). p.moves) e) is adds.moves in
      let defaults = taken (defaults_of world h) (root_class world.model) root n [] plan.defaults now.defaults (ap (λ (p : Plan). p.defaults) e) is adds.defaults in
      let dropped = adds.dropped ∙ ap (λ (p : Plan). p.dropped) e in
      λ i. record { taken = columns i; dropped = dropped i; moves = moves i; defaults = defaults i }

  -- and one of another
  pub class_passed : plan ≡ plan_of_classes world h root (filter (λ c. root_class world.model c == root) (range_with_len 0 n)) → (root_class world.model n ≡ root → ⊥)
      → plan ≡ plan_of_classes world h root (filter (λ c. root_class world.model c == root) (range_with_len 0 (n + 1)))
  class_passed e other =
      let columns = passed (taken_by world h) (root_class world.model) root n [] plan.taken (ap (λ (p : Plan). p.taken) e) other in
      let moves = passed (moves_by world h) (root_class world.model) root n [] plan.moves (ap (λ (p : Plan). p.moves) e) other in
      let defaults = passed (defaults_of world h) (root_class world.model) root n [] plan.defaults (ap (λ (p : Plan). p.defaults) e) other in
      let dropped = ap (λ (p : Plan). p.dropped) e in
      λ i. record { taken = columns i; dropped = dropped i; moves = moves i; defaults = defaults i }
