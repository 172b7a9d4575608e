use Rattle.std.proofs.Common.{◌≡◌, ◌<◌, ℕ, true}
use Rattle.jpa_model.specs.Chains.{is_kind_of}
use Rattle.jpa_stored.specs.ordered.Values.{has_column}
use Rattle.jpa_stored.proofs.ordered.values.Values.have_columns.Given as goal

-- each of those so far
abbrev pub invariant-loop-below : goal.invariant-loop-below
invariant-loop-below l = (below : ℕ) → below < l.below → is_kind_of l.metamodel below l.class ≡ true → has_column (l.self).columns below l.member l.number ≡ true
