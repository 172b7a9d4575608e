-- What is read off one change.
use Rattle.std.specs.Prelude.{◌≡◌, ℕ, pos, [], ◌∷◌, Some, None}
use Rattle.std.proofs.Common.{refl}
use Rattle.jpa_description.specs.declared.history.history.Change.{Change}
use Rattle.jpa_opening.specs.migration.Changed.{column_before}
use Rattle.jpa_opening.specs.migration.Plans.{moved_by}

pub moved_from : (column was : ℕ) (change : Change) → column_before change ≡ Some was → moved_by column change ≡ record { was = was; column = pos column } ∷ []
moved_from column was Change.Kept e = cc
moved_from column was (Change.New default) e = cc
moved_from column was (Change.Moved other) e =
    let same : other ≡ was = cc in
    λ i. record { was = same i; column = pos column } ∷ []

pub not_moved : (column : ℕ) (change : Change) → column_before change ≡ None → moved_by column change ≡ []
not_moved column Change.Kept e = refl
not_moved column (Change.New default) e = refl
not_moved column (Change.Moved was) e = cc
