-- A list beside what undoing its changes gives.
use Rattle.std.specs.Prelude.{ℕ, List, [], ◌∷◌, slice_set}

-- the items now, and the items as they were when the changes were last kept
pub record Changes (T : Type 0) : Type 0 where
  pub now : List T
  pub since : List T

-- the overwritten items put back, the last one first, each at its place
abbrev pub put_back : {T : Type 0} → List T → List (ℕ × T) → List T
put_back items [] = items
put_back items (o ∷ os) = slice_set (put_back items os) o.0 o.1
