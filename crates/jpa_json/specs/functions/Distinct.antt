-- Lists in which nothing stands twice.
use Rattle.std.specs.Prelude.{Bool, true, not, ◌&&◌, List, [], ◌∷◌}
use Rattle.std.specs.List.{list_any}

-- no item meets a later one
abbrev pub none_meets : {A : Type 0} → (A → A → Bool) → List A → Bool
none_meets meets [] = true
none_meets meets (x ∷ xs) = not (list_any (meets x) xs) && none_meets meets xs
