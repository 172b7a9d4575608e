-- The end of a cascade.
use Rattle.std.proofs.Common.{◌≡◌, ℕ, zero, suc, Bool, true, false, List, [], ◌∷◌, ◌++◌, refl, ap}
use Rattle.std.specs.Prelude.{if◌then◌else◌}
use Rattle.jpa_cascade.specs.declared.Node.{Node}
use Rattle.jpa_cascade.specs.Waves.{waves_by}

pub nothing_more : {X : Type 0} (xs : List X) → xs ++ [] ≡ xs
nothing_more [] = refl
nothing_more (x ∷ xs) = ap (λ ys. x ∷ ys) (nothing_more xs)

-- an empty wave is the end
pub waves_ended : (next : Node → List Node) (k : ℕ) (before : List Node) → waves_by next k before [] ≡ before
waves_ended next zero before = nothing_more before
waves_ended next (suc k) before = refl

pub either_way : (b : Bool) (xs : List Node) → xs ≡ [] → (if b then xs else []) ≡ []
either_way true xs e = e
either_way false xs e = refl
