-- Small facts on tests and options.
use Rattle.std.specs.Prelude.{◌≡◌, Bool, true, false, ◌&&◌, ◌||◌, not}
use Rattle.std.proofs.Common.{refl, sym}

-- a second test that holds changes nothing
pub and_held : (a b : Bool) → b ≡ true → a ≡ a && b
and_held true b h = sym h
and_held false b h = refl

pub not_either : (a b : Bool) → not a ≡ true → b ≡ false → not (a || b) ≡ true
not_either true b h g = h
not_either false true h g = sym g
not_either false false h g = refl

pub by_cases : (a b : Bool) → (a ≡ true → b ≡ true) → (b ≡ true → a ≡ true) → a ≡ b
by_cases true b f g = sym (f refl)
by_cases false true f g = g refl
by_cases false false f g = refl
