-- What fits part by part has as many parts.
use Rattle.std.proofs.Common.{◌≡◌, suc, Bool, true, List, [], ◌∷◌, length, refl, ap}
use Rattle.std.proofs.lemmas.Bool.{false≢true, and_parts}
use Rattle.jpa_stored.specs.objects.Sets.{each_fits}

pub each_fits_length : {A B : Type 0} (f : A → B → Bool) (xs : List A) (ys : List B) → each_fits f xs ys ≡ true → length xs ≡ length ys
each_fits_length f [] [] h = refl
each_fits_length f [] (y ∷ ys) h = absurd (false≢true h)
each_fits_length f (x ∷ xs) [] h = absurd (false≢true h)
each_fits_length f (x ∷ xs) (y ∷ ys) h = ap suc (each_fits_length f xs ys (and_parts (f x y) (each_fits f xs ys) h).1)
