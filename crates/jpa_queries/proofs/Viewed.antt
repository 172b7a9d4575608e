-- The cut of rows that are seen otherwise.
use Rattle.std.proofs.Common.{◌≡◌, ◌∙◌, ℤ, pos, negsuc, List, map, Option, Some, None, refl, ap, sym}
use Rattle.std.proofs.lemmas.List.{drop-map, take-map}
use Rattle.jpa_queries.specs.Queries.{skipped, limited, cut}

module _ {A B : Type 0} (f : A → B) where
  skipped_as : (first : Option ℤ) (xs : List A) → map f (skipped first xs) ≡ skipped first (map f xs)
  skipped_as None xs = refl
  skipped_as (Some (pos n)) xs = sym (drop-map f n xs)
  skipped_as (Some (negsuc n)) xs = refl

  limited_as : (max : Option ℤ) (xs : List A) → map f (limited max xs) ≡ limited max (map f xs)
  limited_as None xs = refl
  limited_as (Some (pos n)) xs = sym (take-map f n xs)
  limited_as (Some (negsuc n)) xs = refl

  pub cut_as : (first max : Option ℤ) (xs : List A) → map f (cut first max xs) ≡ cut first max (map f xs)
  cut_as first max xs = limited_as max (skipped first xs) ∙ ap (limited max) (skipped_as first xs)
