-- The image of a node, found in a list of images.
use Rattle.std.proofs.Common.{◌≡◌, ◌∙◌, ◌<◌, ◌+◌, ℕ, Bool, true, false, List, [], ◌∷◌, ◌++◌, take, length, get_or, refl, ap, sym, subst, Option, Some, None}
use Rattle.std.proofs.lemmas.List.{take_more}
use Rattle.std.specs.Prelude.{◌==◌, if◌then◌else◌}
use Rattle.std.specs.List.{AllByRecursion}
use Rattle.std.specs.Option.{option_or}
use Rattle.std.proofs.lemmas.List.Elements.{recursion_from_All}
use Rattle.jpa_work.specs.context.Work.{Work}
use Rattle.jpa_merge.specs.declared.images.NodeImage.{NodeImage}
use Rattle.jpa_merge.specs.Imaged.{AreImaged, IsImaged}
use Rattle.jpa_merge.specs.Merge.{first_image, image_among}

-- with one more at the end
pub found_more : (xs : List NodeImage) (x : NodeImage) (n : ℕ) → image_among (xs ++ x ∷ []) n ≡ option_or (image_among xs n) (if x.node == n then Some x.image else None)
found_more [] x n = refl
found_more (y ∷ ys) x n = by (y.node == n) (found_more ys x n)
  where
    by : (b : Bool) → image_among (ys ++ x ∷ []) n ≡ option_or (image_among ys n) (if x.node == n then Some x.image else None) →
        (if b then Some y.image else image_among (ys ++ x ∷ []) n) ≡ option_or (if b then Some y.image else image_among ys n) (if x.node == n then Some x.image else None)
    by true rest = refl
    by false rest = rest

there : (w : Work) (xs : List NodeImage) (n k : ℕ) → AllByRecursion (IsImaged w) xs → image_among xs n ≡ Some k → k < length w.objects
there w [] n k h e = absurd cc
there w (x ∷ xs) n k h e = by (x.node == n) e (there w xs n k h.1)
  where
    by : (b : Bool) → (if b then Some x.image else image_among xs n) ≡ Some k → (image_among xs n ≡ Some k → k < length w.objects) → k < length w.objects
    by true same rest = let own : x.image ≡ k = cc in subst (λ i. i < length w.objects) own h.0.image
    by false same rest = rest same

-- it stands in the heap
pub found_there : (w : Work) (xs : List NodeImage) (n k : ℕ) → AreImaged w xs → image_among xs n ≡ Some k → k < length w.objects
found_there w xs n k h e = there w xs n k (recursion_from_All (IsImaged w) xs h) e

-- so does the first of them
pub first_there : (w : Work) (n : ℕ) (xs : List NodeImage) → n < length w.objects → AreImaged w xs → first_image n xs < length w.objects
first_there w n [] l h = l
first_there w n (x ∷ xs) l h = (recursion_from_All (IsImaged w) (x ∷ xs) h).0.image

-- one node more is noted, unless it has an image
pub noted_more : (xs : List NodeImage) (i : ℕ) (d : NodeImage) (n : ℕ) (o p : Option ℕ) → i < length xs → p ≡ option_or o (if (get_or xs i d).node == n then Some (get_or xs i d).image else None) → o ≡ image_among (take i xs) n →
    p ≡ image_among (take (i + 1) xs) n
noted_more xs i d n o p l noted before =
    noted
    ∙ ap (λ q. option_or q (if (get_or xs i d).node == n then Some (get_or xs i d).image else None)) before
    ∙ sym (ap (λ ys. image_among ys n) (take_more xs i d l) ∙ found_more (take i xs) (get_or xs i d) n)
