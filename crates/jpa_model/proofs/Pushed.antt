-- Lists that grow item by item.
use Rattle.std.proofs.Common.{◌≡◌, ℕ, ◌+◌, ◌<◌, List, [], ◌∷◌, ◌++◌, map, length, get_or, drop, drop-cons, add-one, append_assoc, refl, ap, sym, ◌∙◌, zero-add}
use Rattle.std.specs.List.{flat_map, range_with_len}
use Rattle.std.proofs.lemmas.List.FromFn.{map-range_with_len_more, length-map-range_with_len, get_or-map-range_with_len}

-- what f gives of one more number
pub map_more : {A : Type 0} (f : ℕ → A) (n : ℕ) (found grown : List A) (x : A) → found ≡ map f (range_with_len 0 n) → x ≡ f n → grown ≡ found ++ x ∷ [] → grown ≡ map f (range_with_len 0 (n + 1))
map_more f n found grown x before is e = e ∙ ap (λ xs. xs ++ x ∷ []) before ∙ ap (λ y. map f (range_with_len 0 n) ++ y ∷ []) is ∙ sym (map-range_with_len_more f 0 n n (zero-add n))

-- what f gives of one more item, in front of what it gives of the others
pub flat_map_more : {A B : Type 0} (f : A → List B) (xs : List A) (i : ℕ) (d : A) (found grown all : List B) → i < length xs → found ++ flat_map f (drop i xs) ≡ all → grown ≡ found ++ f (get_or xs i d) → grown ++ flat_map f (drop (i + 1) xs) ≡ all
flat_map_more f xs i d found grown all h before e =
    ap (λ ys. ys ++ flat_map f (drop (i + 1) xs)) e ∙ append_assoc found (f (get_or xs i d)) (flat_map f (drop (i + 1) xs))
    ∙ ap (λ ys. found ++ ys) (rw (add-one i, drop-cons xs i d h) refl) ∙ before

-- what f gives of the numbers below n, by place
pub length_mapped : {A : Type 0} (f : ℕ → A) (n : ℕ) (xs : List A) → xs ≡ map f (range_with_len 0 n) → length xs ≡ n
length_mapped f n xs e = ap length e ∙ length-map-range_with_len f 0 n

pub mapped_at : {A : Type 0} (f : ℕ → A) (n k : ℕ) (d : A) (xs : List A) → xs ≡ map f (range_with_len 0 n) → k < n → get_or xs k d ≡ f k
mapped_at f n k d xs e h = ap (λ ys. get_or ys k d) e ∙ get_or-map-range_with_len f 0 n k k d h (zero-add k)
