-- One more number in a total.
use Rattle.std.proofs.Common.{◌≡◌, ℕ, ◌+◌, ◌<◌, ℤ, pos, ◌+ℤ◌, List, ◌∷◌, map, unwrap_or, length, drop, get_or, sym, ap, ◌∙◌}
use Rattle.std.proofs.Math.IntN.{+ℤ_assoc}
use Rattle.std.proofs.lemmas.List.{drop_more}
use Rattle.jpql_meaning.specs.declared.eval.datum.Datum.{Datum}
use Rattle.jpql_meaning.specs.eval.Calls.{integer_in}
use Rattle.jpql_meaning.specs.eval.Aggregates.{total}

pub total_more : {X : Type 0} (view : X → Datum) (xs : List X) (i : ℕ) (x : X) (n before after all : ℤ) → i < length xs → x ≡ get_or xs i x
    → n ≡ unwrap_or (integer_in (view x)) (pos 0) → after ≡ before +ℤ n
    → all ≡ before +ℤ total (map view (drop i xs)) → all ≡ after +ℤ total (map view (drop (i + 1) xs))
total_more view xs i x n before after all l at value sum h =
    let rest = total (map view (drop (i + 1) xs)) in
    h ∙ ap (λ r. before +ℤ total (map view r)) (drop_more xs i x l ∙ ap (λ y. y ∷ drop (i + 1) xs) (sym at))
    ∙ ap (λ m. before +ℤ (m +ℤ rest)) (sym value) ∙ sym (+ℤ_assoc before n rest) ∙ ap (λ m. m +ℤ rest) (sym sum)
