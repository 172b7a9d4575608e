-- GROUP BY: the first group takes all tuples of its key, and the others are the groups of those that are left.
use Rattle.std.proofs.Common.{◌≡◌, ◌∙◌, ap, sym, refl, Bool, true, false, cond, not, List, [], ◌∷◌, ◌++◌, append_assoc}
use Rattle.std.proofs.lemmas.List.{append-nil}
use Rattle.jpql_meaning.specs.declared.eval.datum.Datum.{Datum}
use Rattle.jpql_meaning.specs.eval.Data.{same_data}
use Rattle.jpql_meaning.specs.plan.Paths.{Tuple}
use Rattle.jpql_meaning.specs.plan.Selection.{put_tuple, put_tuples}
use Rattle.jpql_meaning.specs.plan.Laws.{grouped_with, grouped_apart}

module _ (key : Tuple → List Datum) where
  -- what the first group and the others are made of
  abbrev Split : Tuple → List Tuple → List (List Tuple) → List Tuple → Type 0
  Split one more gs ts =
      put_tuples key ((one ∷ more) ∷ gs) ts ≡ (one ∷ more ++ grouped_with key one ts) ∷ put_tuples key gs (grouped_apart key one ts)

  -- one more tuple goes to the first group, or to the others
  next : (one : Tuple) (more : List Tuple) (gs : List (List Tuple)) (t : Tuple) (ts : List Tuple) (b : Bool) → same_data (key one) (key t) ≡ b
      → ((ms : List Tuple) (hs : List (List Tuple)) → Split one ms hs ts)
      → put_tuples key (cond b ((one ∷ more ++ t ∷ []) ∷ gs) ((one ∷ more) ∷ put_tuple key t gs)) ts
      ≡ (one ∷ more ++ cond b (t ∷ grouped_with key one ts) (grouped_with key one ts))
      ∷ put_tuples key gs (cond (not b) (t ∷ grouped_apart key one ts) (grouped_apart key one ts))
  next one more gs t ts true e h =
      h (more ++ t ∷ []) gs
      ∙ ap (λ g. (one ∷ g) ∷ put_tuples key gs (grouped_apart key one ts)) (append_assoc more (t ∷ []) (grouped_with key one ts))
  next one more gs t ts false e h = h more (put_tuple key t gs)

  split : (one : Tuple) (ts : List Tuple) (more : List Tuple) (gs : List (List Tuple)) → Split one more gs ts
  split one [] more gs = ap (λ g. (one ∷ g) ∷ gs) (sym (append-nil more))
  split one (t ∷ ts) more gs = next one more gs t ts (same_data (key one) (key t)) refl (split one ts)

  pub first_of_groups : (t : Tuple) (ts : List Tuple)
      → put_tuples key [] (t ∷ ts) ≡ (t ∷ grouped_with key t ts) ∷ put_tuples key [] (grouped_apart key t ts)
  first_of_groups t ts = split t ts [] []
