-- What can't overflow is given: keys of ORDER BY that are items or paths are.
use Rattle.std.proofs.Common.{◌≡◌, refl, sym, true, false, List, [], ◌∷◌, map}
use Rattle.std.specs.Prelude.{All, ◌||◌, Bool}
use Rattle.std.specs.List.{list_any}
use Rattle.std.proofs.lemmas.Bool.{false≢true}
use Rattle.std.proofs.lemmas.List.Elements.{All-head, All-tail}
use Rattle.jpql_trees.specs.declared.typed.typed.TypedKey.{TypedKey}
use Rattle.jpql_trees.specs.declared.typed.typed.TypedSorted.{TypedSorted}
use Rattle.jpql_meaning.specs.declared.eval.datum.Datum.{Datum}
use Rattle.jpql_meaning.specs.eval.Answers.{Answer, gives, both, every}
use Rattle.jpql_meaning.specs.plan.Meaning.{Case}
use Rattle.jpql_run.specs.declared.run.Run.{Run}
use Rattle.jpql_select.specs.select.Selects.{is_by_value, key_datum, key_given}

pub all_given : {A B : Type 0} (f : A → Answer B) (g : A → B) (P : A → Type 0) → ((x : A) → P x → f x ≡ gives (g x)) → (xs : List A) → All P xs → every (map f xs) ≡ gives (map g xs)
all_given f g P so [] h = refl
all_given f g P so (x ∷ xs) h = λ i. both (λ y ys. y ∷ ys) (so x (All-head P x xs h) i) (all_given f g P so xs (All-tail P x xs h) i)

none_is : (a b : Bool) → (a || b) ≡ false → (a ≡ false) × (b ≡ false)
none_is true b h = absurd (false≢true (sym h))
none_is false b h = (refl, h)

module _ (run : Run) (items : List Datum) (at : Case) where
  key_is_given : (key : TypedKey) → is_by_value key ≡ false → key_datum run items at key ≡ gives (key_given run items at key)
  key_is_given key h = of key.by h
    where
      of : (by : TypedSorted) → is_by_value (record key { by = by }) ≡ false → key_datum run items at (record key { by = by }) ≡ gives (key_given run items at (record key { by = by }))
      of (TypedSorted.Item n) h = refl
      of (TypedSorted.Path p) h = refl
      of (TypedSorted.Value v) h = absurd (false≢true (sym h))

  pub keys_given : (keys : List TypedKey) → list_any is_by_value keys ≡ false → every (map (key_datum run items at) keys) ≡ gives (map (key_given run items at) keys)
  keys_given [] h = refl
  keys_given (key ∷ keys) h =
      let parts = none_is (is_by_value key) (list_any is_by_value keys) h in
      λ i. both (λ y ys. y ∷ ys) (key_is_given key parts.0 i) (keys_given keys parts.1 i)
