-- A pair is a list of two values.
use Rattle.std.proofs.Common.{◌≡◌, List, [], ◌∷◌, length, None, refl}
use Rattle.serde_json.specs.View.{items_view}
use Rattle.serde_json.specs.declared.value.Value.{Value}
use Rattle.jpa_json.specs.functions.FunctionsOf.{pair_in}

pub not_two : (vs : List Value) → (length vs ≡ 2 → ⊥) → pair_in (items_view vs) ≡ None
not_two [] h = refl
not_two (u ∷ []) h = refl
not_two (u ∷ v ∷ []) h = absurd (h refl)
not_two (u ∷ v ∷ w ∷ vs) h = refl
