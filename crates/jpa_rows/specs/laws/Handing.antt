-- Rows that are handed on one after another to what takes them.
use Rattle.std.specs.Prelude.{◌≡◌, ◌⊎◌, Bool, true, false, List, [], ◌∷◌, Result, Ok, Err, IsErrAnd}

-- what follows where a row was answered so
abbrev pub Follows : {S E : Type 0} → (S → Type 0) → Result Bool E → S → Result Bool E → S → Type 0
Follows Rest (Ok true) mid r last = Rest mid
Follows Rest (Ok false) mid r last = (r ≡ Ok false) × (last ≡ mid)
Follows Rest (Err e) mid r last = (r ≡ Err e) × (last ≡ mid)

-- The rows are handed on in their order, each once the one before was taken and more were wanted:
-- all of them, or up to the first
-- after which no more are wanted, or that is refused, or before which a failure comes.
abbrev pub Hands : {S A E : Type 0} → (S → A → Result Bool E → S → Type 0) → (E → Type 0) → S → List A → Result Bool E →
    S → Type 0
Hands Takes Fails first [] r last = ((r ≡ Ok true) ⊎ IsErrAnd r Fails) × (last ≡ first)
Hands {E} Takes Fails first (a ∷ rest) r last =
    (IsErrAnd r Fails × (last ≡ first))
    ⊎ ((out : Result Bool E) × (mid : _) × Takes first a out mid
    × Follows (λ s. Hands Takes Fails s rest r last) out mid r last)
