-- Chains of a persistence unit, from a class up.
use Rattle.std.proofs.Common.{◌≡◌, ℕ, suc, zero, ◌-◌, ◌<◌, [], ◌∷◌, ◌++◌, Some, None, refl, arith}
use Rattle.jpa_model.specs.Chains.{chain_from, superclass_in, entity_at}
use Rattle.jpa_model.specs.declared.unit.Origin.{Origin}
use Rattle.jpa_model.specs.declared.unit.PersistenceUnit.{PersistenceUnit}

pub climb_up : (m : PersistenceUnit) (n class : ℕ) (origin : Origin) (above : ℕ) → superclass_in origin ≡ Some above → 0 < n → chain_from m n class origin ≡ chain_from m (n - 1) above (entity_at m above).origin ++ class ∷ []
climb_up m zero class origin above e h = absurd (omega arith)
climb_up m (suc n) class (Origin.Root r) above e h = cc
climb_up m (suc n) class (Origin.Extends parent) above e h =
    let same : parent ≡ above = cc in
    let less : suc n - 1 ≡ n = omega arith in
    rw (less, same) refl

pub climb_none : (m : PersistenceUnit) (n class : ℕ) (origin : Origin) → superclass_in origin ≡ None → chain_from m n class origin ≡ class ∷ []
climb_none m zero class origin e = refl
climb_none m (suc n) class (Origin.Root r) e = refl
climb_none m (suc n) class (Origin.Extends parent) e = cc

pub climb_cut : (m : PersistenceUnit) (n class : ℕ) (origin : Origin) → n ≡ 0 → chain_from m n class origin ≡ class ∷ []
climb_cut m zero class origin e = refl
climb_cut m (suc n) class origin e = absurd (omega arith)

pub ruleset climbed = (climb_up, climb_none, climb_cut)
