-- What the definitions say of a number that names no class.
use Rattle.std.specs.Prelude.{◌≡◌, ℕ, zero, suc, ◌<◌, ◌≤◌, false, ◌||◌, ◌==◌, nat_lt, All, List, [], ◌∷◌, length}
use Rattle.std.proofs.Common.{refl, sym, ap, ◌∙◌, arith}
use Rattle.std.specs.List.{list_any}
use Rattle.std.proofs.lemmas.Bool.{le-ltb}
use Rattle.std.proofs.lemmas.List.Elements.{All-head, All-tail}
use Rattle.std.proofs.Math.Bool.{or-false}
use Rattle.std.proofs.Math.ListN.{get_or-eq_default}
use Rattle.jpa_model.specs.declared.unit.PersistenceUnit.{PersistenceUnit}
use Rattle.jpa_model.specs.Chains.{chain, chain_from, entity_at, no_entity, is_kind_of}
use Rattle.jpa_model.specs.Kept.{IsDescribed}
use Rattle.jpa_model.proofs.Within.{chain-within}

-- ---- a number that names no entity is a class of its own

alone : (m : PersistenceUnit) (n class : ℕ) → chain_from m n class no_entity.origin ≡ class ∷ []
alone m zero class = refl
alone m (suc n) class = refl

pub outside : (m : PersistenceUnit) (class : ℕ) → length m.entities ≤ class → entity_at m class ≡ no_entity
outside m class h = get_or-eq_default m.entities no_entity h

pub own_chain : (m : PersistenceUnit) (class : ℕ) → length m.entities ≤ class → chain m class ≡ class ∷ []
own_chain m class h = ap (λ e. chain_from m (length m.entities) class e.origin) (outside m class h) ∙ alone m (length m.entities) class

-- ---- of which kind it is

other : (n class above : ℕ) → class < n → n ≤ above → (class == above) ≡ false
other n class above h g = grind arith

not_among : (n above : ℕ) (cs : List ℕ) → All (λ c. c < n) cs → n ≤ above → list_any (λ c. c == above) cs ≡ false
not_among n above [] all h = refl
not_among n above (c ∷ cs) all h =
    let apart : (c == above) ≡ false = other n c above (All-head (λ k. k < n) c cs all) h in
    ap (λ b. b || list_any (λ k. k == above) cs) apart ∙ not_among n above cs (All-tail (λ k. k < n) c cs all) h

pub own_kind : (m : PersistenceUnit) (class above : ℕ) → length m.entities ≤ class → (class == above) ≡ is_kind_of m class above
own_kind m class above h = sym (ap (list_any (λ c. c == above)) (own_chain m class h) ∙ or-false (class == above))

-- a class is below no number that names none
pub no_kind : (m : PersistenceUnit) → IsDescribed m → (n class above : ℕ) → n ≡ length m.entities → class < n → n ≤ above → nat_lt above n ≡ is_kind_of m class above
no_kind m described n class above e h g =
    le-ltb above n g ∙ sym (not_among (length m.entities) above (chain m class) (chain-within m described class (omega arith)) (omega arith))
