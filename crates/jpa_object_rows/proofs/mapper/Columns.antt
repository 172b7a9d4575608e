-- The numbers of a class's columns fit 32 bits, since those of each entity do.
use Rattle.std.specs.Prelude.{ℕ, suc, ◌<◌, ◌^◌, List, [], ◌∷◌, ◌++◌, length, All}
use Rattle.std.proofs.Common.{arith, get_or}
use Rattle.std.specs.List.{flat_map, AllByRecursion}
use Rattle.jpa_model.specs.declared.unit.Attribute.{Attribute}
use Rattle.jpa_model.specs.declared.unit.Origin.{Origin}
use Rattle.jpa_model.specs.declared.unit.PersistenceUnit.{PersistenceUnit}
use Rattle.jpa_model.specs.declared.unit.Relation.{Relation}
use Rattle.jpa_model.specs.Chains.{entity_at, chain, root_class, root_in, root_of, attributes_of, relations_of, column_of}
use Rattle.jpa_model.specs.Kept.{IsDescribed}
use Rattle.jpa_model.proofs.Within.{chain-within}
use Rattle.jpa_rows.specs.rows.Numbers.{IsNarrow, IsNarrowVersion, IsNarrowLink, IsNarrowOrigin}
use Rattle.jpa_rows.proofs.rows.Narrow.{entity_narrow}
use Rattle.jpa_object_rows.specs.mapper.Narrow.{HaveNarrowColumns, HaveNarrowLinks}

-- by place and by recursion
each_of : {A : Type 0} (P : A → Type 0) (xs : List A) → All P xs → AllByRecursion P xs
each_of P [] h = tt
each_of P (x ∷ xs) h = (h 0 x (omega arith), each_of P xs (λ k d l. h (suc k) d (omega arith)))

joined : {A : Type 0} (P : A → Type 0) (xs ys : List A) → AllByRecursion P xs → AllByRecursion P ys → AllByRecursion P (xs ++ ys)
joined P [] ys h g = g
joined P (x ∷ xs) ys h g = (h.0, joined P xs ys h.1 g)

-- what each class of a chain declares, together
along : {A : Type 0} (P : A → Type 0) (f : ℕ → List A) (classes : List ℕ) → AllByRecursion (λ c. AllByRecursion P (f c)) classes → AllByRecursion P (flat_map f classes)
along P f [] h = tt
along P f (c ∷ classes) h = joined P (f c) (flat_map f classes) h.0 (along P f classes h.1)

root_version : (o : Origin) → IsNarrowOrigin o → IsNarrowVersion (root_in o).version
root_version (Origin.Root root) h = h.version
root_version (Origin.Extends parent) h = tt

first_within : (n class : ℕ) (classes : List ℕ) → class < n → All (λ c. c < n) classes → get_or classes 0 class < n
first_within n class [] h g = h
first_within n class (c ∷ classes) h g = g 0 class (omega arith)

module _ (m : PersistenceUnit) (described : IsDescribed m) (class : ℕ) (within : class < length m.entities) where
  class_narrow : (k d : ℕ) → k < length (chain m class) → IsNarrow m (entity_at m (get_or (chain m class) k d))
  class_narrow k d l = entity_narrow m described (get_or (chain m class) k d) (chain-within m described class within k d l)

  pub version_narrow : IsNarrowVersion (root_of m class).version
  version_narrow =
      let root = root_class m class in
      let narrow : IsNarrow m (entity_at m root) = entity_narrow m described root (first_within (length m.entities) class (chain m class) within (chain-within m described class within)) in
      root_version (entity_at m root).origin narrow.origin

  pub attributes_narrow : HaveNarrowColumns (attributes_of m class)
  attributes_narrow =
      along (λ (a : Attribute). a.column < 2 ^ 32) (λ c. (entity_at m c).attributes) (chain m class)
      (each_of (λ c. HaveNarrowColumns (entity_at m c).attributes) (chain m class) (λ k d l. each_of (λ (a : Attribute). a.column < 2 ^ 32) _ (class_narrow k d l).attributes))

  pub links_narrow : HaveNarrowLinks (relations_of m class)
  links_narrow =
      along (λ (r : Relation). IsNarrowLink (column_of r.side)) (λ c. (entity_at m c).relations) (chain m class)
      (each_of (λ c. HaveNarrowLinks (entity_at m c).relations) (chain m class)
      (λ k d l. each_of (λ (r : Relation). IsNarrowLink (column_of r.side)) _ (λ i e h. ((class_narrow k d l).relations i e h).column)))
