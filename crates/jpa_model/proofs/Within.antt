-- The places that stand in a described unit are places of its entities.
use Rattle.std.proofs.Common.{◌≡◌, ℕ, zero, suc, ◌<◌, ◌≤◌, List, [], ◌∷◌, map, length, get_or, Option, Some, None, refl, ap, sym, subst, arith, zero-add, ◌+◌, ◌∙◌, length-append}
use Rattle.std.specs.Prelude.{All, IfSome, unwrap_or}
use Rattle.std.specs.List.{flat_map}
use Rattle.std.proofs.lemmas.List.{length-map}
use Rattle.std.proofs.lemmas.List.Elements.{All-nil, All-cons, All-push, All-append, All-head, All-tail, All-map}
use Rattle.jpa_model.specs.Chains.{entity_at, chain, chain_from, superclass_in, relations_of, declarers_of, no_entity, same_name}
use Rattle.jpa_model.specs.Drafted.{place_of}
use Rattle.jpa_model.specs.Described.{unit_of, origin_of, entity_of, relation_of}
use Rattle.jpa_model.specs.Kept.{IsDescribed}
use Rattle.jpa_model.specs.declared.draft.Draft.{Draft}
use Rattle.jpa_model.specs.declared.draft.DraftEntity.{DraftEntity}
use Rattle.jpa_model.specs.declared.draft.DraftOrigin.{DraftOrigin}
use Rattle.jpa_model.specs.declared.unit.Origin.{Origin}
use Rattle.jpa_model.specs.declared.unit.PersistenceUnit.{PersistenceUnit}
use Rattle.jpa_model.specs.declared.unit.Relation.{Relation}
use Rattle.jpa_model.proofs.Found.{position_from-within}

place_within : (d : Draft) (name : List ℕ) → 0 < length d.entities → unwrap_or (place_of d name) 0 < length d.entities
place_within d name some = go (place_of d name) (subst (λ n. IfSome (place_of d name) (λ k. k < n)) (zero-add (length d.entities)) (position_from-within (λ (e : DraftEntity). same_name e.name name) 0 d.entities))
  where
    go : (o : Option ℕ) → IfSome o (λ k. k < length d.entities) → unwrap_or o 0 < length d.entities
    go None within = some
    go (Some k) within = within

parent_within : (d : Draft) (origin : DraftOrigin) (parent : ℕ) → 0 < length d.entities → superclass_in (origin_of d origin) ≡ Some parent → parent < length d.entities
parent_within d (DraftOrigin.Root r) parent some e = cc
parent_within d (DraftOrigin.Extends name) parent some e =
    let same : unwrap_or (place_of d name) 0 ≡ parent = cc in
    subst (λ n. n < length d.entities) same (place_within d name some)

superclass_among : (d : Draft) (es : List DraftEntity) (class parent : ℕ) → length es ≤ length d.entities → superclass_in (get_or (map (entity_of d) es) class no_entity).origin ≡ Some parent → parent < length d.entities
superclass_among d [] class parent h e = cc
superclass_among d (x ∷ es) zero parent h e = parent_within d x.origin parent (omega arith) e
superclass_among d (x ∷ es) (suc class) parent h e = superclass_among d es class parent (omega arith) e

relations_among : (d : Draft) (es : List DraftEntity) (class : ℕ) → length es ≤ length d.entities → All (λ (r : Relation). r.target < length d.entities) (get_or (map (entity_of d) es) class no_entity).relations
relations_among d [] class h = All-nil _
relations_among d (x ∷ es) zero h = All-map (λ (r : Relation). r.target < length d.entities) (relation_of d) x.relations (λ k e here. place_within d (get_or x.relations k e).target (omega arith))
relations_among d (x ∷ es) (suc class) h = relations_among d es class (omega arith)

All-flat_map : {A B : Type 0} (P : B → Type 0) (f : A → List B) → ((x : A) → All P (f x)) → (xs : List A) → All P (flat_map f xs)
All-flat_map P f each [] = All-nil P
All-flat_map P f each (x ∷ xs) = All-append P (f x) (flat_map f xs) (each x) (All-flat_map P f each xs)

-- every class of a chain is an entity
chain_from_within : (m : PersistenceUnit) → ((class parent : ℕ) → superclass_in (entity_at m class).origin ≡ Some parent → parent < length m.entities) → (n class : ℕ) (origin : Origin) → origin ≡ (entity_at m class).origin → class < length m.entities → All (λ c. c < length m.entities) (chain_from m n class origin)
chain_from_within m up zero class origin e h = All-cons (λ c. c < length m.entities) class [] h (All-nil (λ c. c < length m.entities))
chain_from_within m up (suc n) class (Origin.Root r) e h = All-cons (λ c. c < length m.entities) class [] h (All-nil (λ c. c < length m.entities))
chain_from_within m up (suc n) class (Origin.Extends parent) e h =
    let above : parent < length m.entities = up class parent (ap superclass_in (sym e)) in
    All-push (λ c. c < length m.entities) (chain_from m n parent (entity_at m parent).origin) class (chain_from_within m up n parent (entity_at m parent).origin refl above) h

superclass_described : (d : Draft) (class parent : ℕ) → superclass_in (entity_at (unit_of d) class).origin ≡ Some parent → parent < length (unit_of d).entities
superclass_described d class parent e = subst (λ n. parent < n) (sym (length-map d.entities (entity_of d))) (superclass_among d d.entities class parent (omega arith) e)

chain_described : (d : Draft) (class : ℕ) → class < length (unit_of d).entities → All (λ c. c < length (unit_of d).entities) (chain (unit_of d) class)
chain_described d class h = chain_from_within (unit_of d) (superclass_described d) (length (unit_of d).entities) class (entity_at (unit_of d) class).origin refl h

pub chain-within : (m : PersistenceUnit) → IsDescribed m → (class : ℕ) → class < length m.entities → All (λ c. c < length m.entities) (chain m class)
chain-within m described = subst (λ u. (class : ℕ) → class < length u.entities → All (λ c. c < length u.entities) (chain u class)) (sym (described.1).1) (chain_described described.0)

declarers_within : {A : Type 0} (n : ℕ) (held : ℕ → List A) (cs : List ℕ) → All (λ c. c < n) cs → All (λ c. c < n) (flat_map (λ c. map (λ r. c) (held c)) cs)
declarers_within n held [] all = All-nil (λ c. c < n)
declarers_within n held (c ∷ cs) all =
    All-append (λ c. c < n) (map (λ r. c) (held c)) (flat_map (λ c. map (λ r. c) (held c)) cs)
    (All-map (λ c. c < n) (λ r. c) (held c) (λ k r here. All-head (λ c. c < n) c cs all))
    (declarers_within n held cs (All-tail (λ c. c < n) c cs all))

-- every class that declares a relation is an entity
pub declarers-within : (m : PersistenceUnit) → IsDescribed m → (class : ℕ) → class < length m.entities → All (λ c. c < length m.entities) (declarers_of m class)
declarers-within m described class h = declarers_within (length m.entities) (λ c. (entity_at m c).relations) (chain m class) (chain-within m described class h)

relations_described : (d : Draft) (class : ℕ) → All (λ (r : Relation). r.target < length (unit_of d).entities) (relations_of (unit_of d) class)
relations_described d class =
    All-flat_map (λ (r : Relation). r.target < length (unit_of d).entities) (λ c. (entity_at (unit_of d) c).relations)
    (λ c. subst (λ n. All (λ (r : Relation). r.target < n) (entity_at (unit_of d) c).relations) (sym (length-map d.entities (entity_of d))) (relations_among d d.entities c (omega arith)))
    (chain (unit_of d) class)

-- every target is an entity
pub relations-within : (m : PersistenceUnit) → IsDescribed m → (class : ℕ) → All (λ (r : Relation). r.target < length m.entities) (relations_of m class)
relations-within m described = subst (λ u. (class : ℕ) → All (λ (r : Relation). r.target < length u.entities) (relations_of u class)) (sym (described.1).1) (relations_described described.0)

-- each relation has its declarer
declared_lengths : {A : Type 0} (held : ℕ → List A) (cs : List ℕ) → length (flat_map (λ c. map (λ r. c) (held c)) cs) ≡ length (flat_map held cs)
declared_lengths held [] = refl
declared_lengths held (c ∷ cs) =
    length-append (map (λ r. c) (held c)) (flat_map (λ k. map (λ r. k) (held k)) cs)
    ∙ ap (λ n. n + length (flat_map (λ k. map (λ r. k) (held k)) cs)) (length-map (held c) (λ r. c))
    ∙ ap (λ n. length (held c) + n) (declared_lengths held cs) ∙ sym (length-append (held c) (flat_map held cs))

pub length-declarers : (m : PersistenceUnit) (class : ℕ) → length (declarers_of m class) ≡ length (relations_of m class)
length-declarers m class = declared_lengths (λ c. (entity_at m c).relations) (chain m class)
