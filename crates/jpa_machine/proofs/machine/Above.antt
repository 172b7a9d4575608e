-- The chain of a class begins with the chain of each class above it, and its relations with those of that class.
use Rattle.std.proofs.Common.{◌≡◌, ◌<◌, ◌≤◌, ◌+◌, ◌-◌, ◌⊎◌, inl, inr, ℕ, zero, suc, true, List, [], ◌∷◌, ◌++◌, map, length, refl, ap, sym, subst, ◌∙◌, arith, append-nil, append_assoc, length-append}
use Rattle.std.specs.Prelude.{nat_lt, ◌==◌, Option, Some, None, slice_get, slice_index_or}
use Rattle.std.specs.List.{flat_map}
use Rattle.std.proofs.lemmas.Bool.{cases_lt}
use Rattle.std.proofs.lemmas.Grind.{flat_map-append}
use Rattle.std.proofs.lemmas.List.{get_or_past}
use Rattle.std.proofs.lemmas.Option.{slice_get_within}
use Rattle.jpa_model.specs.declared.unit.Entity.{Entity}
use Rattle.jpa_model.specs.declared.unit.Origin.{Origin}
use Rattle.jpa_model.specs.declared.unit.PersistenceUnit.{PersistenceUnit}
use Rattle.jpa_model.specs.declared.unit.Relation.{Relation}
use Rattle.jpa_model.specs.Chains.{chain, chain_from, declarers_of, entity_at, is_held_by, no_entity, relations_of, superclass_in}
use Rattle.jpa_model.proofs.Within.{length-declarers}
use Rattle.jpa_rows.proofs.laws.Elements.{Has, append_has, from_flat_map, from_map, has_append}
use Rattle.jpa_rows.proofs.laws.Facts.{some_none}
use Rattle.jpa_rows.proofs.laws.Lists.{any_has}
use Rattle.jpa_object_rows.specs.meaning.Unambiguous.{is_class}
use Rattle.jpa_object_rows.proofs.meaning.Bytes.Classes.{below, is_below, item_at}
use Rattle.jpa_object_rows.proofs.meaning.Bytes.Climb as climb
use Rattle.jpa_object_rows.proofs.meaning.Bytes.Mapped.{IsMapped, last_has, lineage}
use Rattle.jpa_object_rows.proofs.meaning.Bytes.Orders.{are_same_numbers}

-- ---- a chain that climbs

module _ (up : ℕ → Option ℕ) (n : ℕ) where
  -- the chain of c begins with that of b
  abbrev Begins : ℕ → ℕ → Type 0
  Begins b c = (rest : List ℕ) × (climb.chain up n c ≡ climb.chain up n b ++ rest)

  begins_own : (c : ℕ) → Begins c c
  begins_own c = ([], sym (append-nil (climb.chain up n c)))

  begins_more : (b c p : ℕ) → up c ≡ Some p → climb.Ends up n c → Begins b p → Begins b c
  begins_more b c p e top h =
      (h.0 ++ c ∷ [], climb.chain_more up n c p e top ∙ ap (λ cs. cs ++ c ∷ []) h.1 ∙ append_assoc (climb.chain up n b) h.0 (c ∷ []))

  alone : (c : ℕ) (above : Option ℕ) → above ≡ None → climb.climb up (suc n) c above ≡ c ∷ []
  alone c None e = refl
  alone c (Some p) e = absurd (some_none p e)

  length_more : (c p : ℕ) → up c ≡ Some p → climb.Ends up n c → length (climb.chain up n c) ≡ length (climb.chain up n p) + 1
  length_more c p e top = ap length (climb.chain_more up n c p e top) ∙ length-append (climb.chain up n p) (c ∷ [])

  step : (c : ℕ) (above : Option ℕ) → up c ≡ above → climb.Ends up n c → ((p : ℕ) → up c ≡ Some p → (b : ℕ) → Has (climb.chain up n p) b → Begins b p) →
      (b : ℕ) → Has (climb.chain up n c) b → Begins b c
  step c None e top rest b h = in_one (subst (λ cs. Has cs b) (alone c (up c) e) h)
    where
      in_one : Has (c ∷ []) b → Begins b c
      in_one (inl same) = subst (λ z. Begins z c) same (begins_own c)
      in_one (inr k) = absurd k
  step c (Some p) e top rest b h = by_side (has_append (climb.chain up n p) (c ∷ []) b (subst (λ cs. Has cs b) (climb.chain_more up n c p e top) h)) (rest p e b)
    where
      by_side : Has (climb.chain up n p) b ⊎ Has (c ∷ []) b → (Has (climb.chain up n p) b → Begins b p) → Begins b c
      by_side (inl k) later = begins_more b c p e top (later k)
      by_side (inr (inl same)) later = subst (λ z. Begins z c) same (begins_own c)
      by_side (inr (inr k)) later = absurd k

  no_length : (c p : ℕ) → up c ≡ Some p → climb.Ends up n c → length (climb.chain up n c) ≤ 0 → ⊥
  no_length c p e top h = let longer = length_more c p e top in omega (arith, longer, h)

  less_length : (c p most : ℕ) → up c ≡ Some p → climb.Ends up n c → length (climb.chain up n c) ≤ suc most → length (climb.chain up n p) ≤ most
  less_length c p most e top h = let longer = length_more c p e top in omega (arith, longer, h)

  by_length : (most c : ℕ) → length (climb.chain up n c) ≤ most → climb.Ends up n c → (b : ℕ) → Has (climb.chain up n c) b → Begins b c
  by_length zero c h top = step c (up c) refl top (λ p e. absurd (no_length c p e top h))
  by_length (suc most) c h top = step c (up c) refl top (λ p e. by_length most p (less_length c p most e top h) (climb.ends_up up n c p e top))

  begins : (c : ℕ) → climb.Ends up n c → (b : ℕ) → Has (climb.chain up n c) b → Begins b c
  begins c top = by_length (length (climb.chain up n c)) c (omega arith) top

-- ---- chains of a unit climb

abbrev up : PersistenceUnit → ℕ → Option ℕ
up m c = superclass_in (entity_at m c).origin

climbs_from : (m : PersistenceUnit) (n c : ℕ) (origin : Origin) → chain_from m n c origin ≡ climb.climb (up m) n c (superclass_in origin)
climbs_from m zero c origin = refl
climbs_from m (suc n) c (Origin.Root r) = refl
climbs_from m (suc n) c (Origin.Extends parent) = ap (λ cs. cs ++ c ∷ []) (climbs_from m n parent (entity_at m parent).origin)

one_more : (k n : ℕ) → nat_lt k n ≡ true → n ≡ suc (n - 1)
one_more k n h = let less = below k n h in omega (arith, less)

chain_climbs : (m : PersistenceUnit) (class c : ℕ) → is_class m class ≡ true → chain m c ≡ climb.chain (up m) (length m.entities - 1) c
chain_climbs m class c h = climbs_from m (length m.entities) c (entity_at m c).origin ∙ ap (λ n. climb.climb (up m) n c (up m c)) (one_more class (length m.entities) h)

chain_begins : (m : PersistenceUnit) → IsMapped m → (class above : ℕ) → is_class m class ≡ true → Has (chain m class) above → (rest : List ℕ) × (chain m class ≡ chain m above ++ rest)
chain_begins m mapped class b h k =
    let own = chain_climbs m class class h in
    let r = begins (up m) (length m.entities - 1) class (ap (λ cs. up m (climb.first_in cs)) (sym own) ∙ mapped.ends class h) b (subst (λ cs. Has cs b) own k) in
    (r.0, own ∙ r.1 ∙ ap (λ cs. cs ++ r.0) (sym (chain_climbs m class b h)))

-- ---- at the head of a list

head_read : {A : Type 0} (xs ys : List A) (i : ℕ) → i < length xs → slice_get (xs ++ ys) i ≡ slice_get xs i
head_read [] ys i l = absurd (omega (arith, l))
head_read (x ∷ xs) ys zero l = refl
head_read (x ∷ xs) ys (suc i) l = head_read xs ys i (omega (arith, l))

-- what is read past the head stands in the rest
rest_has : (xs ys : List ℕ) (i d : ℕ) → length xs ≤ i → i < length (xs ++ ys) → Has ys (slice_index_or (xs ++ ys) i d)
rest_has [] ys i d p l = item_at ys i d l
rest_has (x ∷ xs) ys zero d p l = absurd (omega (arith, p))
rest_has (x ∷ xs) ys (suc i) d p l = rest_has xs ys i d (omega (arith, p)) (omega (arith, l))

-- what stands once does not stand on both sides
not_both : (xs ys : List ℕ) (x : ℕ) → climb.NoDuplicates (xs ++ ys) → Has xs x → Has ys x → ⊥
not_both [] ys x once h k = h
not_both (y ∷ xs) ys x once (inl e) k = once.0 (subst (Has (xs ++ ys)) (sym e) (append_has xs ys x (inr k)))
not_both (y ∷ xs) ys x once (inr h) k = not_both xs ys x once.1 h k

-- ---- the relations of a class

module _ (m : PersistenceUnit) where
  abbrev own_relations : ℕ → List Relation
  own_relations c = (entity_at m c).relations

  abbrev own_declarers : ℕ → List ℕ
  own_declarers c = map (λ r. c) (own_relations c)

  -- who declares a relation of a class is of its chain
  declared_above : (cs : List ℕ) (c : ℕ) → Has (flat_map own_declarers cs) c → Has cs c
  declared_above cs c h =
      let a = from_flat_map own_declarers cs c h in
      let b = from_map (λ (r : Relation). a.0) (own_relations a.0) c a.2 in
      subst (Has cs) b.2 a.1

  module _ (mapped : IsMapped m) where
    -- the relations of a class begin with those of each class above it
    head_same : (class above : ℕ) → is_class m class ≡ true → Has (chain m class) above → (r : ℕ) → r < length (relations_of m above) → slice_get (relations_of m class) r ≡ slice_get (relations_of m above) r
    head_same class b h k r l =
        let s = chain_begins m mapped class b h k in
        ap (λ cs. slice_get (flat_map own_relations cs) r) s.1
        ∙ ap (λ rs. slice_get rs r) (flat_map-append own_relations (chain m b) s.0) ∙ head_read (relations_of m b) (flat_map own_relations s.0) r l

    abbrev declarer : ℕ → ℕ → ℕ
    declarer class r = slice_index_or (declarers_of m class) r class

    declarer_above : (class r : ℕ) → r < length (relations_of m class) → Has (chain m class) (declarer class r)
    declarer_above class r l =
        let e = length-declarers m class in
        declared_above (chain m class) (declarer class r) (item_at (declarers_of m class) r class (omega (arith, l, e)))

    -- a relation past those of its declarer's chain would be declared again below
    declared_below : (class r : ℕ) (rest : List ℕ) → chain m class ≡ chain m (declarer class r) ++ rest → r < length (relations_of m class) → length (declarers_of m (declarer class r)) ≤ r →
        Has rest (declarer class r)
    declared_below class r rest e l past =
        let own = declarers_of m (declarer class r) in
        let later = flat_map own_declarers rest in
        let parts : declarers_of m class ≡ own ++ later = ap (flat_map own_declarers) e ∙ flat_map-append own_declarers (chain m (declarer class r)) rest in
        let count = length-declarers m class in
        let within : r < length (declarers_of m class) = omega (arith, l, count) in
        declared_above rest (declarer class r)
        (subst (Has later) (ap (λ cs. slice_index_or cs r class) (sym parts)) (rest_has own later r class past (subst (λ cs. r < length cs) parts within)))

    -- the declarer's own chain reaches to the relation
    declarer_holds : (class r : ℕ) → is_class m class ≡ true → r < length (relations_of m class) → r < length (relations_of m (declarer class r))
    declarer_holds class r h l = by_cases (cases_lt r (length (declarers_of m (declarer class r)))) (chain_begins m mapped class (declarer class r) h (declarer_above class r l))
      where
        by_cases : (r < length (declarers_of m (declarer class r))) ⊎ (length (declarers_of m (declarer class r)) ≤ r) → (rest : List ℕ) × (chain m class ≡ chain m (declarer class r) ++ rest) →
            r < length (relations_of m (declarer class r))
        by_cases (inl less) begun = let count = length-declarers m (declarer class r) in omega (arith, less, count)
        by_cases (inr past) begun =
            absurd (not_both (chain m (declarer class r)) begun.0 (declarer class r) (subst climb.NoDuplicates begun.1 (lineage m mapped class h).once)
            (last_has m (length m.entities) (declarer class r) (entity_at m (declarer class r)).origin) (declared_below class r begun.0 begun.1 l past))

    -- a relation of a class stands at its place in each class that holds it
    place_same : (class r : ℕ) (relation : Relation) → is_class m class ≡ true → slice_get (relations_of m class) r ≡ Some relation →
        (other : ℕ) → is_class m other ≡ true → is_held_by m class r other ≡ true → slice_get (relations_of m other) r ≡ Some relation
    place_same class r relation h at other o held =
        let d = declarer class r in
        let l = slice_get_within (relations_of m class) r relation at in
        let j = declarer_holds class r h l in
        let k = any_has (λ c. c == d) (chain m other) held in
        let under : Has (chain m other) d = subst (Has (chain m other)) (are_same_numbers k.0 d k.2) k.1 in
        head_same other d o under r j ∙ sym (head_same class d h (declarer_above class r l) r j) ∙ at

-- ---- a number that names no entity

only_itself : (m : PersistenceUnit) (n class : ℕ) (e : Entity) → e ≡ no_entity → chain_from m n class e.origin ≡ class ∷ []
only_itself m n class e is = ap (λ (x : Entity). chain_from m n class x.origin) is ∙ by_count n
  where
    by_count : (k : ℕ) → chain_from m k class (no_entity).origin ≡ class ∷ []
    by_count zero = refl
    by_count (suc k) = refl

no_relations_past : (m : PersistenceUnit) (class : ℕ) → length m.entities ≤ class → relations_of m class ≡ []
no_relations_past m class past =
    let none : entity_at m class ≡ no_entity = get_or_past m.entities class no_entity past in
    ap (flat_map (λ c. (entity_at m c).relations)) (only_itself m (length m.entities) class (entity_at m class) none) ∙ append-nil (entity_at m class).relations ∙ ap (λ (x : Entity). x.relations) none

-- a class of a relation is an entity
related_within : (m : PersistenceUnit) (class r : ℕ) (relation : Relation) → slice_get (relations_of m class) r ≡ Some relation → is_class m class ≡ true
related_within m class r relation at = by_cases (cases_lt class (length m.entities))
  where
    by_cases : (class < length m.entities) ⊎ (length m.entities ≤ class) → is_class m class ≡ true
    by_cases (inl l) = is_below class (length m.entities) l
    by_cases (inr past) = absurd (some_none relation (sym (subst (λ rs. slice_get rs r ≡ Some relation) (no_relations_past m class past) at)))

-- a relation at a place of a class stands at that place of each class that holds it
pub relation_placed : (m : PersistenceUnit) → IsMapped m → (class r : ℕ) (relation : Relation) → slice_get (relations_of m class) r ≡ Some relation →
    (other : ℕ) → is_class m other ≡ true → is_held_by m class r other ≡ true → slice_get (relations_of m other) r ≡ Some relation
relation_placed m mapped class r relation at = place_same m mapped class r relation (related_within m class r relation at) at
