-- Of a described unit what a class has each class below it has in the same place: its chain begins with that of each class above.
use Rattle.std.proofs.Common.{◌≡◌, ◌∙◌, ◌⊎◌, inl, inr, refl, ap, sym, subst, ℕ, zero, suc, ◌-◌, ◌<◌, ◌≤◌, true, List, [], ◌∷◌, ◌++◌, length, arith, append-nil, append_assoc, length-append}
use Rattle.std.specs.Prelude.{nat_lt, ◌==◌, Option, Some, None, slice_get}
use Rattle.std.specs.List.{flat_map}
use Rattle.std.proofs.lemmas.Grind.{flat_map-append}
use Rattle.jpa_model.specs.declared.unit.Origin.{Origin}
use Rattle.jpa_model.specs.declared.unit.PersistenceUnit.{PersistenceUnit}
use Rattle.jpa_model.specs.Chains.{chain, chain_from, entity_at, is_kind_of, superclass_in}
use Rattle.jpa_model.specs.Kept.{IsDescribed}
use Rattle.jpa_rows.proofs.laws.Elements.{Has, has_append}
use Rattle.jpa_rows.proofs.laws.Facts.{some_none}
use Rattle.jpa_rows.proofs.laws.Lists.{any_has}
use Rattle.jpa_object_rows.specs.meaning.Unambiguous.{is_class}
use Rattle.jpa_object_rows.proofs.meaning.Bytes.Classes.{below}
use Rattle.jpa_object_rows.proofs.meaning.Bytes.Climb as climb
use Rattle.jpa_object_rows.proofs.meaning.Bytes.Described.{described_mapped}
use Rattle.jpa_object_rows.proofs.meaning.Bytes.Mapped.{IsMapped, kinds_root}
use Rattle.jpa_object_rows.proofs.meaning.Bytes.Orders.{are_same_numbers}
use Rattle.jpql_bulk.specs.kept.Fits.{AreInherited}

-- ---- a chain that climbs

module _ (up : ℕ → Option ℕ) (n : ℕ) where
  abbrev Begins : ℕ → ℕ → Type 0
  Begins b c = (rest : List ℕ) × (climb.chain up n c ≡ climb.chain up n b ++ rest)

  own : (c : ℕ) → Begins c c
  own c = ([], sym (append-nil (climb.chain up n c)))

  further : (b c p : ℕ) → up c ≡ Some p → climb.Ends up n c → Begins b p → Begins b c
  further b c p e top h = (h.0 ++ c ∷ [], climb.chain_more up n c p e top ∙ ap (λ cs. cs ++ c ∷ []) h.1 ∙ append_assoc (climb.chain up n b) h.0 (c ∷ []))

  alone : (c : ℕ) (above : Option ℕ) → above ≡ None → climb.climb up (suc n) c above ≡ c ∷ []
  alone c None e = refl
  alone c (Some p) e = absurd (some_none p e)

  in_one : (b c : ℕ) → Has (c ∷ []) b → Begins b c
  in_one b c (inl same) = subst (λ z. Begins z c) same (own c)
  in_one b c (inr k) = absurd k

  by_side : (b c p : ℕ) → up c ≡ Some p → climb.Ends up n c → Has (climb.chain up n p) b ⊎ Has (c ∷ []) b → (Has (climb.chain up n p) b → Begins b p) → Begins b c
  by_side b c p e top (inl k) rest = further b c p e top (rest k)
  by_side b c p e top (inr k) rest = in_one b c k

  step : (c : ℕ) (above : Option ℕ) → up c ≡ above → climb.Ends up n c → ((p : ℕ) → up c ≡ Some p → (b : ℕ) → Has (climb.chain up n p) b → Begins b p)
      → (b : ℕ) → Has (climb.chain up n c) b → Begins b c
  step c None e top rest b h = in_one b c (subst (λ cs. Has cs b) (alone c (up c) e) h)
  step c (Some p) e top rest b h =
      by_side b c p e top (has_append (climb.chain up n p) (c ∷ []) b (subst (λ cs. Has cs b) (climb.chain_more up n c p e top) h)) (rest p e b)

  less_length : (c p most : ℕ) → up c ≡ Some p → climb.Ends up n c → length (climb.chain up n c) ≤ most → length (climb.chain up n p) < most
  less_length c p most e top h =
      let longer = ap length (climb.chain_more up n c p e top) ∙ length-append (climb.chain up n p) (c ∷ []) in omega (arith, longer, h)

  none_shorter : (a : ℕ) → a < 0 → ⊥
  none_shorter a h = omega (arith, h)

  no_more : (a b : ℕ) → a < suc b → a ≤ b
  no_more a b h = omega (arith, h)

  by_length : (most c : ℕ) → length (climb.chain up n c) ≤ most → climb.Ends up n c → (b : ℕ) → Has (climb.chain up n c) b → Begins b c
  by_length zero c h top = step c (up c) refl top (λ p e. absurd (none_shorter (length (climb.chain up n p)) (less_length c p zero e top h)))
  by_length (suc most) c h top =
      step c (up c) refl top (λ p e. by_length most p (no_more (length (climb.chain up n p)) most (less_length c p (suc most) e top h)) (climb.ends_up up n c p e top))

-- ---- chains of a unit climb

module _ (m : PersistenceUnit) where
  abbrev up : ℕ → Option ℕ
  up c = superclass_in (entity_at m c).origin

  climbs_from : (n c : ℕ) (origin : Origin) → chain_from m n c origin ≡ climb.climb up n c (superclass_in origin)
  climbs_from zero c origin = refl
  climbs_from (suc n) c (Origin.Root r) = refl
  climbs_from (suc n) c (Origin.Extends parent) = ap (λ cs. cs ++ c ∷ []) (climbs_from n parent (entity_at m parent).origin)

  one_more : (k n : ℕ) → nat_lt k n ≡ true → n ≡ suc (n - 1)
  one_more k n h = let less = below k n h in omega (arith, less)

  chain_climbs : (class c : ℕ) → is_class m class ≡ true → chain m c ≡ climb.chain up (length m.entities - 1) c
  chain_climbs class c h = climbs_from (length m.entities) c (entity_at m c).origin ∙ ap (λ n. climb.climb up n c (up c)) (one_more class (length m.entities) h)

  no_longer : (cs : List ℕ) → length cs ≤ length cs
  no_longer cs = omega arith

  chain_begins : IsMapped m → (class kind : ℕ) → is_class m kind ≡ true → Has (chain m kind) class → (rest : List ℕ) × (chain m kind ≡ chain m class ++ rest)
  chain_begins mapped class kind h k =
      let n = length m.entities - 1 in
      let own_chain = chain_climbs kind kind h in
      let top = ap (λ cs. up (climb.first_in cs)) (sym own_chain) ∙ mapped.ends kind h in
      let r = by_length up n (length (climb.chain up n kind)) kind (no_longer (climb.chain up n kind)) top class (subst (λ cs. Has cs class) own_chain k) in
      (r.0, own_chain ∙ r.1 ∙ ap (λ cs. cs ++ r.0) (sym (chain_climbs kind class h)))

  -- ---- what is declared along a chain

  head_read : {A : Type 0} (xs ys : List A) (i : ℕ) (x : A) → slice_get xs i ≡ Some x → slice_get (xs ++ ys) i ≡ Some x
  head_read [] ys i x e = absurd (some_none x (sym e))
  head_read (y ∷ xs) ys zero x e = e
  head_read (y ∷ xs) ys (suc i) x e = head_read xs ys i x e

  declared_same : {A : Type 0} (declared : ℕ → List A) → IsMapped m → (class kind i : ℕ) (x : A) → is_class m kind ≡ true → is_kind_of m kind class ≡ true
      → slice_get (flat_map declared (chain m class)) i ≡ Some x → slice_get (flat_map declared (chain m kind)) i ≡ Some x
  declared_same declared mapped class kind i x h k e =
      let found = any_has (λ c. c == class) (chain m kind) k in
      let begun = chain_begins mapped class kind h (subst (Has (chain m kind)) (are_same_numbers found.0 class found.2) found.1) in
      ap (λ cs. slice_get (flat_map declared cs) i) begun.1
      ∙ ap (λ xs. slice_get xs i) (flat_map-append declared (chain m class) begun.0)
      ∙ head_read (flat_map declared (chain m class)) (flat_map declared begun.0) i x e

pub described_inherited : (m : PersistenceUnit) → IsDescribed m → AreInherited m
described_inherited m described =
    let mapped = described_mapped m described in
    record {
      roots = λ class kind h k. kinds_root m mapped kind class h k;
      attributes = λ class kind i a h k e. declared_same m (λ c. (entity_at m c).attributes) mapped class kind i a h k e;
      relations = λ class kind r relation h k e. declared_same m (λ c. (entity_at m c).relations) mapped class kind r relation h k e;
    }
