-- What a check of an object's shape tells: with no throw, and no pairs, the object can be stored.
use Rattle.std.specs.Prelude.{◌≡◌, Bool, true, ◌&&◌, ◌==◌, not, length, nat_lt, List, [], ◌∷◌}
use Rattle.std.proofs.Common.{refl, sym}
use Rattle.std.specs.List.{list_all}
use Rattle.jpa_value.specs.declared.value.Value.{Value}
use Rattle.jpa_value.specs.declared.value.Identity.{Identity}
use Rattle.jpa_value.specs.Value.{fits, is_null, is_representable}
use Rattle.jpa_model.specs.declared.unit.Part.{Part}
use Rattle.jpa_model.specs.declared.unit.PersistenceUnit.{PersistenceUnit}
use Rattle.jpa_model.specs.declared.unit.Relation.{Relation}
use Rattle.jpa_model.specs.declared.unit.Root.{Root}
use Rattle.jpa_model.specs.Chains.{attributes_of, relations_of, root_of}
use Rattle.jpa_behaviour.specs.Behaviour.{World}
use Rattle.jpa_stored.specs.declared.objects.stored.Stored.{Stored}
use Rattle.jpa_stored.specs.objects.Sets.{each_fits, is_identity_of, owns_as, owns_well, is_shaped, version_there}
use Rattle.jpa_rows.specs.rows.Cells.{names_representable, version_representable, holds_representable}
use Rattle.jpa_rows.proofs.laws.Facts.{and_first, and_second, and_both, true_false}
use Rattle.jpa_object_rows.specs.meaning.Unambiguous.{is_class}
use Rattle.jpa_object_rows.specs.meaning.View.{is_storable}
use Rattle.jpa_object_rows.proofs.meaning.Bytes.Reading.{storable}
use Rattle.jpa_object_rows.specs.mapper.Guess.{is_named_by, is_value, is_version, leads_well, is_sound}
use Rattle.jpa_object_rows.specs.mapper.Mapped.{all_pass}

-- ---- a test of each pair that is one of the pair and one of its second part

module _ {A B : Type 0} (f : A → B → Bool) (g : B → Bool) where
  pub both_fit : (xs : List A) (ys : List B) → each_fits f xs ys ≡ true → list_all g ys ≡ true → each_fits (λ x y. f x y && g y) xs ys ≡ true
  both_fit [] [] h k = refl
  both_fit [] (y ∷ ys) h k = h
  both_fit (x ∷ xs) [] h k = h
  both_fit (x ∷ xs) (y ∷ ys) h k =
      and_both (f x y && g y) _ (and_both (f x y) (g y) (and_first (f x y) _ h) (and_first (g y) _ k)) (both_fit xs ys (and_second (f x y) _ h) (and_second (g y) _ k))

  pub first_fit : (xs : List A) (ys : List B) → each_fits (λ x y. f x y && g y) xs ys ≡ true → each_fits f xs ys ≡ true
  first_fit [] [] h = refl
  first_fit [] (y ∷ ys) h = h
  first_fit (x ∷ xs) [] h = h
  first_fit (x ∷ xs) (y ∷ ys) h = and_both (f x y) _ (and_first (f x y) (g y) (and_first (f x y && g y) _ h)) (first_fit xs ys (and_second (f x y && g y) _ h))

  pub second_fit : (xs : List A) (ys : List B) → each_fits (λ x y. f x y && g y) xs ys ≡ true → list_all g ys ≡ true
  second_fit [] [] h = refl
  second_fit [] (y ∷ ys) h = absurd (true_false (sym h))
  second_fit (x ∷ xs) [] h = refl
  second_fit (x ∷ xs) (y ∷ ys) h = and_both (g y) _ (and_second (f x y) (g y) (and_first (f x y && g y) _ h)) (second_fit xs ys (and_second (f x y && g y) _ h))

-- ---- identities

abbrev as_part : Part → Value → Bool
as_part part v = fits part.kind v && not (is_null v)

module _ (root : Root) where
  named : (id : Identity) → is_identity_of root id ≡ true → names_representable id ≡ true → is_named_by root id ≡ true
  named id h g = and_both (id.table == root.table) _ (and_first (id.table == root.table) _ h) (both_fit as_part is_representable root.key id.key (and_second (id.table == root.table) _ h) g)

  of_root : (id : Identity) → is_named_by root id ≡ true → is_identity_of root id ≡ true
  of_root id h = and_both (id.table == root.table) _ (and_first (id.table == root.table) _ h) (first_fit as_part is_representable root.key id.key (and_second (id.table == root.table) _ h))

  real : (id : Identity) → is_named_by root id ≡ true → names_representable id ≡ true
  real id h = second_fit as_part is_representable root.key id.key (and_second (id.table == root.table) _ h)

  all_named : (ids : List Identity) → list_all (is_identity_of root) ids ≡ true → list_all names_representable ids ≡ true → list_all (is_named_by root) ids ≡ true
  all_named [] h g = refl
  all_named (id ∷ ids) h g =
      and_both (is_named_by root id) _ (named id (and_first (is_identity_of root id) _ h) (and_first (names_representable id) _ g))
      (all_named ids (and_second (is_identity_of root id) _ h) (and_second (names_representable id) _ g))

  all_of_root : (ids : List Identity) → list_all (is_named_by root) ids ≡ true → list_all (is_identity_of root) ids ≡ true
  all_of_root [] h = refl
  all_of_root (id ∷ ids) h = and_both (is_identity_of root id) _ (of_root id (and_first (is_named_by root id) _ h)) (all_of_root ids (and_second (is_named_by root id) _ h))

  all_real : (ids : List Identity) → list_all (is_named_by root) ids ≡ true → list_all names_representable ids ≡ true
  all_real [] h = refl
  all_real (id ∷ ids) h = and_both (names_representable id) _ (real id (and_first (is_named_by root id) _ h)) (all_real ids (and_second (is_named_by root id) _ h))

-- ---- links

abbrev pub owns_by_side : Relation → List Identity → Bool
owns_by_side r ids = owns_as r.side ids

module _ (m : PersistenceUnit) where
  lead_well : (relations : List Relation) (owned : List (List Identity)) → each_fits (owns_well m) relations owned ≡ true → list_all (list_all names_representable) owned ≡ true
      → each_fits (leads_well m) relations owned ≡ true
  lead_well [] [] h g = refl
  lead_well [] (ids ∷ owned) h g = h
  lead_well (r ∷ relations) [] h g = h
  lead_well (r ∷ relations) (ids ∷ owned) h g =
      and_both (leads_well m r ids) _
      (all_named (root_of m r.target) ids (and_second (owns_as r.side ids) _ (and_first (owns_well m r ids) _ h)) (and_first (list_all names_representable ids) _ g))
      (lead_well relations owned (and_second (owns_well m r ids) _ h) (and_second (list_all names_representable ids) _ g))

  own_well : (relations : List Relation) (owned : List (List Identity)) → each_fits owns_by_side relations owned ≡ true → each_fits (leads_well m) relations owned ≡ true
      → each_fits (owns_well m) relations owned ≡ true
  own_well [] [] h g = refl
  own_well [] (ids ∷ owned) h g = h
  own_well (r ∷ relations) [] h g = h
  own_well (r ∷ relations) (ids ∷ owned) h g =
      and_both (owns_well m r ids) _
      (and_both (owns_as r.side ids) _ (and_first (owns_as r.side ids) _ h) (all_of_root (root_of m r.target) ids (and_first (leads_well m r ids) _ g)))
      (own_well relations owned (and_second (owns_as r.side ids) _ h) (and_second (leads_well m r ids) _ g))

  lead_real : (relations : List Relation) (owned : List (List Identity)) → each_fits (leads_well m) relations owned ≡ true → list_all (list_all names_representable) owned ≡ true
  lead_real [] [] h = refl
  lead_real [] (ids ∷ owned) h = absurd (true_false (sym h))
  lead_real (r ∷ relations) [] h = refl
  lead_real (r ∷ relations) (ids ∷ owned) h =
      and_both (list_all names_representable ids) _ (all_real (root_of m r.target) ids (and_first (leads_well m r ids) _ h)) (lead_real relations owned (and_second (leads_well m r ids) _ h))

-- ---- objects

module _ (world : World) (id : Identity) (x : Stored) where
  -- what can be stored passes the check
  pub sound_if : is_storable world id x ≡ true → is_sound world.model id x ≡ true
  sound_if h =
      let s = storable world id x h in
      let m = world.model in
      and_both (is_named_by (root_of m x.class) id) _ (named (root_of m x.class) id s.of_root s.named)
      (and_both (is_version (root_of m x.class).version x.version) _ (and_both (version_there (root_of m x.class).version x.version) _ s.version s.real_version)
      (and_both (each_fits is_value (attributes_of m x.class) x.values) _ (both_fit (λ a v. fits a.kind v) is_representable (attributes_of m x.class) x.values s.values s.real_values)
      (lead_well m (relations_of m x.class) x.owned s.owned s.real_owned)))

  -- and what passes can be stored, where it owns as the sides of its relations say and no converter throws
  pub storable_if : is_class world.model x.class ≡ true → is_sound world.model id x ≡ true → each_fits owns_by_side (relations_of world.model x.class) x.owned ≡ true
      → all_pass world x ≡ true → is_storable world id x ≡ true
  storable_if class h sides passing =
      let m = world.model in
      let root = root_of m x.class in
      let first = and_first (is_named_by root id) _ h in
      let rest_1 = and_second (is_named_by root id) _ h in
      let version = and_first (is_version root.version x.version) _ rest_1 in
      let rest_2 = and_second (is_version root.version x.version) _ rest_1 in
      let values = and_first (each_fits is_value (attributes_of m x.class) x.values) _ rest_2 in
      let links = and_second (each_fits is_value (attributes_of m x.class) x.values) _ rest_2 in
      and_both (is_shaped m id x) _
      (and_both (nat_lt x.class (length m.entities)) _ class
      (and_both (is_identity_of root id) _ (of_root root id first)
      (and_both (version_there root.version x.version) _ (and_first (version_there root.version x.version) _ version)
      (and_both (each_fits (λ a v. fits a.kind v) (attributes_of m x.class) x.values) _ (first_fit (λ a v. fits a.kind v) is_representable (attributes_of m x.class) x.values values)
      (own_well m (relations_of m x.class) x.owned sides links)))))
      (and_both (names_representable id) _ (real root id first)
      (and_both (holds_representable x) _
      (and_both (version_representable x.version) _ (and_second (version_there root.version x.version) _ version)
      (and_both (list_all is_representable x.values) _ (second_fit (λ a v. fits a.kind v) is_representable (attributes_of m x.class) x.values values) (lead_real m (relations_of m x.class) x.owned links)))
      passing))
