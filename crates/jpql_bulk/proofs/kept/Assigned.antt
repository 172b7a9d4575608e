-- An object whose members are set to what they take keeps the shape of its class, and what converters let pass.
use Rattle.std.proofs.Common.{◌≡◌, ◌∙◌, refl, ap, sym, subst, ℕ, ℤ, Bool, true, false, List, [], ◌∷◌, length, arith}
use Rattle.std.specs.Prelude.{◌&&◌, ◌||◌, not, nat_lt, nat_le, Option, Some, None, is_some, is_none, slice_get, slice_set, Result, Ok, Err}
use Rattle.std.specs.List.{list_all, zip}
use Rattle.std.proofs.lemmas.Bool.{and_from, and_parts, false≢true, true≢false}
use Rattle.jpa_value.specs.declared.value.Value.{Value}
use Rattle.jpa_value.specs.declared.value.Identity.{Identity}
use Rattle.jpa_value.specs.declared.value.Kind.{Kind}
use Rattle.jpa_value.specs.declared.refusal.Cause.{Cause}
use Rattle.jpa_value.specs.declared.refusal.PersistenceFault.{PersistenceFault}
use Rattle.jpa_value.specs.Limits.{most_bytes}
use Rattle.jpa_value.specs.Value.{fits, is_null}
use Rattle.jpa_model.specs.declared.unit.Attribute.{Attribute}
use Rattle.jpa_model.specs.declared.unit.Relation.{Relation}
use Rattle.jpa_model.specs.declared.unit.Root.{Root}
use Rattle.jpa_model.specs.declared.unit.VersionColumn.{VersionColumn}
use Rattle.jpa_model.specs.declared.unit.Member.{Member}
use Rattle.jpa_model.specs.declared.unit.Side.{Side}
use Rattle.jpa_model.specs.Chains.{root_of, attributes_of, relations_of, is_kind_of, column_of}
use Rattle.jpa_model.specs.WellFormed.{is_some_that}
use Rattle.jpa_behaviour.specs.Behaviour.{World, AnswersConvertible, is_convertible}
use Rattle.jpa_rows.proofs.laws.Facts.{value_in}
use Rattle.jpa_stored.specs.declared.objects.stored.Stored.{Stored}
use Rattle.jpa_stored.specs.objects.Sets.{is_identity_of, version_there, owns_as, owns_well}
use Rattle.jpa_rows.specs.rows.Cells.{passes, is_given, column_value, cell_value}
use Rattle.jpql_meaning.specs.declared.eval.datum.Datum.{Datum}
use Rattle.jpql_meaning.specs.plan.Bulk.{◌and_then◌, require, throws_at, is_too_long, with_attribute, with_version, with_link, assigned, all_assigned}
use Rattle.jpql_bulk.specs.kept.Fits.{is_kind, takes, takes_value, takes_link, throws_by, throws_in, AreInherited}
use Rattle.jpql_bulk.proofs.kept.Items.{fits_set, pair_set}
use Rattle.jpql_bulk.proofs.kept.Standing.{Shape}

-- ---- values

under_most : (n : ℕ) → nat_lt most_bytes n ≡ false → nat_le n most_bytes ≡ true
under_most n h = grind (arith, h)

kind_fits : (k : Kind) (v : Value) → is_kind k v ≡ true → is_too_long v ≡ false → fits k v ≡ true
kind_fits k Value.Null h g = refl
kind_fits Kind.Int (Value.Int n) h g = refl
kind_fits Kind.Int (Value.Text t) h g = absurd (false≢true h)
kind_fits Kind.Int (Value.Bytes t) h g = absurd (false≢true h)
kind_fits Kind.Text (Value.Int n) h g = absurd (false≢true h)
kind_fits Kind.Text (Value.Text t) h g = under_most (length t) g
kind_fits Kind.Text (Value.Bytes t) h g = absurd (false≢true h)
kind_fits Kind.Bytes (Value.Int n) h g = absurd (false≢true h)
kind_fits Kind.Bytes (Value.Text t) h g = absurd (false≢true h)
kind_fits Kind.Bytes (Value.Bytes t) h g = under_most (length t) g

-- ---- converters

given_or : (a b : Bool) → a ≡ true → (a || b) ≡ true
given_or true b h = refl
given_or false b h = absurd (false≢true h)

convertible_given : (v : Value) → is_convertible v ≡ true → is_given v ≡ true
convertible_given Value.Null h = absurd (false≢true h)
convertible_given (Value.Int n) h = refl
convertible_given (Value.Text t) h = refl
convertible_given (Value.Bytes t) h = refl

answer_given : (o : Option Value) → ((c : Value) → o ≡ Some c → is_convertible c ≡ true) → is_none o ≡ false → is_given (cell_value o) ≡ true
answer_given None k h = absurd (true≢false h)
answer_given (Some c) k h = convertible_given c (k c refl)

module _ (world : World) (convertible : AnswersConvertible world) where
  -- a value for which the converter does not throw passes it
  by_converter : (name : Option (List ℕ)) (v : Value) → (is_null v ≡ true → ⊥) → throws_by world name v ≡ false → (is_given (column_value world name v) || is_null v) ≡ true
  by_converter None Value.Null some h = absurd (some refl)
  by_converter None (Value.Int n) some h = refl
  by_converter None (Value.Text t) some h = refl
  by_converter None (Value.Bytes t) some h = refl
  by_converter (Some name) Value.Null some h = absurd (some refl)
  by_converter (Some name) (Value.Int n) some h = given_or _ false (answer_given (world.column name (Value.Int n)) (convertible.0 name (Value.Int n)) h)
  by_converter (Some name) (Value.Text t) some h = given_or _ false (answer_given (world.column name (Value.Text t)) (convertible.0 name (Value.Text t)) h)
  by_converter (Some name) (Value.Bytes t) some h = given_or _ false (answer_given (world.column name (Value.Bytes t)) (convertible.0 name (Value.Bytes t)) h)

  null_passes : (name : Option (List ℕ)) → (is_given (column_value world name Value.Null) || is_null Value.Null) ≡ true
  null_passes None = refl
  null_passes (Some name) = refl

  no_null : (v : Value) → is_null v ≡ false → is_null v ≡ true → ⊥
  no_null v h g = true≢false (sym g ∙ h)

  unless_thrown : (a : Attribute) (v : Value) → throws_at (throws_in world) (Some a) v ≡ false → passes world a v ≡ true
  unless_thrown a Value.Null h = null_passes a.converter
  unless_thrown a (Value.Int n) h = by_converter a.converter (Value.Int n) (no_null (Value.Int n) refl) h
  unless_thrown a (Value.Text t) h = by_converter a.converter (Value.Text t) (no_null (Value.Text t) refl) h
  unless_thrown a (Value.Bytes t) h = by_converter a.converter (Value.Bytes t) (no_null (Value.Bytes t) refl) h

-- ---- links

nothing_owned : (side : Side) → owns_as side [] ≡ true
nothing_owned (Side.ManyToOne c) = refl
nothing_owned (Side.OneToOne c) = refl
nothing_owned (Side.OneToOneInverse owner) = refl
nothing_owned (Side.OneToMany owner) = refl
nothing_owned (Side.ManyToMany table) = refl
nothing_owned (Side.ManyToManyInverse owner) = refl

one_owned : (side : Side) (id : Identity) → is_some (column_of side) ≡ true → owns_as side (id ∷ []) ≡ true
one_owned (Side.ManyToOne c) id h = refl
one_owned (Side.OneToOne c) id h = refl
one_owned (Side.OneToOneInverse owner) id h = absurd (false≢true h)
one_owned (Side.OneToMany owner) id h = absurd (false≢true h)
one_owned (Side.ManyToMany table) id h = absurd (false≢true h)
one_owned (Side.ManyToManyInverse owner) id h = absurd (false≢true h)

versioned : (c : Option VersionColumn) (n : ℤ) → is_some c ≡ true → version_there c (Some n) ≡ true
versioned None n h = absurd (false≢true h)
versioned (Some c) n h = refl

-- ---- an object

-- an object of a class that a store can hold under an identity
pub record IsWell (world : World) (id : Identity) (kind : ℕ) (x : Stored) : Type 0 where
  pub shape : Shape world.model id x
  pub passed : list_all (λ (p : Attribute × Value). passes world p.0 p.1) (zip (attributes_of world.model x.class) x.values) ≡ true
  pub same : x.class ≡ kind

abbrev pub made : {A : Type 0} → A → Result A Cause
made x = Ok x

abbrev pub refused : {A : Type 0} → Cause → Result A Cause
refused r = Err r

pub same_ok : {A : Type 0} (x y : A) → made x ≡ made y → x ≡ y
same_ok x y e = cc

pub not_ok : {A : Type 0} (r : Cause) (y : A) → refused r ≡ made y → ⊥
not_ok r y e = absurd cc

-- what was required
required : {A : Type 0} (b : Bool) (r : Cause) (go : Unit {0} → Result A Cause) (y : A) → (require b r and_then go) ≡ Ok y → (b ≡ true) × (go tt ≡ Ok y)
required true r go y e = (refl, e)
required false r go y e = absurd (not_ok r y e)

not_of : (b : Bool) → not b ≡ true → b ≡ false
not_of true h = absurd (false≢true h)
not_of false h = refl

module _ {world : World} (convertible : AnswersConvertible world) (inherited : AreInherited world.model) (id : Identity) (class kind : ℕ) (below : is_kind_of world.model kind class ≡ true) where
  kind_below : (x : Stored) → IsWell world id kind x → is_kind_of world.model x.class class ≡ true
  kind_below x h = subst (λ c. is_kind_of world.model c class ≡ true) (sym h.same) below

  well_valued : (x : Stored) (i : ℕ) (v : Value) → IsWell world id kind x → takes_value world.model class i (Datum.Plain v) ≡ true
      → is_too_long v ≡ false → throws_at (throws_in world) (slice_get (attributes_of world.model x.class) i) v ≡ false
      → IsWell world id kind (record x { values = slice_set x.values i v })
  well_valued x i v h taken short thrown =
      let m = world.model in
      record {
        shape =
            record {
              class = (h.shape).class;
              identity = (h.shape).identity;
              version = (h.shape).version;
              values = fits_set (λ (a : Attribute) y. fits a.kind y) (attributes_of m x.class) x.values i v (h.shape).values (λ a at. of_kind a at (is_null v) refl (slice_get (attributes_of m class) i) refl taken);
              owned = (h.shape).owned;
            };
        passed =
            pair_set (λ (p : Attribute × Value). passes world p.0 p.1) (attributes_of m x.class) x.values i v h.passed
            (λ a at. unless_thrown world convertible a v (ap (λ o. throws_at (throws_in world) o v) (sym at) ∙ thrown));
        same = h.same;
      }
    where
      null_fits : (k : Kind) (y : Value) → is_null y ≡ true → fits k y ≡ true
      null_fits k Value.Null g = refl
      null_fits k (Value.Int n) g = absurd (false≢true g)
      null_fits k (Value.Text t) g = absurd (false≢true g)
      null_fits k (Value.Bytes t) g = absurd (false≢true g)

      of_kind : (a : Attribute) → slice_get (attributes_of world.model x.class) i ≡ Some a → (b : Bool) → is_null v ≡ b → (o : Option Attribute) → slice_get (attributes_of world.model class) i ≡ o
          → (b || is_some_that (λ (q : Attribute). is_kind q.kind v) o) ≡ true → fits a.kind v ≡ true
      of_kind a at true null o above g = null_fits a.kind v null
      of_kind a at false null None above g = absurd (false≢true g)
      of_kind a at false null (Some q) above g =
          let there = inherited.attributes class x.class i q (h.shape).class (kind_below x h) above in
          let same : q ≡ a = value_in q a (sym there ∙ at) in
          kind_fits a.kind v (subst (λ (z : Attribute). is_kind z.kind v ≡ true) same g) short

  with_attribute_well : (x y : Stored) (i : ℕ) (d : Datum) → IsWell world id kind x → takes_value world.model class i d ≡ true → with_attribute world.model (throws_in world) x i d ≡ Ok y → IsWell world id kind y
  with_attribute_well x y i (Datum.Entity other) h taken e = subst (IsWell world id kind) (same_ok x y e) h
  with_attribute_well x y i (Datum.Plain v) h taken e =
      let m = world.model in
      let thrown = throws_at (throws_in world) (slice_get (attributes_of m x.class) i) v in
      let a = required (not (is_too_long v)) Cause.Limit
      (λ _. require (not thrown) (Cause.Persistence PersistenceFault.Converter) and_then λ _. Ok (record x { values = slice_set x.values i v })) y e in
      let b = required (not thrown) (Cause.Persistence PersistenceFault.Converter) (λ _. Ok (record x { values = slice_set x.values i v })) y a.1 in
      subst (IsWell world id kind) (same_ok (record x { values = slice_set x.values i v }) y b.1) (well_valued x i v h taken (not_of (is_too_long v) a.0) (not_of thrown b.0))

  with_version_well : (x y : Stored) (d : Datum) → IsWell world id kind x → is_some (root_of world.model class).version ≡ true → with_version x d ≡ Ok y → IsWell world id kind y
  with_version_well x y (Datum.Plain (Value.Int n)) h taken e =
      subst (IsWell world id kind) (same_ok (record x { version = Some n }) y e)
      (record {
        shape =
            record {
              class = (h.shape).class;
              identity = (h.shape).identity;
              version =
                  subst (λ (root : Root). version_there root.version (Some n) ≡ true) (sym (inherited.roots class x.class (h.shape).class (kind_below x h)))
                  (versioned (root_of world.model class).version n taken);
              values = (h.shape).values;
              owned = (h.shape).owned;
            };
        passed = h.passed;
        same = h.same;
      })
  with_version_well x y (Datum.Plain Value.Null) h taken e = absurd (not_ok _ y e)
  with_version_well x y (Datum.Plain (Value.Text t)) h taken e = absurd (not_ok _ y e)
  with_version_well x y (Datum.Plain (Value.Bytes t)) h taken e = absurd (not_ok _ y e)
  with_version_well x y (Datum.Entity other) h taken e = absurd (not_ok _ y e)

  well_linked : (x : Stored) (r : ℕ) (ids : List Identity) → IsWell world id kind x
      → ((q : Relation) → slice_get (relations_of world.model x.class) r ≡ Some q → owns_well world.model q ids ≡ true)
      → IsWell world id kind (record x { owned = slice_set x.owned r ids })
  well_linked x r ids h owns =
      record {
        shape =
            record {
              class = (h.shape).class;
              identity = (h.shape).identity;
              version = (h.shape).version;
              values = (h.shape).values;
              owned = fits_set (owns_well world.model) (relations_of world.model x.class) x.owned r ids (h.shape).owned owns;
            };
        passed = h.passed;
        same = h.same;
      }

  with_link_well : (x : Stored) (r : ℕ) (d : Datum) → IsWell world id kind x → takes_link world.model class r d ≡ true → IsWell world id kind (with_link x r d)
  with_link_well x r (Datum.Plain v) h taken = well_linked x r [] h (λ q at. and_from (owns_as q.side []) true (nothing_owned q.side) refl)
  with_link_well x r (Datum.Entity other) h taken = well_linked x r (other ∷ []) h (λ q at. owned q at (slice_get (relations_of world.model class) r) refl taken)
    where
      owned : (q : Relation) → slice_get (relations_of world.model x.class) r ≡ Some q → (o : Option Relation) → slice_get (relations_of world.model class) r ≡ o
          → is_some_that (λ (relation : Relation). is_some (column_of relation.side) && is_identity_of (root_of world.model relation.target) other) o ≡ true
          → owns_well world.model q (other ∷ []) ≡ true
      owned q at None above g = absurd (false≢true g)
      owned q at (Some relation) above g =
          let there = inherited.relations class x.class r relation (h.shape).class (kind_below x h) above in
          let parts = and_parts (is_some (column_of relation.side)) (is_identity_of (root_of world.model relation.target) other) g in
          subst (λ (z : Relation). owns_well world.model z (other ∷ []) ≡ true) (value_in relation q (sym there ∙ at))
          (and_from (owns_as relation.side (other ∷ [])) _ (one_owned relation.side other parts.0)
          (and_from (is_identity_of (root_of world.model relation.target) other) true parts.1 refl))

  assigned_well : (x y : Stored) (member : Member) (d : Datum) → IsWell world id kind x → takes world.model class member d ≡ true
      → assigned world.model (throws_in world) x member d ≡ Ok y → IsWell world id kind y
  assigned_well x y (Member.KeyPart i) d h taken e = subst (IsWell world id kind) (same_ok x y e) h
  assigned_well x y Member.Version d h taken e = with_version_well x y d h taken e
  assigned_well x y (Member.Attribute i) d h taken e = with_attribute_well x y i d h taken e
  assigned_well x y (Member.Relation r) d h taken e = subst (IsWell world id kind) (same_ok (with_link x r d) y e) (with_link_well x r d h taken)

  -- one after the other
  after_one : (x : Result Stored Cause) (all : List (Member × Datum)) (z : Stored) → (x and_then λ y. all_assigned world.model (throws_in world) y all) ≡ Ok z
      → ((y : Stored) → x ≡ Ok y → IsWell world id kind y) → ((y : Stored) → IsWell world id kind y → all_assigned world.model (throws_in world) y all ≡ Ok z → IsWell world id kind z)
      → IsWell world id kind z
  after_one (Err r) all z e first later = absurd (not_ok r z e)
  after_one (Ok y) all z e first later = later y (first y refl) e

  pub all_assigned_well : (all : List (Member × Datum)) (x z : Stored) → IsWell world id kind x → list_all (λ (a : Member × Datum). takes world.model class a.0 a.1) all ≡ true
      → all_assigned world.model (throws_in world) x all ≡ Ok z → IsWell world id kind z
  all_assigned_well [] x z h taken e = subst (IsWell world id kind) (same_ok x z e) h
  all_assigned_well (a ∷ all) x z h taken e =
      let parts = and_parts (takes world.model class a.0 a.1) _ taken in
      after_one (assigned world.model (throws_in world) x a.0 a.1) all z e
      (λ y f. assigned_well x y a.0 a.1 h parts.0 f) (λ y k f. all_assigned_well all y z k parts.1 f)
