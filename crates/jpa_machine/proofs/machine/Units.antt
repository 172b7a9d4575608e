-- Every unit that a well-formed description describes is orderly.
use Rattle.std.proofs.Common.{◌≡◌, ℕ, zero, suc, ◌<◌, pos, true, List, [], ◌∷◌, length, map, refl, ap, sym, subst}
use Rattle.std.specs.Prelude.{All, not, ◌&&◌, ◌||◌, nat_lt, Some, slice_get, slice_index_or}
use Rattle.std.specs.List.{list_all}
use Rattle.std.proofs.lemmas.Bool.{false≢true, and_parts, and_from, ltb-true, lt-ltb}
use Rattle.std.proofs.lemmas.List.Elements.{All-head}
use Rattle.std.proofs.lemmas.Option.{get_or_from_slice_get, slice_get_within}
use Rattle.jpa_value.specs.declared.value.Value.{Value}
use Rattle.jpa_value.specs.declared.value.Kind.{Kind}
use Rattle.jpa_value.specs.Value.{fits, is_null}
use Rattle.jpa_model.specs.declared.draft.Draft.{Draft}
use Rattle.jpa_model.specs.declared.draft.DraftEntity.{DraftEntity}
use Rattle.jpa_model.specs.declared.draft.DraftOrigin.{DraftOrigin}
use Rattle.jpa_model.specs.declared.draft.DraftRoot.{DraftRoot}
use Rattle.jpa_model.specs.declared.unit.Part.{Part}
use Rattle.jpa_model.specs.declared.unit.PersistenceUnit.{PersistenceUnit}
use Rattle.jpa_model.specs.declared.unit.Relation.{Relation}
use Rattle.jpa_model.specs.declared.unit.Root.{Root}
use Rattle.jpa_model.specs.Chains.{chain, entity_at, no_entity, no_relation, relations_of, root_class, root_in, root_of}
use Rattle.jpa_model.specs.WellFormed.{is_well_formed, stands_together, has_roots, has_key, has_key_if_root, is_one_integer}
use Rattle.jpa_model.specs.Described as of_draft
use Rattle.jpa_model.specs.Kept.{IsDescribed}
use Rattle.jpa_model.proofs.Within.{chain-within, relations-within}
use Rattle.jpa_stored.specs.objects.Sets.{each_fits, is_key_of}
use Rattle.jpa_object_rows.specs.meaning.Unambiguous.{is_class}
use Rattle.jpa_object_rows.proofs.meaning.Bytes.Described.{described_mapped}
use Rattle.jpa_object_rows.proofs.meaning.Bytes.Mapped.{kinds_root, same_root_class}
use Rattle.jpa_object_rows.proofs.meaning.Bytes.Orders.{are_same_numbers}
use Rattle.jpa_operations.specs.fetch.Orderly.{IsOrderly}
use Rattle.jpa_machine.proofs.machine.Above.{relation_placed}

-- ---- the root of a class is an entity

first_holds : (p : ℕ → Type 0) (class : ℕ) (cs : List ℕ) → p class → All p cs → p (slice_index_or cs 0 class)
first_holds p class [] own all = own
first_holds p class (c ∷ cs) own all = All-head p c cs all

root_within : (m : PersistenceUnit) → IsDescribed m → (class : ℕ) → nat_lt class (length m.entities) ≡ true → nat_lt (root_class m class) (length m.entities) ≡ true
root_within m described class l =
    let within : class < length m.entities = ltb-true class (length m.entities) l in
    lt-ltb (root_class m class) (length m.entities) (first_holds (λ c. c < length m.entities) class (chain m class) within (chain-within m described class within))

-- ---- a number is a whole generated key

integer_fits : (part : Part) (kind : Kind) (k : ℕ) → is_one_integer (record part { kind = kind } ∷ []) ≡ true → fits kind (Value.Int (pos k)) ≡ true
integer_fits part Kind.Int k h = refl
integer_fits part Kind.Text k h = absurd (false≢true h)
integer_fits part Kind.Bytes k h = absurd (false≢true h)

number_fits : (ps : List Part) (k : ℕ) → is_one_integer ps ≡ true → each_fits (λ part v. fits part.kind v && not (is_null v)) ps (Value.Int (pos k) ∷ []) ≡ true
number_fits [] k h = absurd (false≢true h)
number_fits (p ∷ []) k h = and_from (fits p.kind (Value.Int (pos k)) && true) true (and_from (fits p.kind (Value.Int (pos k))) true (integer_fits p p.kind k h) refl) refl
number_fits (p ∷ q ∷ ps) k h = absurd (false≢true h)

-- a number is a whole key of a root that generates its keys
abbrev IsNumbered : Root → Type 0
IsNumbered r = (k : ℕ) → r.generated ≡ true → is_key_of r (Value.Int (pos k) ∷ []) ≡ true

root_numbered : (r : DraftRoot) → has_key r ≡ true → IsNumbered (of_draft.root_of r)
root_numbered r h k g =
    let generated = (and_parts _ (not r.generated || is_one_integer r.key) h).1 in
    number_fits r.key k (subst (λ b. (not b || is_one_integer r.key) ≡ true) g generated)

origin_numbered : (d : Draft) (e : DraftEntity) (o : DraftOrigin) → has_key_if_root (record e { origin = o }) ≡ true → IsNumbered (root_in (of_draft.origin_of d o))
origin_numbered d e (DraftOrigin.Root r) h k g = root_numbered r h k g
origin_numbered d e (DraftOrigin.Extends name) h k g = absurd (false≢true g)

-- also where a number names no entity
entity_numbered : (d : Draft) (es : List DraftEntity) (class : ℕ) → list_all has_key_if_root es ≡ true → IsNumbered (root_in (slice_index_or (map (of_draft.entity_of d) es) class no_entity).origin)
entity_numbered d [] class h k g = absurd (false≢true g)
entity_numbered d (e ∷ es) zero h k g = origin_numbered d e e.origin (and_parts (has_key_if_root e) (list_all has_key_if_root es) h).0 k g
entity_numbered d (e ∷ es) (suc class) h k g = entity_numbered d es class (and_parts (has_key_if_root e) (list_all has_key_if_root es) h).1 k g

have_keys : (d : Draft) → is_well_formed d ≡ true → list_all has_key_if_root d.entities ≡ true
have_keys d h =
    let roots = and_parts (has_roots d) _ (and_parts _ (stands_together d) h).1 in
    (and_parts _ (list_all has_key_if_root d.entities) roots.0).1

all_numbered : (m : PersistenceUnit) → IsDescribed m → (class : ℕ) → IsNumbered (root_of m class)
all_numbered m described class =
    subst (λ u. IsNumbered (root_of u class)) (sym (described.1).1)
    (let d = described.0 in entity_numbered d d.entities (root_class (of_draft.unit_of d) class) (have_keys d (described.1).0))

-- ---- where a relation leads

target_within : (m : PersistenceUnit) → IsDescribed m → (class r : ℕ) (relation : Relation) → slice_get (relations_of m class) r ≡ Some relation → is_class m relation.target ≡ true
target_within m described class r relation at =
    let rs = relations_of m class in
    let l = slice_get_within rs r relation at in
    lt-ltb relation.target (length m.entities)
    (subst (λ (s : Relation). s.target < length m.entities) (get_or_from_slice_get rs r relation no_relation at) (relations-within m described class r no_relation l))

-- ---- every described unit

pub described_orderly : (m : PersistenceUnit) → IsDescribed m → IsOrderly m
described_orderly m described =
    let mapped = described_mapped m described in
    record {
      rooted = root_within m described;
      generated = λ class k. all_numbered m described class k;
      kinds = λ class r relation at kind h k. kinds_root m mapped kind relation.target h k;
      tables = λ class r relation at other h e.
          ap (λ c. root_in (entity_at m c).origin)
          (same_root_class m mapped other relation.target h (target_within m described class r relation at) (are_same_numbers (root_of m other).table (root_of m relation.target).table e));
      places = relation_placed m mapped;
    }
