-- What set leaves of an object, and what an object is that holds something else in a relation.
use Rattle.std.proofs.Common.{◌≡◌, ◌<◌, ℕ, Bool, true, false, List, length, refl, ap, sym, subst, ◌∙◌}
use Rattle.std.specs.Prelude.{nat_lt, slice_get, Option, Some, None, if◌then◌else◌, ℤ, Result, Ok, Err, option_map}
use Rattle.std.specs.List.{All, position_from}
use Rattle.std.specs.Option.{unwrap_or}
use Rattle.std.proofs.lemmas.Bool.{and_from, eq-eqb, false≢true, lt-ltb}
use Rattle.std.proofs.lemmas.Option.{get_or_from_slice_get}
use Rattle.jpa_value.specs.declared.value.Value.{Value}
use Rattle.jpa_value.specs.declared.refusal.Cause.{Cause}
use Rattle.jpa_value.specs.declared.refusal.Argument.{Argument}
use Rattle.jpa_value.specs.Value.{fits, is_representable}
use Rattle.jpa_model.specs.declared.unit.PersistenceUnit.{PersistenceUnit}
use Rattle.jpa_model.specs.declared.unit.Attribute.{Attribute}
use Rattle.jpa_model.specs.declared.unit.Part.{Part}
use Rattle.jpa_model.specs.declared.unit.Relation.{Relation}
use Rattle.jpa_model.specs.declared.unit.Root.{Root}
use Rattle.jpa_model.specs.declared.unit.Member.{Member}
use Rattle.jpa_model.specs.declared.unit.VersionColumn.{VersionColumn}
use Rattle.jpa_model.specs.Chains.{attributes_of, relations_of, root_of, is_to_one, member_of, same_name, relation_at, or_else, is_kind_of, is_version_name, no_relation, part_name}
use Rattle.jpa_work.specs.declared.heap.Held.{Held}
use Rattle.jpa_rows.specs.rows.Cells.{version_representable}
use Rattle.jpa_work.specs.declared.heap.Handed.{Handed}
use Rattle.jpa_work.specs.declared.heap.LiveObject.{LiveObject}
use Rattle.jpa_work.specs.heap.Objects.{is_new, no_object, object_at, to_version, with_held}
use Rattle.jpa_work.specs.heap.Shape.{IsInHeap}
use Rattle.jpa_work.specs.heap.Assign.{fits_part, fits_version, fits_plain, plain, fits_link, link_to, unless_refused, set_member}
use Rattle.jpa_machine.specs.machine.Consistent.{IsLive, held_fits, held_representable, leads_to, link_fits, version_fits}
use Rattle.jpa_operations.specs.fetch.Orderly.{IsOrderly}
use Rattle.jpa_machine.proofs.machine.Facts.{each_fits_set, list_all_set}

-- ---- what set leaves as it was

abbrev pub handed_representable : Handed → Bool
handed_representable (Handed.Plain v) = is_representable v
handed_representable (Handed.Object k) = true

pub record IsSet (m : PersistenceUnit) (os : List LiveObject) (x y : LiveObject) : Type 0 where
  pub class : y.class ≡ x.class
  pub life : y.life ≡ x.life
  pub key : is_new x.life ≡ false → y.key ≡ x.key
  pub live : All (IsLive m os) os → IsLive m os x → IsLive m os y

-- what a refusal or an object is
abbrev pub OnObject : (LiveObject → Type 0) → Result LiveObject Cause → Type 0
OnObject P (Ok y) = P y
OnObject P (Err r) = Unit {0}

judged : (P : LiveObject → Type 0) (b : Bool) (a : Argument) (rest : Result LiveObject Cause) → (b ≡ true → OnObject P rest) → OnObject P (unless_refused b a rest)
judged P true a rest k = k refl
judged P false a rest k = tt

part_fits : (o : Option Part) (v : Handed) (part : Part) → fits_part o v ≡ true → o ≡ Some part → fits part.kind (plain v) ≡ true
part_fits None v part h e = absurd (false≢true h)
part_fits (Some p) (Handed.Plain v) part h e = subst (λ k. fits k v ≡ true) (ap (λ o. (unwrap_or o part).kind) e) h
part_fits (Some p) (Handed.Object k) part h e = absurd (false≢true h)

attribute_fits : (o : Option Attribute) (v : Handed) (a : Attribute) → fits_plain o v ≡ true → o ≡ Some a → fits a.kind (plain v) ≡ true
attribute_fits None (Handed.Plain v) a h e = absurd (false≢true h)
attribute_fits None (Handed.Object k) a h e = absurd (false≢true h)
attribute_fits (Some b) (Handed.Plain v) a h e = subst (λ k. fits k v ≡ true) (ap (λ o. (unwrap_or o a).kind) e) h
attribute_fits (Some b) (Handed.Object k) a h e = absurd (false≢true h)

plain_representable : (v : Handed) → handed_representable v ≡ true → is_representable (plain v) ≡ true
plain_representable (Handed.Plain v) h = h
plain_representable (Handed.Object k) h = refl

version_set : (v : Handed) → handed_representable v ≡ true → version_representable (to_version (plain v)) ≡ true
version_set (Handed.Plain Value.Null) h = refl
version_set (Handed.Plain (Value.Int n)) h = h
version_set (Handed.Plain (Value.Text bytes)) h = refl
version_set (Handed.Plain (Value.Bytes bytes)) h = refl
version_set (Handed.Object k) h = refl

abbrev pub has_version : Option VersionColumn → Bool
has_version None = false
has_version (Some c) = true

any_version : (c : Option VersionColumn) (v : Option ℤ) → has_version c ≡ true → version_fits c v ≡ true
any_version None v h = absurd (false≢true h)
any_version (Some c) v h = refl

-- the version is named only where the class has one
pub is_version : Option Member → Bool
is_version (Some Member.Version) = true
is_version (Some (Member.KeyPart i)) = false
is_version (Some (Member.Attribute i)) = false
is_version (Some (Member.Relation r)) = false
is_version None = false

named_version : (a : Option ℕ) (b : Bool) (c d : Option ℕ) →
    is_version (or_else (option_map Member.KeyPart a) (or_else (if b then Some Member.Version else None) (or_else (option_map Member.Attribute c) (option_map Member.Relation d)))) ≡ true → b ≡ true
unfolding is_version
named_version (Some i) b c d h = absurd (false≢true h)
named_version None true c d h = refl
named_version None false (Some i) d h = absurd (false≢true h)
named_version None false None (Some i) h = absurd (false≢true h)
named_version None false None None h = absurd (false≢true h)

version_there : (table : ℕ) (key : List Part) (embedded : Option (List ℕ)) (generated : Bool) (v : Option VersionColumn) (name : List ℕ) →
    is_version_name (record { table = table; key = key; embedded = embedded; generated = generated; version = v }) name ≡ true → has_version v ≡ true
version_there table key embedded generated None name h = absurd (false≢true h)
version_there table key embedded generated (Some c) name h = refl

pub version_named : (m : PersistenceUnit) (class : ℕ) (name : List ℕ) → is_version (member_of m class name) ≡ true → has_version (root_of m class).version ≡ true
version_named m class name h =
    let r = root_of m class in
    version_there r.table r.key r.embedded r.generated r.version name
    (named_version (position_from (λ part. same_name (part_name r part) name) 0 r.key) (is_version_name r name)
    (position_from (λ a. same_name a.name name) 0 (attributes_of m class)) (position_from (λ r'. same_name r'.name name) 0 (relations_of m class)) h)

-- ---- what a relation holds

-- an object of a kind of the target leads to it
pub leads_kind : {m : PersistenceUnit} {os : List LiveObject} → IsOrderly m → All (IsLive m os) os → (class r : ℕ) (relation : Relation) → slice_get (relations_of m class) r ≡ Some relation →
    (k : ℕ) → k < length os → is_kind_of m (object_at os k).class relation.target ≡ true → leads_to m os relation.target k ≡ true
leads_kind {m} {os} orderly alive class r relation at k l kind =
    let y = object_at os k in
    and_from (nat_lt k (length os)) _ (lt-ltb k (length os) l)
    (eq-eqb (root_of m y.class).table (root_of m relation.target).table
    (ap (λ (q : Root). q.table) (orderly.kinds class r relation at y.class (alive k no_object l).class kind)))

-- ---- set

link_representable : (v : Handed) → held_representable (Held.One (link_to v)) ≡ true
link_representable (Handed.Plain v) = refl
link_representable (Handed.Object k) = refl

-- an object that is handed in is one of the heap
link_leads : {m : PersistenceUnit} {os : List LiveObject} → IsOrderly m → All (IsLive m os) os → (class r : ℕ) (relation : Relation) → slice_get (relations_of m class) r ≡ Some relation →
    (v : Handed) → IsInHeap os v → fits_link m os relation.target v ≡ true → link_fits m os relation.target (link_to v) ≡ true
link_leads orderly alive class r relation at (Handed.Plain v) l fit = refl
link_leads {m} {os} orderly alive class r relation at (Handed.Object k) l fit = leads_kind orderly alive class r relation at k l fit

-- a relation holds something else that fits it
pub held_set : {m : PersistenceUnit} {os : List LiveObject} (x : LiveObject) (r : ℕ) (h : Held) → held_representable h ≡ true →
    (All (IsLive m os) os → (relation : Relation) → slice_get (relations_of m x.class) r ≡ Some relation → held_fits m os relation h ≡ true) → IsSet m os x (with_held x r h)
held_set {m} {os} x r h rep fits =
    record {
      class = refl;
      life = refl;
      key = λ old. refl;
      live = λ alive live.
          record {
            class = live.class;
            key = live.key;
            version = live.version;
            values = live.values;
            relations = each_fits_set (held_fits m os) (relations_of m x.class) x.relations r h live.relations (fits alive);
            key_representable = live.key_representable;
            version_representable = live.version_representable;
            values_representable = live.values_representable;
            links_representable = list_all_set held_representable x.relations r h rep live.links_representable;
          };
    }

module _ (m : PersistenceUnit) (orderly : IsOrderly m) (os : List LiveObject) (x : LiveObject) (v : Handed) (rep : handed_representable v ≡ true) (there : IsInHeap os v) where
  pub set_is : (member : Option Member) → (is_version member ≡ true → has_version (root_of m x.class).version ≡ true) → OnObject (IsSet m os x) (set_member m os x v member)
  unfolding is_version
  set_is None k = tt
  set_is (Some (Member.KeyPart i)) k =
      judged (IsSet m os x) (fits_part (slice_get (root_of m x.class).key i) v) Argument.Type _ (λ fit.
      judged (IsSet m os x) (is_new x.life) Argument.Key _ (λ fresh.
      record {
        class = refl;
        life = refl;
        key = λ old. absurd (false≢true (sym old ∙ fresh));
        live = λ alive h.
            record {
              class = h.class;
              key = each_fits_set _ (root_of m x.class).key x.key i (plain v) h.key (λ part e. part_fits (slice_get (root_of m x.class).key i) v part fit e);
              version = h.version;
              values = h.values;
              relations = h.relations;
              key_representable = list_all_set is_representable x.key i (plain v) (plain_representable v rep) h.key_representable;
              version_representable = h.version_representable;
              values_representable = h.values_representable;
              links_representable = h.links_representable;
            };
      }))
  set_is (Some Member.Version) k =
      judged (IsSet m os x) (fits_version v) Argument.Type _ (λ fit.
      judged (IsSet m os x) (is_new x.life) Argument.Version _ (λ fresh.
      record {
        class = refl;
        life = refl;
        key = λ old. refl;
        live = λ alive h.
            record {
              class = h.class;
              key = h.key;
              version = any_version (root_of m x.class).version (to_version (plain v)) (k refl);
              values = h.values;
              relations = h.relations;
              key_representable = h.key_representable;
              version_representable = version_set v rep;
              values_representable = h.values_representable;
              links_representable = h.links_representable;
            };
      }))
  set_is (Some (Member.Attribute i)) k =
      judged (IsSet m os x) (fits_plain (slice_get (attributes_of m x.class) i) v) Argument.Type _ (λ fit.
      record {
        class = refl;
        life = refl;
        key = λ old. refl;
        live = λ alive h.
            record {
              class = h.class;
              key = h.key;
              version = h.version;
              values = each_fits_set _ (attributes_of m x.class) x.values i (plain v) h.values (λ a e. attribute_fits (slice_get (attributes_of m x.class) i) v a fit e);
              relations = h.relations;
              key_representable = h.key_representable;
              version_representable = h.version_representable;
              values_representable = list_all_set is_representable x.values i (plain v) (plain_representable v rep) h.values_representable;
              links_representable = h.links_representable;
            };
      })
  set_is (Some (Member.Relation r)) k =
      judged (IsSet m os x) (is_to_one (relation_at m x.class r).side) Argument.Name _ (λ one.
      judged (IsSet m os x) (fits_link m os (relation_at m x.class r).target v) Argument.Type _ (λ fit.
      held_set x r (Held.One (link_to v)) (link_representable v) (λ alive relation at.
      let same = get_or_from_slice_get (relations_of m x.class) r relation no_relation at in
      and_from (is_to_one relation.side) _ (subst (λ (q : Relation). is_to_one q.side ≡ true) same one)
      (link_leads orderly alive x.class r relation at v there (subst (λ (q : Relation). fits_link m os q.target v ≡ true) same fit)))))
