-- What a callback leaves, whoever hears it: the object is a live one still, of the same class, key and state.
use Rattle.std.proofs.Common.{◌≡◌, ◌<◌, ℕ, Bool, true, false, List, [], ◌∷◌, ◌++◌, length, refl, ap, subst, ◌∙◌}
use Rattle.std.specs.Prelude.{map, slice_get, slice_set, Option, Some, None, is_some, ℤ, if◌then◌else◌}
use Rattle.std.specs.List.{All, list_all, zip}
use Rattle.std.specs.Option.{unwrap_or}
use Rattle.std.proofs.lemmas.Bool.{false≢true, and_parts, and_from}
use Rattle.jpa_value.specs.declared.value.Value.{Value}
use Rattle.jpa_value.specs.declared.refusal.Cause.{Cause}
use Rattle.jpa_value.specs.declared.event.LifecycleEvent.{LifecycleEvent}
use Rattle.jpa_value.specs.Value.{fits, is_representable}
use Rattle.jpa_model.specs.declared.unit.PersistenceUnit.{PersistenceUnit}
use Rattle.jpa_model.specs.declared.unit.Attribute.{Attribute}
use Rattle.jpa_model.specs.declared.unit.Member.{Member}
use Rattle.jpa_model.specs.declared.unit.VersionColumn.{VersionColumn}
use Rattle.jpa_model.specs.Chains.{attributes_of, root_of, member_of, part_name}
use Rattle.jpa_behaviour.specs.declared.Named.{Named}
use Rattle.jpa_behaviour.specs.declared.Heard.{Heard}
use Rattle.jpa_behaviour.specs.Behaviour.{World, HearsRepresentable, names_representable, answers_representable, sees_representable}
use Rattle.jpa_rows.specs.rows.Cells.{version_representable}
use Rattle.jpa_work.specs.declared.heap.LiveObject.{LiveObject}
use Rattle.jpa_work.specs.heap.Objects.{version_value, no_object, is_new}
use Rattle.jpa_work.specs.heap.Assign.{fits_attribute}
use Rattle.jpa_work.specs.context.Work.{Work, object}
use Rattle.jpa_lifecycle.specs.Callbacks.{order, image_of, named, version_image, takes, assigned_to, assigned, after_assignments, after_answer, fired_by, fire, told_fired, ended, callback}
use Rattle.jpa_machine.specs.machine.Consistent.{IsLive, IsConsistent, Others}
use Rattle.jpa_machine.specs.machine.Going.{HoldsAfter}
use Rattle.jpa_machine.proofs.machine.Facts.{each_fits_set, list_all_set}
use Rattle.jpa_machine.proofs.machine.Setting.{IsSet}
use Rattle.jpa_machine.proofs.machine.Changed.{changed_at_work, keeps_set}
use Rattle.jpa_machine.proofs.machine.Going.{More}
use Rattle.jpa_machine.proofs.machine.Persisted.{told_at_work}

-- ---- what a listener sees are values of the program

named_representable : (names : List (List ℕ)) (vs : List Value) → list_all is_representable vs ≡ true → list_all names_representable (named (zip names vs)) ≡ true
named_representable [] vs h = refl
named_representable (n ∷ ns) [] h = refl
named_representable (n ∷ ns) (v ∷ vs) h =
    let p = and_parts (is_representable v) (list_all is_representable vs) h in
    and_from (is_representable v) (list_all names_representable (named (zip ns vs))) p.0 (named_representable ns vs p.1)

all_both : {A : Type 0} (p : A → Bool) (xs ys : List A) → list_all p xs ≡ true → list_all p ys ≡ true → list_all p (xs ++ ys) ≡ true
all_both p [] ys h k = k
all_both p (x ∷ xs) ys h k = let a = and_parts (p x) (list_all p xs) h in and_from (p x) (list_all p (xs ++ ys)) a.0 (all_both p xs ys a.1 k)

version_value_representable : (v : Option ℤ) → version_representable v ≡ true → is_representable (version_value v) ≡ true
version_value_representable None h = refl
version_value_representable (Some n) h = h

version_seen : (c : Option VersionColumn) (x : LiveObject) → version_representable x.version ≡ true → list_all names_representable (version_image c x) ≡ true
version_seen None x h = refl
version_seen (Some c) x h = and_from (is_representable (version_value x.version)) true (version_value_representable x.version h) refl

sees : {m : PersistenceUnit} {os : List LiveObject} (event : LifecycleEvent) (x : LiveObject) → IsLive m os x → sees_representable (image_of m event x) ≡ true
sees {m} event x h =
    let key = named (zip (map (part_name (root_of m x.class)) (root_of m x.class).key) x.key) in
    let version = version_image (root_of m x.class).version x in
    all_both names_representable (key ++ version) _
    (all_both names_representable key version (named_representable _ x.key h.key_representable) (version_seen (root_of m x.class).version x h.version_representable))
    (named_representable _ x.values h.values_representable)

-- ---- what it assigns

itself : (m : PersistenceUnit) (os : List LiveObject) (x : LiveObject) → IsSet m os x x
itself m os x = record { class = refl; life = refl; key = λ old. refl; live = λ alive h. h }

then_set : {m : PersistenceUnit} {os : List LiveObject} (x y z : LiveObject) → IsSet m os x y → IsSet m os y z → IsSet m os x z
then_set x y z a b =
    record {
      class = b.class ∙ a.class;
      life = b.life ∙ a.life;
      key = λ old. b.key (ap is_new a.life ∙ old) ∙ a.key old;
      live = λ alive h. b.live alive (a.live alive h);
    }

fitting : (o : Option Attribute) (v : Value) (a : Attribute) → fits_attribute o v ≡ true → o ≡ Some a → fits a.kind v ≡ true
fitting None v a h e = absurd (false≢true h)
fitting (Some b) v a h e = subst (λ k. fits k v ≡ true) (ap (λ o. (unwrap_or o a).kind) e) h

attribute_set : (m : PersistenceUnit) (os : List LiveObject) (x : LiveObject) (i : ℕ) (v : Value) → fits_attribute (slice_get (attributes_of m x.class) i) v ≡ true → is_representable v ≡ true →
    IsSet m os x (record x { values = slice_set x.values i v })
attribute_set m os x i v fit rep =
    record {
      class = refl;
      life = refl;
      key = λ old. refl;
      live = λ alive h.
          record {
            class = h.class;
            key = h.key;
            version = h.version;
            values = each_fits_set _ (attributes_of m x.class) x.values i v h.values (λ a e. fitting (slice_get (attributes_of m x.class) i) v a fit e);
            relations = h.relations;
            key_representable = h.key_representable;
            version_representable = h.version_representable;
            values_representable = list_all_set is_representable x.values i v rep h.values_representable;
            links_representable = h.links_representable;
          };
    }

same_object : (x y : LiveObject) → Some x ≡ Some y → x ≡ y
same_object x y e = ap (λ o. unwrap_or o x) e

assigned_is : (m : PersistenceUnit) (os : List LiveObject) (list : List Named) (x y : LiveObject) → list_all names_representable list ≡ true → assigned m list x ≡ Some y → IsSet m os x y
assigned_is m os [] x y rep e = subst (IsSet m os x) (same_object x y e) (itself m os x)
assigned_is m os (a ∷ as') x y rep e =
    let p = and_parts (names_representable a) (list_all names_representable as') rep in
    by_member (member_of m x.class a.name) (λ z. assigned_is m os as' z y p.1) e p.0
  where
    by_test : (i : ℕ) (b : Bool) → fits_attribute (slice_get (attributes_of m x.class) i) a.value ≡ b → ((z : LiveObject) → assigned m as' z ≡ Some y → IsSet m os z y) →
        (if b then assigned m as' (record x { values = slice_set x.values i a.value }) else None) ≡ Some y → is_representable a.value ≡ true → IsSet m os x y
    by_test i false t k e r = absurd (false≢true (ap is_some e))
    by_test i true t k e r = let z = record x { values = slice_set x.values i a.value } in then_set x z y (attribute_set m os x i a.value t r) (k z e)

    by_member : (member : Option Member) → ((z : LiveObject) → assigned m as' z ≡ Some y → IsSet m os z y) →
        (if takes (attributes_of m x.class) member a.value then assigned m as' (assigned_to member x a.value) else None) ≡ Some y → is_representable a.value ≡ true → IsSet m os x y
    by_member None k e r = absurd (false≢true (ap is_some e))
    by_member (Some (Member.KeyPart i)) k e r = absurd (false≢true (ap is_some e))
    by_member (Some Member.Version) k e r = absurd (false≢true (ap is_some e))
    by_member (Some (Member.Attribute i)) k e r = by_test i (fits_attribute (slice_get (attributes_of m x.class) i) a.value) refl k e r
    by_member (Some (Member.Relation i)) k e r = absurd (false≢true (ap is_some e))

-- ---- the object when all have heard, or one refused

pub fired_is : (world : World) → HearsRepresentable world → (os : List LiveObject) → All (IsLive world.model os) os → (event : LifecycleEvent) (names : List (List ℕ)) (x : LiveObject) → IsLive world.model os x →
    IsSet world.model os x (fired_by world event names x).object
fired_is world heard os alive event [] x h = itself world.model os x
fired_is world heard os alive event (name ∷ names) x h =
    by_answer (world.heard name (image_of world.model event x)) (heard name (image_of world.model event x) (sees event x h)) (λ y k. fired_is world heard os alive event names y k)
  where
    by_assigned : (o : Option LiveObject) → ((y : LiveObject) → o ≡ Some y → IsSet world.model os x y) → ((y : LiveObject) → IsLive world.model os y → IsSet world.model os y (fired_by world event names y).object) →
        IsSet world.model os x (after_assignments (λ y. fired_by world event names y) name x o).object
    by_assigned None k f = itself world.model os x
    by_assigned (Some y) k f = let s = k y refl in then_set x y _ s (f y (s.live alive h))

    by_answer : (a : Heard) → answers_representable a ≡ true → ((y : LiveObject) → IsLive world.model os y → IsSet world.model os y (fired_by world event names y).object) →
        IsSet world.model os x (after_answer (λ y. fired_by world event names y) world.model name x a).object
    by_answer (Heard.Assign list) rep f = by_assigned (assigned world.model list x) (λ y e. assigned_is world.model os list x y rep e) f
    by_answer (Heard.Throw text) rep f = itself world.model os x

-- an event leaves what holds
pub heard_at_work : {world : World} {M : Others} {m : ℕ} {w : Work} → HearsRepresentable world → (event : LifecycleEvent) (n : ℕ) → n < length w.objects → IsConsistent world M m w →
    HoldsAfter (λ u v. IsConsistent world M m v × More w v) (callback world event n w)
heard_at_work {world} {M} {m} {w} heard event n l h = by_refusal (fire world event (object w n)).refusal
  where
    by_refusal : (o : Option Cause) → HoldsAfter (λ u v. IsConsistent world M m v × More w v) (ended o (told_fired event n (fire world event (object w n)) w))
    by_refusal None =
        let x = object w n in
        let y = (fire world event x).object in
        let set = fired_is world heard w.objects h.objects event (order world.model x.class event) x (h.objects n no_object l) in
        (told_at_work _ (changed_at_work n y l set h), keeps_set w.objects n y l set.class)
    by_refusal (Some r) = tt
