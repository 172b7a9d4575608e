-- What holds while a manager is at work is kept where an object enters its context, and where one that it holds is removed or
-- managed again.
use Rattle.jpa_value.specs.Limits.{most_objects}
use Rattle.std.proofs.Common.{◌≡◌, ◌≢◌, ◌<◌, ◌≤◌, ℕ, Bool, true, false, List, [], ◌∷◌, ◌++◌, length, refl, ap, sym, subst, ◌∙◌, arith}
use Rattle.std.specs.Prelude.{slice_set, not, Option, Some, None, ◌==◌, ◌||◌, if◌then◌else◌, is_some}
use Rattle.std.specs.List.{AllByRecursion, list_any, find}
use Rattle.std.proofs.lemmas.Bool.{true≢false, eqb-true, eq-eqb, ne_eqb, and_parts, and_from, or_from, or_left, or_right, not-true, not_from_false}
use Rattle.std.proofs.lemmas.List.{length-set}
use Rattle.std.proofs.lemmas.List.Elements.{All-weaker, All-push, recursion_from_All}
use Rattle.std.proofs.lemmas.List.Folds.{list_any-append}
use Rattle.jpa_value.specs.declared.value.Identity.{Identity}
use Rattle.jpa_value.specs.declared.refusal.Cause.{Cause}
use Rattle.jpa_value.specs.Value.{same_identity}
use Rattle.jpa_model.specs.declared.unit.PersistenceUnit.{PersistenceUnit}
use Rattle.jpa_model.specs.Chains.{root_of, root_class}
use Rattle.jpa_behaviour.specs.Behaviour.{World}
use Rattle.jpa_stored.specs.objects.Sets.{all_distinct, is_key_of}
use Rattle.jpa_work.specs.declared.heap.Life.{Life}
use Rattle.jpa_work.specs.declared.heap.LiveObject.{LiveObject}
use Rattle.jpa_work.specs.heap.Objects.{object_at, no_object, is_whole, identity_of, with_life}
use Rattle.jpa_work.specs.declared.context.Lock.{Lock}
use Rattle.jpa_work.specs.declared.context.Entry.{Entry}
use Rattle.jpa_work.specs.context.Work.{Work, object, identity_at, instance, has_identity, object_in, with_life_of, entered}
use Rattle.jpa_operations.specs.ops.States.{become_managed, give_key, has_instance}
use Rattle.jpa_machine.specs.machine.Consistent.{IsEntry, is_held_by, stands_in, are_one, name_of}
use Rattle.jpa_operations.specs.fetch.Orderly.{IsOrderly}
use Rattle.jpa_machine.proofs.machine.Facts.{numbers_same, key_is_whole}
use Rattle.jpa_machine.specs.machine.Going.{HoldsAfter}
use Rattle.jpa_machine.proofs.machine.Going.{More, after_holds, more_on, require_holds}
use Rattle.jpa_machine.specs.machine.Consistent.{IsConsistent, contexts, Others}
use Rattle.jpa_machine.proofs.machine.Kept.{KeepsHeld, others_kept, entry_kept, distinct_kept, names_kept}
use Rattle.jpa_machine.proofs.machine.Changed.{holds_set, holds_apart, keeps_set, live_set, placed_set}
use Rattle.jpa_rows.specs.rows.Cells.{key_given_by}
use Rattle.jpa_machine.proofs.machine.Persisted.{HasKey, give_key_holds, new_apart, at_place}

-- ---- no other entry has the identity

-- all of a list, and one more that is none of them
pub distinct_push : {A : Type 0} (eq : A → A → Bool) (xs : List A) (y : A) → all_distinct eq xs ≡ true → AllByRecursion (λ x. eq x y ≡ false) xs → all_distinct eq (xs ++ y ∷ []) ≡ true
distinct_push eq [] y d h = refl
distinct_push eq (x ∷ xs) y d h =
    let p = and_parts (not (list_any (eq x) xs)) (all_distinct eq xs) d in
    let apart : list_any (eq x) (xs ++ y ∷ []) ≡ false =
    list_any-append (eq x) xs (y ∷ []) ∙ or_from (list_any (eq x) xs) (eq x y || false) (not-true (list_any (eq x) xs) p.0) (or_from (eq x y) false h.0 refl) in
    and_from (not (list_any (eq x) (xs ++ y ∷ []))) (all_distinct eq (xs ++ y ∷ [])) (not_from_false (list_any (eq x) (xs ++ y ∷ [])) apart) (distinct_push eq xs y p.1 h.1)

find_step : {A B : Type 0} (f : Option A → Option B) (b : Bool) (x : A) (o : Option A) → is_some (f (Some x)) ≡ true → is_some (f (if b then Some x else o)) ≡ false →
    (b ≡ false) × (is_some (f o) ≡ false)
find_step f true x o k h = absurd (true≢false (sym k ∙ h))
find_step f false x o k h = (refl, h)

pub none_found : (p : Entry → Bool) (xs : List Entry) → is_some (object_in (find p xs)) ≡ false → AllByRecursion (λ x. p x ≡ false) xs
none_found p [] h = tt
none_found p (x ∷ xs) h = let s = find_step object_in (p x) x (find p xs) refl h in (s.0, none_found p xs s.1)

identity_whole : (m : PersistenceUnit) (x : LiveObject) → is_whole x.key ≡ true → identity_of m x ≡ Some (name_of m x)
identity_whole m x h = ap (λ b. if b then Some (name_of m x) else None) h

pub named : (m : PersistenceUnit) (x : LiveObject) → is_key_of (root_of m x.class) x.key ≡ true → identity_of m x ≡ Some (name_of m x)
named m x h = identity_whole m x (key_is_whole (root_of m x.class).key x.key h)

-- where no instance of an identity is found, no entry has it
pub apart_from : (m : PersistenceUnit) (w : Work) (k : ℕ) (id : Identity) (xs : List Entry) → AllByRecursion (IsEntry m w.objects w.numbers k) xs →
    AllByRecursion (λ (e : Entry). has_identity (identity_at m w e.object) id ≡ false) xs →
    AllByRecursion (λ (e : Entry). same_identity (name_of m (object w e.object)) id ≡ false) xs
apart_from m w k id [] h g = tt
apart_from m w k id (e ∷ es) h g =
    (ap (λ o. has_identity o id) (sym (named m (object w e.object) (h.0).whole)) ∙ g.0, apart_from m w k id es h.1 g.1)

-- ---- an object enters

to_pushed : (p : Entry → Bool) (xs : List Entry) (y : Entry) → list_any p xs ≡ true → list_any p (xs ++ y ∷ []) ≡ true
to_pushed p xs y h = list_any-append p xs (y ∷ []) ∙ or_left (list_any p xs) (p y || false) h

pub is_pushed : (p : Entry → Bool) (xs : List Entry) (y : Entry) → p y ≡ true → list_any p (xs ++ y ∷ []) ≡ true
is_pushed p xs y h = list_any-append p xs (y ∷ []) ∙ or_right (list_any p xs) (p y || false) (or_left (p y) false h)

pushed_if : (p : Entry → Bool) (b : Bool) (xs ys : List Entry) (y : Entry) → list_any p (if b then xs else ys) ≡ true → list_any p (if b then xs ++ y ∷ [] else ys) ≡ true
pushed_if p true xs ys y h = to_pushed p xs y h
pushed_if p false xs ys y h = h

-- a context that grows keeps each object that stands in it
pub stands_pushed : (M : Others) (m : ℕ) (w : Work) (y : Entry) (n : ℕ) (life : Life) → stands_in (contexts M m w) n life ≡ true →
    stands_in (contexts M m (record w { context = w.context ++ y ∷ [] })) n life ≡ true
stands_pushed M m w y n Life.New h = refl
stands_pushed M m w y n (Life.Managed k) h = pushed_if (λ e. e.object == n) (k == m) w.context (M.context k) y h
stands_pushed M m w y n (Life.Removed k) h = pushed_if (λ e. e.object == n) (k == m) w.context (M.context k) y h
stands_pushed M m w y n Life.Detached h = refl

-- the manager's own object stands in its context
pub stands_own : (M : Others) (m : ℕ) (w : Work) (n : ℕ) → list_any (λ (e : Entry). e.object == n) w.context ≡ true → stands_in (contexts M m w) n (Life.Managed m) ≡ true
stands_own M m w n h = subst (λ b. list_any (λ (e : Entry). e.object == n) (if b then w.context else M.context m) ≡ true) (sym (eq-eqb m m refl)) h

-- the entry of an object that enters without a base
abbrev entry_at : List LiveObject → ℕ → Entry
entry_at os n = record { object = n; key = (object_at os n).key; lock = Lock.Unlocked; base = None }

abbrev managed_by : ℕ → LiveObject → LiveObject
managed_by m x = record x { life = Life.Managed m }

-- its identity is none of the others'
pub names_apart : (m : PersistenceUnit) (os ps : List LiveObject) (ns : List ℕ) (k n : ℕ) (id : Identity) (xs : List Entry) → KeepsHeld k os ps → AllByRecursion (IsEntry m os ns k) xs →
    name_of m (object_at ps n) ≡ id →
    AllByRecursion (λ (e : Entry). same_identity (name_of m (object_at os e.object)) id ≡ false) xs →
    AllByRecursion (λ (e : Entry). are_one m ps e (entry_at ps n) ≡ false) xs
names_apart m os ps ns k n id [] keeps h same g = tt
names_apart m os ps ns k n id (e ∷ es) keeps h same g = (
  ap (λ a. same_identity a (name_of m (object_at ps n))) (names_kept keeps e h.0) ∙ ap (same_identity (name_of m (object_at os e.object))) same ∙ g.0,
  names_apart m os ps ns k n id es keeps h.1 same g.1,
)

entered_at_work : {world : World} {M : Others} {m n : ℕ} {w : Work} → HasKey world M m n w → has_instance world.model w (identity_at world.model w n) ≡ false →
    IsConsistent world M m (entered n (with_life_of n (Life.Managed m) w))
entered_at_work {world} {M} {m} {n} {w} h free =
    let model = world.model in
    let os = w.objects in
    let x = object w n in
    let y = managed_by m x in
    let ps = slice_set os n y in
    let l = h.within in
    let at = h.at in
    let keeps : (k : ℕ) → KeepsHeld k os ps = λ k. holds_apart os n y l k (new_apart k x.life h.new) in
    let here : y ≡ object_at ps n = sym (at_place os n y l) in
    let live = (at.objects) n no_object l in
    let old = recursion_from_All (IsEntry model os w.numbers m) w.context at.entries in
    let none : is_some (instance model w (name_of model x)) ≡ false = ap (has_instance model w) (sym (named model x h.whole)) ∙ free in
    let up = numbers_same w.numbers in
    record {
      manager = at.manager;
      objects = live_set os n y l model refl at.objects
          (record {
            class = live.class;
            key = live.key;
            version = live.version;
            values = live.values;
            relations = live.relations;
            key_representable = live.key_representable;
            version_representable = live.version_representable;
            values_representable = live.values_representable;
            links_representable = live.links_representable;
          });
      entries = All-push (IsEntry model ps w.numbers m) w.context (entry_at ps n)
          (All-weaker (IsEntry model os w.numbers m) (IsEntry model ps w.numbers m) (λ e. entry_kept (keeps m) up) w.context at.entries)
          (record {
            within = let e = length-set os n y in omega (arith, e, l);
            keyed = refl;
            held = subst (λ (z : LiveObject). is_held_by m z.life ≡ true) here (eq-eqb m m refl);
            whole = subst (λ (z : LiveObject). is_key_of (root_of model z.class) z.key ≡ true) here h.whole;
            given = subst (λ (z : LiveObject). key_given_by w.numbers (root_class model z.class) (root_of model z.class).generated z.key ≡ true) here h.given;
            base = refl;
          });
      distinct = distinct_push (are_one model ps) w.context (entry_at ps n) (distinct_kept w.context (keeps m) at.entries at.distinct)
          (names_apart model os ps w.numbers m n (name_of model x) w.context (keeps m) old (ap (name_of model) (sym here))
          (apart_from model w m (name_of model x) w.context old (none_found (λ e. has_identity (identity_at model w e.object) (name_of model x)) w.context none)));
      others = λ k l' apart. others_kept (keeps k) up (at.others k l' apart);
      placed = placed_set os n y l (contexts M m (record w { context = w.context ++ entry_at ps n ∷ [] }))
          (λ k l'. stands_pushed M m w (entry_at ps n) k (object_at os k).life (at.placed k l'))
          (stands_own M m (record w { context = w.context ++ entry_at ps n ∷ [] }) n (is_pushed (λ e. e.object == n) w.context (entry_at ps n) (eq-eqb n n refl)));
      view = at.view;
      numbered = at.numbered;
      raised = at.raised;
      few = subst (λ j. j ≤ most_objects) (sym (length-set os n y)) at.few;
    }

-- ---- a new object becomes managed

pub become_holds : {world : World} {M : Others} {m : ℕ} {w : Work} → IsOrderly world.model → (n : ℕ) → IsConsistent world M m w → n < length w.objects → (object w n).life ≡ Life.New →
    HoldsAfter (λ u w'. IsConsistent world M m w' × More w w') (become_managed world n w)
become_holds {world} {M} {m} {w} orderly n h l new =
    let b = (root_of world.model (object w n).class).generated in
    after_holds _ (λ u w'. HasKey world M m n w' × More w w') (give_key world n b w) _ (give_key_holds orderly n b h l new refl) (λ u v k.
    require_holds _ (not (has_instance world.model v (identity_at world.model v n))) Cause.EntityExists v _ (λ free. (
      subst (λ j. IsConsistent world M m (entered n (with_life_of n (Life.Managed j) v))) (sym ((k.0).at).manager)
          (entered_at_work k.0 (not-true (has_instance world.model v (identity_at world.model v n)) free)),
      more_on w v (with_life_of n (Life.Managed v.manager) v) k.1 (keeps_set v.objects n (managed_by v.manager (object v n)) (k.0).within refl),
    )))

-- ---- an object that the manager holds lives otherwise

pub held_alone : (m k : ℕ) (life : Life) → k ≢ m → is_held_by m life ≡ true → is_held_by k life ≡ false
held_alone m k Life.New d h = refl
held_alone m k (Life.Managed j) d h = ne_eqb j k (λ e. d (sym e ∙ eqb-true j m h))
held_alone m k (Life.Removed j) d h = ne_eqb j k (λ e. d (sym e ∙ eqb-true j m h))
held_alone m k Life.Detached d h = refl

in_context : (c : ℕ → List Entry) (m n : ℕ) (life : Life) → is_held_by m life ≡ true → stands_in c n life ≡ true → list_any (λ (e : Entry). e.object == n) (c m) ≡ true
in_context c m n Life.New h s = absurd (true≢false (sym h))
in_context c m n (Life.Managed k) h s = subst (λ j. list_any (λ (e : Entry). e.object == n) (c j) ≡ true) (eqb-true k m h) s
in_context c m n (Life.Removed k) h s = subst (λ j. list_any (λ (e : Entry). e.object == n) (c j) ≡ true) (eqb-true k m h) s
in_context c m n Life.Detached h s = absurd (true≢false (sym h))

from_context : (c : ℕ → List Entry) (m n : ℕ) (life : Life) → is_held_by m life ≡ true → list_any (λ (e : Entry). e.object == n) (c m) ≡ true → stands_in c n life ≡ true
from_context c m n Life.New h s = refl
from_context c m n (Life.Managed k) h s = subst (λ j. list_any (λ (e : Entry). e.object == n) (c j) ≡ true) (sym (eqb-true k m h)) s
from_context c m n (Life.Removed k) h s = subst (λ j. list_any (λ (e : Entry). e.object == n) (c j) ≡ true) (sym (eqb-true k m h)) s
from_context c m n Life.Detached h s = refl

pub relived : {world : World} {M : Others} {m : ℕ} {w : Work} (n : ℕ) (life : Life) → IsConsistent world M m w → n < length w.objects → is_held_by m (object w n).life ≡ true → is_held_by m life ≡ true →
    IsConsistent world M m (with_life_of n life w)
relived {world} {M} {m} {w} n life h l before after =
    let os = w.objects in
    let x = object w n in
    let y = with_life x life in
    let ps = slice_set os n y in
    let live = (h.objects) n no_object l in
    let own : KeepsHeld m os ps = holds_set os n y l m (λ e. (refl, refl, after)) in
    let apart : (k : ℕ) → k ≢ m → KeepsHeld k os ps = λ k d. holds_apart os n y l k (held_alone m k x.life d before) in
    let up = numbers_same w.numbers in
    record {
      manager = h.manager;
      objects = live_set os n y l world.model refl h.objects
          (record {
            class = live.class;
            key = live.key;
            version = live.version;
            values = live.values;
            relations = live.relations;
            key_representable = live.key_representable;
            version_representable = live.version_representable;
            values_representable = live.values_representable;
            links_representable = live.links_representable;
          });
      entries = All-weaker (IsEntry world.model os w.numbers m) (IsEntry world.model ps w.numbers m) (λ e. entry_kept own up) w.context h.entries;
      distinct = distinct_kept w.context own h.entries h.distinct;
      others = λ k l' d. others_kept (apart k d) up (h.others k l' d);
      placed = placed_set os n y l (contexts M m w) h.placed (from_context (contexts M m w) m n life after (in_context (contexts M m w) m n x.life before (h.placed n l)));
      view = h.view;
      numbered = h.numbered;
      raised = h.raised;
      few = subst (λ j. j ≤ most_objects) (sym (length-set os n y)) h.few;
    }

-- a removed object is managed again
pub revived : {world : World} {M : Others} {m : ℕ} {w : Work} (n : ℕ) → IsConsistent world M m w → n < length w.objects → (object w n).life ≡ Life.Removed m →
    IsConsistent world M m (with_life_of n (Life.Managed m) w)
revived {m = m} n h l removed = relived n (Life.Managed m) h l (ap (is_held_by m) removed ∙ eq-eqb m m refl) (eq-eqb m m refl)

-- a managed object is removed
pub removed : {world : World} {M : Others} {m : ℕ} {w : Work} (n : ℕ) → IsConsistent world M m w → n < length w.objects → (object w n).life ≡ Life.Managed m →
    IsConsistent world M m (with_life_of n (Life.Removed m) w)
removed {m = m} n h l managed = relived n (Life.Removed m) h l (ap (is_held_by m) managed ∙ eq-eqb m m refl) (eq-eqb m m refl)
