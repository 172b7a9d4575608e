-- What is kept where the list of live objects changes.
use Rattle.std.proofs.Common.{◌≡◌, ◌<◌, ◌≤◌, ◌⊎◌, inl, inr, ℕ, Bool, true, false, List, [], ◌∷◌, ◌++◌, length, refl, ap, sym, subst, ◌∙◌, arith}
use Rattle.std.specs.Prelude.{nat_lt, nat_le, not, Option, Some, None, ◌==◌, ◌&&◌, ◌||◌}
use Rattle.std.specs.List.{All, AllByRecursion, list_any}
use Rattle.std.proofs.lemmas.Bool.{cases_lt, ltb-true, lt-ltb, and_parts, and_from}
use Rattle.std.proofs.lemmas.List.{length-append, get_or_append_left, get_or_push}
use Rattle.std.proofs.lemmas.List.Elements.{All-push, All-weaker, recursion_from_All}
use Rattle.jpa_value.specs.declared.value.Value.{Value}
use Rattle.jpa_value.specs.declared.value.Kind.{Kind}
use Rattle.jpa_value.specs.Value.{fits, same_identity}
use Rattle.jpa_model.specs.declared.unit.PersistenceUnit.{PersistenceUnit}
use Rattle.jpa_model.specs.declared.unit.VersionColumn.{VersionColumn}
use Rattle.jpa_model.specs.declared.unit.Relation.{Relation}
use Rattle.jpa_model.specs.Chains.{attributes_of, relations_of, root_of, root_class, is_to_one}
use Rattle.jpa_stored.specs.objects.Sets.{each_fits, all_distinct, is_shaped, is_key_of}
use Rattle.jpa_rows.specs.rows.Cells.{key_given_by, holds_representable}
use Rattle.jpa_work.specs.declared.heap.Link.{Link}
use Rattle.jpa_work.specs.declared.heap.Held.{Held}
use Rattle.jpa_work.specs.declared.heap.Collection.{Collection}
use Rattle.jpa_work.specs.declared.heap.LiveObject.{LiveObject}
use Rattle.jpa_work.specs.heap.Objects.{object_at, no_object, new_object, empty_held}
use Rattle.jpa_work.specs.declared.context.Base.{Base}
use Rattle.jpa_work.specs.declared.context.Entry.{Entry}
use Rattle.jpa_machine.specs.machine.Consistent.{IsContext, IsLive, IsEntry, are_one, name_of, is_held_by, stands_in, base_fits, known_fits, held_fits, link_fits, collection_fits, leads_to, version_fits, held_representable}
use Rattle.jpa_machine.proofs.machine.Facts.{given_by_more, each_fits_weaker, each_fits_map, list_all_weaker, list_all_map}

-- ---- links stay within the heap where it grows and no object's class changes

pub record KeepsClasses (os ps : List LiveObject) : Type 0 where
  pub more : length os ≤ length ps
  pub class : (n : ℕ) → n < length os → (object_at ps n).class ≡ (object_at os n).class

module _ (m : PersistenceUnit) (os ps : List LiveObject) (keeps : KeepsClasses os ps) where
  pub leads_kept : (target k : ℕ) → leads_to m os target k ≡ true → leads_to m ps target k ≡ true
  leads_kept target k h =
      let p = and_parts (nat_lt k (length os)) ((root_of m (object_at os k).class).table == (root_of m target).table) h in
      let l = ltb-true k (length os) p.0 in
      let more = keeps.more in
      and_from (nat_lt k (length ps)) ((root_of m (object_at ps k).class).table == (root_of m target).table) (lt-ltb k (length ps) (omega (arith, l, more)))
      (subst (λ c. ((root_of m c).table == (root_of m target).table) ≡ true) (sym (keeps.class k l)) p.1)

  link_kept : (target : ℕ) (l : Link) → link_fits m os target l ≡ true → link_fits m ps target l ≡ true
  link_kept target Link.None h = refl
  link_kept target (Link.Object k) h = leads_kept target k h
  link_kept target (Link.Key id) h = h

  collection_kept : (target : ℕ) (c : Collection) → collection_fits m os target c ≡ true → collection_fits m ps target c ≡ true
  collection_kept target Collection.Unfetched h = refl
  collection_kept target (Collection.Fetched ks) h = list_all_weaker (leads_to m os target) (leads_to m ps target) (leads_kept target) ks h

  pub held_kept : (r : Relation) (h : Held) → held_fits m os r h ≡ true → held_fits m ps r h ≡ true
  held_kept r (Held.One l) h =
      let p = and_parts (is_to_one r.side) (link_fits m os r.target l) h in
      and_from (is_to_one r.side) (link_fits m ps r.target l) p.0 (link_kept r.target l p.1)
  held_kept r (Held.Many c) h =
      let p = and_parts (not (is_to_one r.side)) (collection_fits m os r.target c) h in
      and_from (not (is_to_one r.side)) (collection_fits m ps r.target c) p.0 (collection_kept r.target c p.1)

  pub live_kept : (x : LiveObject) → IsLive m os x → IsLive m ps x
  live_kept x h =
      record {
        class = h.class;
        key = h.key;
        version = h.version;
        values = h.values;
        relations = each_fits_weaker (held_fits m os) (held_fits m ps) held_kept (relations_of m x.class) x.relations h.relations;
        key_representable = h.key_representable;
        version_representable = h.version_representable;
        values_representable = h.values_representable;
        links_representable = h.links_representable;
      }

-- ---- a manager's entries stay where the objects that it holds keep class and key and are held

pub record KeepsHeld (k : ℕ) (os ps : List LiveObject) : Type 0 where
  pub more : length os ≤ length ps
  pub class : (n : ℕ) → n < length os → is_held_by k (object_at os n).life ≡ true → (object_at ps n).class ≡ (object_at os n).class
  pub key : (n : ℕ) → n < length os → is_held_by k (object_at os n).life ≡ true → (object_at ps n).key ≡ (object_at os n).key
  pub held : (n : ℕ) → n < length os → is_held_by k (object_at os n).life ≡ true → is_held_by k (object_at ps n).life ≡ true

-- a base, by the class and the key of its object
base_of_class : PersistenceUnit → ℕ → List Value → Base → Bool
base_of_class m class key b =
    ((b.stored).class == class) && (is_shaped m (record { table = (root_of m class).table; key = key }) b.stored && (holds_representable b.stored && each_fits known_fits (relations_of m class) b.members))

pub base_same : (m : PersistenceUnit) (x y : LiveObject) (b : Option Base) → y.class ≡ x.class → y.key ≡ x.key → base_fits m x b ≡ true → base_fits m y b ≡ true
unfolding base_of_class
base_same m x y None c k h = refl
base_same m x y (Some b) c k h =
    subst (λ b'. b' ≡ true) (sym (ap (λ c'. base_of_class m c' y.key b) c ∙ ap (λ k'. base_of_class m x.class k' b) k)) h

name_same : (m : PersistenceUnit) (x y : LiveObject) → y.class ≡ x.class → y.key ≡ x.key → name_of m y ≡ name_of m x
name_same m x y c k = λ i. record { table = (root_of m (c i)).table; key = k i }

pub entry_kept : {m : PersistenceUnit} {os ps : List LiveObject} {ns ms : List ℕ} {k : ℕ} {e : Entry} → KeepsHeld k os ps → each_fits nat_le ns ms ≡ true →
    IsEntry m os ns k e → IsEntry m ps ms k e
entry_kept {m} {os} {ps} {ns} {ms} {k} {e} keeps l h =
    let x = object_at os e.object in
    let y = object_at ps e.object in
    let c : y.class ≡ x.class = keeps.class e.object h.within h.held in
    let s : y.key ≡ x.key = keeps.key e.object h.within h.held in
    let a = h.within in
    let b = keeps.more in
    record {
      within = omega (arith, a, b);
      keyed = s ∙ h.keyed;
      held = keeps.held e.object h.within h.held;
      whole = whole_same x y c s h.whole;
      given = given_by_more ns ms (root_class m y.class) (root_of m y.class).generated y.key l (given_same x y c s h.given);
      base = base_same m x y e.base c s h.base;
    }
  where
    whole_same : (x y : LiveObject) → y.class ≡ x.class → y.key ≡ x.key → is_key_of (root_of m x.class) x.key ≡ true → is_key_of (root_of m y.class) y.key ≡ true
    whole_same x y c s h = subst (λ b. b ≡ true) (sym (ap (λ c'. is_key_of (root_of m c') y.key) c ∙ ap (λ s'. is_key_of (root_of m x.class) s') s)) h

    given_same : (x y : LiveObject) → y.class ≡ x.class → y.key ≡ x.key → key_given_by ns (root_class m x.class) (root_of m x.class).generated x.key ≡ true →
        key_given_by ns (root_class m y.class) (root_of m y.class).generated y.key ≡ true
    given_same x y c s h =
        subst (λ b. b ≡ true) (sym (ap (λ c'. key_given_by ns (root_class m c') (root_of m c').generated y.key) c ∙ ap (λ s'. key_given_by ns (root_class m x.class) (root_of m x.class).generated s') s)) h

-- ---- distinct entries

abbrev pub HaveNames : PersistenceUnit → List LiveObject → List LiveObject → Entry → Type 0
HaveNames m os ps e = name_of m (object_at ps e.object) ≡ name_of m (object_at os e.object)

any_same : {A : Type 0} (p q : A → Bool) (xs : List A) → AllByRecursion (λ x. p x ≡ q x) xs → list_any p xs ≡ list_any q xs
any_same p q [] h = refl
any_same p q (x ∷ xs) h = ap (λ b. b || list_any p xs) h.0 ∙ ap (λ b. q x || b) (any_same p q xs h.1)

ones_same : (m : PersistenceUnit) (os ps : List LiveObject) (x : Entry) (xs : List Entry) → HaveNames m os ps x → AllByRecursion (HaveNames m os ps) xs →
    AllByRecursion (λ y. are_one m os x y ≡ are_one m ps x y) xs
ones_same m os ps x [] e h = tt
ones_same m os ps x (y ∷ ys) e h =
    (ap (λ a. same_identity a (name_of m (object_at os y.object))) (sym e) ∙ ap (same_identity (name_of m (object_at ps x.object))) (sym h.0), ones_same m os ps x ys e h.1)

pub distinct_same : (m : PersistenceUnit) (os ps : List LiveObject) (xs : List Entry) → AllByRecursion (HaveNames m os ps) xs → all_distinct (are_one m os) xs ≡ all_distinct (are_one m ps) xs
distinct_same m os ps [] h = refl
distinct_same m os ps (x ∷ xs) h =
    ap (λ b. not b && all_distinct (are_one m os) xs) (any_same (are_one m os x) (are_one m ps x) xs (ones_same m os ps x xs h.0 h.1))
    ∙ ap (λ b. not (list_any (are_one m ps x) xs) && b) (distinct_same m os ps xs h.1)

pub names_kept : {m : PersistenceUnit} {os ps : List LiveObject} {ns : List ℕ} {k : ℕ} → KeepsHeld k os ps → (e : Entry) → IsEntry m os ns k e → HaveNames m os ps e
names_kept {m} {os} {ps} keeps e h =
    name_same m (object_at os e.object) (object_at ps e.object) (keeps.class e.object h.within h.held) (keeps.key e.object h.within h.held)

pub distinct_kept : {m : PersistenceUnit} {os ps : List LiveObject} {ns : List ℕ} {k : ℕ} (xs : List Entry) → KeepsHeld k os ps → All (IsEntry m os ns k) xs →
    all_distinct (are_one m os) xs ≡ true → all_distinct (are_one m ps) xs ≡ true
distinct_kept {m} {os} {ps} {ns} {k} xs keeps h d =
    sym (distinct_same m os ps xs (recursion_from_All (HaveNames m os ps) xs (All-weaker (IsEntry m os ns k) (HaveNames m os ps) (names_kept keeps) xs h))) ∙ d

-- ---- a context

pub others_kept : {m : PersistenceUnit} {os ps : List LiveObject} {ns ms : List ℕ} {k : ℕ} {es : List Entry} → KeepsHeld k os ps → each_fits nat_le ns ms ≡ true → IsContext m os ns k es → IsContext m ps ms k es
others_kept {m} {os} {ps} {ns} {ms} {k} {es} keeps l h =
    record { entries = All-weaker (IsEntry m os ns k) (IsEntry m ps ms k) (λ e. entry_kept keeps l) es h.entries; distinct = distinct_kept es keeps h.entries h.distinct }

-- ---- one more object

pub keeps_more : (os : List LiveObject) (x : LiveObject) → KeepsClasses os (os ++ x ∷ [])
keeps_more os x =
    record {
      more = let n = length-append os (x ∷ []) in omega (arith, n);
      class = λ n l. ap (λ (y : LiveObject). y.class) (get_or_append_left os (x ∷ []) no_object n l);
    }

pub holds_more : (k : ℕ) (os : List LiveObject) (x : LiveObject) → KeepsHeld k os (os ++ x ∷ [])
holds_more k os x =
    record {
      more = let n = length-append os (x ∷ []) in omega (arith, n);
      class = λ n l h. ap (λ (y : LiveObject). y.class) (get_or_append_left os (x ∷ []) no_object n l);
      key = λ n l h. ap (λ (y : LiveObject). y.key) (get_or_append_left os (x ∷ []) no_object n l);
      held = λ n l h. subst (λ y. is_held_by k y.life ≡ true) (sym (get_or_append_left os (x ∷ []) no_object n l)) h;
    }

pub live_more : (m : PersistenceUnit) (os : List LiveObject) (x : LiveObject) → All (IsLive m os) os → IsLive m (os ++ x ∷ []) x → All (IsLive m (os ++ x ∷ [])) (os ++ x ∷ [])
live_more m os x h hx = All-push (IsLive m (os ++ x ∷ [])) os x (All-weaker (IsLive m os) (IsLive m (os ++ x ∷ [])) (live_kept m os (os ++ x ∷ []) (keeps_more os x)) os h) hx

pub placed_more : (context : ℕ → List Entry) (os : List LiveObject) (x : LiveObject) →
    ((n : ℕ) → n < length os → stands_in context n (object_at os n).life ≡ true) → stands_in context (length os) x.life ≡ true →
    (n : ℕ) → n < length (os ++ x ∷ []) → stands_in context n (object_at (os ++ x ∷ []) n).life ≡ true
placed_more context os x h hx n l = by_cases (cases_lt n (length os))
  where
    by_cases : (n < length os) ⊎ (length os ≤ n) → stands_in context n (object_at (os ++ x ∷ []) n).life ≡ true
    by_cases (inl l') = subst (λ (y : LiveObject). stands_in context n y.life ≡ true) (sym (get_or_append_left os (x ∷ []) no_object n l')) (h n l')
    by_cases (inr l') =
        let e : length os ≡ n = let s = length-append os (x ∷ []) in omega (arith, l, l', s) in
        subst (λ (y : LiveObject). stands_in context n y.life ≡ true) (sym (get_or_push os x no_object n e)) (subst (λ j. stands_in context j x.life ≡ true) e hx)

-- ---- an object as it is made

null_fits : (k : Kind) → fits k Value.Null ≡ true
null_fits Kind.Int = refl
null_fits Kind.Text = refl
null_fits Kind.Bytes = refl

no_version_fits : (v : Option VersionColumn) → version_fits v None ≡ true
no_version_fits None = refl
no_version_fits (Some c) = refl

empty_fits : (m : PersistenceUnit) (os : List LiveObject) (r : Relation) (b : Bool) → is_to_one r.side ≡ b → held_fits m os r (empty_held b) ≡ true
empty_fits m os r true e = and_from (is_to_one r.side) true e refl
empty_fits m os r false e = and_from (not (is_to_one r.side)) true (ap not e) refl

empty_representable : (b : Bool) → held_representable (empty_held b) ≡ true
empty_representable true = refl
empty_representable false = refl

pub new_live : (m : PersistenceUnit) (os : List LiveObject) (class : ℕ) → nat_lt class (length m.entities) ≡ true → IsLive m os (new_object m class)
new_live m os class l =
    record {
      class = l;
      key = each_fits_map _ _ (λ part. null_fits part.kind) (root_of m class).key;
      version = no_version_fits (root_of m class).version;
      values = each_fits_map _ _ (λ a. null_fits a.kind) (attributes_of m class);
      relations = each_fits_map _ _ (λ r. empty_fits m os r (is_to_one r.side) refl) (relations_of m class);
      key_representable = list_all_map _ _ (λ part. refl) (root_of m class).key;
      version_representable = refl;
      values_representable = list_all_map _ _ (λ a. refl) (attributes_of m class);
      links_representable = list_all_map _ _ (λ r. empty_representable (is_to_one r.side)) (relations_of m class);
    }
