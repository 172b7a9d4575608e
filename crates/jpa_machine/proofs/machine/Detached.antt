-- What is kept where objects are detached, and a context keeps the others.
use Rattle.std.proofs.Common.{◌≡◌, ◌≢◌, ◌<◌, ◌≤◌, ◌⊎◌, inl, inr, ℕ, Bool, true, false, List, [], ◌∷◌, length, map, refl, ap, sym, subst, ◌∙◌, arith}
use Rattle.std.specs.Prelude.{slice_set, not, ◌==◌, ◌&&◌, ◌||◌, if◌then◌else◌}
use Rattle.std.specs.List.{All, AllByRecursion, list_any, filter}
use Rattle.std.proofs.lemmas.Bool.{false≢true, true≢false, cases_eq, eqb-true, eq-eqb, ne_eqb, and_parts, and_from, or_parts, or_from, or_cases, or_left, or_right, not-true, not_from_false}
use Rattle.std.proofs.lemmas.List.{get_or-set_same, get_or-set_other, length-set}
use Rattle.std.proofs.lemmas.List.Elements.{All-from_get_or}
use Rattle.jpa_value.specs.Value.{same_identity}
use Rattle.jpa_model.specs.declared.unit.PersistenceUnit.{PersistenceUnit}
use Rattle.jpa_model.specs.Chains.{root_class, root_of}
use Rattle.jpa_stored.specs.objects.Sets.{all_distinct, is_key_of}
use Rattle.jpa_rows.specs.rows.Cells.{key_given_by}
use Rattle.jpa_work.specs.declared.heap.Life.{Life}
use Rattle.jpa_work.specs.declared.heap.LiveObject.{LiveObject}
use Rattle.jpa_work.specs.heap.Objects.{object_at, no_object, with_life}
use Rattle.jpa_work.specs.declared.context.Entry.{Entry}
use Rattle.jpa_work.specs.declared.context.Lock.{Lock}
use Rattle.jpa_operations.specs.ops.States.{detach_each}
use Rattle.jpa_machine.specs.machine.Consistent.{IsLive, IsEntry, is_held_by, are_one, base_fits, name_of}
use Rattle.jpa_machine.proofs.machine.Kept.{KeepsClasses, KeepsHeld, live_kept}

abbrev pub stands : ℕ → List Entry → Bool
stands n es = list_any (λ (e : Entry). e.object == n) es

-- ---- which objects are detached

abbrev let_go : LiveObject → LiveObject
let_go x = with_life x Life.Detached

-- an object after the entries' objects are detached
abbrev pub freed : Bool → LiveObject → LiveObject
freed b x = if b then let_go x else x

freed_more : (a b : Bool) (x y : LiveObject) → y ≡ freed a x → freed b y ≡ freed (a || b) x
freed_more true true x y e = ap let_go e
freed_more true false x y e = e
freed_more false true x y e = ap let_go e
freed_more false false x y e = e

one_freed : (os : List LiveObject) (k n : ℕ) → n < length os → object_at (slice_set os k (let_go (object_at os k))) n ≡ freed (k == n) (object_at os n)
one_freed os k n l = by_cases (cases_eq n k)
  where
    by_cases : (n ≡ k) ⊎ (n ≢ k) → object_at (slice_set os k (let_go (object_at os k))) n ≡ freed (k == n) (object_at os n)
    by_cases (inl e) =
        ap (λ j. object_at (slice_set os k (let_go (object_at os k))) j) e ∙ get_or-set_same os k (let_go (object_at os k)) no_object (subst (λ j. j < length os) e l)
        ∙ sym (ap (λ b. freed b (object_at os n)) (eq-eqb k n (sym e)) ∙ ap (λ j. let_go (object_at os j)) e)
    by_cases (inr apart) =
        get_or-set_other os k n (let_go (object_at os k)) no_object apart ∙ sym (ap (λ b. freed b (object_at os n)) (ne_eqb k n (λ e. apart (sym e))))

pub length_detached : (es : List Entry) (os : List LiveObject) → length (detach_each es os) ≡ length os
length_detached [] os = refl
length_detached (e ∷ es) os = length_detached es (slice_set os e.object (let_go (object_at os e.object))) ∙ length-set os e.object (let_go (object_at os e.object))

pub detached_at : (es : List Entry) (os : List LiveObject) (n : ℕ) → n < length os → object_at (detach_each es os) n ≡ freed (stands n es) (object_at os n)
detached_at [] os n l = refl
detached_at (e ∷ es) os n l =
    let ps = slice_set os e.object (let_go (object_at os e.object)) in
    let s = length-set os e.object (let_go (object_at os e.object)) in
    detached_at es ps n (omega (arith, s, l)) ∙ freed_more (e.object == n) (stands n es) (object_at os n) (object_at ps n) (one_freed os e.object n l)

-- ---- what stays of them

freed_class : (b : Bool) (x : LiveObject) → (freed b x).class ≡ x.class
freed_class true x = refl
freed_class false x = refl

freed_live : (m : PersistenceUnit) (os : List LiveObject) (b : Bool) (x : LiveObject) → IsLive m os x → IsLive m os (freed b x)
freed_live m os false x h = h
freed_live m os true x h =
    record {
      class = h.class;
      key = h.key;
      version = h.version;
      values = h.values;
      relations = h.relations;
      key_representable = h.key_representable;
      version_representable = h.version_representable;
      values_representable = h.values_representable;
      links_representable = h.links_representable;
    }

module _ (m : PersistenceUnit) (os : List LiveObject) (es : List Entry) where
  ps : List LiveObject
  ps = detach_each es os

  keeps_classes : KeepsClasses os (detach_each es os)
  keeps_classes =
      record {
        more = let s = length_detached es os in omega (arith, s);
        class = λ n l. ap (λ (x : LiveObject). x.class) (detached_at es os n l) ∙ freed_class (stands n es) (object_at os n);
      }

  pub detached_live : All (IsLive m os) os → All (IsLive m (detach_each es os)) (detach_each es os)
  detached_live h =
      All-from_get_or (IsLive m (detach_each es os)) (detach_each es os) no_object (λ n l.
      let l' : n < length os = let s = length_detached es os in omega (arith, s, l) in
      subst (IsLive m (detach_each es os)) (sym (detached_at es os n l'))
      (live_kept m os (detach_each es os) keeps_classes (freed (stands n es) (object_at os n)) (freed_live m os (stands n es) (object_at os n) (h n no_object l'))))

-- objects that no entry names stay
pub same_object : (es : List Entry) (os : List LiveObject) (n : ℕ) → n < length os → stands n es ≡ false → object_at (detach_each es os) n ≡ object_at os n
same_object es os n l h = detached_at es os n l ∙ ap (λ b. freed b (object_at os n)) h

-- so do those of a manager of whose objects none is detached
pub holds_detached : (k : ℕ) (es : List Entry) (os : List LiveObject) → ((n : ℕ) → n < length os → is_held_by k (object_at os n).life ≡ true → stands n es ≡ false) →
    KeepsHeld k os (detach_each es os)
holds_detached k es os h =
    record {
      more = let s = length_detached es os in omega (arith, s);
      class = λ n l e. ap (λ (x : LiveObject). x.class) (same_object es os n l (h n l e));
      key = λ n l e. ap (λ (x : LiveObject). x.key) (same_object es os n l (h n l e));
      held = λ n l e. subst (λ (x : LiveObject). is_held_by k x.life ≡ true) (sym (same_object es os n l (h n l e))) e;
    }

pub held_once : (m k : ℕ) (life : Life) → is_held_by m life ≡ true → is_held_by k life ≡ true → k ≡ m
held_once m k Life.New a b = absurd (false≢true a)
held_once m k (Life.Managed j) a b = sym (eqb-true j k b) ∙ eqb-true j m a
held_once m k (Life.Removed j) a b = sym (eqb-true j k b) ∙ eqb-true j m a
held_once m k Life.Detached a b = absurd (false≢true a)

-- an object that stands in a manager's context is held by it
pub stands_held : (u : PersistenceUnit) (os : List LiveObject) (ns : List ℕ) (m n : ℕ) (es : List Entry) → AllByRecursion (IsEntry u os ns m) es → stands n es ≡ true →
    is_held_by m (object_at os n).life ≡ true
stands_held u os ns m n [] h s = absurd (false≢true s)
stands_held u os ns m n (e ∷ es) h s = by_cases (or_cases (e.object == n) (stands n es) s) (stands_held u os ns m n es h.1)
  where
    by_cases : ((e.object == n) ≡ true) ⊎ (stands n es ≡ true) → (stands n es ≡ true → is_held_by m (object_at os n).life ≡ true) → is_held_by m (object_at os n).life ≡ true
    by_cases (inl q) k = subst (λ j. is_held_by m (object_at os j).life ≡ true) (eqb-true e.object n q) (h.0).held
    by_cases (inr q) k = k q

-- ---- a context parted by a test of its objects

module _ (p : ℕ → Bool) where
  abbrev pub leaving : List Entry → List Entry
  leaving es = filter (λ (e : Entry). p e.object) es

  abbrev pub staying : List Entry → List Entry
  staying es = filter (λ (e : Entry). not (p e.object)) es

  -- an object that stays stands in no entry that leaves
  pub leaves_not : (n : ℕ) (es : List Entry) → p n ≡ false → stands n (leaving es) ≡ false
  leaves_not n [] h = refl
  leaves_not n (e ∷ es) h = by_test (p e.object) refl (leaves_not n es h)
    where
      by_test : (b : Bool) → p e.object ≡ b → stands n (leaving es) ≡ false → stands n (if b then e ∷ leaving es else leaving es) ≡ false
      by_test true q k = or_from (e.object == n) (stands n (leaving es)) (ne_eqb e.object n (λ s. true≢false (sym q ∙ ap p s ∙ h))) k
      by_test false q k = k

  -- an object that stands and does not leave stays
  pub stays : (n : ℕ) (es : List Entry) → stands n es ≡ true → stands n (leaving es) ≡ false → stands n (staying es) ≡ true
  stays n [] h k = h
  stays n (e ∷ es) h k = by_test (p e.object) h k (stays n es)
    where
      by_case : ((e.object == n) ≡ true) ⊎ (stands n es ≡ true) → stands n (leaving es) ≡ false → (stands n es ≡ true → stands n (leaving es) ≡ false → stands n (staying es) ≡ true) →
          stands n (e ∷ staying es) ≡ true
      by_case (inl q) k f = or_left (e.object == n) (stands n (staying es)) q
      by_case (inr q) k f = or_right (e.object == n) (stands n (staying es)) (f q k)

      by_test : (b : Bool) → stands n (e ∷ es) ≡ true → stands n (if b then e ∷ leaving es else leaving es) ≡ false →
          (stands n es ≡ true → stands n (leaving es) ≡ false → stands n (staying es) ≡ true) → stands n (if not b then e ∷ staying es else staying es) ≡ true
      by_test true h k f =
          let a = or_parts (e.object == n) (stands n (leaving es)) k in
          f (by_other (or_cases (e.object == n) (stands n es) h) a.0) a.1
        where
          by_other : ((e.object == n) ≡ true) ⊎ (stands n es ≡ true) → (e.object == n) ≡ false → stands n es ≡ true
          by_other (inl q) z = absurd (true≢false (sym q ∙ z))
          by_other (inr q) z = q
      by_test false h k f = by_case (or_cases (e.object == n) (stands n es) h) k f

-- ---- the entries that stay

pub staying_each : (P : Entry → Type 0) (p : ℕ → Bool) (es : List Entry) → AllByRecursion P es → AllByRecursion (λ (e : Entry). P e × (p e.object ≡ false)) (staying p es)
staying_each P p [] h = tt
staying_each P p (e ∷ es) h = by_test (p e.object) refl (staying_each P p es h.1)
  where
    by_test : (b : Bool) → p e.object ≡ b → AllByRecursion (λ (e' : Entry). P e' × (p e'.object ≡ false)) (staying p es) →
        AllByRecursion (λ (e' : Entry). P e' × (p e'.object ≡ false)) (if not b then e ∷ staying p es else staying p es)
    by_test true q k = k
    by_test false q k = ((h.0, q), k)

pub any_part : {A : Type 0} (f t : A → Bool) (xs : List A) → list_any f xs ≡ false → list_any f (filter t xs) ≡ false
any_part f t [] h = refl
any_part f t (x ∷ xs) h = let a = or_parts (f x) (list_any f xs) h in by_test (t x) a.0 (any_part f t xs a.1)
  where
    by_test : (b : Bool) → f x ≡ false → list_any f (filter t xs) ≡ false → list_any f (if b then x ∷ filter t xs else filter t xs) ≡ false
    by_test true q k = or_from (f x) (list_any f (filter t xs)) q k
    by_test false q k = k

pub distinct_part : {A : Type 0} (eq : A → A → Bool) (t : A → Bool) (xs : List A) → all_distinct eq xs ≡ true → all_distinct eq (filter t xs) ≡ true
distinct_part eq t [] h = refl
distinct_part eq t (x ∷ xs) h =
    let a = and_parts (not (list_any (eq x) xs)) (all_distinct eq xs) h in
    by_test (t x) (not-true (list_any (eq x) xs) a.0) (distinct_part eq t xs a.1)
  where
    by_test : (b : Bool) → list_any (eq x) xs ≡ false → all_distinct eq (filter t xs) ≡ true → all_distinct eq (if b then x ∷ filter t xs else filter t xs) ≡ true
    by_test true q k = and_from (not (list_any (eq x) (filter t xs))) (all_distinct eq (filter t xs)) (not_from_false (list_any (eq x) (filter t xs)) (any_part (eq x) t xs q)) k
    by_test false q k = k

-- an entry without its lock
abbrev pub without_lock : Entry → Entry
without_lock e = record e { lock = Lock.Unlocked }

-- it names the same object
pub any_unlocked : (f : ℕ → Bool) (es : List Entry) → list_any (λ (e : Entry). f e.object) (map without_lock es) ≡ list_any (λ (e : Entry). f e.object) es
any_unlocked f [] = refl
any_unlocked f (e ∷ es) = ap (λ b. f e.object || b) (any_unlocked f es)

pub distinct_unlocked : (m : PersistenceUnit) (os : List LiveObject) (es : List Entry) → all_distinct (are_one m os) (map without_lock es) ≡ all_distinct (are_one m os) es
distinct_unlocked m os [] = refl
distinct_unlocked m os (e ∷ es) =
    ap (λ b. not b && all_distinct (are_one m os) (map without_lock es))
    (any_unlocked (λ k. same_identity (name_of m (object_at os e.object)) (name_of m (object_at os k))) es)
    ∙ ap (λ b. not (list_any (are_one m os e) es) && b) (distinct_unlocked m os es)

pub unlocked_entry : {m : PersistenceUnit} {os : List LiveObject} {ns : List ℕ} {k : ℕ} (e : Entry) → IsEntry m os ns k e → IsEntry m os ns k (without_lock e)
unlocked_entry e h = record { within = h.within; keyed = h.keyed; held = h.held; whole = h.whole; given = h.given; base = h.base }

-- an entry stays one where its own object is the same
pub entry_stays : {m : PersistenceUnit} {os ps : List LiveObject} {ns : List ℕ} {k : ℕ} (e : Entry) → length os ≤ length ps → object_at ps e.object ≡ object_at os e.object → IsEntry m os ns k e → IsEntry m ps ns k e
entry_stays {m} {os} {ps} {ns} {k} e more same h =
    record {
      within = let a = h.within in omega (arith, a, more);
      keyed = ap (λ (x : LiveObject). x.key) same ∙ h.keyed;
      held = subst (λ (x : LiveObject). is_held_by k x.life ≡ true) (sym same) h.held;
      whole = subst (λ (x : LiveObject). is_key_of (root_of m x.class) x.key ≡ true) (sym same) h.whole;
      given = subst (λ (x : LiveObject). key_given_by ns (root_class m x.class) (root_of m x.class).generated x.key ≡ true) (sym same) h.given;
      base = subst (λ (x : LiveObject). base_fits m x e.base ≡ true) (sym same) h.base;
    }
