-- What code that goes by places stands on, and how a work has grown, where objects and entries change or are added.
use Rattle.std.proofs.Common.{◌≡◌, ◌≢◌, ◌<◌, ◌≤◌, ◌⊎◌, inl, inr, ℕ, true, false, List, [], ◌∷◌, ◌++◌, map, length, refl, ap, sym, subst, ◌∙◌, arith}
use Rattle.std.specs.Prelude.{All, slice_set, not, ◌==◌, ◌||◌, ◌&&◌}
use Rattle.std.specs.List.{AllByRecursion, list_any}
use Rattle.std.proofs.lemmas.Bool.{cases_eq, and_parts, and_from, or_from, not-true, not_from_false, ne_eqb}
use Rattle.std.proofs.lemmas.List.{length-set, length-append, get_or-set_same, get_or-set_other, get_or_append_left, get_or_push}
use Rattle.std.proofs.lemmas.List.Elements.{All-get_or, All-set, All-push, All-weaker, All-map, recursion_from_All}
use Rattle.std.proofs.lemmas.List.Folds.{list_any-append}
use Rattle.jpa_model.specs.declared.unit.PersistenceUnit.{PersistenceUnit}
use Rattle.jpa_stored.specs.objects.Sets.{all_distinct}
use Rattle.jpa_work.specs.declared.heap.Held.{Held}
use Rattle.jpa_work.specs.declared.heap.LiveObject.{LiveObject}
use Rattle.jpa_work.specs.heap.Objects.{no_object, object_at, is_whole}
use Rattle.jpa_work.specs.heap.Shape.{HasShape}
use Rattle.jpa_work.specs.declared.context.Entry.{Entry}
use Rattle.jpa_work.specs.context.Undo.{IsKeyed, IsPlaced}
use Rattle.jpa_work.specs.context.Work.{Work, object, with_object}
use Rattle.jpa_lifecycle.proofs.Keeps.{revalued_shape, HasHappened}
use Rattle.jpa_operations.specs.fetch.Grown.{AreDistinct, AreLinked, HasGrown, IsLinked, IsReady, objects_held}

-- ---- what objects hold

-- what a relation holds is among so many objects
abbrev pub HoldsWithin : ℕ → Held → Type 0
HoldsWithin count held = All (λ k. k < count) (objects_held held)

holds_more : (a b : ℕ) → a ≤ b → (held : Held) → HoldsWithin a held → HoldsWithin b held
holds_more a b more held h = All-weaker (λ k. k < a) (λ k. k < b) (λ k l. omega (arith, l, more)) (objects_held held) h

linked_more : (os ps : List LiveObject) → length os ≤ length ps → (x : LiveObject) → IsLinked os x → IsLinked ps x
linked_more os ps more x h = All-weaker (HoldsWithin (length os)) (HoldsWithin (length ps)) (holds_more (length os) (length ps) more) x.relations h

all_linked_more : (os ps xs : List LiveObject) → length os ≤ length ps → All (IsLinked os) xs → All (IsLinked ps) xs
all_linked_more os ps xs more h = All-weaker (IsLinked os) (IsLinked ps) (linked_more os ps more) xs h

linked_set : (os : List LiveObject) (n : ℕ) (y : LiveObject) → IsLinked os y → AreLinked os → AreLinked (slice_set os n y)
linked_set os n y own h =
    let e = length-set os n y in
    let more : length os ≤ length (slice_set os n y) = omega (arith, e) in
    All-set (IsLinked (slice_set os n y)) os n y (linked_more os (slice_set os n y) more y own) (all_linked_more os (slice_set os n y) os more h)

pub linked_push : (os : List LiveObject) (x : LiveObject) → IsLinked os x → AreLinked os → AreLinked (os ++ x ∷ [])
linked_push os x own h =
    let e = length-append os (x ∷ []) in
    let more : length os ≤ length (os ++ x ∷ []) = omega (arith, e) in
    All-push (IsLinked (os ++ x ∷ [])) os x (all_linked_more os (os ++ x ∷ []) os more h) (linked_more os (os ++ x ∷ []) more x own)

-- ---- a work goes on

pub grown_none : (w : Work) → HasGrown w w
grown_none w = record { count = omega arith; classes = λ n l. refl; distinct = λ d. d; linked = λ h. h }

pub grown_on : (u v w : Work) → HasGrown u v → HasGrown v w → HasGrown u w
grown_on u v w h g =
    record {
      count = let a = h.count in let b = g.count in omega (arith, a, b);
      classes = λ n l. g.classes n (let a = h.count in omega (arith, a, l)) ∙ h.classes n l;
      distinct = λ d. g.distinct (h.distinct d);
      linked = λ l. g.linked (h.linked l);
    }

-- a ready work that has grown and goes by places still is ready again
pub ready_on : (m : PersistenceUnit) (w v : Work) → IsReady m w → IsPlaced m v → HasGrown w v → IsReady m v
ready_on m w v h placed grown = record { placed = placed; linked = grown.linked h.linked; distinct = grown.distinct h.distinct }

-- ---- an object changes

-- another object of the same key and shape stands in its place
keyed_set : (os : List LiveObject) (n : ℕ) (y : LiveObject) (es : List Entry) → n < length os → y.key ≡ (object_at os n).key → All (IsKeyed os) es → All (IsKeyed (slice_set os n y)) es
keyed_set os n y es l same h = All-weaker (IsKeyed os) (IsKeyed (slice_set os n y)) (λ e k. by_place e k (cases_eq e.object n)) es h
  where
    by_place : (e : Entry) → IsKeyed os e → (e.object ≡ n) ⊎ (e.object ≢ n) → IsKeyed (slice_set os n y) e
    by_place e k (inl own) =
        record {
          same = ap (λ i. (object_at (slice_set os n y) i).key) own ∙ ap (λ (x : LiveObject). x.key) (get_or-set_same os n y no_object l) ∙ same ∙ ap (λ i. (object_at os i).key) (sym own) ∙ k.same;
          whole = k.whole;
        }
    by_place e k (inr other) = record { same = ap (λ (x : LiveObject). x.key) (get_or-set_other os n e.object y no_object other) ∙ k.same; whole = k.whole }

pub placed_set : (m : PersistenceUnit) (w : Work) (n : ℕ) (y : LiveObject) → IsPlaced m w → n < length w.objects → HasShape m y → y.key ≡ (object w n).key → IsPlaced m (with_object n y w)
placed_set m w n y h l shape same =
    record {
      objects = All-set (HasShape m) w.objects n y shape h.objects;
      entries = subst (λ c. All (λ (e : Entry). e.object < c) w.context) (sym (length-set w.objects n y)) h.entries;
      keyed = keyed_set w.objects n y w.context l same h.keyed;
      numbers = h.numbers;
      view = h.view;
    }

pub grown_set : (w : Work) (n : ℕ) (y : LiveObject) → y.class ≡ (object w n).class → n < length w.objects → (AreLinked w.objects → IsLinked w.objects y) → HasGrown w (with_object n y w)
grown_set w n y same l own =
    record {
      count = let e = length-set w.objects n y in omega (arith, e);
      classes = λ k within. by_place k (cases_eq k n);
      distinct = λ d. d;
      linked = λ h. linked_set w.objects n y (own h) h;
    }
  where
    by_place : (k : ℕ) → (k ≡ n) ⊎ (k ≢ n) → (object (with_object n y w) k).class ≡ (object w k).class
    by_place k (inl own) =
        ap (λ i. (object (with_object n y w) i).class) own ∙ ap (λ (x : LiveObject). x.class) (get_or-set_same w.objects n y no_object l) ∙ same ∙ ap (λ i. (object w i).class) (sym own)
    by_place k (inr other) = ap (λ (x : LiveObject). x.class) (get_or-set_other w.objects n k y no_object other)

-- ---- an event happened

pub placed_happened : (m : PersistenceUnit) (n : ℕ) (w v : Work) → IsPlaced m w → n < length w.objects → HasHappened n w v → IsPlaced m v
placed_happened m n w v h l happened =
    let y = happened.object in
    let x = object w n in
    let same = (happened.revalued).same in
    let set = placed_set m w n y h l (revalued_shape m x y happened.revalued (All-get_or (HasShape m) w.objects n no_object l h.objects)) (ap (λ (z : LiveObject). z.key) same) in
    subst (IsPlaced m) (sym happened.same) (record { objects = set.objects; entries = set.entries; keyed = set.keyed; numbers = set.numbers; view = set.view })

pub grown_happened : (n : ℕ) (w v : Work) → n < length w.objects → HasHappened n w v → HasGrown w v
grown_happened n w v l happened =
    let same = (happened.revalued).same in
    let own : AreLinked w.objects → IsLinked w.objects happened.object =
    λ h. subst (λ hs. All (HoldsWithin (length w.objects)) hs) (sym (ap (λ (z : LiveObject). z.relations) same)) (All-get_or (IsLinked w.objects) w.objects n no_object l h) in
    let set = grown_set w n happened.object (ap (λ (z : LiveObject). z.class) same) l own in
    subst (HasGrown w) (sym happened.same) (record { count = set.count; classes = set.classes; distinct = set.distinct; linked = set.linked })

-- ---- entries change

any_after : (f : Entry → Entry) → ((e : Entry) → (f e).object ≡ e.object) → (n : ℕ) (es : List Entry) → list_any (λ (b : Entry). n == b.object) (map f es) ≡ list_any (λ b. n == b.object) es
any_after f same n [] = refl
any_after f same n (e ∷ es) = λ i. (n == same e i) || any_after f same n es i

pub distinct_after : (f : Entry → Entry) → ((e : Entry) → (f e).object ≡ e.object) → (es : List Entry) → all_distinct (λ (a b : Entry). a.object == b.object) (map f es) ≡ all_distinct (λ a b. a.object == b.object) es
distinct_after f same [] = refl
distinct_after f same (e ∷ es) =
    ap (λ n. not (list_any (λ (b : Entry). n == b.object) (map f es)) && all_distinct (λ (a b : Entry). a.object == b.object) (map f es)) (same e)
    ∙ ap (λ b. not b && all_distinct (λ (a b : Entry). a.object == b.object) (map f es)) (any_after f same e.object es)
    ∙ ap (λ d. not (list_any (λ (b : Entry). e.object == b.object) es) && d) (distinct_after f same es)

-- entries become others of the same objects under the same keys
pub placed_map : (m : PersistenceUnit) (w : Work) (f : Entry → Entry) → ((e : Entry) → (f e).object ≡ e.object) → ((e : Entry) → (f e).key ≡ e.key) → IsPlaced m w →
    IsPlaced m (record w { context = map f w.context })
placed_map m w f same key h =
    record {
      objects = h.objects;
      entries = All-map (λ (e : Entry). e.object < length w.objects) f w.context
          (All-weaker (λ (e : Entry). e.object < length w.objects) (λ e. (f e).object < length w.objects) (λ e l. subst (λ k. k < length w.objects) (sym (same e)) l) w.context h.entries);
      keyed = All-map (IsKeyed w.objects) f w.context
          (All-weaker (IsKeyed w.objects) (λ e. IsKeyed w.objects (f e))
          (λ e k. record { same = ap (λ i. (object_at w.objects i).key) (same e) ∙ k.same ∙ sym (key e); whole = ap is_whole (key e) ∙ k.whole }) w.context h.keyed);
      numbers = h.numbers;
      view = h.view;
    }

pub grown_map : (w : Work) (f : Entry → Entry) → ((e : Entry) → (f e).object ≡ e.object) → HasGrown w (record w { context = map f w.context })
grown_map w f same = record { count = omega arith; classes = λ n l. refl; distinct = λ d. distinct_after f same w.context ∙ d; linked = λ h. h }

-- ---- an object and its entry are added

pub keyed_push : (os : List LiveObject) (x : LiveObject) (es : List Entry) → All (λ (e : Entry). e.object < length os) es → All (IsKeyed os) es → All (IsKeyed (os ++ x ∷ [])) es
keyed_push os x es within h i d l =
    let k = h i d l in
    record { same = ap (λ (z : LiveObject). z.key) (get_or_append_left os (x ∷ []) no_object _ (within i d l)) ∙ k.same; whole = k.whole }

abbrev pub with_last : LiveObject → Entry → Work → Work
with_last x e w = record w { objects = w.objects ++ x ∷ []; context = w.context ++ e ∷ [] }

pub placed_push : (m : PersistenceUnit) (w : Work) (x : LiveObject) (e : Entry) → IsPlaced m w → HasShape m x → e.object ≡ length w.objects → e.key ≡ x.key → is_whole x.key ≡ true → IsPlaced m (with_last x e w)
placed_push m w x e h shape own key whole =
    let ps = w.objects ++ x ∷ [] in
    let count = length-append w.objects (x ∷ []) in
    record {
      objects = All-push (HasShape m) w.objects x h.objects shape;
      entries = All-push (λ (a : Entry). a.object < length ps) w.context e
          (All-weaker (λ (a : Entry). a.object < length w.objects) (λ a. a.object < length ps) (λ a l. omega (arith, l, count)) w.context h.entries)
          (omega (arith, own, count));
      keyed = All-push (IsKeyed ps) w.context e (keyed_push w.objects x w.context h.entries h.keyed)
          (record { same = ap (λ (z : LiveObject). z.key) (get_or_push w.objects x no_object e.object (sym own)) ∙ sym key; whole = ap is_whole key ∙ whole });
      numbers = h.numbers;
      view = h.view;
    }

distinct_push : (n : ℕ) (es : List Entry) (y : Entry) → y.object ≡ n → AreDistinct es → AllByRecursion (λ (e : Entry). e.object < n) es → AreDistinct (es ++ y ∷ [])
distinct_push n [] y own d h = refl
distinct_push n (e ∷ es) y own d h =
    let p = and_parts (not (list_any (λ (b : Entry). e.object == b.object) es)) (all_distinct (λ (a b : Entry). a.object == b.object) es) d in
    let below = h.0 in
    let other : (e.object == y.object) ≡ false = ne_eqb e.object y.object (λ q. omega (arith, below, own, q)) in
    let apart : list_any (λ (b : Entry). e.object == b.object) (es ++ y ∷ []) ≡ false =
    list_any-append (λ (b : Entry). e.object == b.object) es (y ∷ [])
    ∙ or_from (list_any (λ (b : Entry). e.object == b.object) es) ((e.object == y.object) || false) (not-true (list_any (λ (b : Entry). e.object == b.object) es) p.0) (or_from (e.object == y.object) false other refl) in
    and_from (not (list_any (λ (b : Entry). e.object == b.object) (es ++ y ∷ []))) (all_distinct (λ (a b : Entry). a.object == b.object) (es ++ y ∷ []))
    (not_from_false (list_any (λ (b : Entry). e.object == b.object) (es ++ y ∷ [])) apart) (distinct_push n es y own p.1 h.1)

pub grown_push : (w : Work) (x : LiveObject) (e : Entry) → e.object ≡ length w.objects → All (λ (a : Entry). a.object < length w.objects) w.context → IsLinked w.objects x →
    HasGrown w (with_last x e w)
grown_push w x e own within links =
    record {
      count = let s = length-append w.objects (x ∷ []) in omega (arith, s);
      classes = λ n l. ap (λ (z : LiveObject). z.class) (get_or_append_left w.objects (x ∷ []) no_object n l);
      distinct = λ d. distinct_push (length w.objects) w.context e own d (recursion_from_All (λ (a : Entry). a.object < length w.objects) w.context within);
      linked = linked_push w.objects x links;
    }
