-- Works whose objects have other values and versions at most, and whose entries are of the same objects under the same keys: what
-- operations stand on holds of one as of the other.
use Rattle.std.proofs.Common.{◌≡◌, ◌≢◌, ◌∙◌, ◌⊎◌, inl, inr, ℕ, ◌<◌, ◌≤◌, List, [], ◌∷◌, map, length, get_or, refl, ap, sym, subst, arith}
use Rattle.std.specs.Prelude.{All, true, slice_set, ◌==◌, ◌||◌, ◌&&◌, not}
use Rattle.std.specs.List.{list_any}
use Rattle.std.proofs.lemmas.Bool.{cases_eq, cases_lt}
use Rattle.std.proofs.lemmas.List.{length-map, get_or-map, get_or-set_same, get_or-set_other, get_or_default, set_past}
use Rattle.jpa_value.specs.declared.value.Value.{Value}
use Rattle.jpa_model.specs.declared.unit.PersistenceUnit.{PersistenceUnit}
use Rattle.jpa_model.specs.Chains.{root_of, attributes_of, relations_of}
use Rattle.jpa_stored.specs.objects.Sets.{StoredSet, all_shaped, all_distinct}
use Rattle.jpa_work.specs.declared.heap.Held.{Held}
use Rattle.jpa_work.specs.declared.heap.LiveObject.{LiveObject}
use Rattle.jpa_work.specs.heap.Objects.{no_object, object_at, is_whole}
use Rattle.jpa_work.specs.heap.Shape.{HasShape}
use Rattle.jpa_work.specs.declared.context.Entry.{Entry}
use Rattle.jpa_work.specs.context.Indexed.{placed}
use Rattle.jpa_work.specs.context.Undo.{IsKeyed}
use Rattle.jpa_work.specs.context.Work.{Work, object}
use Rattle.jpa_operations.specs.fetch.Grown.{IsReady, IsLinked, objects_held}

-- ---- objects

pub record IsLike (x y : LiveObject) : Type 0 where
  pub class : y.class ≡ x.class
  pub key : y.key ≡ x.key
  pub relations : y.relations ≡ x.relations
  pub count : length y.values ≡ length x.values

pub like_none : (x : LiveObject) → IsLike x x
like_none x = record { class = refl; key = refl; relations = refl; count = refl }

pub like_twice : (x y z : LiveObject) → IsLike x y → IsLike y z → IsLike x z
like_twice x y z h g = record { class = g.class ∙ h.class; key = g.key ∙ h.key; relations = g.relations ∙ h.relations; count = g.count ∙ h.count }

like_shape : (m : PersistenceUnit) (x y : LiveObject) → IsLike x y → HasShape m x → HasShape m y
like_shape m x y h s =
    record {
      class = subst (λ c. c < length m.entities) (sym h.class) s.class;
      key = ap (λ (vs : List Value). length vs) h.key ∙ s.key ∙ ap (λ c. length (root_of m c).key) (sym h.class);
      values = h.count ∙ s.values ∙ ap (λ c. length (attributes_of m c)) (sym h.class);
      relations = ap (λ (hs : List Held). length hs) h.relations ∙ s.relations ∙ ap (λ c. length (relations_of m c)) (sym h.class);
    }

-- an object that another one like it takes the place of
pub like_set : (xs : List LiveObject) (n k : ℕ) (y : LiveObject) → IsLike (object_at xs n) y → IsLike (object_at xs k) (object_at (slice_set xs n y) k)
like_set xs n k y h = by (cases_eq k n) (cases_lt n (length xs))
  where
    by : (k ≡ n) ⊎ (k ≢ n) → (n < length xs) ⊎ (length xs ≤ n) → IsLike (object_at xs k) (object_at (slice_set xs n y) k)
    by (inr other) l = subst (IsLike (object_at xs k)) (sym (get_or-set_other xs n k y no_object other)) (like_none (object_at xs k))
    by (inl same) (inl l) =
        subst (λ i. IsLike (object_at xs i) (object_at (slice_set xs n y) i)) (sym same)
        (subst (IsLike (object_at xs n)) (sym (get_or-set_same xs n y no_object l)) h)
    by (inl same) (inr past) =
        subst (λ (os : List LiveObject). IsLike (object_at xs k) (object_at os k)) (sym (set_past xs n y past)) (like_none (object_at xs k))

-- ---- entries

-- entries that change, but not what stays of each
pub placed_map : (f : Entry → Entry) → ((e : Entry) → placed (f e) ≡ placed e) → (es : List Entry) → map placed (map f es) ≡ map placed es
placed_map f same [] = refl
placed_map f same (e ∷ es) = λ i. same e i ∷ placed_map f same es i

abbrev object_in : ℕ × List Value → ℕ
object_in p = p.0

-- what holds of what stays of each entry
moved : (P : ℕ × List Value → Type 0) (es us : List Entry) → map placed us ≡ map placed es → All (λ e. P (placed e)) es → All (λ e. P (placed e)) us
moved P es us same h k d l =
    let count : length us ≡ length es = sym (length-map us placed) ∙ ap (λ (ps : List (ℕ × List Value)). length ps) same ∙ length-map es placed in
    let within : k < length es = omega (arith, l, count) in
    subst P
    (sym (get_or-map placed es k d (placed d) within) ∙ ap (λ (ps : List (ℕ × List Value)). get_or ps k (placed d)) (sym same) ∙ get_or-map placed us k d (placed d) l)
    (h k d within)

any_by_name : (n : ℕ) (es : List Entry) → list_any (λ (b : Entry). n == b.object) es ≡ list_any (λ p. n == object_in p) (map placed es)
any_by_name n [] = refl
any_by_name n (e ∷ es) = ap (λ b. (n == e.object) || b) (any_by_name n es)

distinct_by_name : (es : List Entry) → all_distinct (λ (a b : Entry). a.object == b.object) es ≡ all_distinct (λ a b. object_in a == object_in b) (map placed es)
distinct_by_name [] = refl
distinct_by_name (e ∷ es) = λ i. not (any_by_name e.object es i) && distinct_by_name es i

-- ---- works

pub record IsAlike (w v : Work) : Type 0 where
  pub numbers : v.numbers ≡ w.numbers
  pub view : v.view ≡ w.view
  pub context : map placed v.context ≡ map placed w.context
  pub count : length v.objects ≡ length w.objects
  pub objects : (n : ℕ) → IsLike (object w n) (object v n)

pub alike_none : (w : Work) → IsAlike w w
alike_none w = record { numbers = refl; view = refl; context = refl; count = refl; objects = λ n. like_none (object w n) }

pub alike_twice : (u w v : Work) → IsAlike u w → IsAlike w v → IsAlike u v
alike_twice u w v h g =
    record {
      numbers = g.numbers ∙ h.numbers;
      view = g.view ∙ h.view;
      context = g.context ∙ h.context;
      count = g.count ∙ h.count;
      objects = λ n. like_twice (object u n) (object w n) (object v n) (h.objects n) (g.objects n);
    }

-- entries change
pub alike_entries : (w : Work) (es : List Entry) → map placed es ≡ map placed w.context → IsAlike w (record w { context = es })
alike_entries w es same = record { numbers = refl; view = refl; context = same; count = refl; objects = λ n. like_none (object w n) }

-- what holds of each object
each_object : (w v : Work) (P Q : LiveObject → Type 0) → IsAlike w v → ((x y : LiveObject) → IsLike x y → P x → Q y) → All P w.objects → All Q v.objects
each_object w v P Q h f all k d l =
    let within : k < length w.objects = omega (arith, l, h.count) in
    subst Q (get_or_default v.objects k no_object d l) (f (object w k) (object v k) (h.objects k) (all k no_object within))

like_linked : (objects after : List LiveObject) (x y : LiveObject) → length after ≡ length objects → IsLike x y → IsLinked objects x → IsLinked after y
like_linked objects after x y count h l =
    subst (λ (hs : List Held). All (λ held. All (λ k. k < length after) (objects_held held)) hs) (sym h.relations)
    (subst (λ n. All (λ held. All (λ k. k < n) (objects_held held)) x.relations) (sym count) l)

record IsNamed (objects : List LiveObject) (p : ℕ × List Value) : Type 0 where
  same : (object_at objects p.0).key ≡ p.1
  whole : is_whole p.1 ≡ true

pub alike_ready : (m : PersistenceUnit) (w v : Work) → IsAlike w v → IsReady m w → IsReady m v
alike_ready m w v h r =
    record {
      placed =
          record {
            objects = each_object w v (HasShape m) (HasShape m) h (like_shape m) r.placed.objects;
            entries = moved (λ p. object_in p < length v.objects) w.context v.context h.context
                (subst (λ n. All (λ (e : Entry). e.object < n) w.context) (sym h.count) r.placed.entries);
            keyed = keyed;
            numbers = ap (λ (ns : List ℕ). length ns) h.numbers ∙ r.placed.numbers;
            view = ap (λ (s : StoredSet). all_shaped m s) h.view ∙ r.placed.view;
          };
      linked = each_object w v (IsLinked w.objects) (IsLinked v.objects) h (λ x y l. like_linked w.objects v.objects x y h.count l) r.linked;
      distinct = distinct_by_name v.context ∙ ap (all_distinct (λ a b. object_in a == object_in b)) h.context ∙ sym (distinct_by_name w.context) ∙ r.distinct;
    }
  where
    named : (e : Entry) → IsKeyed w.objects e → IsNamed v.objects (placed e)
    named e k = record { same = (h.objects e.object).key ∙ k.same; whole = k.whole }

    keyed : All (IsKeyed v.objects) v.context
    keyed k d l =
        let n = moved (IsNamed v.objects) w.context v.context h.context (λ i d' l'. named (get_or w.context i d') (r.placed.keyed i d' l')) k d l in
        record { same = n.same; whole = n.whole }
