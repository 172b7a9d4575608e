-- How a work goes on from another, where objects live otherwise, and entries change or enter.
use Rattle.std.proofs.Common.{◌≡◌, ◌<◌, ◌≤◌, ℕ, Bool, true, false, List, [], ◌∷◌, ◌++◌, length, refl, sym, subst, ◌∙◌, arith}
use Rattle.std.specs.Prelude.{All, not, ◌==◌, ◌||◌, if◌then◌else◌, Option, None}
use Rattle.std.specs.List.{AllByRecursion, list_any}
use Rattle.std.proofs.lemmas.Bool.{and_parts, and_from, or_from, not-true, not_from_false}
use Rattle.std.proofs.lemmas.List.Elements.{All-get_or, All-push}
use Rattle.std.proofs.lemmas.List.Folds.{list_any-append}
use Rattle.jpa_model.specs.declared.unit.PersistenceUnit.{PersistenceUnit}
use Rattle.jpa_stored.specs.objects.Sets.{all_distinct}
use Rattle.jpa_work.specs.declared.heap.Held.{Held}
use Rattle.jpa_work.specs.declared.heap.Link.{Link}
use Rattle.jpa_work.specs.declared.heap.Collection.{Collection}
use Rattle.jpa_work.specs.declared.heap.Life.{Life}
use Rattle.jpa_work.specs.declared.heap.LiveObject.{LiveObject}
use Rattle.jpa_work.specs.heap.Objects.{no_object, is_whole, with_life}
use Rattle.jpa_work.specs.heap.Shape.{HasShape}
use Rattle.jpa_work.specs.declared.context.Base.{Base}
use Rattle.jpa_work.specs.declared.context.Entry.{Entry}
use Rattle.jpa_work.specs.declared.context.Lock.{Lock}
use Rattle.jpa_work.specs.context.Undo.{IsKeyed, IsPlaced}
use Rattle.jpa_work.specs.context.Work.{Work, object, entered, with_life_of, with_base}
use Rattle.jpa_cascade.specs.declared.Node.{Node}
use Rattle.jpa_cascade.specs.There.{HoldsWithin, IsThere, AreLinked as HoldWithin}
use Rattle.jpa_operations.specs.fetch.Grown.{AreLinked, HasGrown, IsLinked, IsReady, objects_held, GoesOn}
use Rattle.jpa_operations.proofs.fetch.Grown.{grown_map, grown_none, grown_on, grown_set, placed_map, placed_set, ready_on}

pub from_itself : (m : PersistenceUnit) (w : Work) → IsReady m w → GoesOn m w w
from_itself m w h = record { ready = h; grown = grown_none w }

pub from_on : (m : PersistenceUnit) (u w v : Work) → GoesOn m u w → IsPlaced m v → HasGrown w v → GoesOn m u v
from_on m u w v h placed grown = record { ready = ready_on m w v h.ready placed grown; grown = grown_on u w v h.grown grown }

-- ---- nodes of a cascade

held_within : (count : ℕ) (held : Held) → All (λ k. k < count) (objects_held held) → HoldsWithin count held
held_within count (Held.One Link.None) h = tt
held_within count (Held.One (Link.Object k)) h = h 0 k (omega arith)
held_within count (Held.One (Link.Key id)) h = tt
held_within count (Held.Many (Collection.Fetched ks)) h = h
held_within count (Held.Many Collection.Unfetched) h = tt

-- what a cascade goes along stands in the heap
pub linked_within : (objects : List LiveObject) → AreLinked objects → HoldWithin objects
linked_within objects h i d l r e k = held_within (length objects) _ (h i d l r e k)

-- a node that was there is there still
pub there_still : (w v : Work) (x : Node) → length w.objects ≤ length v.objects → v.view ≡ w.view → IsThere w x → IsThere v x
there_still w v (Node.Live n) more view l = omega (arith, more, l)
there_still w v (Node.Bare id) more view h = subst (λ s. IsThere (record w { view = s }) (Node.Bare id)) (sym view) h

-- ---- an object lives otherwise

-- it holds what the object held
pub links_same : (w : Work) (n : ℕ) (y : LiveObject) → y.relations ≡ (object w n).relations → n < length w.objects → AreLinked w.objects → IsLinked w.objects y
links_same w n y same l h =
    subst (λ (held : List Held). All (λ t. All (λ k. k < length w.objects) (objects_held t)) held) (sym same) (All-get_or (IsLinked w.objects) w.objects n no_object l h)

pub placed_life : (m : PersistenceUnit) (w : Work) (n : ℕ) (life : Life) → IsPlaced m w → n < length w.objects → IsPlaced m (with_life_of n life w)
placed_life m w n life h l =
    let s = All-get_or (HasShape m) w.objects n no_object l h.objects in
    placed_set m w n (with_life (object w n) life) h l (record { class = s.class; key = s.key; values = s.values; relations = s.relations }) refl

pub grown_life : (w : Work) (n : ℕ) (life : Life) → n < length w.objects → HasGrown w (with_life_of n life w)
grown_life w n life l = grown_set w n (with_life (object w n) life) refl l (links_same w n (with_life (object w n) life) refl l)

-- ---- an entry has another base

rebased_object : (b : Option Base) (e : Entry) (t : Bool) → (if t then record e { base = b } else e).object ≡ e.object
rebased_object b e true = refl
rebased_object b e false = refl

rebased_key : (b : Option Base) (e : Entry) (t : Bool) → (if t then record e { base = b } else e).key ≡ e.key
rebased_key b e true = refl
rebased_key b e false = refl

pub placed_base : (m : PersistenceUnit) (w : Work) (n : ℕ) (b : Option Base) → IsPlaced m w → IsPlaced m (with_base n b w)
placed_base m w n b h = placed_map m w (λ e. if e.object == n then record e { base = b } else e) (λ e. rebased_object b e (e.object == n)) (λ e. rebased_key b e (e.object == n)) h

pub grown_base : (w : Work) (n : ℕ) (b : Option Base) → HasGrown w (with_base n b w)
grown_base w n b = grown_map w (λ e. if e.object == n then record e { base = b } else e) (λ e. rebased_object b e (e.object == n))

-- ---- an object enters the context

pub placed_entered : (m : PersistenceUnit) (w : Work) (n : ℕ) → IsPlaced m w → n < length w.objects → is_whole (object w n).key ≡ true → IsPlaced m (entered n w)
placed_entered m w n h l whole =
    let e : Entry = record { object = n; key = (object w n).key; lock = Lock.Unlocked; base = None } in
    record {
      objects = h.objects;
      entries = All-push (λ (a : Entry). a.object < length w.objects) w.context e h.entries l;
      keyed = All-push (IsKeyed w.objects) w.context e h.keyed (record { same = refl; whole = whole });
      numbers = h.numbers;
      view = h.view;
    }

-- one more at the end that is apart from each
pub distinct_push : {A : Type 0} (f : A → A → Bool) (xs : List A) (y : A) → all_distinct f xs ≡ true → AllByRecursion (λ x. f x y ≡ false) xs → all_distinct f (xs ++ y ∷ []) ≡ true
distinct_push f [] y d h = refl
distinct_push f (x ∷ xs) y d h =
    let p = and_parts (not (list_any (f x) xs)) (all_distinct f xs) d in
    let apart : list_any (f x) (xs ++ y ∷ []) ≡ false =
    list_any-append (f x) xs (y ∷ []) ∙ or_from (list_any (f x) xs) (f x y || false) (not-true (list_any (f x) xs) p.0) (or_from (f x y) false h.0 refl) in
    and_from (not (list_any (f x) (xs ++ y ∷ []))) (all_distinct f (xs ++ y ∷ [])) (not_from_false (list_any (f x) (xs ++ y ∷ [])) apart) (distinct_push f xs y p.1 h.1)

pub grown_entered : (w : Work) (n : ℕ) → AllByRecursion (λ (e : Entry). (e.object == n) ≡ false) w.context → HasGrown w (entered n w)
grown_entered w n apart =
    record {
      count = omega arith;
      classes = λ k l. refl;
      distinct = λ d. distinct_push (λ (a b : Entry). a.object == b.object) w.context (record { object = n; key = (object w n).key; lock = Lock.Unlocked; base = None }) d apart;
      linked = λ k. k;
    }
