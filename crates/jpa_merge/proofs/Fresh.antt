-- A fresh image: it has the shape of its class and holds nothing, and operations stand on a work in which it is managed.
use Rattle.std.proofs.Common.{◌≡◌, ◌∙◌, ◌<◌, ◌≤◌, ℕ, suc, ℤ, Bool, true, false, List, [], ◌∷◌, ◌++◌, length, refl, ap, sym, subst, arith, Option, Some, None}
use Rattle.std.specs.Prelude.{is_some, nat_lt}
use Rattle.std.proofs.lemmas.Bool.{le-ltb, lt-ltb, true≢false}
use Rattle.std.proofs.lemmas.List.{length-append, length-map, get_or_append_left, get_or_push}
use Rattle.std.proofs.lemmas.List.Elements.{All-get_or, All-push, All-weaker, All-map}
use Rattle.jpa_value.specs.Limits.{most_objects}
use Rattle.jpa_value.specs.declared.value.Value.{Value}
use Rattle.jpa_value.specs.declared.refusal.Cause.{Cause}
use Rattle.jpa_protocol.specs.declared.event.Told.{Told}
use Rattle.jpa_model.specs.declared.unit.PersistenceUnit.{PersistenceUnit}
use Rattle.jpa_model.specs.declared.unit.Relation.{Relation}
use Rattle.jpa_model.specs.Chains.{attributes_of, is_to_one, relations_of, root_of}
use Rattle.jpa_behaviour.specs.Behaviour.{World}
use Rattle.jpa_work.specs.declared.heap.LiveObject.{LiveObject}
use Rattle.jpa_work.specs.heap.Objects.{empty_held, new_object, no_object}
use Rattle.jpa_work.specs.heap.Shape.{HasShape}
use Rattle.jpa_work.specs.declared.context.Entry.{Entry}
use Rattle.jpa_work.specs.context.Steps.{◌>>◌, Done, Op, Outcome, Refused, after, change, give, require, IsRefusedAs}
use Rattle.jpa_work.specs.context.Undo.{IsPlaced}
use Rattle.jpa_work.specs.context.Work.{Work, object}
use Rattle.jpa_operations.specs.fetch.Grown.{HasGrown, IsLinked, IsReady}
use Rattle.jpa_operations.specs.fetch.Load.{made}
use Rattle.jpa_operations.proofs.fetch.Grown.{HoldsWithin, keyed_push, linked_push, ready_on}
use Rattle.jpa_operations.specs.ops.States.{become_managed}
use Rattle.jpa_operations.proofs.ops.Refused.{refused_after}
use Rattle.jpa_merge.specs.declared.images.NodeImage.{NodeImage}
use Rattle.jpa_merge.specs.Imaged.{IsImaged}
use Rattle.jpa_merge.specs.Merge.{fresh_image, fresh_object, image_key, is_unset}

key_length : (b : Bool) (copied unset : List Value) (n : ℕ) → length copied ≡ n → length unset ≡ n → length (image_key b copied unset) ≡ n
key_length true copied unset n c u = u
key_length false copied unset n c u = c

fresh_shape : (m : PersistenceUnit) (x : LiveObject) → HasShape m x → HasShape m (fresh_object m x)
fresh_shape m x h =
    record {
      class = h.class;
      key = key_length (root_of m x.class).generated x.key (new_object m x.class).key _ h.key (length-map (root_of m x.class).key _);
      values = length-map (attributes_of m x.class) _;
      relations = length-map (relations_of m x.class) _;
    }

none_held : (count : ℕ) (b : Bool) → HoldsWithin count (empty_held b)
none_held count true = λ i d l. absurd (omega (arith, l))
none_held count false = λ i d l. absurd (omega (arith, l))

fresh_links : (m : PersistenceUnit) (os : List LiveObject) (x : LiveObject) → IsLinked os (fresh_object m x)
fresh_links m os x =
    All-map (HoldsWithin (length os)) (λ (r : Relation). empty_held (is_to_one r.side)) (relations_of m x.class) (λ i d l. none_held (length os) (is_to_one _))

-- ---- an object without an entry is added

pushed_placed : (m : PersistenceUnit) (w : Work) (x : LiveObject) → IsPlaced m w → HasShape m x → IsPlaced m (made x w)
pushed_placed m w x h shape =
    let ps = w.objects ++ x ∷ [] in
    let count = length-append w.objects (x ∷ []) in
    record {
      objects = All-push (HasShape m) w.objects x h.objects shape;
      entries = All-weaker (λ (a : Entry). a.object < length w.objects) (λ a. a.object < length ps) (λ a l. omega (arith, l, count)) w.context h.entries;
      keyed = keyed_push w.objects x w.context h.entries h.keyed;
      numbers = h.numbers;
      view = h.view;
    }

pushed_grown : (w : Work) (x : LiveObject) → IsLinked w.objects x → HasGrown w (made x w)
pushed_grown w x links =
    record {
      count = let s = length-append w.objects (x ∷ []) in omega (arith, s);
      classes = λ n l. ap (λ (z : LiveObject). z.class) (get_or_append_left w.objects (x ∷ []) no_object n l);
      distinct = λ d. d;
      linked = linked_push w.objects x links;
    }

module _ (m : PersistenceUnit) (w : Work) (n : ℕ) (ready : IsReady m w) (l : n < length w.objects) where
  pub fresh_grown : HasGrown w (made (fresh_object m (object w n)) w)
  fresh_grown = pushed_grown w (fresh_object m (object w n)) (fresh_links m w.objects (object w n))

  pub fresh_ready : IsReady m (made (fresh_object m (object w n)) w)
  fresh_ready =
      let shape = fresh_shape m (object w n) (All-get_or (HasShape m) w.objects n no_object l (ready.placed).objects) in
      ready_on m w (made (fresh_object m (object w n)) w) ready (pushed_placed m w (fresh_object m (object w n)) ready.placed shape) fresh_grown

-- it is of the class of its node
fresh_class : (m : PersistenceUnit) (w : Work) (n : ℕ) → (object (made (fresh_object m (object w n)) w) (length w.objects)).class ≡ (object w n).class
fresh_class m w n = ap (λ (z : LiveObject). z.class) (get_or_push w.objects (fresh_object m (object w n)) no_object (length w.objects) refl)

-- what a change leaves
abbrev left_by : Work → Outcome (Unit {0}) → Work
left_by w (Done a v) = v
left_by w (Refused r events) = w

pub changed : (f : Work → Work) (w v : Work) → change f w ≡ Done tt v → v ≡ f w
changed f w v done = sym (ap (left_by w) done)

-- ---- it becomes managed

no_version : (v : Option ℤ) → is_some v ≡ false → is_unset v ≡ true
no_version None e = refl
no_version (Some v) e = absurd (true≢false e)

a_version : (v : Option ℤ) → is_some v ≡ true → is_unset v ≡ false
a_version None e = absurd (true≢false (sym e))
a_version (Some v) e = refl

-- what is left to do where there is room
abbrev with_room : World → ℕ → ℕ → Op NodeImage
with_room world n k = change (λ w. made (fresh_object world.model (object w n)) w) >> (become_managed world k >> give (record { node = n; image = k; fresh = true }))

abbrev where_unset : World → ℕ → Op NodeImage
where_unset world n w = after (require (nat_lt (length w.objects) most_objects) Cause.Limit w) (λ _. with_room world n (length w.objects))

pub fresh_versioned : (world : World) (n : ℕ) (w : Work) → is_some (object w n).version ≡ true → fresh_image world n w ≡ Refused Cause.OptimisticLock w.events
fresh_versioned world n w some = ap (λ b. after (require b Cause.OptimisticLock w) (λ _. where_unset world n)) (a_version (object w n).version some)

module _ (world : World) (n : ℕ) (w : Work) (none : is_some (object w n).version ≡ false) where
  unversioned : fresh_image world n w ≡ where_unset world n w
  unversioned = ap (λ b. after (require b Cause.OptimisticLock w) (λ _. where_unset world n)) (no_version (object w n).version none)

  pub fresh_full : (k : ℕ) → k ≡ length w.objects → most_objects ≤ k → fresh_image world n w ≡ Refused Cause.Limit w.events
  fresh_full k place full =
      unversioned
      ∙ ap (λ b. after (require b Cause.Limit w) (λ _. with_room world n (length w.objects))) (le-ltb (length w.objects) most_objects (subst (λ i. most_objects ≤ i) place full))

  module _ (k : ℕ) (u : Work) (place : k ≡ length w.objects) (room : k < most_objects) (pushed : u ≡ made (fresh_object world.model (object w n)) w) where
    becoming : fresh_image world n w ≡ after (become_managed world k u) (λ _. give (record { node = n; image = k; fresh = true }))
    becoming =
        unversioned
        ∙ ap (λ b. after (require b Cause.Limit w) (λ _. with_room world n (length w.objects))) (lt-ltb (length w.objects) most_objects (subst (λ i. i < most_objects) place room))
        ∙ (λ i. after (become_managed world (sym place i) (sym pushed i)) (λ _. give (record { node = n; image = sym place i; fresh = true })))

    pub fresh_done : (v : Work) → become_managed world k u ≡ Done tt v → fresh_image world n w ≡ Done (record { node = n; image = k; fresh = true }) v
    fresh_done v done = becoming ∙ ap (λ o. after o (λ _. give (record { node = n; image = k; fresh = true }))) done

    pub fresh_refused : (r : Cause) (events : List Told) → IsRefusedAs r events (become_managed world k u) → IsRefusedAs r events (fresh_image world n w)
    fresh_refused r events h =
        subst (IsRefusedAs r events) (sym becoming) (refused_after r events (become_managed world k u) (λ _. give (record { node = n; image = k; fresh = true })) h)

-- the image is of the class of its node
pub fresh_imaged : (m : PersistenceUnit) (w u v : Work) (n k : ℕ) → n < length w.objects → k ≡ length w.objects → u ≡ made (fresh_object m (object w n)) w → HasGrown u v → IsImaged v (record { node = n; image = k; fresh = true })
fresh_imaged m w u v n k l place pushed grown =
    let x = fresh_object m (object w n) in
    let count : length u.objects ≡ suc (length w.objects) = ap (λ (z : Work). length z.objects) pushed ∙ length-append w.objects (x ∷ []) ∙ omega arith in
    let more = grown.count in
    let own : (object u k).class ≡ (object w n).class = (λ i. (object (pushed i) (place i)).class) ∙ fresh_class m w n in
    let node : (object u n).class ≡ (object w n).class = ap (λ (z : Work). (object z n).class) pushed ∙ ap (λ (z : LiveObject). z.class) (get_or_append_left w.objects (x ∷ []) no_object n l) in
    record {
      node = omega (arith, l, count, more);
      image = omega (arith, place, count, more);
      class =
          grown.classes k (omega (arith, place, count)) ∙ own ∙ sym node ∙ sym (grown.classes n (omega (arith, l, count)));
    }
