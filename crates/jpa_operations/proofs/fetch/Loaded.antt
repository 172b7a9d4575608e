-- What loading does to a work.
use Rattle.jpa_value.specs.Limits.{most_objects}
use Rattle.std.proofs.Common.{◌≡◌, ◌<◌, ℕ, Bool, true, false, List, [], ◌∷◌, ◌++◌, length, map, refl, ap, sym, subst, ◌∙◌, arith}
use Rattle.std.specs.Prelude.{All, nat_lt, not, Option, Some, None, ◌==◌, ◌&&◌, if◌then◌else◌, is_some}
use Rattle.std.specs.List.{AllByRecursion, enumerate_from}
use Rattle.std.specs.Option.{unwrap_or}
use Rattle.std.specs.Ordering.{is_eq}
use Rattle.std.specs.Cmp.{Equal-is}
use Rattle.std.specs.FinMap.Entries.{find as entry_found}
use Rattle.std.proofs.lemmas.List.{get_or_push, length-append, length-map}
use Rattle.std.proofs.lemmas.List.FromFn.{length-enumerate_from}
use Rattle.std.proofs.lemmas.List.Elements.{All-from_recursion, All-map, All-nil, recursion_from_All}
use Rattle.std.proofs.lemmas.Bool.{true≢false, false≢true, ltb-true, lt-ltb, eq-eqb, ne_eqb, and_parts, and_from}
use Rattle.jpa_value.specs.declared.value.Identity.{Identity}
use Rattle.jpa_value.specs.declared.value.Value.{Value}
use Rattle.jpa_value.specs.declared.refusal.Cause.{Cause}
use Rattle.jpa_value.specs.declared.event.LifecycleEvent.{LifecycleEvent}
use Rattle.jpa_value.specs.Value.{identity_cmp, fits, is_null}
use Rattle.jpa_value.proofs.Orders.{identity_exact}
use Rattle.jpa_model.specs.declared.unit.PersistenceUnit.{PersistenceUnit}
use Rattle.jpa_model.specs.declared.unit.Part.{Part}
use Rattle.jpa_model.specs.declared.unit.Relation.{Relation}
use Rattle.jpa_model.specs.Chains.{attributes_of, relations_of, root_of, is_to_one}
use Rattle.jpa_behaviour.specs.Behaviour.{World}
use Rattle.jpa_stored.specs.declared.objects.stored.Stored.{Stored}
use Rattle.jpa_stored.specs.objects.Sets.{StoredSet, stored_at, all_shaped, is_shaped, is_identity_of, is_key_of, version_there, each_fits, members}
use Rattle.jpa_work.specs.declared.heap.LiveObject.{LiveObject}
use Rattle.jpa_work.specs.heap.Objects.{no_object, is_whole}
use Rattle.jpa_work.specs.heap.Shape.{HasShape}
use Rattle.jpa_work.specs.declared.context.Base.{Base}
use Rattle.jpa_work.specs.declared.context.Lock.{Lock}
use Rattle.jpa_work.specs.declared.context.Entry.{Entry}
use Rattle.jpa_protocol.specs.declared.event.Told.{Told}
use Rattle.jpa_work.specs.context.Steps.{◌>>◌, Op, Outcome, Done, after, change, give, require, IsRefusedAs}
use Rattle.jpa_work.specs.context.Undo.{IsPlaced}
use Rattle.jpa_work.specs.context.Work.{Work, object, row, entered, with_base}
use Rattle.jpa_lifecycle.specs.Callbacks.{callback}
use Rattle.jpa_lifecycle.proofs.Keeps.{happened}
use Rattle.jpa_operations.specs.fetch.Grown.{HasGrown, IsLinked}
use Rattle.jpa_operations.specs.fetch.Load.{held_from, held_loaded, known, unread, members_loaded, object_loaded, base_loaded, made, load}
use Rattle.jpa_operations.proofs.fetch.Grown.{HoldsWithin, with_last, placed_push, grown_push, placed_happened, grown_happened, grown_on}

-- ---- a row of a shaped set

found_shaped : (m : PersistenceUnit) (id : Identity) (x : Stored) (e : Identity × Stored) (o : Option Stored) (b : Bool) → is_eq (identity_cmp id e.0) ≡ b → (o ≡ Some x → is_shaped m id x ≡ true) →
    is_shaped m e.0 e.1 ≡ true → (if b then Some e.1 else o) ≡ Some x → is_shaped m id x ≡ true
found_shaped m id x e o true t k h g =
    let same : id ≡ e.0 = identity_exact id e.0 ((Equal-is (identity_cmp id e.0)).0 t) in
    subst (λ i. is_shaped m i x ≡ true) (sym same) (subst (λ y. is_shaped m e.0 y ≡ true) (ap (λ o'. unwrap_or o' x) g) h)
found_shaped m id x e o false t k h g = k g

row_shaped : (m : PersistenceUnit) (s : StoredSet) (id : Identity) (x : Stored) → all_shaped m s ≡ true → stored_at s id ≡ Some x → is_shaped m id x ≡ true
row_shaped m [] id x h e = absurd (true≢false (sym (ap is_some e)))
row_shaped m (y ∷ ys) id x h e =
    let a = and_parts (is_shaped m y.0 y.1) (all_shaped m ys) h in
    found_shaped m id x y (entry_found identity_cmp id ys) (is_eq (identity_cmp id y.0)) refl (row_shaped m ys id x a.1) a.0 e

-- a row of a shaped set is of a class of the unit
pub row_class : (m : PersistenceUnit) (s : StoredSet) (id : Identity) (x : Stored) → all_shaped m s ≡ true → stored_at s id ≡ Some x → x.class < length m.entities
row_class m s id x h e = ltb-true x.class (length m.entities) (and_parts (nat_lt x.class (length m.entities)) _ (row_shaped m s id x h e)).0

-- ---- a row as an object

-- what fits part by part has as many parts
each_fits_length : {A B : Type 0} (f : A → B → Bool) (xs : List A) (ys : List B) → each_fits f xs ys ≡ true → length xs ≡ length ys
each_fits_length f [] [] h = refl
each_fits_length f [] (y ∷ ys) h = absurd (false≢true h)
each_fits_length f (x ∷ xs) [] h = absurd (false≢true h)
each_fits_length f (x ∷ xs) (y ∷ ys) h = let l = each_fits_length f xs ys (and_parts (f x y) (each_fits f xs ys) h).1 in omega (arith, l)

there : (fit null : Bool) → fit && not null ≡ true → not null ≡ true
there true null h = h
there false null h = absurd (false≢true h)

-- a key of a root has no part that is null
key_is_whole : (ps : List Part) (vs : List Value) → each_fits (λ (part : Part) v. fits part.kind v && not (is_null v)) ps vs ≡ true → is_whole vs ≡ true
key_is_whole [] [] h = refl
key_is_whole [] (v ∷ vs) h = absurd (false≢true h)
key_is_whole (p ∷ ps) [] h = absurd (false≢true h)
key_is_whole (p ∷ ps) (v ∷ vs) h =
    let a = and_parts (fits p.kind v && not (is_null v)) (each_fits (λ (part : Part) u. fits part.kind u && not (is_null u)) ps vs) h in
    and_from (not (is_null v)) (is_whole vs) (there (fits p.kind v) (is_null v) a.0) (key_is_whole ps vs a.1)

-- what an object holds is read off its base
held_as_known : (b : Bool) (ids : List Identity) → unread b ids ≡ held_from (known b ids)
held_as_known true ids = refl
held_as_known false ids = refl

pub held_by_base : (m : PersistenceUnit) (s : StoredSet) (id : Identity) (x : Stored) → map held_from (members_loaded m s id x) ≡ held_loaded m s id x
held_by_base m s id x = by (enumerate_from 0 (relations_of m x.class))
  where
    by : (ps : List (ℕ × Relation)) → map held_from (map (λ (p : ℕ × Relation). known (is_to_one (p.1).side) (members m s id x p.0)) ps) ≡ map (λ (p : ℕ × Relation). unread (is_to_one (p.1).side) (members m s id x p.0)) ps
    by [] = refl
    by (p ∷ ps) = λ i. sym (held_as_known (is_to_one (p.1).side) (members m s id x p.0)) i ∷ by ps i

-- it has the shape of its class, and its key is whole
pub loaded_shape : (m : PersistenceUnit) (s : StoredSet) (manager : ℕ) (id : Identity) (x : Stored) → all_shaped m s ≡ true → stored_at s id ≡ Some x →
    HasShape m (object_loaded m manager s id x) × (is_whole id.key ≡ true)
loaded_shape m s manager id x h e =
    let a = and_parts (nat_lt x.class (length m.entities)) _ (row_shaped m s id x h e) in
    let b = and_parts (is_identity_of (root_of m x.class) id) _ a.1 in
    let c = and_parts (id.table == (root_of m x.class).table) (is_key_of (root_of m x.class) id.key) b.0 in
    let d = and_parts (version_there (root_of m x.class).version x.version) _ b.1 in
    let f = and_parts (each_fits (λ at v. fits at.kind v) (attributes_of m x.class) x.values) _ d.1 in
    let enumerated = enumerate_from 0 (relations_of m x.class) in (
      record {
        class = ltb-true x.class (length m.entities) a.0;
        key = sym (each_fits_length _ (root_of m x.class).key id.key c.1);
        values = sym (each_fits_length _ (attributes_of m x.class) x.values f.0);
        relations = length-map enumerated (λ (p : ℕ × Relation). unread (is_to_one (p.1).side) (members m s id x p.0)) ∙ length-enumerate_from 0 (relations_of m x.class);
      },
      key_is_whole (root_of m x.class).key id.key c.1,
    )

-- it holds no object yet
unread_within : (count : ℕ) (b : Bool) (ids : List Identity) → HoldsWithin count (unread b ids)
unread_within count true [] = All-nil (λ k. k < count)
unread_within count true (id ∷ ids) = All-nil (λ k. k < count)
unread_within count false ids = All-nil (λ k. k < count)

pub loaded_links : (m : PersistenceUnit) (s : StoredSet) (manager : ℕ) (id : Identity) (x : Stored) (os : List LiveObject) → IsLinked os (object_loaded m manager s id x)
loaded_links m s manager id x os =
    let count = length os in
    let enumerated = enumerate_from 0 (relations_of m x.class) in
    let Holds : ℕ × Relation → Type 0 = λ p. HoldsWithin count (unread (is_to_one (p.1).side) (members m s id x p.0)) in
    All-map (HoldsWithin count) (λ (p : ℕ × Relation). unread (is_to_one (p.1).side) (members m s id x p.0)) enumerated
    (All-from_recursion Holds enumerated (each enumerated))
  where
    each : (ps : List (ℕ × Relation)) → AllByRecursion (λ (p : ℕ × Relation). HoldsWithin (length os) (unread (is_to_one (p.1).side) (members m s id x p.0))) ps
    each [] = tt
    each (p ∷ ps) = (unread_within (length os) (is_to_one (p.1).side) (members m s id x p.0), each ps)

-- ---- an object with its base enters

other_place : (b : Option Base) (x : Entry) (t : Bool) → t ≡ false → (if t then record x { base = b } else x) ≡ x
other_place b x true e = absurd (true≢false e)
other_place b x false e = refl

own_place : (b : Option Base) (x : Entry) (t : Bool) → t ≡ true → (if t then record x { base = b } else x) ≡ record x { base = b }
own_place b x true e = refl
own_place b x false e = absurd (true≢false (sym e))

based : (n : ℕ) (b : Option Base) (xs : List Entry) (y : Entry) → AllByRecursion (λ (e : Entry). e.object < n) xs → (y.object == n) ≡ true →
    map (λ (e : Entry). if e.object == n then record e { base = b } else e) (xs ++ y ∷ []) ≡ xs ++ record y { base = b } ∷ []
based n b [] y h e = ap (λ (x : Entry). x ∷ []) (own_place b y (y.object == n) e)
based n b (x ∷ xs) y h e =
    let below : x.object < n = h.0 in
    (λ i. other_place b x (x.object == n) (ne_eqb x.object n (λ same. omega (arith, below, same))) i ∷ based n b xs y h.1 e i)

-- no entry before it has its place
entered_based : (n : ℕ) (b : Option Base) (w : Work) → All (λ (e : Entry). e.object < n) w.context →
    with_base n b (entered n w) ≡ record w { context = w.context ++ record { object = n; key = (object w n).key; lock = Lock.Unlocked; base = b } ∷ [] }
entered_based n b w h = ap (λ (es : List Entry). record w { context = es }) (based n b w.context (record { object = n; key = (object w n).key; lock = Lock.Unlocked; base = None }) (recursion_from_All _ w.context h) (eq-eqb n n refl))

-- ---- load

abbrev pub entry_loaded : PersistenceUnit → StoredSet → Identity → Stored → ℕ → Entry
entry_loaded m s id x n = record { object = n; key = id.key; lock = Lock.Unlocked; base = Some (base_loaded m s id x) }

abbrev pub with_row : PersistenceUnit → Identity → Stored → Work → Work
with_row m id x w = with_last (object_loaded m w.manager w.view id x) (entry_loaded m w.view id x (length w.objects)) w

entered_row : (m : PersistenceUnit) (id : Identity) (x : Stored) (w : Work) → All (λ (e : Entry). e.object < length w.objects) w.context →
    with_base (length w.objects) (Some (base_loaded m w.view id x)) (entered (length w.objects) (made (object_loaded m w.manager w.view id x) w)) ≡ with_row m id x w
entered_row m id x w h =
    let n = length w.objects in
    let own = object_loaded m w.manager w.view id x in
    let b = base_loaded m w.view id x in
    entered_based n (Some b) (made own w) h
    ∙ ap (λ (y : LiveObject). record (made own w) { context = w.context ++ record { object = n; key = y.key; lock = Lock.Unlocked; base = Some b } ∷ [] }) (get_or_push w.objects own no_object n refl)

-- what load does once there is room
abbrev entering : World → Identity → Stored → ℕ → Op ℕ
entering world id x n =
    change (λ w. with_base n (Some (base_loaded world.model w.view id x)) (entered n (made (object_loaded world.model w.manager w.view id x) w)))
    >> (callback world LifecycleEvent.PostLoad n >> give n)

-- where there is room, the row is entered and PostLoad told
loads : (world : World) (id : Identity) (x : Stored) (w : Work) → All (λ (e : Entry). e.object < length w.objects) w.context → length w.objects < most_objects →
    load world id x w ≡ after (callback world LifecycleEvent.PostLoad (length w.objects) (with_row world.model id x w)) (λ _. give (length w.objects))
loads world id x w h room =
    ap (λ b. after (require b Cause.Limit w) (λ _. entering world id x (length w.objects))) (lt-ltb (length w.objects) most_objects room)
    ∙ ap (λ w'. after (callback world LifecycleEvent.PostLoad (length w.objects) w') (λ _. give (length w.objects))) (entered_row world.model id x w h)

-- the work took the row and its entry
pub record IsEntered (m : PersistenceUnit) (id : Identity) (x : Stored) (w : Work) (n : ℕ) (u : Work) : Type 0 where
  pub place : n ≡ length w.objects
  pub room : n < most_objects
  pub work : u ≡ with_row m id x w

pub entered_by : (m : PersistenceUnit) (id : Identity) (x : Stored) (w : Work) (n : ℕ) (object : LiveObject) (key : List Value) (base : Base) (objects : List LiveObject) (context : List Entry) →
    n ≡ length w.objects → n < most_objects → key ≡ id.key → object ≡ object_loaded m w.manager w.view id x → base ≡ base_loaded m w.view id x → objects ≡ w.objects ++ object ∷ [] →
    context ≡ w.context ++ record { object = n; key = key; lock = Lock.Unlocked; base = Some base } ∷ [] → IsEntered m id x w n (record w { objects = objects; context = context })
entered_by m id x w n object key base objects context place room keyed made based pushed entered =
    let whole : objects ≡ w.objects ++ object_loaded m w.manager w.view id x ∷ [] = pushed ∙ ap (λ (o : LiveObject). w.objects ++ o ∷ []) made in
    let entry : context ≡ w.context ++ entry_loaded m w.view id x (length w.objects) ∷ [] =
    entered ∙ (λ i. w.context ++ record { object = place i; key = keyed i; lock = Lock.Unlocked; base = Some (based i) } ∷ []) in
    record { place = place; room = room; work = λ i. record w { objects = whole i; context = entry i } }

loads_as : (world : World) (id : Identity) (x : Stored) (w : Work) (n : ℕ) (u : Work) → IsPlaced world.model w → IsEntered world.model id x w n u →
    load world id x w ≡ after (callback world LifecycleEvent.PostLoad n u) (λ _. give n)
loads_as world id x w n u h e =
    loads world id x w h.entries (subst (λ k. k < most_objects) e.place e.room)
    ∙ (λ i. after (callback world LifecycleEvent.PostLoad (sym e.place i) (sym e.work i)) (λ _. give (sym e.place i)))

-- and the event was told
pub load_done : (world : World) (id : Identity) (x : Stored) (w : Work) (n : ℕ) (u new : Work) → IsPlaced world.model w → IsEntered world.model id x w n u →
    callback world LifecycleEvent.PostLoad n u ≡ Done tt new → load world id x w ≡ Done n new
load_done world id x w n u new h e told = loads_as world id x w n u h e ∙ ap (λ o. after o (λ _. give n)) told

pub refused_after : {A B : Type 0} (r : Cause) (events : List Told) (o : Outcome A) (f : A → Op B) → IsRefusedAs r events o → IsRefusedAs r events (after o f)
refused_after Cause.OutOfMemory events o f h = tt
refused_after Cause.StoreFault events o f h = h
refused_after r events o f h = ap (λ p. after p f) h

-- or a listener refused
pub load_refused : (world : World) (id : Identity) (x : Stored) (w : Work) (n : ℕ) (u : Work) (r : Cause) (events : List Told) → IsPlaced world.model w → IsEntered world.model id x w n u →
    IsRefusedAs r events (callback world LifecycleEvent.PostLoad n u) → IsRefusedAs r events (load world id x w)
load_refused world id x w n u r events h e refused =
    subst (IsRefusedAs r events) (sym (loads_as world id x w n u h e)) (refused_after r events (callback world LifecycleEvent.PostLoad n u) (λ _. give n) refused)

-- ---- what a load leaves

module _ (world : World) (id : Identity) (x : Stored) (w : Work) (n : ℕ) (u : Work) (h : IsPlaced world.model w) (stored : row w id ≡ Some x) (e : IsEntered world.model id x w n u) where
  pub within : n < length u.objects
  within =
      let s = length-append w.objects (object_loaded world.model w.manager w.view id x ∷ []) in
      let place = e.place in
      subst (λ (v : Work). n < length v.objects) (sym e.work) (omega (arith, s, place))

  pub entered_placed : IsPlaced world.model u
  entered_placed =
      let m = world.model in
      let shape = loaded_shape m w.view w.manager id x h.view stored in
      subst (IsPlaced m) (sym e.work) (placed_push m w (object_loaded m w.manager w.view id x) (entry_loaded m w.view id x (length w.objects)) h shape.0 refl refl shape.1)

  pub entered_grown : HasGrown w u
  entered_grown =
      let own = object_loaded world.model w.manager w.view id x in
      subst (HasGrown w) (sym e.work) (grown_push w own (entry_loaded world.model w.view id x (length w.objects)) refl h.entries (loaded_links world.model w.view w.manager id x w.objects))

  pub entered_shape : HasShape world.model (object u n)
  entered_shape = entered_placed.objects n no_object within

  pub load_placed : (v : Work) → callback world LifecycleEvent.PostLoad n u ≡ Done tt v → IsPlaced world.model v
  load_placed v told = placed_happened world.model n u v entered_placed within (happened world LifecycleEvent.PostLoad n u v told)

  pub load_grown : (v : Work) → callback world LifecycleEvent.PostLoad n u ≡ Done tt v → HasGrown w v
  load_grown v told = grown_on w u v entered_grown (grown_happened n u v within (happened world LifecycleEvent.PostLoad n u v told))

  pub load_within : (v : Work) → callback world LifecycleEvent.PostLoad n u ≡ Done tt v → n < length v.objects
  load_within v told =
      let more = (grown_happened n u v within (happened world LifecycleEvent.PostLoad n u v told)).count in
      let l = within in
      omega (arith, l, more)
