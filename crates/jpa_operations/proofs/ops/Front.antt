-- What removing does to a context: its entries stay in front, each of its object, behind them stand those of rows that were
-- loaded, and entries of different identities are so still.
use Rattle.std.proofs.Common.{◌≡◌, ◌<◌, ℕ, Bool, true, false, cond, List, [], ◌∷◌, ◌++◌, map, length, refl, ap, sym, subst, ◌∙◌, arith, get_or, Option, Some, None}
use Rattle.std.specs.Prelude.{All, find, is_some, nat_lt, not, ◌==◌, ◌||◌, ◌&&◌, if◌then◌else◌}
use Rattle.std.specs.List.{AllByRecursion, list_any}
use Rattle.std.specs.Option.{unwrap_or}
use Rattle.std.specs.Ordering.{is_eq}
use Rattle.std.specs.Cmp.{Equal-is}
use Rattle.std.specs.FinMap.Entries.{find as entry_found}
use Rattle.std.proofs.lemmas.Bool.{true≢false, and_parts, eqb-true}
use Rattle.std.proofs.lemmas.List.{append-nil, append_assoc, map-append, length-append, length-map, length-set, get_or-map, get_or_append_left, get_or_push}
use Rattle.std.proofs.lemmas.List.Elements.{All-push, All-weaker, recursion_from_All}
use Rattle.jpa_value.specs.Limits.{most_objects}
use Rattle.jpa_value.specs.declared.value.Identity.{Identity}
use Rattle.jpa_value.specs.declared.refusal.Cause.{Cause}
use Rattle.jpa_value.specs.declared.event.LifecycleEvent.{LifecycleEvent}
use Rattle.jpa_value.specs.Value.{identity_cmp}
use Rattle.jpa_value.proofs.Orders.{identity_exact}
use Rattle.jpa_model.specs.declared.unit.PersistenceUnit.{PersistenceUnit}
use Rattle.jpa_model.specs.Chains.{root_of}
use Rattle.jpa_behaviour.specs.Behaviour.{World}
use Rattle.jpa_stored.specs.declared.objects.stored.Stored.{Stored}
use Rattle.jpa_stored.specs.objects.Sets.{StoredSet, stored_at, all_distinct, all_shaped, is_shaped, is_identity_of, is_key_of}
use Rattle.jpa_work.specs.declared.heap.Life.{Life}
use Rattle.jpa_work.specs.declared.heap.LiveObject.{LiveObject}
use Rattle.jpa_work.specs.heap.Objects.{no_object, object_at, identity_of, is_whole, with_life}
use Rattle.jpa_work.specs.heap.Shape.{HasShape}
use Rattle.jpa_work.specs.declared.context.Base.{Base}
use Rattle.jpa_work.specs.declared.context.Entry.{Entry}
use Rattle.jpa_work.specs.declared.context.EntityState.{EntityState}
use Rattle.jpa_work.specs.context.Steps.{Op, Outcome, Done, Refused, after, each, give, require}
use Rattle.jpa_work.specs.context.Undo.{IsKeyed, IsPlaced}
use Rattle.jpa_work.specs.context.Work.{Work, object, entered, has_identity, identity_at, instance, object_in, row, state_of, with_base, with_life_of}
use Rattle.jpa_cascade.specs.declared.Node.{Node}
use Rattle.jpa_cascade.specs.declared.Operation.{Operation}
use Rattle.jpa_cascade.specs.There.{IsThere}
use Rattle.jpa_cascade.specs.Waves.{waves}
use Rattle.jpa_cascade.proofs.There.{waves_are_there}
use Rattle.jpa_lifecycle.specs.Callbacks.{callback}
use Rattle.jpa_lifecycle.proofs.Keeps.{happened}
use Rattle.jpa_operations.specs.fetch.Grown.{AreLinked, HasGrown, IsLinked, IsReady, GoesOn}
use Rattle.jpa_operations.specs.fetch.Load.{base_loaded, load, made, object_loaded}
use Rattle.jpa_operations.proofs.fetch.Grown.{grown_happened, grown_on, placed_happened}
use Rattle.jpa_operations.proofs.fetch.Loaded.{loaded_links, loaded_shape}
use Rattle.jpa_operations.specs.ops.Names.{are_one, has_distinct_entries, name_of}
use Rattle.jpa_operations.specs.ops.States.{has_instance, remove, remove_live, remove_node, remove_one, remove_under}
use Rattle.jpa_operations.proofs.ops.Entered.{entered_apart, entered_names, named}
use Rattle.jpa_operations.proofs.ops.Going.{HoldsAfter, after_holds, holds_where, require_holds}
use Rattle.jpa_operations.proofs.ops.Names.{names_kept}
use Rattle.jpa_operations.proofs.ops.Ready.{from_itself, from_on, grown_base, grown_entered, grown_life, linked_within, placed_base, placed_entered, placed_life}

-- the objects of the entries, and behind them others
abbrev pub KeepsFront : Work → Work → Type 0
KeepsFront w v = (more : List ℕ) × (map (λ (e : Entry). e.object) v.context ≡ map (λ (e : Entry). e.object) w.context ++ more)

pub front_none : (w : Work) → KeepsFront w w
front_none w = ([], sym (append-nil (map (λ (e : Entry). e.object) w.context)))

pub front_on : (u w v : Work) → KeepsFront u w → KeepsFront w v → KeepsFront u v
front_on u w v h g = (h.0 ++ g.0, g.1 ∙ ap (λ ns. ns ++ g.0) h.1 ∙ append_assoc (map (λ (e : Entry). e.object) u.context) h.0 g.0)

front_same : (w v : Work) → v.context ≡ w.context → KeepsFront w v
front_same w v same = ([], ap (λ es. map (λ (e : Entry). e.object) es) same ∙ sym (append-nil (map (λ (e : Entry). e.object) w.context)))

-- operations stand on a work that goes on from another, whose entries stay in front; of different identities if those were
pub record IsOnward (m : PersistenceUnit) (u w : Work) : Type 0 where
  pub from : GoesOn m u w
  pub front : KeepsFront u w
  pub named : has_distinct_entries m u ≡ true → has_distinct_entries m w ≡ true

pub onward_itself : (m : PersistenceUnit) (w : Work) → IsReady m w → IsOnward m w w
onward_itself m w h = record { from = from_itself m w h; front = front_none w; named = λ d. d }

onward_on : (m : PersistenceUnit) (u w v : Work) → IsOnward m u w → IsPlaced m v → HasGrown w v → KeepsFront w v → (has_distinct_entries m w ≡ true → has_distinct_entries m v ≡ true) → IsOnward m u v
onward_on m u w v h placed grown front names =
    record { from = from_on m u w v h.from placed grown; front = front_on u w v h.front front; named = λ d. names (h.named d) }

-- where the context is the same
onward_same : (m : PersistenceUnit) (u w v : Work) → IsOnward m u w → IsPlaced m v → HasGrown w v → v.context ≡ w.context → IsOnward m u v
onward_same m u w v h placed grown same =
    onward_on m u w v h placed grown (front_same w v same) (λ d. names_kept m w v h.from.ready.placed placed grown same ∙ d)

-- ---- one more object at the end of the heap

keyed_made : (os : List LiveObject) (y : LiveObject) (es : List Entry) → All (λ (e : Entry). e.object < length os) es → All (IsKeyed os) es → All (IsKeyed (os ++ y ∷ [])) es
keyed_made os y es within h i d l =
    let k = h i d l in
    record { same = ap (λ (z : LiveObject). z.key) (get_or_append_left os (y ∷ []) no_object _ (within i d l)) ∙ k.same; whole = k.whole }

placed_made : (m : PersistenceUnit) (w : Work) (y : LiveObject) → IsPlaced m w → HasShape m y → IsPlaced m (made y w)
placed_made m w y h shape =
    let count = length-append w.objects (y ∷ []) in
    record {
      objects = All-push (HasShape m) w.objects y h.objects shape;
      entries = All-weaker (λ (e : Entry). e.object < length w.objects) (λ e. e.object < length (w.objects ++ y ∷ [])) (λ e l. omega (arith, l, count)) w.context h.entries;
      keyed = keyed_made w.objects y w.context h.entries h.keyed;
      numbers = h.numbers;
      view = h.view;
    }

linked_made : (os : List LiveObject) (y : LiveObject) → ((ps : List LiveObject) → IsLinked ps y) → AreLinked os → AreLinked (os ++ y ∷ [])
linked_made os y own h =
    let ps = os ++ y ∷ [] in
    let count = length-append os (y ∷ []) in
    All-push (IsLinked ps) os y
    (All-weaker (IsLinked os) (IsLinked ps) (λ x k i d l j n l'. let b = k i d l j n l' in omega (arith, b, count)) os h) (own ps)

grown_made : (w : Work) (y : LiveObject) → ((ps : List LiveObject) → IsLinked ps y) → HasGrown w (made y w)
grown_made w y own =
    record {
      count = let e = length-append w.objects (y ∷ []) in omega (arith, e);
      classes = λ n l. ap (λ (x : LiveObject). x.class) (get_or_append_left w.objects (y ∷ []) no_object n l);
      distinct = λ d. d;
      linked = linked_made w.objects y own;
    }

-- ---- a row of a shaped set

found_shaped : (m : PersistenceUnit) (id : Identity) (x : Stored) (e : Identity × Stored) (o : Option Stored) (b : Bool) → is_eq (identity_cmp id e.0) ≡ b → (o ≡ Some x → is_shaped m id x ≡ true) →
    is_shaped m e.0 e.1 ≡ true → (if b then Some e.1 else o) ≡ Some x → is_shaped m id x ≡ true
found_shaped m id x e o true t k h g =
    let same : id ≡ e.0 = identity_exact id e.0 ((Equal-is (identity_cmp id e.0)).0 t) in
    subst (λ i. is_shaped m i x ≡ true) (sym same) (subst (λ y. is_shaped m e.0 y ≡ true) (ap (λ o'. unwrap_or o' x) g) h)
found_shaped m id x e o false t k h g = k g

row_shaped : (m : PersistenceUnit) (s : StoredSet) (id : Identity) (x : Stored) → all_shaped m s ≡ true → stored_at s id ≡ Some x → is_shaped m id x ≡ true
row_shaped m [] id x h e = absurd (true≢false (sym (ap is_some e)))
row_shaped m (y ∷ ys) id x h e =
    let a = and_parts (is_shaped m y.0 y.1) (all_shaped m ys) h in
    found_shaped m id x y (entry_found identity_cmp id ys) (is_eq (identity_cmp id y.0)) refl (row_shaped m ys id x a.1) a.0 e

-- its identity is that of its object, whose key is whole
record IsNamedBy (m : PersistenceUnit) (id : Identity) (y : LiveObject) : Type 0 where
  name : name_of m y ≡ id
  whole : is_whole y.key ≡ true

loaded_name : (m : PersistenceUnit) (s : StoredSet) (manager : ℕ) (id : Identity) (x : Stored) → all_shaped m s ≡ true → stored_at s id ≡ Some x → IsNamedBy m id (object_loaded m manager s id x)
loaded_name m s manager id x h e =
    let a = and_parts (nat_lt x.class (length m.entities)) _ (row_shaped m s id x h e) in
    let b = and_parts (is_identity_of (root_of m x.class) id) _ a.1 in
    let c = and_parts (id.table == (root_of m x.class).table) (is_key_of (root_of m x.class) id.key) b.0 in
    let table = eqb-true id.table (root_of m x.class).table c.0 in
    record { name = λ i. record { table = sym table i; key = id.key }; whole = (loaded_shape m s manager id x h e).1 }

-- ---- an object that is not in the context yet

same_found : (m : PersistenceUnit) (os : List LiveObject) (y : LiveObject) (id : Identity) (es : List Entry) → AllByRecursion (λ (e : Entry). e.object < length os) es →
    find (λ (e : Entry). has_identity (identity_of m (object_at (os ++ y ∷ []) e.object)) id) es ≡ find (λ (e : Entry). has_identity (identity_of m (object_at os e.object)) id) es
same_found m os y id [] h = refl
same_found m os y id (e ∷ es) h =
    let same = get_or_append_left os (y ∷ []) no_object e.object h.0 in
    λ i. cond (has_identity (identity_of m (same i)) id) (Some e) (same_found m os y id es h.1 i)

instance_made : (m : PersistenceUnit) (w : Work) (y : LiveObject) (id : Identity) → IsPlaced m w → instance m (made y w) id ≡ instance m w id
instance_made m w y id h = ap object_in (same_found m w.objects y id w.context (recursion_from_All (λ (e : Entry). e.object < length w.objects) w.context h.entries))

free_made : (m : PersistenceUnit) (w : Work) (y : LiveObject) (id : Identity) (n : ℕ) → length w.objects ≡ n → IsPlaced m w → IsNamedBy m id y → is_some (instance m w id) ≡ false →
    has_instance m (made y w) (identity_at m (made y w) n) ≡ false
free_made m w y id n e h by free =
    let here : object (made y w) n ≡ y = get_or_push w.objects y no_object n e in
    ap (λ z. has_instance m (made y w) (identity_of m z)) here
    ∙ ap (has_instance m (made y w)) (named m y by.whole ∙ ap (λ i. Some i) by.name)
    ∙ ap is_some (instance_made m w y id h)
    ∙ free

-- ---- entries change

any_one : (m : PersistenceUnit) (w : Work) (f : Entry → Entry) → ((e : Entry) → (f e).object ≡ e.object) → (a b : Entry) → a.object ≡ b.object → (es : List Entry) →
    list_any (are_one m w a) (map f es) ≡ list_any (are_one m w b) es
any_one m w f same a b own [] = refl
any_one m w f same a b own (e ∷ es) =
    λ i. are_one m w (record a { object = own i }) (record e { object = same e i }) || any_one m w f same a b own es i

based_names : (m : PersistenceUnit) (w v : Work) (f : Entry → Entry) → ((e : Entry) → (f e).object ≡ e.object) → v.objects ≡ w.objects → (es : List Entry) →
    all_distinct (are_one m v) (map f es) ≡ all_distinct (are_one m w) es
based_names m w v f same objects es = ap (λ (os : List LiveObject). all_distinct (are_one m (record w { objects = os })) (map f es)) objects ∙ by es
  where
    by : (es : List Entry) → all_distinct (are_one m w) (map f es) ≡ all_distinct (are_one m w) es
    by [] = refl
    by (e ∷ es) = λ i. not (any_one m w f same (f e) e (same e) es i) && by es i

same_objects : (f : Entry → Entry) → ((e : Entry) → (f e).object ≡ e.object) → (es : List Entry) → map (λ (e : Entry). e.object) (map f es) ≡ map (λ (e : Entry). e.object) es
same_objects f same [] = refl
same_objects f same (e ∷ es) = λ i. same e i ∷ same_objects f same es i

rebased : (b : Option Base) (e : Entry) (t : Bool) → (if t then record e { base = b } else e).object ≡ e.object
rebased b e true = refl
rebased b e false = refl

-- ---- each step

-- a row as the work has it once it is loaded, before PostLoad
abbrev loaded_in : World → Identity → Stored → Work → Work
loaded_in world id x w =
    let n = length w.objects in
    with_base n (Some (base_loaded world.model w.view id x)) (entered n (made (object_loaded world.model w.manager w.view id x) w))

-- an object of the context stands in the heap
found_within : (p : Entry → Bool) (count n : ℕ) (es : List Entry) → AllByRecursion (λ (e : Entry). e.object < count) es → object_in (find p es) ≡ Some n → n < count
found_within p count n [] h e = absurd cc
found_within p count n (x ∷ xs) h e = by (p x) (found_within p count n xs h.1) e
  where
    by : (b : Bool) → (object_in (find p xs) ≡ Some n → n < count) → object_in (cond b (Some x) (find p xs)) ≡ Some n → n < count
    by true rest e' = let first : x.object < count = h.0 in subst (λ k. k < count) (ap (λ o. unwrap_or o n) e') first
    by false rest e' = rest e'

module _ (world : World) (u : Work) where
  abbrev Goes : Work → Type 0
  Goes w = IsOnward world.model u w

  heard : (event : LifecycleEvent) (n : ℕ) (w : Work) → n < length w.objects → Goes w → HoldsAfter (λ v. Goes v × (n < length v.objects)) (callback world event n w)
  heard event n w within h =
      holds_where (λ v. Goes v × (n < length v.objects)) (callback world event n w) (λ a v e.
      let h' = happened world event n w v e in
      let grown = grown_happened n w v within h' in
      let more = grown.count in (
        onward_same world.model u w v h (placed_happened world.model n w v h.from.ready.placed within h') grown (ap (λ (z : Work). z.context) h'.same),
        omega (arith, within, more),
      ))

  lives : (n : ℕ) (life : Life) (w : Work) → n < length w.objects → Goes w → Goes (with_life_of n life w)
  lives n life w within h =
      onward_same world.model u w (with_life_of n life w) h (placed_life world.model w n life h.from.ready.placed within) (grown_life w n life within) refl

  -- a row enters, which has no instance
  loads : (id : Identity) (x : Stored) (w : Work) → row w id ≡ Some x → is_some (instance world.model w id) ≡ false → Goes w → Goes (loaded_in world id x w)
  loads id x w stored free h =
      let m = world.model in
      let n = length w.objects in
      let y = object_loaded m w.manager w.view id x in
      let b = base_loaded m w.view id x in
      let w1 = made y w in
      let w2 = entered n w1 in
      let w3 = with_base n (Some b) w2 in
      let placed = h.from.ready.placed in
      let by = loaded_name m w.view w.manager id x placed.view stored in
      let placed1 = placed_made m w y placed (loaded_shape m w.view w.manager id x placed.view stored).0 in
      let h1 = onward_same m u w w1 h placed1 (grown_made w y (loaded_links m w.view w.manager id x)) refl in
      let within : n < length w1.objects = let s = length-append w.objects (y ∷ []) in omega (arith, s) in
      let here : object w1 n ≡ y = get_or_push w.objects y no_object n refl in
      let whole : is_whole (object w1 n).key ≡ true = ap (λ (z : LiveObject). is_whole z.key) here ∙ by.whole in
      let free1 = free_made m w y id n refl placed by free in
      let placed2 = placed_entered m w1 n placed1 within whole in
      let last = map-append (λ (e : Entry). e.object) w1.context _ in
      let h2 = onward_on m u w1 w2 h1 placed2 (grown_entered w1 n (entered_apart m w1 n placed1 whole free1)) (n ∷ [], last) (entered_names m w1 n placed1 whole free1) in
      let f : Entry → Entry = λ e. if e.object == n then record e { base = Some b } else e in
      let same : (e : Entry) → (f e).object ≡ e.object = λ e. rebased (Some b) e (e.object == n) in
      onward_on m u w2 w3 h2 (placed_base m w2 n (Some b) placed2) (grown_base w2 n (Some b))
      ([], same_objects f same w2.context ∙ sym (append-nil (map (λ (e : Entry). e.object) w2.context)))
      (λ d. based_names m w2 w3 f same refl w2.context ∙ d)

  -- ---- load

  told_goes : (n : ℕ) (o : Outcome (Unit {0})) → HoldsAfter (λ v. Goes v × (n < length v.objects)) o → HoldsAfter Goes (after o (λ _. give n))
  told_goes n (Done a v) h = h.0
  told_goes n (Refused r events) h = tt

  pub load_goes : (id : Identity) (x : Stored) (w : Work) → row w id ≡ Some x → is_some (instance world.model w id) ≡ false → Goes w → HoldsAfter Goes (load world id x w)
  load_goes id x w stored free h =
      let n = length w.objects in
      let y = object_loaded world.model w.manager w.view id x in
      let v = loaded_in world id x w in
      let within : n < length v.objects = let s = length-append w.objects (y ∷ []) in omega (arith, s) in
      require_holds Goes (nat_lt n most_objects) Cause.Limit w _ (λ few.
      told_goes n (callback world LifecycleEvent.PostLoad n v) (heard LifecycleEvent.PostLoad n v within (loads id x w stored free h)))

  -- what was removed then
  after_told : (next : ℕ → Op (Unit {0})) → ((n : ℕ) (w : Work) → n < length w.objects → Goes w → HoldsAfter Goes (next n w)) → (n : ℕ) (o : Outcome (Unit {0})) →
      HoldsAfter (λ v. Goes v × (n < length v.objects)) o → HoldsAfter Goes (after (after o (λ _. give n)) next)
  after_told next goes n (Done a v) h = goes n v h.1 h.0
  after_told next goes n (Refused r events) h = tt

  -- a row is loaded, and its object goes on
  pub loaded_goes : (next : ℕ → Op (Unit {0})) → ((n : ℕ) (w : Work) → n < length w.objects → Goes w → HoldsAfter Goes (next n w)) → (id : Identity) (x : Stored) (w : Work) → row w id ≡ Some x →
      is_some (instance world.model w id) ≡ false → Goes w → HoldsAfter Goes (after (load world id x w) next)
  loaded_goes next goes id x w stored free h =
      let n = length w.objects in
      let y = object_loaded world.model w.manager w.view id x in
      let v = loaded_in world id x w in
      let within : n < length v.objects = let s = length-append w.objects (y ∷ []) in omega (arith, s) in
      by (nat_lt n most_objects) _ (after_told next goes n (callback world LifecycleEvent.PostLoad n v) (heard LifecycleEvent.PostLoad n v within (loads id x w stored free h)))
    where
      by : (b : Bool) (f : Unit {0} → Op ℕ) → HoldsAfter Goes (after (f tt w) next) → HoldsAfter Goes (after (after (require b Cause.Limit w) f) next)
      by true f k = k
      by false f k = tt

  -- ---- remove

  remove_one_goes : (n : ℕ) (s : EntityState) (w : Work) → n < length w.objects → Goes w → HoldsAfter Goes (remove_one world n s w)
  remove_one_goes n EntityState.New w within h = h
  remove_one_goes n EntityState.Managed w within h =
      let life = Life.Removed w.manager in
      let v = with_life_of n life w in
      let e = length-set w.objects n (with_life (object w n) life) in
      after_ended (callback world LifecycleEvent.PreRemove n v) (heard LifecycleEvent.PreRemove n v (omega (arith, e, within)) (lives n life w within h))
    where
      after_ended : (o : Outcome (Unit {0})) → HoldsAfter (λ v. Goes v × (n < length v.objects)) o → HoldsAfter Goes o
      after_ended (Done a v) h' = h'.0
      after_ended (Refused r events) h' = tt
  remove_one_goes n EntityState.Removed w within h = h
  remove_one_goes n EntityState.Detached w within h = tt

  remove_live_goes : (n : ℕ) (w : Work) → n < length w.objects → Goes w → HoldsAfter Goes (remove_live world n w)
  remove_live_goes n w within h = remove_one_goes n (state_of w n) w within h

  -- an instance stands in the heap
  pub instance_within : (id : Identity) (n : ℕ) (w : Work) → Goes w → instance world.model w id ≡ Some n → n < length w.objects
  instance_within id n w h e =
      found_within (λ (x : Entry). has_identity (identity_at world.model w x.object) id) (length w.objects) n w.context
      (recursion_from_All (λ (x : Entry). x.object < length w.objects) w.context h.from.ready.placed.entries) e

  remove_under_goes : (id : Identity) (o : Option ℕ) (s : Option Stored) (w : Work) → instance world.model w id ≡ o → row w id ≡ s → Goes w → HoldsAfter Goes (remove_under world id o s w)
  remove_under_goes id (Some n) s w e r h = remove_live_goes n w (instance_within id n w h e) h
  remove_under_goes id None None w e r h = h
  remove_under_goes id None (Some x) w e r h = loaded_goes (remove_live world) remove_live_goes id x w r (ap is_some e) h

  remove_node_goes : (x : Node) (w : Work) → IsThere u x → Goes w → HoldsAfter Goes (remove_node world x w)
  remove_node_goes (Node.Live n) w l h = remove_live_goes n w (let more = h.from.grown.count in omega (arith, l, more)) h
  remove_node_goes (Node.Bare id) w l h = remove_under_goes id (instance world.model w id) (row w id) w refl refl h

  each_goes : (nodes : List Node) (w : Work) → AllByRecursion (IsThere u) nodes → Goes w → HoldsAfter Goes (each (remove_node world) nodes w)
  each_goes [] w l h = h
  each_goes (x ∷ xs) w l h = after_holds Goes Goes (remove_node world x w) (λ _. each (remove_node world) xs) (remove_node_goes x w l.0 h) (λ a v g. each_goes xs v l.1 g)

-- a work on which operations stand goes on by removing
pub remove_goes : (world : World) (n : ℕ) (w : Work) → IsReady world.model w → n < length w.objects → HoldsAfter (IsOnward world.model w) (remove world n w)
remove_goes world n w h within =
    let nodes = waves world.model Operation.Remove w n in
    each_goes world w nodes w
    (recursion_from_All (IsThere w) nodes (waves_are_there world.model Operation.Remove w n (linked_within w.objects h.linked) h.placed.entries within)) (onward_itself world.model w h)

-- ---- one after another

pub onward_on_by : (m : PersistenceUnit) (u w v : Work) → IsOnward m u w → IsOnward m w v → IsOnward m u v
onward_on_by m u w v h g =
    record { from = record { ready = g.from.ready; grown = grown_on u w v h.from.grown g.from.grown }; front = front_on u w v h.front g.front; named = λ d. g.named (h.named d) }

-- so does one that goes on from another
pub remove_onward : (world : World) (u : Work) (n : ℕ) (w : Work) → n < length w.objects → IsOnward world.model u w → HoldsAfter (IsOnward world.model u) (remove world n w)
remove_onward world u n w within h = by (remove world n w) (remove_goes world n w h.from.ready within)
  where
    by : (o : Outcome (Unit {0})) → HoldsAfter (IsOnward world.model w) o → HoldsAfter (IsOnward world.model u) o
    by (Done a v) g = onward_on_by world.model u w v h g
    by (Refused r events) g = tt

-- an entry of the front is still of its object
pub front_within : (w v : Work) (i : ℕ) → KeepsFront w v → i < length w.context → i < length v.context
front_within w v i h l =
    let f : Entry → ℕ = λ (e : Entry). e.object in
    let a = length-map v.context f in
    let b = length-map w.context f in
    let c = length-append (map f w.context) h.0 in
    let d : length (map f v.context) ≡ length (map f w.context ++ h.0) = ap length h.1 in
    omega (arith, a, b, c, d, l)

pub front_object : (w v : Work) (i : ℕ) (e : Entry) → KeepsFront w v → i < length w.context → e ≡ get_or v.context i e → (get_or w.context i e).object ≡ e.object
front_object w v i e h l is =
    let f : Entry → ℕ = λ (x : Entry). x.object in
    let b = length-map w.context f in
    sym (get_or-map f w.context i e e.object l)
    ∙ sym (get_or_append_left (map f w.context) h.0 e.object i (omega (arith, b, l)))
    ∙ ap (λ (ns : List ℕ). get_or ns i e.object) (sym h.1)
    ∙ get_or-map f v.context i e e.object (front_within w v i h l)
    ∙ ap f (sym is)
