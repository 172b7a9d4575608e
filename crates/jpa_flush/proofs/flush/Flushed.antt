-- A flush is its plan: what is written, taken out, settled and told is what the definition's actions say.
use Rattle.std.proofs.Common.{◌≡◌, ◌∙◌, ℕ, ◌<◌, Bool, true, false, List, [], ◌∷◌, ◌++◌, map, length, refl, ap, sym, subst, T}
use Rattle.std.specs.Prelude.{All, is_some, ◌||◌, Option, Some, None}
use Rattle.std.specs.List.{filter, flat_map}
use Rattle.std.specs.FinMap.Entries.{is_sorted}
use Rattle.std.proofs.lemmas.Bool.{and_from}
use Rattle.std.proofs.lemmas.List.Elements.{All-nil, All-cons, All-head, All-tail}
use Rattle.jpa_value.specs.declared.value.Identity.{Identity}
use Rattle.jpa_value.specs.declared.refusal.Cause.{Cause}
use Rattle.jpa_value.specs.declared.refusal.PersistenceFault.{PersistenceFault}
use Rattle.jpa_value.specs.Value.{identity_cmp, same_identity}
use Rattle.jpa_protocol.specs.declared.event.Told.{Told}
use Rattle.jpa_model.specs.declared.unit.PersistenceUnit.{PersistenceUnit}
use Rattle.jpa_behaviour.specs.Behaviour.{World}
use Rattle.jpa_stored.specs.declared.objects.stored.Stored.{Stored}
use Rattle.jpa_stored.specs.objects.Sets.{StoredSet, IsSound, without, all_distinct, fault_of}
use Rattle.jpa_work.specs.heap.Shape.{HasShape}
use Rattle.jpa_work.specs.context.Work.{Work, identity_at, row_at}
use Rattle.jpa_work.specs.context.Steps.{◌>>◌, Outcome, Done, Refused, Op, after, change, each, IsRefusedAs}
use Rattle.jpa_operations.specs.fetch.Grown.{IsReady}
use Rattle.jpa_operations.specs.ops.Names.{has_distinct_entries}
use Rattle.jpa_flush.specs.declared.flush.planning.Planned.{Planned}
use Rattle.jpa_flush.specs.declared.flush.writing.Written.{Written}
use Rattle.jpa_flush.specs.flush.Changes.{IsWritten}
use Rattle.jpa_flush.specs.flush.Flush.{Action, Insert, Replace, Drop, persist_reachable, remove_orphans, check_links, pre_update, check_actions, written, actions, listed, replaces_row, joined as joins, joined_all, flushed, sound_or, settled, settled_all, all_remembered, after_flush, post_event, post, write_all, flush}
use Rattle.jpa_flush.specs.flush.Plan.{class_there, item, plan_of, write_each, written_as, written_by, settled_by, learned_by, told_by, applied, writing}
use Rattle.jpa_flush.proofs.flush.Alike.{alike_ready}
use Rattle.jpa_flush.proofs.flush.Changed.{plan_of_class}
use Rattle.jpa_flush.proofs.flush.Learned.{learned_remembered}
use Rattle.jpa_flush.proofs.flush.Joined.{Write, joined, replaced, drops_rest, same_set}
use Rattle.jpa_flush.proofs.flush.Names.{plan_apart}
use Rattle.jpa_flush.proofs.flush.Settled.{settled_alike, settled_events}
use Rattle.jpa_flush.proofs.flush.Written.{of_one, is_replacing, writes_of, names_of, applied_each}

-- ---- its parts, one after another

-- the flush from its last part back
abbrev pub updating : World → Op (Unit {0})
updating world = pre_update world >> writing world

abbrev pub linking : World → Op (Unit {0})
linking world = check_links world >> updating world

abbrev pub orphaning : World → Op (Unit {0})
orphaning world = remove_orphans world >> linking world

-- once all that is reached is managed
pub reached : (world : World) (w0 w : Work) → persist_reachable world w0 ≡ Done tt w → flush world w0 ≡ orphaning world w
reached world w0 w e = ap (λ o. after o (λ _. orphaning world)) e

-- once orphans are removed
pub orphaned : (world : World) (w0 w x : Work) → persist_reachable world w0 ≡ Done tt w → remove_orphans world w ≡ Done tt x → flush world w0 ≡ linking world x
orphaned world w0 w x e r = reached world w0 w e ∙ ap (λ o. after o (λ _. linking world)) r

-- once links are checked
pub linked : (world : World) (w0 w x : Work) → persist_reachable world w0 ≡ Done tt w → remove_orphans world w ≡ Done tt x → check_links world x ≡ Done tt x → flush world w0 ≡ updating world x
linked world w0 w x e r l = orphaned world w0 w x e r ∙ ap (λ o. after o (λ _. updating world)) l

-- and PreUpdate happened
pub updated : (world : World) (w0 w x v : Work) → persist_reachable world w0 ≡ Done tt w → remove_orphans world w ≡ Done tt x → check_links world x ≡ Done tt x → pre_update world x ≡ Done tt v → flush world w0 ≡ writing world v
updated world w0 w x v e r l u = linked world w0 w x e r l ∙ ap (λ o. after o (λ _. writing world)) u

-- ---- the actions are the plan

settled_items : (m : PersistenceUnit) (w : Work) (as' : List (ℕ × Action)) (v : Work) → settled_all m w as' v ≡ settled_by (map (item m w) as') v
settled_items m w [] v = refl
settled_items m w (a ∷ as') v = settled_items m w as' (settled a.0 (written m w a.0 a.1) v)

told_items : (world : World) (w : Work) (as' : List (ℕ × Action)) (v : Work) → each (post world) as' v ≡ told_by world (written_by (map (item world.model w) as')) v
told_items world w [] v = refl
told_items world w (a ∷ as') v = λ i. after (post world a v) (λ _ u. told_items world w as' u i)

-- ---- the new set

abbrev replaced_in : PersistenceUnit → Work → List (ℕ × Action) → List Identity
replaced_in m w as' = flat_map (λ a. listed (identity_at m w a.0)) (filter (λ a. replaces_row a.1) as')

put_first : (id : Option Identity) (x : Option Stored) (b : Bool) (ws : List Write) (s : StoredSet) → joined ws (joins id x s) ≡ joined (of_one id x b ++ ws) s
put_first None x b ws s = refl
put_first (Some id) None b ws s = refl
put_first (Some id) (Some x) b ws s = refl

joined_items : (m : PersistenceUnit) (w : Work) (as' : List (ℕ × Action)) (s : StoredSet) → joined_all m w as' s ≡ joined (writes_of (map (item m w) as')) s
joined_items m w [] s = refl
joined_items m w (a ∷ as') s =
    joined_items m w as' (joins (identity_at m w a.0) (written m w a.0 a.1) s)
    ∙ put_first (identity_at m w a.0) (written m w a.0 a.1) (is_replacing (post_event a.1)) (writes_of (map (item m w) as')) s

replaced_first : (id : Option Identity) (x : Option Stored) (ws : List Write) (ids : List Identity) → ids ≡ replaced ws → listed id ++ ids ≡ replaced (of_one id x true ++ ws)
replaced_first None x ws ids h = h
replaced_first (Some id) x ws ids h = ap (λ ns. id ∷ ns) h

kept_first : (id : Option Identity) (x : Option Stored) (ws : List Write) (ids : List Identity) → ids ≡ replaced ws → ids ≡ replaced (of_one id x false ++ ws)
kept_first None x ws ids h = h
kept_first (Some id) x ws ids h = h

replaced_one : (m : PersistenceUnit) (w : Work) (n : ℕ) (a : Action) (as' : List (ℕ × Action)) (ws : List Write) → replaced_in m w as' ≡ replaced ws →
    replaced_in m w ((n, a) ∷ as') ≡ replaced (of_one (identity_at m w n) (written m w n a) (is_replacing (post_event a)) ++ ws)
replaced_one m w n Insert as' ws h = kept_first (identity_at m w n) (written m w n Insert) ws (replaced_in m w as') h
replaced_one m w n (Replace b) as' ws h = replaced_first (identity_at m w n) (written m w n (Replace b)) ws (replaced_in m w as') h
replaced_one m w n (Drop b) as' ws h = replaced_first (identity_at m w n) None ws (replaced_in m w as') h

replaced_items : (m : PersistenceUnit) (w : Work) (as' : List (ℕ × Action)) → replaced_in m w as' ≡ replaced (writes_of (map (item m w) as'))
replaced_items m w [] = refl
replaced_items m w (a ∷ as') = replaced_one m w a.0 a.1 as' (writes_of (map (item m w) as')) (replaced_items m w as')

-- what is not written is dropped
rest_first : (id : Option Identity) (x : Option Stored) (b : Bool) (ws : List Write) → (is_some x || b) ≡ true → drops_rest ws ≡ true → drops_rest (of_one id x b ++ ws) ≡ true
rest_first None x b ws t h = h
rest_first (Some id) x b ws t h = and_from (is_some x || b) (drops_rest ws) t h

rest_one : (m : PersistenceUnit) (w : Work) (n : ℕ) (a : Action) → (is_some (written m w n a) || is_replacing (post_event a)) ≡ true
rest_one m w n Insert = refl
rest_one m w n (Replace b) = refl
rest_one m w n (Drop b) = refl

rest_items : (m : PersistenceUnit) (w : Work) (as' : List (ℕ × Action)) → drops_rest (writes_of (map (item m w) as')) ≡ true
rest_items m w [] = refl
rest_items m w (a ∷ as') =
    rest_first (identity_at m w a.0) (written m w a.0 a.1) (is_replacing (post_event a.1)) (writes_of (map (item m w) as')) (rest_one m w a.0 a.1) (rest_items m w as')

abbrev pub new_view : PersistenceUnit → Work → StoredSet
new_view m w = write_each (plan_of m w) w.view

flushed_is : (m : PersistenceUnit) (w : Work) → T (is_sorted identity_cmp w.view) → has_distinct_entries m w ≡ true → flushed m w (actions m w) ≡ new_view m w
flushed_is m w rising distinct =
    let plan = plan_of m w in
    joined_items m w (actions m w) (without (replaced_in m w (actions m w)) w.view)
    ∙ ap (λ ids. joined (writes_of plan) (without ids w.view)) (replaced_items m w (actions m w))
    ∙ same_set (writes_of plan) w.view rising (ap (all_distinct same_identity) (names_of plan) ∙ plan_apart m w distinct) (rest_items m w (actions m w))
    ∙ applied_each plan w.view

-- ---- together

abbrev ending : World → List (ℕ × Action) → StoredSet → Op (Unit {0})
ending world plan set = change (after_flush world.model plan set) >> each (post world) plan

applied_is : (m : PersistenceUnit) (w : Work) (set : StoredSet) → after_flush m (actions m w) set w ≡ applied m (plan_of m w) set w
applied_is m w set = ap {A = Work} {B = Work} (λ v. record (all_remembered m v) { view = set }) (settled_items m w (actions m w) w)

ended : (world : World) (w : Work) (set : StoredSet) → ending world (actions world.model w) set w ≡ told_by world (written_by (plan_of world.model w)) (applied world.model (plan_of world.model w) set w)
ended world w set =
    let m = world.model in
    ap (each (post world) (actions m w)) (applied_is m w set) ∙ told_items world w (actions m w) (applied m (plan_of m w) set w)

-- the fault of the new set, else the plan
abbrev told_of : World → Work → Outcome (Unit {0})
told_of world w = told_by world (written_by (plan_of world.model w)) (applied world.model (plan_of world.model w) (new_view world.model w) w)

by_fault : (w : Work) (fault : Option PersistenceFault) (next : Op (Unit {0})) (o : Outcome (Unit {0})) → next w ≡ o → after (sound_or fault w) (λ _. next) ≡ after (sound_or fault w) (λ _ _. o)
by_fault w None next o e = e
by_fault w (Some fault) next o e = refl

written_is : (world : World) (w : Work) → T (is_sorted identity_cmp w.view) → has_distinct_entries world.model w ≡ true →
    write_all world w ≡ after (sound_or (fault_of world.model (new_view world.model w)) w) (λ _ _. told_of world w)
written_is world w rising distinct =
    let m = world.model in
    ap (λ set. after (sound_or (fault_of m set) w) (λ _. ending world (actions m w) set)) (flushed_is m w rising distinct)
    ∙ by_fault w (fault_of m (new_view m w)) (ending world (actions m w) (new_view m w)) (told_of world w) (ended world w (new_view m w))

-- a set is sound or refused over any work alike
pub no_fault : (fault : Option PersistenceFault) (w v : Work) → sound_or fault w ≡ Done tt v → fault ≡ None
no_fault None w v e = refl
no_fault (Some fault) w v e = absurd cc

none_refused : (r : Cause) (events : List Told) (w : Work) (o : Outcome (Unit {0})) → IsRefusedAs {A = Unit {0}} r events (Done tt w) → IsRefusedAs r events o
none_refused Cause.OutOfMemory events w o h = tt
none_refused Cause.StoreFault events w o h = h
none_refused r events w o h = absurd cc

refused_alike : (fault : Option PersistenceFault) (r : Cause) (w v : Work) (o : Outcome (Unit {0})) → v.events ≡ w.events → IsRefusedAs r v.events (sound_or fault v) → IsRefusedAs r v.events (after (sound_or fault w) (λ _ _. o))
refused_alike None r w v o same h = none_refused r v.events v o h
refused_alike (Some fault) r w v o same h = subst (λ es. IsRefusedAs {A = Unit {0}} r v.events (Refused (Cause.Persistence fault) es)) same h

-- a flush whose checks pass, where the new set is refused, and where it is sound
pub refused_by_fault : (world : World) (w v : Work) (r : Cause) → T (is_sorted identity_cmp w.view) → has_distinct_entries world.model w ≡ true → check_actions world w ≡ Done tt w →
    v.view ≡ new_view world.model w → v.events ≡ w.events → IsRefusedAs r v.events (sound_or (fault_of world.model v.view) v) → IsRefusedAs r v.events (writing world w)
refused_by_fault world w v r rising distinct passed set same h =
    let m = world.model in
    subst (IsRefusedAs r v.events) (sym (ap (λ o. after o (λ _. write_all world)) passed ∙ written_is world w rising distinct))
    (refused_alike (fault_of m (new_view m w)) r w v (told_of world w) same (subst (λ s. IsRefusedAs r v.events (sound_or (fault_of m s) v)) set h))

pub sound : (world : World) (w : Work) → T (is_sorted identity_cmp w.view) → has_distinct_entries world.model w ≡ true → check_actions world w ≡ Done tt w → fault_of world.model (new_view world.model w) ≡ None →
    writing world w ≡ told_by world (written_by (plan_of world.model w)) (applied world.model (plan_of world.model w) (new_view world.model w) w)
sound world w rising distinct passed e =
    ap (λ o. after o (λ _. write_all world)) passed ∙ written_is world w rising distinct ∙ ap (λ f. after (sound_or f w) (λ _ _. told_of world w)) e

-- ---- what code makes of a work

-- settled, remembered and written is the plan applied
pub made : (m : PersistenceUnit) (w v1 v2 v3 : Work) (ps qs : List Planned) → ps ≡ plan_of m w → qs ≡ plan_of m w → v1 ≡ learned_by m ps w → v2 ≡ all_remembered m v1 → v3 ≡ record v2 { view = write_each qs v2.view } →
    v3 ≡ applied m (plan_of m w) (new_view m w) w
made m w v1 v2 v3 ps qs p q settled remembered wrote =
    let plan = plan_of m w in
    let all : v2 ≡ all_remembered m (settled_by plan w) = remembered ∙ ap (all_remembered m) settled ∙ learned_remembered m w ps p in
    wrote
    ∙ (λ i. record (all i) { view = write_each (q i) (all i).view })
    ∙ ap {A = StoredSet} {B = Work} (λ s. record (all_remembered m (settled_by plan w)) { view = write_each plan s }) (settled_alike plan w).view

pub applied_shapes : (m : PersistenceUnit) (w v : Work) (plan : List Planned) (set : StoredSet) → v ≡ applied m plan set w → IsReady m w → All (HasShape m) v.objects
applied_shapes m w v plan set same ready = subst (λ (u : Work). All (HasShape m) u.objects) (sym same) (alike_ready m w (settled_by plan w) (settled_alike plan w) ready).placed.objects

written_within : (n : ℕ) (ps : List Planned) → All (λ p. p.object < n) ps → All (λ x. x.object < n) (written_by ps)
written_within n [] h = All-nil (λ (x : Written). x.object < n)
written_within n (p ∷ ps) h =
    All-cons (λ (x : Written). x.object < n) (written_as p) (written_by ps) (All-head (λ (q : Planned). q.object < n) p ps h) (written_within n ps (All-tail (λ (q : Planned). q.object < n) p ps h))

pub applied_within : (m : PersistenceUnit) (w v : Work) (plan ps : List Planned) (xs : List Written) (set : StoredSet) → xs ≡ written_by ps → v ≡ applied m plan set w → All (λ p. p.object < length w.objects) ps →
    All (λ x. x.object < length v.objects) xs
applied_within m w v plan ps xs set all same within =
    subst (λ n. All (λ (x : Written). x.object < n) xs) (sym (ap (λ (u : Work). length u.objects) same ∙ (settled_alike plan w).count))
    (subst (λ (ys : List Written). All (λ x. x.object < length w.objects) ys) (sym all) (written_within (length w.objects) ps within))

-- the set that is judged is what the plan made of the one before
pub written_of : (m : PersistenceUnit) (w v : Work) (ps : List Planned) (xs : List Written) → ps ≡ plan_of m w → xs ≡ written_by ps → v ≡ applied m (plan_of m w) (new_view m w) w → T (is_sorted identity_cmp w.view) → IsSound m w.view →
    IsWritten m w ps xs v.view
written_of m w v ps xs p all same rising whole =
    record {
      rising = rising;
      sound = whole;
      objects = all;
      classes = subst (λ (ys : List Written). All (λ x. x.class_before ≡ class_there (row_at w x.id)) ys) (sym (all ∙ ap written_by p)) (plan_of_class m w);
      set = ap (λ (u : Work). u.view) same ∙ ap (λ qs. write_each qs w.view) (sym p);
    }

-- and what code answers then is the flush's outcome
pub refused_at_fault : (world : World) (w v : Work) (r : Cause) → T (is_sorted identity_cmp w.view) → has_distinct_entries world.model w ≡ true → check_actions world w ≡ Done tt w →
    v ≡ applied world.model (plan_of world.model w) (new_view world.model w) w → IsRefusedAs r v.events (sound_or (fault_of world.model v.view) v) → IsRefusedAs r v.events (writing world w)
refused_at_fault world w v r rising distinct passed same h =
    refused_by_fault world w v r rising distinct passed (ap (λ (u : Work). u.view) same) (ap (λ (u : Work). u.events) same ∙ settled_events (plan_of world.model w) w) h

pub told_at_end : (world : World) (w v : Work) (xs : List Written) → T (is_sorted identity_cmp w.view) → has_distinct_entries world.model w ≡ true → check_actions world w ≡ Done tt w →
    xs ≡ written_by (plan_of world.model w) → v ≡ applied world.model (plan_of world.model w) (new_view world.model w) w → sound_or (fault_of world.model v.view) v ≡ Done tt v → told_by world xs v ≡ writing world w
told_at_end world w v xs rising distinct passed all same whole =
    let m = world.model in
    (λ i. told_by world (all i) (same i))
    ∙ sym (sound world w rising distinct passed (ap (λ (u : Work). fault_of m u.view) (sym same) ∙ no_fault (fault_of m v.view) v v whole))
