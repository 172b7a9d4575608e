-- What events leave of a work: objects have other values at most, and nothing else is other but what was told.
use Rattle.std.proofs.Common.{◌≡◌, ◌∙◌, ◌≢◌, ◌⊎◌, ℕ, ◌<◌, ◌≤◌, List, [], ◌∷◌, map, length, refl, ap, sym, subst, inl, inr}
use Rattle.std.specs.Prelude.{slice_set, Option, Some, None}
use Rattle.std.proofs.lemmas.Bool.{cases_eq, cases_lt}
use Rattle.std.proofs.lemmas.List.{length-set, get_or-set_same, get_or-set_other, set_past}
use Rattle.jpa_value.specs.declared.event.LifecycleEvent.{LifecycleEvent}
use Rattle.jpa_model.specs.declared.unit.PersistenceUnit.{PersistenceUnit}
use Rattle.jpa_behaviour.specs.Behaviour.{World}
use Rattle.jpa_work.specs.declared.heap.LiveObject.{LiveObject}
use Rattle.jpa_work.specs.heap.Objects.{no_object, object_at}
use Rattle.jpa_work.specs.declared.context.Entry.{Entry}
use Rattle.jpa_work.specs.context.Steps.{Outcome, Done, Refused, Op, done, after, each}
use Rattle.jpa_work.specs.context.Indexed.{placed}
use Rattle.jpa_work.specs.context.Work.{Work, object}
use Rattle.jpa_lifecycle.specs.Callbacks.{callback}
use Rattle.jpa_lifecycle.proofs.Keeps.{IsRevalued, revalued_none, revalued_twice, HasHappened, happened}
use Rattle.jpa_operations.specs.fetch.Grown.{IsReady}
use Rattle.jpa_flush.specs.declared.flush.steps.FlushAction.{FlushAction}
use Rattle.jpa_flush.specs.declared.flush.writing.Written.{Written}
use Rattle.jpa_flush.specs.flush.Flush.{Action, Insert, Replace, Drop, action_of, pre_update_for, pre_update_one, pre_update}
use Rattle.jpa_flush.specs.flush.Plan.{update, tell, told_by}
use Rattle.jpa_flush.proofs.flush.Alike.{IsLike, IsAlike, alike_ready}

pub record IsUpdated (w v : Work) : Type 0 where
  pub manager : v.manager ≡ w.manager
  pub context : v.context ≡ w.context
  pub numbers : v.numbers ≡ w.numbers
  pub view : v.view ≡ w.view
  pub count : length v.objects ≡ length w.objects
  pub objects : (n : ℕ) → IsRevalued (object w n) (object v n)

pub updated_none : (w : Work) → IsUpdated w w
updated_none w = record { manager = refl; context = refl; numbers = refl; view = refl; count = refl; objects = λ n. revalued_none (object w n) }

pub updated_twice : (u w v : Work) → IsUpdated u w → IsUpdated w v → IsUpdated u v
updated_twice u w v h g =
    record {
      manager = g.manager ∙ h.manager;
      context = g.context ∙ h.context;
      numbers = g.numbers ∙ h.numbers;
      view = g.view ∙ h.view;
      count = g.count ∙ h.count;
      objects = λ n. revalued_twice (object u n) (object w n) (object v n) (h.objects n) (g.objects n);
    }

-- ---- one event

set_revalued : (xs : List LiveObject) (n k : ℕ) (y : LiveObject) → IsRevalued (object_at xs n) y → IsRevalued (object_at xs k) (object_at (slice_set xs n y) k)
set_revalued xs n k y h = by (cases_eq k n) (cases_lt n (length xs))
  where
    by : (k ≡ n) ⊎ (k ≢ n) → (n < length xs) ⊎ (length xs ≤ n) → IsRevalued (object_at xs k) (object_at (slice_set xs n y) k)
    by (inr other) l = subst (IsRevalued (object_at xs k)) (sym (get_or-set_other xs n k y no_object other)) (revalued_none (object_at xs k))
    by (inl same) (inl l) =
        subst (λ i. IsRevalued (object_at xs i) (object_at (slice_set xs n y) i)) (sym same)
        (subst (IsRevalued (object_at xs n)) (sym (get_or-set_same xs n y no_object l)) h)
    by (inl same) (inr past) =
        subst (λ (os : List LiveObject). IsRevalued (object_at xs k) (object_at os k)) (sym (set_past xs n y past)) (revalued_none (object_at xs k))

by_event : (n : ℕ) (w v : Work) → HasHappened n w v → IsUpdated w v
by_event n w v h =
    record {
      manager = ap (λ (u : Work). u.manager) h.same;
      context = ap (λ (u : Work). u.context) h.same;
      numbers = ap (λ (u : Work). u.numbers) h.same;
      view = ap (λ (u : Work). u.view) h.same;
      count = ap (λ (u : Work). length u.objects) h.same ∙ length-set w.objects n h.object;
      objects = λ k. subst (λ (u : Work). IsRevalued (object w k) (object u k)) (sym h.same) (set_revalued w.objects n k h.object h.revalued);
    }

pub by_callback : (world : World) (event : LifecycleEvent) (n : ℕ) (w v : Work) → callback world event n w ≡ Done tt v → IsUpdated w v
by_callback world event n w v e = by_event n w v (happened world event n w v e)

-- ---- events one after another, each of which relates what it is given and what it leaves

module _ (R : Work → Work → Type 0) (none : (w : Work) → R w w) (twice : (u w v : Work) → R u w → R w v → R u v) (world : World)
    (happens : (event : LifecycleEvent) (n : ℕ) (w v : Work) → callback world event n w ≡ Done tt v → R w v) where
  related_none : (w v : Work) → done w ≡ Done tt v → R w v
  related_none w v e = let same : w ≡ v = cc in subst (R w) same (none w)

  related_first : (o : Outcome (Unit {0})) (next : Op (Unit {0})) (w v : Work) → ((u : Work) → o ≡ Done tt u → R w u) → ((u : Work) → next u ≡ Done tt v → R u v) → after o (λ _. next) ≡ Done tt v → R w v
  related_first (Done a u) next w v h g e = twice w u v (h u refl) (g u e)
  related_first (Refused r es) next w v h g e = absurd cc

  related_each : {X : Type 0} (f : X → Op (Unit {0})) → ((x : X) (w v : Work) → f x w ≡ Done tt v → R w v) → (xs : List X) (w v : Work) → each f xs w ≡ Done tt v → R w v
  related_each f h [] w v e = related_none w v e
  related_each f h (x ∷ xs) w v e = related_first (f x w) (each f xs) w v (λ u k. h x w u k) (λ u k. related_each f h xs u v k) e

  related_update : (e : Entry) (a : Option Action) (w v : Work) → pre_update_for world e a w ≡ Done tt v → R w v
  related_update e (Some (Replace b)) w v k = happens LifecycleEvent.PreUpdate e.object w v k
  related_update e (Some Insert) w v k = related_none w v k
  related_update e (Some (Drop b)) w v k = related_none w v k
  related_update e None w v k = related_none w v k

  -- PreUpdate
  pub related_updates : (w v : Work) → pre_update world w ≡ Done tt v → R w v
  related_updates w v e = related_each (pre_update_one world) (λ x u t k. related_update x (action_of world.model u x) u t k) w.context w v e

  -- the Post events
  pub related_told : (xs : List Written) (w v : Work) → told_by world xs w ≡ Done tt v → R w v
  related_told xs w v e = related_each (tell world) (λ x u t k. happens x.event x.object u t k) xs w v e

  -- one step of the flush
  pub related_step : (n : ℕ) (s : FlushAction) (w v : Work) → update world n s w ≡ Done tt v → R w v
  related_step n FlushAction.Keep w v e = related_none w v e
  related_step n FlushAction.Insert w v e = related_none w v e
  related_step n (FlushAction.Replace version) w v e = happens LifecycleEvent.PreUpdate n w v e
  related_step n (FlushAction.Drop version) w v e = related_none w v e

pub by_updates : (world : World) (w v : Work) → pre_update world w ≡ Done tt v → IsUpdated w v
by_updates world w v e = related_updates IsUpdated updated_none updated_twice world (by_callback world) w v e

pub by_told : (world : World) (xs : List Written) (w v : Work) → told_by world xs w ≡ Done tt v → IsUpdated w v
by_told world xs w v e = related_told IsUpdated updated_none updated_twice world (by_callback world) xs w v e

pub by_step : (world : World) (n : ℕ) (s : FlushAction) (w v : Work) → update world n s w ≡ Done tt v → IsUpdated w v
by_step world n s w v e = related_step IsUpdated updated_none updated_twice world (by_callback world) n s w v e

-- ---- what stays

like_revalued : (x y : LiveObject) → IsRevalued x y → IsLike x y
like_revalued x y h =
    record {
      class = ap (λ (o : LiveObject). o.class) h.same;
      key = ap (λ (o : LiveObject). o.key) h.same;
      relations = ap (λ (o : LiveObject). o.relations) h.same;
      count = h.count;
    }

pub updated_alike : (w v : Work) → IsUpdated w v → IsAlike w v
updated_alike w v h =
    record {
      numbers = h.numbers;
      view = h.view;
      context = ap (λ (es : List Entry). map placed es) h.context;
      count = h.count;
      objects = λ n. like_revalued (object w n) (object v n) (h.objects n);
    }

pub updated_ready : (m : PersistenceUnit) (w v : Work) → IsUpdated w v → IsReady m w → IsReady m v
updated_ready m w v h r = alike_ready m w v (updated_alike w v h) r
