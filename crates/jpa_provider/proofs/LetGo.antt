-- Objects that a manager lets go: detached as they are, one after the other.
use Rattle.std.proofs.Common.{◌≡◌, ◌≢◌, ◌<◌, ◌≤◌, ◌⊎◌, inl, inr, ℕ, Bool, true, List, [], ◌∷◌, length, refl, ap, sym, subst, ◌∙◌}
use Rattle.std.specs.Prelude.{slice_set, ◌||◌}
use Rattle.std.proofs.lemmas.Bool.{cases_eq, cases_lt}
use Rattle.std.proofs.lemmas.List.{get_or-set_same, get_or-set_other, length-set, set_past}
use Rattle.jpa_work.specs.declared.heap.Life.{Life}
use Rattle.jpa_work.specs.declared.heap.LiveObject.{LiveObject}
use Rattle.jpa_work.specs.heap.Objects.{no_object, object_at, with_life}
use Rattle.jpa_behaviour.specs.Behaviour.{World}
use Rattle.jpa_cascade.specs.declared.Node.{Node}
use Rattle.jpa_cascade.specs.declared.Operation.{Operation}
use Rattle.jpa_cascade.specs.Waves.{waves}
use Rattle.jpa_work.specs.declared.context.EntityState.{EntityState}
use Rattle.jpa_work.specs.context.Steps.{after, each, Outcome, Done, Refused}
use Rattle.jpa_work.specs.context.Work.{Work, is_managed, is_removed, state_of}
use Rattle.jpa_operations.specs.ops.States.{detach, detach_node, detach_one, let_go}
use Rattle.jpa_flush.specs.marking.Shared.{LetsGo, is_held_by}
use Rattle.jpa_machine.specs.machine.Going.{HoldsAfter}

module _ (test : Life → Bool) where
  abbrev IsFreed : LiveObject → LiveObject → Type 0
  IsFreed x y = (y ≡ x) ⊎ ((test x.life ≡ true) × (y ≡ with_life x Life.Detached))

  pub lets_same : (xs : List LiveObject) → LetsGo test xs xs
  lets_same xs = record { count = refl; each = λ n. inl refl }

  freed_twice : (x y z : LiveObject) → IsFreed x y → IsFreed y z → IsFreed x z
  freed_twice x y z (inl a) (inl b) = inl (b ∙ a)
  freed_twice x y z (inl a) (inr b) = inr (subst (λ (u : LiveObject). test u.life ≡ true) a b.0, b.1 ∙ ap (λ u. with_life u Life.Detached) a)
  freed_twice x y z (inr a) (inl b) = inr (a.0, b ∙ a.1)
  freed_twice x y z (inr a) (inr b) = inr (a.0, b.1 ∙ ap (λ u. with_life u Life.Detached) a.1)

  pub lets_then : (xs ys zs : List LiveObject) → LetsGo test xs ys → LetsGo test ys zs → LetsGo test xs zs
  lets_then xs ys zs a b = record { count = b.count ∙ a.count; each = λ n. freed_twice (object_at xs n) (object_at ys n) (object_at zs n) (a.each n) (b.each n) }

  -- one of them
  pub lets_one : (xs : List LiveObject) (n : ℕ) → test (object_at xs n).life ≡ true → LetsGo test xs (slice_set xs n (with_life (object_at xs n) Life.Detached))
  lets_one xs n passes = record { count = length-set xs n y; each = λ k. by_place k (cases_eq k n) (cases_lt n (length xs)) }
    where
      y : LiveObject
      y = with_life (object_at xs n) Life.Detached

      by_place : (k : ℕ) → (k ≡ n) ⊎ (k ≢ n) → (n < length xs) ⊎ (length xs ≤ n) → IsFreed (object_at xs k) (object_at (slice_set xs n y) k)
      by_place k (inr d) there = inl (get_or-set_other xs n k y no_object d)
      by_place k (inl e) (inl l) = subst (λ j. IsFreed (object_at xs j) (object_at (slice_set xs n y) j)) (sym e) (inr (passes, get_or-set_same xs n y no_object l))
      by_place k (inl e) (inr l) = inl (ap (λ zs. object_at zs k) (set_past xs n y l))

-- ---- detach

abbrev GoesFrom : Work → Work → Type 0
GoesFrom w v = (v.manager ≡ w.manager) × LetsGo (is_held_by w.manager) w.objects v.objects

-- the object that the manager holds, and then the others
then_each : (xs : List Node) (n : ℕ) (w : Work) → (is_removed (state_of w n) || is_managed (state_of w n)) ≡ true → HoldsAfter (λ u v. GoesFrom (let_go n w) v) (each detach_node xs (let_go n w)) →
    HoldsAfter (λ u v. GoesFrom w v) (each detach_node xs (let_go n w))
then_each xs n w held rest = by_outcome (each detach_node xs (let_go n w)) rest
  where
    by_outcome : (o : Outcome (Unit {0})) → HoldsAfter (λ u v. GoesFrom (let_go n w) v) o → HoldsAfter (λ u v. GoesFrom w v) o
    by_outcome (Done u v) h = (h.0, lets_then (is_held_by w.manager) w.objects (let_go n w).objects v.objects (lets_one (is_held_by w.manager) w.objects n held) h.1)
    by_outcome (Refused r events) h = tt

-- the nodes of a detach, one after the other
pub each_let_go : (xs : List Node) (w : Work) → HoldsAfter (λ u v. GoesFrom w v) (each detach_node xs w)
each_let_go [] w = (refl, lets_same (is_held_by w.manager) w.objects)
each_let_go (Node.Bare id ∷ xs) w = each_let_go xs w
each_let_go (Node.Live n ∷ xs) w = by_state (state_of w n) refl (each_let_go xs w) (each_let_go xs (let_go n w))
  where
    by_state : (s : EntityState) → state_of w n ≡ s → HoldsAfter (λ u v. GoesFrom w v) (each detach_node xs w) → HoldsAfter (λ u v. GoesFrom (let_go n w) v) (each detach_node xs (let_go n w)) →
        HoldsAfter (λ u v. GoesFrom w v) (after (detach_one n s w) (λ u. each detach_node xs))
    by_state EntityState.New e same freed = same
    by_state EntityState.Detached e same freed = same
    by_state EntityState.Managed e same freed = then_each xs n w (ap (λ s. is_removed s || is_managed s) e) freed
    by_state EntityState.Removed e same freed = then_each xs n w (ap (λ s. is_removed s || is_managed s) e) freed

pub detach_lets_go : (world : World) (n : ℕ) (w v : Work) → detach world n w ≡ Done tt v → LetsGo (is_held_by w.manager) w.objects v.objects
detach_lets_go world n w v e = (subst (HoldsAfter (λ u x. GoesFrom w x)) e (each_let_go (waves world.model Operation.Detach w n) w)).1
