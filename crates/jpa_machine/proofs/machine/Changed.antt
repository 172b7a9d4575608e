-- What is kept where one live object changes, and the outcome of set.
use Rattle.jpa_value.specs.Limits.{most_objects}
use Rattle.std.proofs.Common.{◌≡◌, ◌≢◌, ◌<◌, ◌≤◌, ◌⊎◌, inl, inr, ℕ, true, false, List, length, refl, ap, sym, subst, ◌∙◌, arith}
use Rattle.std.specs.Prelude.{slice_set, Result, Ok, Err}
use Rattle.std.specs.List.{All}
use Rattle.jpa_model.specs.Chains.{member_of}
use Rattle.std.proofs.lemmas.Bool.{false≢true, cases_eq}
use Rattle.std.proofs.lemmas.List.{get_or-set_same, get_or-set_other, length-set}
use Rattle.std.proofs.lemmas.List.Elements.{All-weaker, All-set}
use Rattle.jpa_value.specs.declared.refusal.Cause.{Cause}
use Rattle.jpa_model.specs.declared.unit.PersistenceUnit.{PersistenceUnit}
use Rattle.jpa_behaviour.specs.Behaviour.{World}
use Rattle.jpa_work.specs.declared.heap.Life.{Life}
use Rattle.jpa_work.specs.declared.heap.Handed.{Handed}
use Rattle.jpa_work.specs.declared.heap.LiveObject.{LiveObject}
use Rattle.jpa_work.specs.heap.Objects.{object_at, no_object, is_new}
use Rattle.jpa_work.specs.heap.Assign.{set_in}
use Rattle.jpa_work.specs.declared.context.Entry.{Entry}
use Rattle.jpa_work.specs.context.Work.{Work, object, with_object}
use Rattle.jpa_operations.specs.fetch.Members.{placed, set}
use Rattle.jpa_machine.specs.machine.Consistent.{IsLive, IsEntry, is_held_by, stands_in}
use Rattle.jpa_work.specs.heap.Shape.{IsInHeap}
use Rattle.jpa_operations.specs.fetch.Orderly.{IsOrderly}
use Rattle.jpa_machine.proofs.machine.Facts.{numbers_same}
use Rattle.jpa_machine.specs.machine.Going.{HoldsAfter}
use Rattle.jpa_machine.specs.machine.Consistent.{IsConsistent, contexts, Others}
use Rattle.jpa_machine.proofs.machine.Kept.{KeepsClasses, KeepsHeld, others_kept, live_kept, entry_kept, distinct_kept}
use Rattle.jpa_machine.proofs.machine.Setting.{IsSet, OnObject, handed_representable, set_is, version_named}

-- ---- one object replaced

module _ (os : List LiveObject) (n : ℕ) (y : LiveObject) (within : n < length os) where
  pub object_read : (k : ℕ) → ((k ≡ n) × (object_at (slice_set os n y) k ≡ y)) ⊎ ((k ≢ n) × (object_at (slice_set os n y) k ≡ object_at os k))
  object_read k = by_cases (cases_eq k n)
    where
      by_cases : (k ≡ n) ⊎ (k ≢ n) → ((k ≡ n) × (object_at (slice_set os n y) k ≡ y)) ⊎ ((k ≢ n) × (object_at (slice_set os n y) k ≡ object_at os k))
      by_cases (inl e) = inl (e, ap (λ j. object_at (slice_set os n y) j) e ∙ get_or-set_same os n y no_object within)
      by_cases (inr apart) = inr (apart, get_or-set_other os n k y no_object apart)

  -- what holds of each object, at the one replaced and at the others
  pub at_each : (P : ℕ → LiveObject → Type 0) (k : ℕ) → P n y → (k ≢ n → P k (object_at os k)) → P k (object_at (slice_set os n y) k)
  at_each P k own other = by_cases (object_read k)
    where
      by_cases : ((k ≡ n) × (object_at (slice_set os n y) k ≡ y)) ⊎ ((k ≢ n) × (object_at (slice_set os n y) k ≡ object_at os k)) → P k (object_at (slice_set os n y) k)
      by_cases (inl h) = subst (P k) (sym h.1) (subst (λ j. P j y) (sym h.0) own)
      by_cases (inr h) = subst (P k) (sym h.1) (other h.0)

  more_set : length os ≤ length (slice_set os n y)
  more_set = let e = length-set os n y in omega (arith, e)

  pub keeps_set : y.class ≡ (object_at os n).class → KeepsClasses os (slice_set os n y)
  keeps_set c = record { more = more_set; class = λ k l. at_each (λ j z. z.class ≡ (object_at os j).class) k c (λ apart. refl) }

  -- for a manager that holds the object before and after
  pub holds_set : (k : ℕ) → (is_held_by k (object_at os n).life ≡ true → (y.class ≡ (object_at os n).class) × (y.key ≡ (object_at os n).key) × (is_held_by k y.life ≡ true)) →
      KeepsHeld k os (slice_set os n y)
  holds_set k h =
      record {
        more = more_set;
        class = λ j l held. at_each (λ i z. is_held_by k (object_at os i).life ≡ true → z.class ≡ (object_at os i).class) j (λ e. (h e).0) (λ apart e. refl) held;
        key = λ j l held. at_each (λ i z. is_held_by k (object_at os i).life ≡ true → z.key ≡ (object_at os i).key) j (λ e. (h e).1) (λ apart e. refl) held;
        held = λ j l held. at_each (λ i z. is_held_by k (object_at os i).life ≡ true → is_held_by k z.life ≡ true) j (λ e. (h e).2) (λ apart e. e) held;
      }

  -- for a manager that does not hold it
  pub holds_apart : (k : ℕ) → is_held_by k (object_at os n).life ≡ false → KeepsHeld k os (slice_set os n y)
  holds_apart k apart = holds_set k (λ e. absurd (false≢true (sym apart ∙ e)))

  pub live_set : (m : PersistenceUnit) → y.class ≡ (object_at os n).class → All (IsLive m os) os → IsLive m os y → All (IsLive m (slice_set os n y)) (slice_set os n y)
  live_set m c h own =
      let ps = slice_set os n y in
      All-set (IsLive m ps) os n y (live_kept m os ps (keeps_set c) y own) (All-weaker (IsLive m os) (IsLive m ps) (live_kept m os ps (keeps_set c)) os h)

  pub placed_set : (context : ℕ → List Entry) → ((k : ℕ) → k < length os → stands_in context k (object_at os k).life ≡ true) → stands_in context n y.life ≡ true →
      (k : ℕ) → k < length (slice_set os n y) → stands_in context k (object_at (slice_set os n y) k).life ≡ true
  placed_set context h own k l =
      at_each (λ j z. stands_in context j z.life ≡ true) k own (λ apart. h k (let e = length-set os n y in omega (arith, e, l)))

-- ---- set

held_old : (k : ℕ) (life : Life) → is_held_by k life ≡ true → is_new life ≡ false
held_old k Life.New h = absurd (false≢true h)
held_old k (Life.Managed j) h = refl
held_old k (Life.Removed j) h = refl
held_old k Life.Detached h = refl

-- one object changes as set changes it
pub changed_at_work : {world : World} {M : Others} {m : ℕ} {w : Work} (n : ℕ) (y : LiveObject) → n < length w.objects → IsSet world.model w.objects (object w n) y → IsConsistent world M m w →
    IsConsistent world M m (with_object n y w)
changed_at_work {world} {M} {m} {w} n y l s h =
    let os = w.objects in
    let x = object w n in
    let keeps : (k : ℕ) → KeepsHeld k os (slice_set os n y) = λ k.
    holds_set os n y l k (λ e. (s.class, s.key (held_old k x.life e), subst (λ life. is_held_by k life ≡ true) (sym s.life) e)) in
    let up = numbers_same w.numbers in
    record {
      manager = h.manager;
      objects = live_set os n y l world.model s.class h.objects (s.live h.objects (h.objects n no_object l));
      entries = All-weaker (IsEntry world.model os w.numbers m) (IsEntry world.model (slice_set os n y) w.numbers m) (λ e. entry_kept (keeps m) up) w.context h.entries;
      distinct = distinct_kept w.context (keeps m) h.entries h.distinct;
      others = λ k l' apart. others_kept (keeps k) up (h.others k l' apart);
      placed = placed_set os n y l (contexts M m w) h.placed (subst (λ life. stands_in (contexts M m w) n life ≡ true) (sym s.life) (h.placed n l));
      view = h.view;
      numbered = h.numbered;
      raised = h.raised;
      few = subst (λ j. j ≤ most_objects) (sym (length-set os n y)) h.few;
    }

-- ---- the outcome of set

-- the work with one object replaced by what set makes of it
abbrev pub HasSet : World → Work → Work → Type 0
HasSet world w w' = (n : ℕ) × (y : LiveObject) × (n < length w.objects) × IsSet world.model w.objects (object w n) y × (w' ≡ with_object n y w)

placed_holds : (world : World) (w : Work) (n : ℕ) (r : Result LiveObject Cause) → n < length w.objects → OnObject (IsSet world.model w.objects (object w n)) r →
    HoldsAfter (λ u w'. HasSet world w w') (placed n r w)
placed_holds world w n (Ok y) l h = (n, y, l, h, refl)
placed_holds world w n (Err r) l h = tt

pub set_holds : (world : World) → IsOrderly world.model → (w : Work) (n : ℕ) (name : List ℕ) (v : Handed) → n < length w.objects → handed_representable v ≡ true → IsInHeap w.objects v →
    HoldsAfter (λ u w'. HasSet world w w') (set world n name v w)
set_holds world orderly w n name v l rep there =
    placed_holds world w n (set_in world.model w.objects n name v) l
    (set_is world.model orderly w.objects (object w n) v rep there (member_of world.model (object w n).class name) (version_named world.model (object w n).class name))
