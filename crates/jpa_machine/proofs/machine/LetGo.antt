-- What holds while a manager is at work is kept where it lets an object go.
use Rattle.jpa_value.specs.Limits.{most_objects}
use Rattle.std.proofs.Common.{◌≡◌, ◌≢◌, ◌<◌, ◌≤◌, ℕ, Bool, true, false, List, [], ◌∷◌, length, refl, sym, subst, ◌∙◌, arith}
use Rattle.std.specs.Prelude.{slice_set, ◌==◌, if◌then◌else◌}
use Rattle.std.specs.List.{AllByRecursion}
use Rattle.std.proofs.lemmas.Bool.{ne_eqb, eqb-false}
use Rattle.std.proofs.lemmas.List.{length-set, get_or-set_other}
use Rattle.std.proofs.lemmas.List.Elements.{All-weaker, All-from_recursion, recursion_from_All}
use Rattle.jpa_behaviour.specs.Behaviour.{World}
use Rattle.jpa_work.specs.declared.heap.Life.{Life}
use Rattle.jpa_work.specs.heap.Objects.{object_at, no_object, with_life}
use Rattle.jpa_work.specs.declared.context.Entry.{Entry}
use Rattle.jpa_work.specs.context.Work.{Work, object}
use Rattle.jpa_operations.specs.ops.States.{let_go}
use Rattle.jpa_machine.specs.machine.Consistent.{IsEntry, IsConsistent, Others, are_one, contexts, is_held_by, name_of, stands_in}
use Rattle.jpa_machine.proofs.machine.Facts.{numbers_same}
use Rattle.jpa_machine.proofs.machine.Kept.{others_kept, distinct_same}
use Rattle.jpa_machine.proofs.machine.Changed.{at_each, holds_apart, live_set}
use Rattle.jpa_machine.proofs.machine.Detached.{distinct_part, entry_stays, leaves_not, stands, staying, staying_each, stays}
use Rattle.jpa_machine.proofs.machine.Entered.{held_alone}

-- the entries of the other objects stand in the context still
stands_without : (M : Others) (m : ℕ) (w : Work) (n k : ℕ) (life : Life) → k ≢ n → stands_in (contexts M m w) k life ≡ true → stands_in (contexts M m (record w { context = staying (λ j. j == n) w.context })) k life ≡ true
stands_without M m w n k life d h = by_life life h
  where
    by_test : (b : Bool) (es : List Entry) → stands k (if b then w.context else es) ≡ true → stands k (if b then staying (λ j. j == n) w.context else es) ≡ true
    by_test true es h = stays (λ j. j == n) k w.context h (leaves_not (λ j. j == n) k w.context (ne_eqb k n d))
    by_test false es h = h

    by_life : (life : Life) → stands_in (contexts M m w) k life ≡ true → stands_in (contexts M m (record w { context = staying (λ j. j == n) w.context })) k life ≡ true
    by_life Life.New h = refl
    by_life (Life.Managed j) h = by_test (j == m) (M.context j) h
    by_life (Life.Removed j) h = by_test (j == m) (M.context j) h
    by_life Life.Detached h = refl

pub let_go_at_work : {world : World} {M : Others} {m : ℕ} {w : Work} (n : ℕ) → IsConsistent world M m w → n < length w.objects → is_held_by m (object w n).life ≡ true → IsConsistent world M m (let_go n w)
let_go_at_work {world} {M} {m} {w} n h l held =
    let model = world.model in
    let os = w.objects in
    let x = object w n in
    let y = with_life x Life.Detached in
    let ps = slice_set os n y in
    let es = w.context in
    let fs = staying (λ j. j == n) es in
    let live = (h.objects) n no_object l in
    let up = numbers_same w.numbers in
    let more : length os ≤ length ps = let s = length-set os n y in omega (arith, s) in
    let kept : AllByRecursion (λ (e : Entry). IsEntry model os w.numbers m e × ((e.object == n) ≡ false)) fs =
    staying_each (IsEntry model os w.numbers m) (λ j. j == n) es (recursion_from_All (IsEntry model os w.numbers m) es h.entries) in
    let named : (k : ℕ) → name_of model (object_at ps k) ≡ name_of model (object_at os k) =
    λ k. at_each os n y l (λ j z. name_of model z ≡ name_of model (object_at os j)) k refl (λ d. refl) in
    record {
      manager = h.manager;
      objects = live_set os n y l model refl h.objects
          (record {
            class = live.class;
            key = live.key;
            version = live.version;
            values = live.values;
            relations = live.relations;
            key_representable = live.key_representable;
            version_representable = live.version_representable;
            values_representable = live.values_representable;
            links_representable = live.links_representable;
          });
      entries = All-weaker (λ (e : Entry). IsEntry model os w.numbers m e × ((e.object == n) ≡ false)) (IsEntry model ps w.numbers m)
          (λ e k. entry_stays e more (get_or-set_other os n e.object y no_object (eqb-false e.object n k.1)) k.0) fs
          (All-from_recursion (λ (e : Entry). IsEntry model os w.numbers m e × ((e.object == n) ≡ false)) fs kept);
      distinct = sym (distinct_same model os ps fs (all_named fs named)) ∙ distinct_part (are_one model os) _ es h.distinct;
      others = λ k l' d. others_kept (holds_apart os n y l k (held_alone m k x.life d held)) up (h.others k l' d);
      placed = λ k l'. at_each os n y l (λ j z. stands_in (contexts M m (record w { context = fs })) j z.life ≡ true) k refl
          (λ d. stands_without M m w n k (object w k).life d (h.placed k (let s = length-set os n y in omega (arith, s, l'))));
      view = h.view;
      numbered = h.numbered;
      raised = h.raised;
      few = subst (λ j. j ≤ most_objects) (sym (length-set os n y)) h.few;
    }
  where
    all_named : (fs : List Entry) →
        ((k : ℕ) → name_of world.model (object_at (slice_set w.objects n (with_life (object w n) Life.Detached)) k) ≡ name_of world.model (object_at w.objects k)) →
        AllByRecursion (λ (e : Entry). name_of world.model (object_at (slice_set w.objects n (with_life (object w n) Life.Detached)) e.object) ≡ name_of world.model (object_at w.objects e.object)) fs
    all_named [] h = tt
    all_named (e ∷ es) h = (h e.object, all_named es h)
