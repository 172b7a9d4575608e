-- What a statement that was done leaves a store can hold.
use Rattle.std.proofs.Common.{◌≡◌, ◌∙◌, refl, ap, sym, subst, ℕ, true, List}
use Rattle.std.specs.Prelude.{Option, Some, None, Result, Ok, Err}
use Rattle.jpa_value.specs.declared.refusal.Cause.{Cause}
use Rattle.jpa_value.specs.declared.refusal.PersistenceFault.{PersistenceFault}
use Rattle.jpa_model.specs.declared.unit.PersistenceUnit.{PersistenceUnit}
use Rattle.jpa_behaviour.specs.Behaviour.{World}
use Rattle.jpa_stored.specs.objects.Sets.{StoredSet, fault_of, IsSound}
use Rattle.jpa_rows.specs.rows.Cells.{CanBeHeld, all_representable}
use Rattle.jpa_work.specs.context.Work.{Work}
use Rattle.jpa_work.specs.context.Steps.{Done, Refused, after}
use Rattle.jpa_flush.specs.flush.Flush.{sound_or}
use Rattle.jpql_trees.specs.declared.tree.Query.{Query}
use Rattle.jpql_trees.specs.tree.Names.{Text}
use Rattle.jpql_types.specs.declared.sort.Sort.{Sort}
use Rattle.jpql_trees.specs.declared.typed.typed.Typed.{Typed}
use Rattle.jpql_meaning.specs.declared.eval.datum.Datum.{Datum}
use Rattle.jpql_meaning.specs.plan.Bulk.{Changed, updated, deleted}
use Rattle.jpql_bulk.specs.kept.Fits.{throws_in}
use Rattle.jpql_bulk.proofs.kept.Kept.{update_keeps, delete_keeps}
use Rattle.jpa_asked.specs.declared.asked.Statement.{Statement}
use Rattle.jpa_updates.specs.Held.{IsAsked, IsHeld}
use Rattle.jpa_updates.specs.Updates.{changed_by, settle, settled, with_view, run_bulk}

not_done : {A : Type 0} (a : A) (v : Work) (r : Cause) (w : Work) → Refused r w.events ≡ Done a v → ⊥
not_done a v r w e = absurd cc

same_work : (n k : ℕ) (u v : Work) → Done n u ≡ Done k v → u ≡ v
same_work n k u v e = cc

-- a set that was settled is sound, and seen
record IsSettled (m : PersistenceUnit) (s : StoredSet) (w v : Work) : Type 0 where
  sound : IsSound m s
  seen : with_view s w ≡ v

settled_by : (m : PersistenceUnit) (s : StoredSet) (n k : ℕ) (w v : Work) (f : Option PersistenceFault) → fault_of m s ≡ f → after (sound_or f w) (λ _ u. Done n (with_view s u)) ≡ Done k v → IsSettled m s w v
settled_by m s n k w v None e h = record { sound = e; seen = same_work n k (with_view s w) v h }
settled_by m s n k w v (Some fault) e h = absurd (not_done k v (Cause.Persistence fault) w h)

settled_is : (m : PersistenceUnit) (s : StoredSet) (n k : ℕ) (w v : Work) → settle m (s, n) w ≡ Done k v → IsSettled m s w v
settled_is m s n k w v h = settled_by m s n k w v (fault_of m s) refl h

-- what was made of the set
record IsMade (m : PersistenceUnit) (r : Result Changed Cause) (w v : Work) : Type 0 where
  set : StoredSet
  count : ℕ
  made : r ≡ Ok (set, count)
  settled : IsSettled m set w v

made_by : (m : PersistenceUnit) (r : Result Changed Cause) (w v : Work) (k : ℕ) → settled m r w ≡ Done k v → IsMade m r w v
made_by m (Ok c) w v k h = record { set = c.0; count = c.1; made = refl; settled = settled_is m c.0 c.1 k w v h }
made_by m (Err r) w v k h = absurd (not_done k v r w h)

module _ (world : World) (query : Query) (sorts : List (Text × Sort)) (w v : Work) (k : ℕ) where
  held_at : (s : StoredSet) → CanBeHeld world s w.numbers → with_view s w ≡ v → IsHeld world w v
  held_at s h seen =
      let here : s ≡ v.view = ap (λ (u : Work). u.view) seen in
      record {
        set = subst (λ (t : StoredSet). CanBeHeld world t v.numbers) here (subst (λ ns. CanBeHeld world s ns) (ap (λ (u : Work). u.numbers) seen) h);
        others = sym seen ∙ ap (λ (t : StoredSet). with_view t w) here;
      }

  by_statement : (t : Typed) (ds : List Datum) → IsAsked world query sorts t ds w → settled world.model (changed_by world t ds w.view) w ≡ Done k v → all_representable v.view ≡ true → IsHeld world w v
  by_statement (Typed.Select q) ds asked h values = absurd (not_done k v _ w h)
  by_statement (Typed.Update class all filter) ds asked h values =
      let made = made_by world.model (updated world.model w.view ds (throws_in world) class all filter) w v k h in
      let here : made.set ≡ v.view = ap (λ (u : Work). u.view) (made.settled).seen in
      held_at made.set
      (update_keeps world w.view w.numbers query sorts ds class all filter
      (record { convertible = asked.convertible; inherited = asked.inherited; held = asked.held; given = asked.given; language = asked.language; checked = asked.checked })
      made.set made.count made.made (subst (λ (t : StoredSet). all_representable t ≡ true) (sym here) values) (made.settled).sound)
      (made.settled).seen
  by_statement (Typed.Delete class is_named filter) ds asked h values =
      let made = made_by world.model (deleted world.model w.view ds class is_named filter) w v k h in
      held_at made.set (delete_keeps world w.view w.numbers ds class is_named filter asked.held made.set made.count made.made (made.settled).sound) (made.settled).seen

pub bulk_held : (world : World) (query : Query) (sorts : List (Text × Sort)) (q : Statement) (w v : Work) (k : ℕ) → IsAsked world query sorts q.typed q.arguments w
    → run_bulk world q w ≡ Done k v → all_representable v.view ≡ true → IsHeld world w v
bulk_held world query sorts q w v k asked h values = by_statement world query sorts w v k q.typed q.arguments asked h values
