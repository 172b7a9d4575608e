-- What executeUpdate keeps: a set that a store can hold is made one that a store can hold, where what is put into it are values of
-- the program.
use Rattle.std.proofs.Common.{◌≡◌, ℕ, ℤ, Bool, true, false, List, [], ◌∷◌, length, refl, sym, subst}
use Rattle.std.specs.Prelude.{OnOk, Option, Some, None, Result, Ok, Err}
use Rattle.std.proofs.lemmas.List.Elements.{All-cons, All-nil}
use Rattle.jpa_value.specs.declared.refusal.Cause.{Cause}
use Rattle.jpa_value.specs.declared.refusal.State.{State}
use Rattle.jpa_model.specs.declared.unit.PersistenceUnit.{PersistenceUnit}
use Rattle.jpa_behaviour.specs.Behaviour.{World, AnswersConvertible}
use Rattle.jpa_stored.specs.objects.Sets.{StoredSet}
use Rattle.jpa_rows.specs.rows.Cells.{CanBeHeld, all_representable}
use Rattle.jpa_protocol.specs.declared.call.Given.{Given}
use Rattle.jpa_protocol.specs.declared.call.Parameter.{Parameter}
use Rattle.jpa_protocol.specs.declared.reply.Answer.{Answer}
use Rattle.jpa_work.specs.declared.heap.Handed.{Handed}
use Rattle.jpa_work.specs.declared.heap.LiveObject.{LiveObject}
use Rattle.jpa_work.specs.heap.Objects.{no_object, place_of}
use Rattle.jpa_work.specs.heap.Shape.{IsInHeap}
use Rattle.jpa_work.specs.context.Work.{Work}
use Rattle.jpa_work.specs.context.Steps.{Outcome, Done, Refused, Meets, after, require}
use Rattle.jpa_flush.specs.flush.Flush.{flush}
use Rattle.jpql_trees.specs.declared.tree.Language.{Language}
use Rattle.jpql_trees.specs.tree.Names.{Text}
use Rattle.jpql_bulk.specs.kept.Fits.{AreInherited}
use Rattle.jpa_asked.specs.declared.asked.Binding.{Binding}
use Rattle.jpa_asked.specs.Asking.{read_of, statement_of}
use Rattle.jpa_asked.specs.Premises.{AreInHeap}
use Rattle.jpa_flush.specs.flush.Flush.{flush_if}
use Rattle.jpa_updates.specs.Held.{HaveKeys}
use Rattle.jpql_grammar.specs.declared.grammar.lists.GivenList.{GivenList}
use Rattle.jpa_updates.specs.Updates.{is_bulk, judged_bulk, with_view, run_bulk, execute_update}
use Rattle.jpa_updates.proofs.Executed.{executed}
use Rattle.jpa_machine.specs.machine.Going.{HoldsAfter}
use Rattle.jpa_machine.proofs.machine.Going.{after_holds, require_holds}
use Rattle.jpa_machine.proofs.machine.Laws.{Steps}
use Rattle.jpa_machine.specs.machine.Calls as calls
use Rattle.jpa_machine.specs.machine.Querying.{are_short, before, bindings_in, bound, handed_in, lists_of, object_handed, update_call, values_of}
use Rattle.jpa_machine.proofs.machine.Handed.{place_within, told_holds}
use Rattle.jpa_machine.proofs.machine.Queried.{IsRead, then_read, read_of_reads, statement_of_reads, bound_reads}

-- ---- the objects that are bound stand in the heap

abbrev AreBound : List LiveObject → Option Handed → Type 0
AreBound os None = Unit {0}
AreBound os (Some h) = IsInHeap os h

object_within : (os : List LiveObject) (z : ℤ) (o : Option ℕ) → place_of (length os) z ≡ o → AreBound os (object_handed o)
object_within os z None e = tt
object_within os z (Some k) e = place_within (length os) z k e

handed_within : (os : List LiveObject) (g : Given) → AreBound os (handed_in (length os) g)
handed_within os (Given.Plain v) = tt
handed_within os (Given.Object z) = object_within os z (place_of (length os) z) refl

abbrev pub AllBound : List LiveObject → Option (List Binding) → Type 0
AllBound os None = Unit {0}
AllBound os (Some bs) = AreInHeap os bs

before_within : (os : List LiveObject) (name : List ℕ) (o : Option Handed) (rest : Option (List Binding)) → AreBound os o → AllBound os rest → AllBound os (before name o rest)
before_within os name None rest h t = tt
before_within os name (Some v) None h t = tt
before_within os name (Some v) (Some bs) h t = All-cons (λ (b : Binding). IsInHeap os b.value) (record { name = name; value = v }) bs h t

pub bindings_within : (os : List LiveObject) (vs : List (List ℕ × Given)) → AllBound os (bindings_in (length os) vs)
bindings_within os [] = All-nil (λ (b : Binding). IsInHeap os b.value)
bindings_within os (v ∷ vs) = before_within os v.0 (handed_in (length os) v.1) (bindings_in (length os) vs) (handed_within os v.1) (bindings_within os vs)

abbrev IsBound : Work → List Binding → Work → Type 0
IsBound w bs v = AreInHeap w.objects bs × (v ≡ w)

bound_holds : (ps : List Parameter) (w : Work) → HoldsAfter (IsBound w) (bound ps w)
bound_holds ps w = by_found (bindings_in (length w.objects) (values_of ps)) (bindings_within w.objects (values_of ps))
  where
    by_found : (o : Option (List Binding)) → AllBound w.objects o →
        HoldsAfter (IsBound w) (after (calls.give_or Cause.NoSuchObject o w) (λ bs v. after (require (are_short ps) Cause.Limit v) (λ _ u. Done bs u)))
    by_found None h = tt
    by_found (Some bs) h = require_holds (IsBound w) (are_short ps) Cause.Limit w _ (λ short. (h, refl))

-- ---- what it keeps

-- with what the steps, a flush and another set keep
module _ {world : World} {P : Work → Type 0} (steps : Steps world P) (convertible : AnswersConvertible world) (inherited : AreInherited world.model)
    (flushed : (w : Work) → P w → HoldsAfter (λ u v. P v) (flush world w)) (viewed : (w : Work) (s : StoredSet) → P w → CanBeHeld world s w.numbers → P (with_view s w)) where
  keys : (w : Work) → P w → HaveKeys world.model w
  keys w p = λ n l. ((steps.stands w p).objects n no_object l).key

  flush_if_goes : (b : Bool) (w : Work) → P w → HoldsAfter (λ u v. P v) (flush_if b world w)
  flush_if_goes true w p = flushed w p
  flush_if_goes false w p = p

  update_holds : (is_active flushes : Bool) (ls : List GivenList) (text : Text) (bs : List Binding) (w : Work) → P w → AreInHeap w.objects bs →
      HoldsAfter (λ (n : ℕ) v. all_representable v.view ≡ true → P v) (execute_update world is_active flushes world.language ls text bs w)
  update_holds is_active flushes ls text bs w p within = by_outcome (execute_update world is_active flushes world.language ls text bs w) refl
    where
      by_outcome : (o : Outcome ℕ) → execute_update world is_active flushes world.language ls text bs w ≡ o → HoldsAfter (λ (n : ℕ) v. all_representable v.view ≡ true → P v) o
      by_outcome (Refused r events) e = tt
      by_outcome (Done k v) e = λ values.
          let x = executed world is_active flushes world.language ls text bs w v k convertible inherited (keys w p) within e in
          let q : P x.flushed = subst (HoldsAfter (λ u t. P t)) x.flush (flush_if_goes flushes w p) in
          let held = x.kept (steps.stands x.flushed q).view values in
          subst P (sym held.others) (viewed x.flushed v.view q (subst (λ (u : Work). CanBeHeld world v.view u.numbers) held.others held.set))

  update_call_holds : (text : List ℕ) (ps : List Parameter) (is_active flushes : Bool) (w : Work) → P w → HoldsAfter (λ (a : Answer) v. all_representable v.view ≡ true → P v) (update_call text ps is_active flushes world w)
  update_call_holds text ps is_active flushes w p =
      let K : Answer → Work → Type 0 = λ a v. all_representable v.view ≡ true → P v in
      after_holds K (IsBound w) (bound ps w) _ (bound_holds ps w) (λ bs v f.
      subst (λ v'. HoldsAfter K (after (execute_update world is_active flushes world.language (lists_of ps) text bs v') (λ n u. Done (Answer.Number n) u))) (sym f.1)
      (told_holds (λ v'. all_representable v'.view ≡ true → P v') Answer.Number (execute_update world is_active flushes world.language (lists_of ps) text bs w) (update_holds is_active flushes (lists_of ps) text bs w p f.0)))

  -- where what it puts are values of the program
  pub update_call_goes : (text : List ℕ) (ps : List Parameter) (is_active flushes : Bool) (w : Work) → P w →
      HoldsAfter (λ (a : Answer) v. all_representable v.view ≡ true) (update_call text ps is_active flushes world w) → HoldsAfter (λ (a : Answer) v. P v) (update_call text ps is_active flushes world w)
  update_call_goes text ps is_active flushes w p made = both (update_call text ps is_active flushes world w) (update_call_holds text ps is_active flushes w p) made
    where
      both : (o : Outcome Answer) → HoldsAfter (λ (a : Answer) v. all_representable v.view ≡ true → P v) o → HoldsAfter (λ (a : Answer) v. all_representable v.view ≡ true) o → HoldsAfter (λ (a : Answer) v. P v) o
      both (Done a v) h made = h made
      both (Refused r events) h made = tt

-- ---- what code makes of it

self_holds : {A : Type 0} (o : Outcome A) → HoldsAfter (λ a v. o ≡ Done a v) o
self_holds (Done a v) = refl
self_holds (Refused r events) = tt

anyway : {A X : Type 0} (o : Outcome A) → X → HoldsAfter (λ a v. X) o
anyway (Done a v) x = x
anyway (Refused r events) x = tt

abbrev IsFlushed : World → Bool → Work → Type 0
IsFlushed world flushes w = (v : Work) × (flush_if flushes world w ≡ Done tt v)

-- where it was done, the flush before it was
flushed_first : (world : World) (text : List ℕ) (ps : List Parameter) (is_active flushes : Bool) (w : Work) → HoldsAfter (λ (a : Answer) v. IsFlushed world flushes w) (update_call text ps is_active flushes world w)
flushed_first world text ps is_active flushes w =
    let X = IsFlushed world flushes w in
    then_read (λ a v. X) (bound ps) _ w (bound_reads ps) (λ bs.
    told_holds (λ v. X) Answer.Number (execute_update world is_active flushes world.language (lists_of ps) text bs w)
    (then_read (λ n v. X) (judged_bulk world.model is_active world.language (lists_of ps) text bs) _ w (judged_reads world.model world.language (lists_of ps) is_active text bs) (λ s.
    after_holds (λ n v. X) (λ u v. flush_if flushes world w ≡ Done u v) (flush_if flushes world w) _ (self_holds (flush_if flushes world w)) (λ u v e. anyway (run_bulk world s v) (v, e)))))
  where
    judged_reads : (m : PersistenceUnit) (l : Language) (ls : List GivenList) (is_active : Bool) (text : Text) (bs : List Binding) → IsRead (judged_bulk m is_active l ls text bs)
    judged_reads m l ls is_active text bs v =
        then_read (λ s u. u ≡ v) (read_of l ls text) _ v (read_of_reads l ls text) (λ said.
        require_holds (λ s u. u ≡ v) is_active Cause.TransactionRequired v _ (λ active.
        then_read (λ s u. u ≡ v) (statement_of l m said ls bs) _ v (statement_of_reads l m said ls bs) (λ s.
        require_holds (λ t u. u ≡ v) (is_bulk s.typed) (Cause.IllegalState State.Statement) v _ (λ bulk. refl))))

-- what was put are values of the program, where they were so after the flush
pub made_so : (world : World) (text : List ℕ) (ps : List Parameter) (is_active flushes : Bool) (w new : Work) (answered : Result Answer Cause) → Meets answered new (update_call text ps is_active flushes world w) →
    OnOk answered ((v : Work) → flush_if flushes world w ≡ Done tt v → all_representable v.view ≡ true → all_representable new.view ≡ true) →
    ((v : Work) → flush_if flushes world w ≡ Done tt v → all_representable v.view ≡ true) →
    OnOk answered (HoldsAfter (λ (a : Answer) v. all_representable v.view ≡ true) (update_call text ps is_active flushes world w))
made_so world text ps is_active flushes w new (Err r) met puts after_flush = tt
made_so world text ps is_active flushes w new (Ok a) met puts after_flush =
    let f = subst (HoldsAfter (λ (a : Answer) v. IsFlushed world flushes w)) met (flushed_first world text ps is_active flushes w) in
    subst (HoldsAfter (λ (a : Answer) v. all_representable v.view ≡ true)) (sym met) (puts f.0 f.1 (after_flush f.0 f.1))

pub ok_from : {A E X : Type 0} (r : Result A E) → X → OnOk r X
ok_from (Ok a) x = x
ok_from (Err e) x = tt

pub ok_weaker : {A E X Y : Type 0} (r : Result A E) → (X → Y) → OnOk r X → OnOk r Y
ok_weaker (Ok a) f x = f x
ok_weaker (Err e) f x = tt
