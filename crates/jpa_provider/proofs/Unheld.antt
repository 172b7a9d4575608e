-- A session in which nobody's manager works, on an object that no manager holds.
use Rattle.std.proofs.Common.{◌≡◌, ◌≤◌, Bool, true, false, List, [], ◌∷◌, length, refl, ap, sym, subst, ◌∙◌, arith}
use Rattle.std.specs.Prelude.{slice_index_or}
use Rattle.std.proofs.lemmas.List.{set_past}
use Rattle.jpa_open.specs.Opened.{Opened, with_seen}
use Rattle.jpa_work.specs.context.Work.{Work}
use Rattle.jpa_provider.specs.declared.session.Session.{Session}
use Rattle.jpa_machine.specs.machine.Machine.{Manager, manager_at, no_manager, work_of, kept, marked_in, view_in}
use Rattle.jpa_machine.specs.machine.Calls.{marked_if}
use Rattle.jpa_provider.specs.Serving.{machine_of, managers_of, IsResting, IsSettled}
use Rattle.jpa_machine.proofs.machine.AtWork.{no_manager_kept}
use Rattle.jpa_provider.proofs.Sessions.{managers_count}

past_end : (xs : List Manager) → slice_index_or xs (length xs) no_manager ≡ no_manager
past_end [] = refl
past_end (x ∷ xs) = past_end xs

nobody_there : (s : Session) → manager_at (machine_of s) (length s.managers.items) ≡ no_manager
nobody_there s = ap (manager_at (machine_of s)) (sym (managers_count s)) ∙ past_end (machine_of s).managers

nobody_counts : (s : Session) → length (machine_of s).managers ≤ length s.managers.items
nobody_counts s = let e = managers_count s in omega (arith, e)

-- in an empty context it sees what is committed
pub nobody_works : (s : Session) (w : Work) → IsSettled s →
    w ≡ record { manager = length s.managers.items; objects = s.work.objects.now; context = []; numbers = s.work.numbers.now; view = (s.work.view).seen; events = s.work.events } →
    w ≡ work_of (machine_of s) (length s.managers.items)
nobody_works s w h e =
    let there = nobody_there s in
    e ∙ (λ i. record {
      manager = length s.managers.items;
      objects = s.work.objects.now;
      context = (sym there i).context;
      numbers = s.work.numbers.now;
      view = ((h.kept).view ∙ (h.resting).kept ∙ ap (λ (x : Manager). view_in x.transaction (s.work.view).committed) (sym there)) i;
      events = (h.quiet) i;
    })

-- a set that led back to what is committed still does
pub still_resting : (v w : Opened) → IsResting v → w ≡ with_seen v.kept v → IsResting w
still_resting v w h e = subst IsResting (sym e) (record { begun = h.begun; kept = h.kept })

-- a session with the same managers, over the same set
module _ (s t : Session) (m : t.managers.items ≡ s.managers.items) (k : t.stored ≡ s.stored) (c : (t.work.view).committed ≡ (s.work.view).committed) where
  machine_with : machine_of t ≡ record (machine_of s) { objects = t.work.objects.now; numbers = t.work.numbers.now }
  machine_with = λ i. record { objects = t.work.objects.now; managers = managers_of (c i) (m i); numbers = t.work.numbers.now; stored_numbers = k i; committed = c i }

  pub nobody_keeps : (w : Work) → t.work.objects.now ≡ w.objects → t.work.numbers.now ≡ w.numbers → machine_of t ≡ kept (machine_of s) (length s.managers.items) w
  nobody_keeps w o n =
      machine_with ∙ (λ i. record (machine_of s) { objects = o i; numbers = n i }) ∙ sym (no_manager_kept (machine_of s) (length s.managers.items) w (nobody_counts s))

  -- nobody's transaction is marked
  marks_nothing : (b : Bool) → machine_of s ≡ marked_if b (machine_of s) (length s.managers.items)
  marks_nothing false = refl
  marks_nothing true =
      let M = machine_of s in
      let n = length s.managers.items in
      λ i. record M { managers = sym (set_past M.managers n (record (manager_at M n) { transaction = marked_in (manager_at M n).transaction }) (nobody_counts s)) i }

  pub nobody_restores : (b : Bool) → t.work.objects.now ≡ s.work.objects.now → t.work.numbers.now ≡ s.work.numbers.now → machine_of t ≡ marked_if b (machine_of s) (length s.managers.items)
  nobody_restores b o n = machine_with ∙ (λ i. record (machine_of s) { objects = o i; numbers = n i }) ∙ marks_nothing b
