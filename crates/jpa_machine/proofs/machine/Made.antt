-- What holds while a manager is at work is kept where a new object enters the heap.
use Rattle.jpa_value.specs.Limits.{most_objects}
use Rattle.std.proofs.Common.{◌≡◌, ◌<◌, ℕ, List, [], ◌∷◌, ◌++◌, length, ap, arith}
use Rattle.std.proofs.lemmas.List.{length-append}
use Rattle.std.proofs.lemmas.List.Elements.{All-weaker}
use Rattle.jpa_behaviour.specs.Behaviour.{World}
use Rattle.jpa_work.specs.declared.heap.Life.{Life}
use Rattle.jpa_work.specs.declared.heap.LiveObject.{LiveObject}
use Rattle.jpa_work.specs.context.Work.{Work}
use Rattle.jpa_operations.specs.fetch.Load.{made}
use Rattle.jpa_machine.specs.machine.Consistent.{IsConsistent, IsEntry, IsLive, Others, contexts, stands_in}
use Rattle.jpa_machine.proofs.machine.Facts.{numbers_same}
use Rattle.jpa_machine.proofs.machine.Kept.{distinct_kept, entry_kept, holds_more, live_more, others_kept, placed_more}

pub made_at_work : {world : World} {M : Others} {m : ℕ} {w : Work} (x : LiveObject) → IsConsistent world M m w → IsLive world.model (w.objects ++ x ∷ []) x → x.life ≡ Life.New →
    length w.objects < most_objects → IsConsistent world M m (made x w)
made_at_work {world} {M} {m} {w} x h live new few =
    let os = w.objects in
    let ps = os ++ x ∷ [] in
    let up = numbers_same w.numbers in
    record {
      manager = h.manager;
      objects = live_more world.model os x h.objects live;
      entries = All-weaker (IsEntry world.model os w.numbers m) (IsEntry world.model ps w.numbers m) (λ e. entry_kept (holds_more m os x) up) w.context h.entries;
      distinct = distinct_kept w.context (holds_more m os x) h.entries h.distinct;
      others = λ k l apart. others_kept (holds_more k os x) up (h.others k l apart);
      placed = placed_more (contexts M m w) os x h.placed (ap (stands_in (contexts M m w) (length os)) new);
      view = h.view;
      numbered = h.numbered;
      raised = h.raised;
      few = let s = length-append os (x ∷ []) in omega (arith, s, few);
    }
