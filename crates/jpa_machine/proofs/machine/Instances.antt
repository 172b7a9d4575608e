-- What the steps keep: what holds of a manager at work.
use Rattle.std.proofs.Common.{◌≡◌, ◌<◌, ℕ, true, length, ap, sym, subst, ◌∙◌}
use Rattle.std.proofs.lemmas.List.Elements.{All-weaker}
use Rattle.jpa_behaviour.specs.Behaviour.{World, HearsRepresentable}
use Rattle.jpa_work.specs.declared.heap.Life.{Life}
use Rattle.jpa_work.specs.declared.context.Entry.{Entry}
use Rattle.jpa_work.specs.context.Work.{Work, object, with_life_of}
use Rattle.jpa_machine.specs.machine.Consistent.{IsConsistent, IsEntry, Others, is_held_by}
use Rattle.jpa_operations.specs.fetch.Orderly.{IsOrderly}
use Rattle.jpa_machine.proofs.machine.Changed.{changed_at_work}
use Rattle.jpa_machine.proofs.machine.Entered.{become_holds, removed, revived}
use Rattle.jpa_machine.proofs.machine.Heard.{heard_at_work}
use Rattle.jpa_machine.proofs.machine.Loaded.{load_at_work}
use Rattle.jpa_machine.proofs.machine.LetGo.{let_go_at_work}
use Rattle.jpa_machine.proofs.machine.Locked.{locked_at_work}
use Rattle.jpa_machine.proofs.machine.Made.{made_at_work}
use Rattle.jpa_machine.proofs.machine.Members.{IsStanding}
use Rattle.jpa_machine.proofs.machine.Read.{read_at_work}
use Rattle.jpa_machine.proofs.machine.Refreshed.{reloaded_at_work}
use Rattle.jpa_machine.proofs.machine.Laws.{Steps}

pub standing : {world : World} {M : Others} {m : ℕ} (w : Work) → IsConsistent world M m w → IsStanding world w
standing {world} {M} {m} w h =
    record {
      objects = h.objects;
      entries = All-weaker (IsEntry world.model w.objects w.numbers m) (λ (e : Entry). e.object < length w.objects) (λ e k. k.within) w.context h.entries;
      view = h.view;
    }

-- ---- of a manager at work

pub at_work : {world : World} (M : Others) (m : ℕ) → IsOrderly world.model → HearsRepresentable world → Steps world (IsConsistent world M m)
at_work {world} M m orderly hears =
    record {
      stands = standing;
      heard = λ event n w h l. heard_at_work hears event n l h;
      becomes = λ n w h l new. become_holds orderly n h l new;
      revives = λ n w h l gone. subst (λ j. IsConsistent world M m (with_life_of n (Life.Managed j) w)) (sym h.manager) (revived n h l (gone ∙ ap Life.Removed h.manager));
      loads = λ id x w h e free few. load_at_work orderly id x h e free few;
      sets = λ n y w h l s. changed_at_work n y l s h;
      reads = λ n r ids w h rising. read_at_work n r ids rising h;
      removes = λ n w h l managed.
          subst (λ j. IsConsistent world M m (with_life_of n (Life.Removed j) w)) (sym h.manager) (removed n h l (managed ∙ ap Life.Managed h.manager));
      reloads = λ n id x w h l managed named stored class. reloaded_at_work orderly n id x h l managed named stored class;
      lets_go = λ n w h l held. let_go_at_work n h l (subst (λ j. is_held_by j (object w n).life ≡ true) h.manager held);
      makes = λ x w h live new few. made_at_work x h live new few;
      locks = λ n l w h. locked_at_work n l h;
    }
