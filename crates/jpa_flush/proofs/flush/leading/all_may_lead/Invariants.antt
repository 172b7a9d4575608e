use Rattle.std.proofs.Common.{◌≡◌, ℕ, drop}
use Rattle.std.specs.List.{list_all}
use Rattle.jpa_work.specs.context.Undo.{now}
use Rattle.jpa_work.specs.context.Work.{state_of}
use Rattle.jpa_flush.specs.flush.Marked.{may_lead}
use Rattle.jpa_flush.proofs.flush.leading.all_may_lead.Given as goal

abbrev pub invariant-loop-object : goal.invariant-loop-object
invariant-loop-object l =
    let leads = λ (k : ℕ). may_lead l.cascades (state_of (now l.work) k) in
    list_all leads (drop l.object-index l.objects) ≡ list_all leads l.objects
