use Rattle.std.proofs.Common.{◌≡◌, true, take}
use Rattle.std.specs.List.{list_all, zip}
use Rattle.jpa_model.specs.Chains.{relations_of}
use Rattle.jpa_stored.specs.objects.Sets.{is_of, stored_at}
use Rattle.jpa_stored.proofs.objects.sound.all_lead.Given as goal

abbrev pub invariant-loop-entry : goal.invariant-loop-entry
invariant-loop-entry l =
    list_all (λ e. list_all (λ p. list_all (λ id. is_of l.metamodel (stored_at l.set id) (p.0).target) p.1) (zip (relations_of l.metamodel (e.1).class) (e.1).owned)) (take l.entry-index l.entry-items) ≡ true
