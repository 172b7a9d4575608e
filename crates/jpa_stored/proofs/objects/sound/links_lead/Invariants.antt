use Rattle.std.proofs.Common.{◌≡◌, drop}
use Rattle.std.specs.List.{list_all, zip}
use Rattle.jpa_stored.specs.objects.Sets.{is_of, stored_at}
use Rattle.jpa_stored.proofs.objects.sound.links_lead.Given as goal

abbrev pub invariant-loop-i : goal.invariant-loop-i
invariant-loop-i l =
    list_all (λ p. list_all (λ id. is_of l.metamodel (stored_at l.set id) (p.0).target) p.1) (zip l.relations l.owned)
    ≡ list_all (λ p. list_all (λ id. is_of l.metamodel (stored_at l.set id) (p.0).target) p.1) (zip (drop l.i l.relations) (drop l.i l.owned))
