use Rattle.std.proofs.Common.{◌∙◌, sym, subst, true, ◌≡◌}
use Rattle.jpa_stored.specs.objects.Sets.{is_rising}
use Rattle.jpa_flush.proofs.flush.Rising.{rises_still}
use Rattle.jpa_flush.proofs.flush.held.put_in.Goals as goal

pub returns-in_ok-insert-in-Err-clause-rising : goal.returns-in_ok-insert-in-Err-clause-rising
returns-in_ok-insert-in-Err-clause-rising c =
    subst (λ ids. is_rising ids ≡ true) (sym (c.in_ok-insert-in-Err.ensures.items ∙ sym c.in-Err.ensures.absent.1)) (rises_still c.args.id c.args.ids.now.items c.requires)
