use Rattle.std.proofs.Common.{◌≡◌, ◌∙◌, true, sym, subst}
use Rattle.jpa_stored.specs.objects.Sets.{is_rising}
use Rattle.jpa_work.specs.context.Undo.{now}
use Rattle.jpa_flush.proofs.flush.Orphaned.{held_rises}
use Rattle.jpa_flush.proofs.flush.orphans.push_orphans_along.Goals as goal

-- what the relation holds now stands in rising order
pub push_gone-requires : goal.push_gone-requires
push_gone-requires c =
    let w = now c.args.work.now in
    record {
      rising = subst (λ ids. is_rising ids ≡ true) (sym c.as_slice-in-Some-2-2.ensures)
          (held_rises c.args.metamodel.now w c.index-as_slice-relation.result _ (sym c.in-Some-2.is ∙ c.in_ok-held.ensures.ok));
    }
