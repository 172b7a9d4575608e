use Rattle.std.proofs.Common.{sym, ap, subst, ◌∙◌}
use Rattle.jpa_value.specs.Value.{identity_cmp}
use Rattle.jpa_stored.specs.objects.Sets.{with_stored}
use Rattle.jpa_stored.specs.objects.Places.{IsAt, IsGap}
use Rattle.jpa_stored.proofs.objects.Changes.{replaced, inserted, rises_with}
use Rattle.jpa_stored.proofs.objects.set.StoredSet.put.Goals as goal
use Rattle.jpa_stored.proofs.objects.set.StoredSet.put.Goals.{in-Ok, in-Err+in_ok-insert-in-Err}

pub invariant_of-self : goal.invariant_of-self
invariant_of-self c =
    let es = c.self.inside.entries.items in
    let found = subst (λ s. IsAt identity_cmp s c.args.id c.in-Ok.at) (sym c.self.view_is) c.in-Ok.ensures.found in
    rises_with es c.self.invariant c.args.id c.in-Ok.at c.args.object _
    (replaced es c.self.invariant c.args.id c.in-Ok.at c.args.object c.in_ok-entry.entry found c.in_ok-entry.ensures)

pub invariant_of-self-in-Continue-branch-2 : goal.invariant_of-self-in-Continue-branch-2
invariant_of-self-in-Continue-branch-2 c =
    let es = c.self.inside.entries.items in
    let gap = subst (λ s. IsGap identity_cmp s c.args.id c.in-Err.at) (sym c.self.view_is) c.in-Err.ensures.absent in
    rises_with es c.self.invariant c.args.id c.in-Err.at c.args.object _
    (c.in_ok-insert-in-Err.ensures.items ∙ inserted es c.self.invariant c.args.id c.in-Err.at c.args.object c.in_ok-entry.entry gap c.in_ok-entry.ensures)

pub returns-clause-ok : goal.returns-clause-ok
returns-clause-ok c =
    let es = c.self.inside.entries.items in
    elim c.match-place.branch [
      | in-Ok w ↦
          let found = subst (λ s. IsAt identity_cmp s c.args.id w.in-Ok.at) (sym c.self.view_is) w.in-Ok.ensures.found in
          w.self-is ∙ replaced es c.self.invariant c.args.id w.in-Ok.at c.args.object c.in_ok-entry.entry found c.in_ok-entry.ensures
          ∙ ap (with_stored c.args.id c.args.object) c.self.view_is
      | in-Err+in_ok-insert-in-Err w ↦
          let gap = subst (λ s. IsGap identity_cmp s c.args.id w.in-Err.at) (sym c.self.view_is) w.in-Err.ensures.absent in
          w.self-is ∙ w.in_ok-insert-in-Err.ensures.items ∙ inserted es c.self.invariant c.args.id w.in-Err.at c.args.object c.in_ok-entry.entry gap c.in_ok-entry.ensures
          ∙ ap (with_stored c.args.id c.args.object) c.self.view_is
    ]
