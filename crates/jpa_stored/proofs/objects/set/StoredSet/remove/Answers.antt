use Rattle.std.proofs.Common.{sym, ap, subst, ◌∙◌, T, ◌∷◌, []}
use Rattle.std.specs.FinMap.Entries.{is_sorted}
use Rattle.jpa_value.specs.Value.{identity_cmp}
use Rattle.jpa_stored.specs.objects.Sets.{without}
use Rattle.jpa_stored.specs.objects.Places.{IsAt}
use Rattle.jpa_stored.proofs.objects.Changes.{removed, rises_without, was_there, none_removed, was_not}
use Rattle.jpa_stored.proofs.objects.set.StoredSet.remove.Goals as goal

pub invariant_of-self : goal.invariant_of-self
invariant_of-self c =
    let es = c.self.inside.entries.items in
    let found = subst (λ s. IsAt identity_cmp s c.args.id.now c.in-Ok.at) (sym c.self.view_is) c.in-Ok.ensures.found in
    rises_without es c.self.invariant c.args.id.now c.in-Ok.at _ (c.remove.ensures.items ∙ removed es c.self.invariant c.args.id.now c.in-Ok.at found)

pub returns-in-Ok-clause-now : goal.returns-in-Ok-clause-now
returns-in-Ok-clause-now c =
    let es = c.self.inside.entries.items in
    let found = subst (λ s. IsAt identity_cmp s c.args.id.now c.in-Ok.at) (sym c.self.view_is) c.in-Ok.ensures.found in
    c.remove.ensures.items ∙ removed es c.self.invariant c.args.id.now c.in-Ok.at found ∙ ap (without (c.args.id.now ∷ [])) c.self.view_is

pub returns-in-Ok-clause-was : goal.returns-in-Ok-clause-was
returns-in-Ok-clause-was c =
    let sorted = subst (λ es. T (is_sorted identity_cmp es)) c.self.view_is c.self.invariant in
    was_there c.args.self.now sorted c.args.id.now c.in-Ok.at c.remove.result c.in-Ok.ensures.found

pub returns-in-Err-clause-now : goal.returns-in-Err-clause-now
returns-in-Err-clause-now c =
    let sorted = subst (λ es. T (is_sorted identity_cmp es)) c.self.view_is c.self.invariant in
    none_removed c.args.self.now sorted c.args.id.now c.in-Err.field-0 c.in-Err.ensures.absent

pub returns-in-Err-clause-was : goal.returns-in-Err-clause-was
returns-in-Err-clause-was c =
    let sorted = subst (λ es. T (is_sorted identity_cmp es)) c.self.view_is c.self.invariant in
    was_not c.args.self.now sorted c.args.id.now c.in-Err.field-0 c.in-Err.ensures.absent
