use Rattle.std.proofs.Common.{Some, sym, ap, subst, ◌∙◌, get_or, T}
use Rattle.std.specs.FinMap.Entries.{is_sorted}
use Rattle.jpa_value.specs.Value.{identity_cmp}
use Rattle.jpa_value.proofs.Orders.{identity_total}
use Rattle.jpa_stored.proofs.objects.Entries.{find_at, find_gap}
use Rattle.jpa_stored.proofs.objects.set.StoredSet.get.Goals as goal

pub returns-in-Ok : goal.returns-in-Ok
returns-in-Ok c =
    let sorted = subst (λ es. T (is_sorted identity_cmp es)) c.self.view_is c.self.invariant in
    let at = c.in-Ok.at in
    let entry = c.index.result.now in
    ap (λ e. Some e.1) (c.get.ensures ∙ c.index.ensures ∙ ap (λ es. get_or es at entry) c.self.view_is)
    ∙ sym (find_at identity_total c.args.self.now c.args.id.now at entry sorted c.in-Ok.ensures.found)

pub returns-in-Err : goal.returns-in-Err
returns-in-Err c = sym (find_gap identity_total c.args.self.now c.args.id.now c.in-Err.field-0 c.in-Err.ensures.absent)
