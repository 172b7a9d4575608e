use Rattle.std.proofs.Common.{rules}
use Rattle.jpa_value.specs.Value.{identity_cmp}
use Rattle.jpa_value.proofs.Orders.{identity_total}
use Rattle.jpa_stored.proofs.objects.Found.{searched, computes}
use Rattle.jpa_rows.proofs.overlay.overlay.Overlay.search.Goals as goal

pub returns-clause-found : goal.returns-clause-found
returns-clause-found c =
    let facts = c.binary_search_by.ensures in
    let by_key = facts.position (λ e. identity_cmp e.0 c.args.id.now) (computes (λ e. identity_cmp e.0 c.args.id.now) (λ a r g called. (search rules, search rules))) in
    rw (← c.self.view_is, ← c.as_slice.ensures.value) ((searched identity_total _ (rw c.as_slice.ensures.value c.self.invariant) c.args.id.now _ facts.bound by_key).found)

pub returns-clause-absent : goal.returns-clause-absent
returns-clause-absent c =
    let facts = c.binary_search_by.ensures in
    let by_key = facts.position (λ e. identity_cmp e.0 c.args.id.now) (computes (λ e. identity_cmp e.0 c.args.id.now) (λ a r g called. (search rules, search rules))) in
    rw (← c.self.view_is, ← c.as_slice.ensures.value) ((searched identity_total _ (rw c.as_slice.ensures.value c.self.invariant) c.args.id.now _ facts.bound by_key).absent)
