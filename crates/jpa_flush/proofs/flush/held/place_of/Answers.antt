use Rattle.std.proofs.Common.{rules}
use Rattle.jpa_value.specs.Value.{identity_cmp}
use Rattle.jpa_stored.proofs.objects.Found.{computes}
use Rattle.jpa_flush.proofs.flush.Rising.{searched}
use Rattle.jpa_flush.proofs.flush.held.place_of.Goals as goal

pub returns-clause-found : goal.returns-clause-found
returns-clause-found c =
    let facts = c.binary_search_by.ensures in
    let by_key = facts.position (λ x. identity_cmp x c.args.id.now) (computes (λ x. identity_cmp x c.args.id.now) (λ a r g called. (search rules, search rules))) in
    rw (← c.as_slice.ensures.value) ((searched _ c.args.id.now (rw c.as_slice.ensures.value c.requires) _ facts.bound by_key).found)

pub returns-clause-absent : goal.returns-clause-absent
returns-clause-absent c =
    let facts = c.binary_search_by.ensures in
    let by_key = facts.position (λ x. identity_cmp x c.args.id.now) (computes (λ x. identity_cmp x c.args.id.now) (λ a r g called. (search rules, search rules))) in
    rw (← c.as_slice.ensures.value) ((searched _ c.args.id.now (rw c.as_slice.ensures.value c.requires) _ facts.bound by_key).absent)
