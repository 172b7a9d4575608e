use Rattle.std.proofs.Common.{◌∙◌, rules}
use Rattle.jpa_value.specs.Value.{identity_cmp}
use Rattle.jpa_stored.proofs.objects.Found.{computes}
use Rattle.jpa_flush.proofs.flush.Orphaned.{is_searched}
use Rattle.jpa_flush.proofs.flush.orphans.is_among.Goals as goal

pub returns : goal.returns
returns c =
    let facts = c.binary_search_by.ensures in
    let by_key = facts.position (λ x. identity_cmp x c.args.id.now) (computes (λ x. identity_cmp x c.args.id.now) (λ a r g called. (search rules, search rules))) in
    c.is_ok.ensures.value ∙ is_searched c.args.ids.now c.args.id.now c.binary_search_by.result c.requires.rising facts.bound by_key
