use Rattle.std.proofs.Common.{ap, ◌∙◌}
use Rattle.std.specs.Prelude.{unwrap_or}
use Rattle.std.specs.List.{position_from}
use Rattle.jpa_model.specs.Chains.{same_name}
use Rattle.jpa_model.specs.declared.draft.DraftRelation.{DraftRelation}
use Rattle.jpa_model.proofs.Found.{place_by_names}
use Rattle.jpa_description.proofs.description.describe.place_along.Goals as goal

pub returns-clause-found : goal.returns-clause-found
returns-clause-found c =
    let own = c.in_ok-names.ensures.found in
    c.unwrap_or.ensures ∙ ap (λ o. unwrap_or o 0) (c.place_by_name.ensures.place ∙ ap (λ refs. position_from (λ item. same_name item.now c.args.name.now) 0 refs) c.as_slice.ensures.value
    ∙ place_by_names (λ item. item.now) (λ (r : DraftRelation). r.name) c.args.name.now _ _ own)
