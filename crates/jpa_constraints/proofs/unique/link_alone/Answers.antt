use Rattle.std.proofs.Common.{◌∙◌, ap, sym, not, Bool}
use Rattle.std.specs.List.{list_all}
use Rattle.std.proofs.lemmas.List.Folds.{list_all-map}
use Rattle.jpa_value.specs.declared.value.Identity.{Identity}
use Rattle.jpa_stored.specs.declared.objects.claims.Claim.{Claim}
use Rattle.jpa_stored.specs.objects.Sets.{claims_at}
use Rattle.jpa_open.specs.Leads.{has_rival}
use Rattle.jpa_open.specs.Opened.{now}
use Rattle.jpa_constraints.proofs.unique.link_alone.Goals as goal

pub returns-in-Some : goal.returns-in-Some
returns-in-Some c =
    let owner = c.args.owner.now in
    let ids = c.args.ids.now in
    let column = c.in-Some.column in
    let unrivalled : Claim → Bool = λ claim. not (has_rival c.args.metamodel.now (now c.args.view.now) claim owner) in
    c.ids_alone.ensures
    ∙ sym (list_all-map unrivalled (λ (id : Identity). record { table = owner.table; column = column; target = id }) ids)
    ∙ ap (λ o. list_all unrivalled (claims_at owner.table o ids)) (sym c.in-Some.is ∙ c.one_to_one.ensures)
