use Rattle.std.proofs.Common.{sym, ap, ◌∙◌, ◌++◌, take, get_or}
use Rattle.std.specs.Prelude.{List, []}
use Rattle.std.specs.List.{flat_map, zip}
use Rattle.std.proofs.lemmas.List.{flat_map_more, take_more}
use Rattle.jpa_value.specs.declared.value.Identity.{Identity}
use Rattle.jpa_model.specs.Chains.{relations_of}
use Rattle.jpa_stored.specs.declared.objects.claims.Claim.{Claim}
use Rattle.jpa_stored.specs.declared.objects.stored.Stored.{Stored}
use Rattle.jpa_stored.specs.objects.Sets.{claims_at, one_to_one_column}
use Rattle.jpa_stored.proofs.objects.claims.claims_of.Goals as goal

pub loop-entry-preserved : goal.loop-entry-preserved
loop-entry-preserved c =
    let m = c.args.metamodel.now in
    let claims : Identity × Stored → List Claim = λ e. flat_map (λ p. claims_at (e.0).table (one_to_one_column (p.0).side) p.1) (zip (relations_of m (e.1).class) (e.1).owned) in
    let entries = c.args.entries.now in
    let i = c.loop-entry.entry-index in
    let entry = get_or entries i c.entry-item.result in
    c.in_ok-push_entry.ensures.ok
    ∙ (λ j. c.loop-entry.invariant j ++ claims ((c.get.ensures ∙ c.entry-item.is) j))
    ∙ flat_map_more claims [] (take i entries) entry
    ∙ ap (flat_map claims) (sym (take_more entries i c.entry-item.result c.loop-entry-test.true))
