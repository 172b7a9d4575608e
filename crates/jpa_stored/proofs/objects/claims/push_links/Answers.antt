use Rattle.std.proofs.Common.{sym, ap, ◌∙◌, ◌++◌, take, get_or}
use Rattle.std.specs.Prelude.{ℕ, List}
use Rattle.std.specs.List.{flat_map, zip}
use Rattle.std.proofs.lemmas.List.{flat_map_more, append-nil}
use Rattle.jpa_value.specs.declared.value.Identity.{Identity}
use Rattle.jpa_model.specs.declared.unit.Relation.{Relation}
use Rattle.jpa_stored.specs.declared.objects.claims.Claim.{Claim}
use Rattle.jpa_stored.specs.objects.Sets.{claims_at, one_to_one_column}
use Rattle.jpa_stored.proofs.objects.Zips.{zip_more, zip_same, no_pairs}
use Rattle.jpa_stored.proofs.objects.claims.push_links.Goals as goal
use Rattle.jpa_stored.proofs.objects.claims.push_links.Goals.{then-i-relations+in_ok-push_link, else-i-relations}

abbrev claims_in : ℕ → Relation × List Identity → List Claim
claims_in table p = claims_at table (one_to_one_column (p.0).side) p.1

pub loop-i-init : goal.loop-i-init
loop-i-init c =
    sym (ap (λ ps. c.args.out.now.items ++ flat_map (claims_in c.args.table) ps) (no_pairs c.args.relations.now) ∙ append-nil c.args.out.now.items)

pub loop-i-preserved : goal.loop-i-preserved
loop-i-preserved c =
    let relations = c.args.relations.now in
    let owned = c.args.owned.now in
    let claims = claims_in c.args.table in
    let before = c.args.out.now.items in
    let i = c.loop-i.i in
    elim c.if-i-relations.branch [
      | then-i-relations+in_ok-push_link w ↦
          let blank = w.index-relations-i.result in
          let relation = get_or relations i blank in
          let ids = get_or owned i c.index-owned-i.result in
          let is_ids = w.as_slice.ensures ∙ c.index-owned-i.is in
          ap (λ v. v.items) w.out-is ∙ w.in_ok-push_link.ensures.ok
          ∙ (λ j. c.loop-i.invariant j ++ claims (relation, is_ids j))
          ∙ flat_map_more claims before (zip relations (take i owned)) (relation, ids)
          ∙ ap (λ ps. before ++ flat_map claims ps) (sym (zip_more relations owned i blank c.index-owned-i.result w.if-i-relations.true c.loop-i-test.true))
      | else-i-relations w ↦ ap (λ v. v.items) w.out-is ∙ c.loop-i.invariant ∙ ap (λ ps. before ++ flat_map claims ps) (sym (zip_same relations owned i w.if-i-relations.false))
    ]
