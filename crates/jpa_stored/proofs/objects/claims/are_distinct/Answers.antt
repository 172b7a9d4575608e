use Rattle.std.proofs.Common.{refl, sym, ap, ◌∙◌, true, not, drop, suc, length, cond}
use Rattle.std.proofs.lemmas.Iterator.Adapters.{YieldsList-from_vec}
use Rattle.std.proofs.lemmas.Iterator.Consumers.{YieldsList-so_far, YieldsList-turn, YieldsList-end}
use Rattle.std.specs.List.{list_any}
use Rattle.std.proofs.lemmas.List.{map-id}
use Rattle.jpa_stored.specs.objects.Sets.{same_claim, all_distinct}
use Rattle.jpa_stored.proofs.objects.Distinct.{parted, not_distinct, distinct_more, seen_more, not_false, not_true}
use Rattle.jpa_stored.proofs.objects.claims.are_distinct.Goals as goal

pub loop-claim-init : goal.loop-claim-init
loop-claim-init c = record { distinct = refl; seen = λ q. ap (list_any (same_claim q)) c.new-seen.ensures.empty }

pub returns-then-not-branch-clause-ok : goal.returns-then-not-branch-clause-ok
returns-then-not-branch-clause-ok c =
    let xs = c.loop-claim.yielded in
    let x = c.in-Some.claim in
    let items = c.args.claims.items in
    let road = YieldsList-from_vec {s = c.into_iter-claim-iterator.result} items (cc) (cc) in
    let turn = YieldsList-turn road xs c.loop-claim.claim-iterator c.loop-claim.yielded_by c.next.result c.next.new.self x c.in-Some.is c.next.ensures.steps in
    let before = YieldsList-so_far road xs c.loop-claim.claim-iterator c.loop-claim.yielded_by in
    let again = sym (c.loop-claim.invariant.seen x) ∙ not_false _ (sym c.in_ok-insert.ensures.added ∙ c.if-not-branch.true) in
    not_distinct xs (drop (suc (length xs)) items) x again ∙ ap (all_distinct same_claim) (sym (parted items xs x before turn.0 turn.1))

pub loop-claim-preserved : goal.loop-claim-preserved
loop-claim-preserved c =
    let xs = c.loop-claim.yielded in
    let x = c.in-Some.claim in
    let new = ap not (sym (c.loop-claim.invariant.seen x)) ∙ sym c.in_ok-insert.ensures.added ∙ c.if-not-branch.false in
    record {
      distinct = distinct_more xs x ∙ not_true (all_distinct same_claim xs) (list_any (same_claim x) xs) c.loop-claim.invariant.distinct new;
      seen = λ q. c.in_ok-insert.ensures.updates.0 q ∙ ap (cond (same_claim x q) true) (c.loop-claim.invariant.seen q) ∙ seen_more xs x q;
    }

pub returns-clause-ok : goal.returns-clause-ok
returns-clause-ok c =
    let xs = c.loop-claim.yielded in
    let road = YieldsList-from_vec {s = c.into_iter-claim-iterator.result} c.args.claims.items (cc) (cc) in
    let all = YieldsList-end road xs c.loop-claim.claim-iterator c.loop-claim.yielded_by c.next.result c.next.new.self c.in-None.is c.next.ensures.steps in
    sym c.loop-claim.invariant.distinct ∙ ap (all_distinct same_claim) (sym (map-id xs) ∙ all.0)
