use Rattle.std.proofs.Common.{◌∙◌, ap, subst, T}
use Rattle.std.specs.Prelude.{IfSome}
use Rattle.std.specs.FinMap.Entries.{is_sorted}
use Rattle.jpa_value.specs.Value.{identity_cmp}
use Rattle.jpa_open.specs.Opened.{Opened, now, lent_ids}
use Rattle.jpa_open.specs.Valued.{is_valued, passing_under, AreAllThat}
use Rattle.jpa_open.proofs.Held.{seen_rises}
use Rattle.jpa_open.proofs.Valued.{all_passing}
use Rattle.jpa_open.proofs.open.OpenSet.valued_in.Goals as goal

pub returns : goal.returns
returns c =
    let s = c.self.inside in
    let p = is_valued c.args.metamodel.now c.args.class c.args.member c.args.spans.now in
    let seen = now c.args.self.now in
    let ids = c.in_order-ids.result.items in
    let rising = subst (λ (v : Opened). T (is_sorted identity_cmp (now v))) c.self.view_is (seen_rises s.fresh.items s.gone.items s.written.items s.dropped.items s.back.items s.absent.items s.committed.items c.self.invariant.committed) in
    let told = subst (λ o. IfSome o (λ found. AreAllThat p seen (lent_ids found.items))) c.in-Some.is c.in_ok-ids.ensures in
    c.in_ok-found.ensures ∙ ap (λ bs. passing_under p seen (lent_ids bs)) c.as_slice.ensures.value
    ∙ all_passing p seen ids rising c.in_order-ids.ensures.rising (λ id x e t. c.in_order-ids.ensures.same id ∙ told id x e t)
