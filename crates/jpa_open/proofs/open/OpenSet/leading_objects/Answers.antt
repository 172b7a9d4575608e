use Rattle.std.proofs.Common.{◌∙◌, ap, subst, T, Result, Ok, Err}
use Rattle.std.specs.Prelude.{IfOk}
use Rattle.std.specs.FinMap.Entries.{is_sorted}
use Rattle.jpa_value.specs.Value.{identity_cmp}
use Rattle.jpa_open.specs.Opened.{Opened, now, lent_ids}
use Rattle.jpa_open.specs.References.{leads_as_kind}
use Rattle.jpa_open.specs.Valued.{passing_under}
use Rattle.jpa_open.proofs.Held.{seen_rises}
use Rattle.jpa_open.proofs.Valued.{all_passing}
use Rattle.jpa_open.proofs.open.OpenSet.leading_objects.Goals as goal

if_ok : {A E : Type 0} (r : Result A E) (P Q : A → Type 0) → ((a : A) → P a → Q a) → IfOk r P → IfOk r Q
if_ok (Ok a) P Q f p = f a p
if_ok (Err e) P Q f p = p

pub returns : goal.returns
returns c =
    let s = c.self.inside in
    let p = leads_as_kind c.args.metamodel.now c.args.class c.args.place c.args.id.now in
    let seen = now c.args.self.now in
    let ids = c.in_order-ids.result.items in
    let rising = subst (λ (v : Opened). T (is_sorted identity_cmp (now v))) c.self.view_is (seen_rises s.fresh.items s.gone.items s.written.items s.dropped.items s.back.items s.absent.items s.committed.items c.self.invariant.committed) in
    if_ok c.leading_under.result _ _ (λ found k. k ∙ ap (λ bs. passing_under p seen (lent_ids bs)) c.as_slice.ensures.value
    ∙ all_passing p seen ids rising c.in_order-ids.ensures.rising (λ id x e t. c.in_order-ids.ensures.same id ∙ c.in_ok-candidates_leading.ensures id x e t))
    c.leading_under.ensures
