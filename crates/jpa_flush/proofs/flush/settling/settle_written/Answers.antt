use Rattle.std.proofs.Common.{◌≡◌, ◌∙◌, ap, get_or, map, List}
use Rattle.std.specs.Prelude.{slice_set, Some}
use Rattle.jpa_work.specs.declared.context.Entry.{Entry}
use Rattle.jpa_work.specs.context.Undo.{now}
use Rattle.jpa_work.specs.context.Work.{Work}
use Rattle.jpa_flush.specs.flush.Flush.{members_held}
use Rattle.jpa_flush.specs.flush.Plan.{learned_entry}
use Rattle.jpa_flush.proofs.flush.OneEntry.{named_at, one_learned}
use Rattle.jpa_flush.proofs.flush.Settled.{learned_if}
use Rattle.jpa_flush.proofs.flush.settling.settle_written.Goals as goal

pub returns-clause-ok : goal.returns-clause-ok
returns-clause-ok c =
    let w0 = now c.args.work.now in
    let v = now c.settle_version.new.work in
    let n = c.args.object in
    let x = c.args.stored.now in
    let i = c.args.place in
    let ms = members_held c.args.metamodel.now w0 n in
    let e = c.index-as_slice-place.result in
    let y = c.in_ok-settled.settled in
    let raised = c.in_ok-settle_version.ensures.ok in
    let es : v.context ≡ w0.context = ap (λ (u : Work). u.context) raised in
    let read : e ≡ get_or w0.context i e = c.index-as_slice-place.is ∙ ap (λ (us : List Entry). get_or us i e) (c.as_slice.ensures ∙ es) in
    let named = named_at w0.context i n e c.requires.place read in
    let settled : y ≡ learned_entry ms x e = c.in_ok-settled.ensures.ok ∙ ap (λ os. learned_entry os x e) c.in_ok-members.ensures.ok in
    let put : c.set.new.self.now ≡ map (learned_if ms n (Some x)) w0.context =
    c.in_ok-set.ensures.changed
    ∙ (λ j. slice_set (es j) i (settled j))
    ∙ one_learned ms (Some x) w0.context i e c.requires.ready.distinct (named.0) read
    ∙ ap (λ k. map (learned_if ms k (Some x)) w0.context) (named.1) in
    (λ j. record v { context = put j })
    ∙ ap {A = Work} {B = Work} (λ u. record u { context = map (learned_if ms n (Some x)) w0.context }) raised
