use Rattle.std.proofs.Common.{◌≡◌, ◌∙◌, ap, get_or, map, List}
use Rattle.std.specs.Prelude.{slice_set, [], None}
use Rattle.jpa_work.specs.declared.context.Entry.{Entry}
use Rattle.jpa_work.specs.context.Undo.{now}
use Rattle.jpa_flush.proofs.flush.OneEntry.{named_at, one_learned}
use Rattle.jpa_flush.proofs.flush.Settled.{learned_as, learned_if}
use Rattle.jpa_flush.proofs.flush.settling.settle_taken.Goals as goal

pub returns-clause-ok : goal.returns-clause-ok
returns-clause-ok c =
    let w0 = now c.args.work.now in
    let n = c.args._object in
    let i = c.args.place in
    let e = c.index-as_slice-place.result in
    let y = c.in_ok-settled.settled in
    let read : e ≡ get_or w0.context i e = c.index-as_slice-place.is ∙ ap (λ (us : List Entry). get_or us i e) c.as_slice.ensures in
    let named = named_at w0.context i n e c.requires.place read in
    let settled : y ≡ learned_as [] None e = c.in_ok-settled.ensures.ok in
    let put : c.set.new.self.now ≡ map (learned_if [] n None) w0.context =
    c.in_ok-set.ensures.changed
    ∙ (λ j. slice_set w0.context i (settled j))
    ∙ one_learned [] None w0.context i e c.requires.distinct (named.0) read
    ∙ ap (λ k. map (learned_if [] k None) w0.context) (named.1) in
    λ j. record w0 { context = put j }
