use Rattle.std.proofs.Common.{◌∙◌, map, ap, sym, subst, T}
use Rattle.std.specs.FinMap.Entries.{is_sorted}
use Rattle.jpa_value.specs.Value.{identity_cmp}
use Rattle.jpa_stored.specs.objects.Sets.{StoredSet}
use Rattle.jpa_work.specs.context.Undo.{now}
use Rattle.jpa_flush.specs.flush.Changes.{place_of}
use Rattle.jpa_flush.proofs.flush.Changed.{changed_from, judged, written_rises}
use Rattle.jpa_flush.proofs.flush.judging.judge_written.Goals as goal

pub judge-requires-clause-rising : goal.judge-requires-clause-rising
judge-requires-clause-rising c =
    let before = c.requires.written.0 in
    let plan = c.requires.written.1 in
    let h = c.requires.written.2 in
    subst (λ (s : StoredSet). T (is_sorted identity_cmp s)) (sym h.set) (written_rises plan before.view h.rising)

pub judge-requires-clause-changed : goal.judge-requires-clause-changed
judge-requires-clause-changed c =
    let before = c.requires.written.0 in
    let plan = c.requires.written.1 in
    let h = c.requires.written.2 in
    let named = ap (map place_of) c.as_slice.ensures.value ∙ c.in_ok-changes.ensures.ok in
    changed_from c.args.metamodel.now before plan c.args.written.now c.as_slice.result.now (now c.args.work.now).view h named

pub returns : goal.returns
returns c = record { meets = judged c.args.metamodel.now (now c.args.work.now).view (now c.args.work.now) c.judge.result c.judge.ensures.sound c.judge.ensures.fault }
