use Rattle.std.proofs.Common.{◌∙◌, map, ap, sym, subst, T}
use Rattle.std.specs.Prelude.{OnOk, Result, Ok, Err}
use Rattle.std.specs.FinMap.Entries.{is_sorted}
use Rattle.jpa_value.specs.declared.refusal.Cause.{Cause}
use Rattle.jpa_value.specs.Value.{identity_cmp}
use Rattle.jpa_stored.specs.objects.Sets.{StoredSet, fault_of}
use Rattle.jpa_open.proofs.MergedSets.{merged_rises}
use Rattle.jpa_open.specs.Opened.{Opened, SameElsewhere}
use Rattle.jpa_flush.specs.flush.Changes.{place_of}
use Rattle.jpa_work.specs.context.Steps.{Meets, after, change}
use Rattle.jpa_work.specs.context.Undo.{now}
use Rattle.jpa_flush.specs.flush.Flush.{sound_or}
use Rattle.jpa_updates.specs.Updates.{with_view}
use Rattle.jpa_provider.proofs.Current.{changed_from, place_at, same_elsewhere, seen_then}
use Rattle.jpa_provider.proofs.commit_work.merge.Goals as goal

pub judge-requires-clause-rising : goal.judge-requires-clause-rising
judge-requires-clause-rising c =
    let v = c.args.work.now.view in
    subst (λ (s : StoredSet). T (is_sorted identity_cmp s)) (sym (ap (λ (x : Opened). x.seen) c.in_ok-rebase.ensures.ok)) (merged_rises v.committed v.begun v.seen c.requires.committed_rising)

-- what is committed is sound, and the merged set has elsewhere what that has
pub judge-requires-clause-changed : goal.judge-requires-clause-changed
judge-requires-clause-changed c =
    let v = c.args.work.now.view in
    let ids = c.args.ids.now in
    let rebased = c.in_ok-rebase.ensures.ok in
    let places = ap (map place_of) c.as_slice.ensures.value ∙ c.in_ok-changes.ensures.ok ∙ ap (λ (x : Opened). map (place_at x.committed) ids) rebased in
    changed_from c.args.metamodel.now v.committed c.rebase.new.self.seen c.as_slice.result.now ids places c.requires.committed_rising c.requires.committed
    (subst (λ (s : StoredSet). SameElsewhere s v.committed ids) (sym (ap (λ (x : Opened). x.seen) rebased)) (same_elsewhere v.committed v.begun v.seen ids c.requires.changed c.requires.rising))

pub returns-clause-meets : goal.returns-clause-meets
returns-clause-meets c =
    let m = c.args.metamodel.now in
    let w = now c.args.work.now in
    let s = c.rebase.new.self.seen in
    subst (λ (set : StoredSet). Meets c.judge.result (with_view s w) (after (sound_or (fault_of m set) w) (λ _. change (with_view set)))) (ap (λ (x : Opened). x.seen) c.in_ok-rebase.ensures.ok)
    (seen_then m s w c.judge.result c.judge.ensures.sound c.judge.ensures.fault)

whether_or_not : (r : Result (Unit {0}) Cause) (P : Type 0) → P → OnOk r P
whether_or_not (Ok a) P h = h
whether_or_not (Err cause) P h = tt

pub returns-clause-elsewhere : goal.returns-clause-elsewhere
returns-clause-elsewhere c =
    let v = c.args.work.now.view in
    let ids = c.args.ids.now in
    let w = c.rebase.new.self in
    whether_or_not c.judge.result (SameElsewhere w.seen w.committed ids)
    (subst (λ (x : Opened). SameElsewhere x.seen x.committed ids) (sym c.in_ok-rebase.ensures.ok) (same_elsewhere v.committed v.begun v.seen ids c.requires.changed c.requires.rising))
