use Rattle.std.proofs.Common.{◌≡◌, ℕ, List, ap, sym, subst, ◌∙◌, rules}
use Rattle.std.specs.Prelude.{true, nat_le}
use Rattle.jpa_behaviour.specs.Served.{world_of_unit}
use Rattle.jpa_stored.specs.objects.Sets.{StoredSet, IsSound, each_fits}
use Rattle.jpa_rows.specs.rows.Cells.{CanBeHeld}
use Rattle.jpa_object_rows.specs.meaning.Sets.{rows_of}
use Rattle.jpa_work.specs.context.Work.{Work}
use Rattle.jpa_work.specs.context.Steps.{IsRefusedAs}
use Rattle.jpa_work.specs.context.Undo.{now, since}
use Rattle.jpa_queries.specs.Premises.{StaysReady}
use Rattle.jpa_protocol.specs.declared.call.Call.{Call}
use Rattle.jpa_provider.specs.Serving.{machine_of, is_begun_status}
use Rattle.jpa_provider.specs.Beside.{Rises}
use Rattle.jpa_provider.proofs.Active.{can_flush, entries_since, query_ready}
use Rattle.jpa_provider.proofs.Committed.{committing, same_work, worked_held, worked_ready, worked_rising, worked_within}
use Rattle.jpa_provider.proofs.Commits.{refused_step, stored_step, refused_still}
use Rattle.jpa_provider.proofs.Stored.{goes_up, is_refused, left_alone, made_by}
use Rattle.jpa_provider.proofs.Marked.{still_marked}
use Rattle.jpa_provider.proofs.Told.{of_operation}
use Rattle.jpa_provider.proofs.Worked.{still_working}
use Rattle.jpa_provider.proofs.committing.commit_active.Goals as goal

pub commit_work-requires : goal.commit_work-requires
commit_work-requires g c =
    let s = c.args.session.now in
    let m = c.args.manager in
    let world = world_of_unit g.B.Behaviour.meaning c.args.unit.now in
    let serving = (c.requires.over).serving in
    let work = c.take_work.ensures.work in
    let away = (c.take_work.ensures.working).away in
    let held = serving.machine.committed in
    record {
      flush = can_flush world s c.take_work.new.session m serving work (c.take_work.ensures.marked world.model serving.marked);
      goes = subst (StaysReady true world) (sym work) (query_ready world s m serving true);
      committed = subst (IsSound world.model) (sym away.committed) held.sound;
      committed_rising = subst Rises (sym away.committed) held.rising;
    }

pub refuse_commit-requires-clause-entries : goal.refuse_commit-requires-clause-entries
refuse_commit-requires-clause-entries g c =
    let u = c.commit_work.new.work in
    let working = still_working c.take_work.new.session u c.take_work.ensures.working c.commit_work.ensures.since in
    entries_since c.args.session.now c.args.manager (since u) ((c.requires.over).serving).machine working.objects working.context

pub store_commit-requires : goal.store_commit-requires
store_commit-requires g c =
    let s = c.args.session.now in
    let m = c.args.manager in
    let world = world_of_unit g.B.Behaviour.meaning c.args.unit.now in
    let over = c.requires.over in
    let serving = over.serving in
    let u = c.commit_work.new.work in
    let w : Work = now u in
    let found = c.in-Ok.ensures.found in
    let working = still_working c.take_work.new.session u c.take_work.ensures.working c.commit_work.ensures.since in
    let away = working.away in
    let taken = committing s c.take_work.new.session m (ap is_begun_status c.requires.active) c.take_work.ensures.working in
    let done = sym (same_work c.take_work.new.session taken world c.take_work.ensures.work) ∙ c.in-Ok.ensures.meets in
    record {
      within = away.within;
      counted = away.counted;
      schema = over.schema;
      elsewhere = search rules;
      once = search rules;
      committed = subst (λ (p : StoredSet × List ℕ). CanBeHeld world p.0 p.1) (λ i. (sym away.committed i, sym away.stored i)) serving.machine.committed;
      seen = worked_held world s m serving w done;
      rising = subst (λ ns. each_fits nat_le ns w.numbers ≡ true) (sym away.stored) (worked_rising world s m serving w done);
      entries = worked_within world s m serving w done;
      ready = worked_ready world s m serving w done;
      untouched = found.looked;
    }

-- ---- a commit that was refused

pub returns-in-Err-clause-step : goal.returns-in-Err-clause-step
returns-in-Err-clause-step g c = λ em named.
    let s = c.args.session.now in
    let m = c.args.manager in
    let world = world_of_unit g.B.Behaviour.meaning c.args.unit.now in
    let u = c.commit_work.new.work in
    let working = still_working c.take_work.new.session u c.take_work.ensures.working c.commit_work.ensures.since in
    let taken = committing s c.take_work.new.session m (ap is_begun_status c.requires.active) c.take_work.ensures.working in
    let refused = subst (IsRefusedAs c.in-Err.cause u.events) (same_work c.take_work.new.session taken world c.take_work.ensures.work) c.in-Err.ensures.meets in
    refused_step world s c.refuse_commit.new.session em m named c.requires.active c.in-Err.cause u.events c.refuse_commit.result refused
    (c.refuse_commit.ensures.refuses (machine_of s) (committing s _ m (ap is_begun_status c.requires.active) working))

pub returns-in-Err-clause-rest : goal.returns-in-Err-clause-rest
returns-in-Err-clause-rest g c =
    let s = c.args.session.now in
    let world = world_of_unit g.B.Behaviour.meaning c.args.unit.now in
    let serving = (c.requires.over).serving in
    let u = c.commit_work.new.work in
    let working = still_working c.take_work.new.session u c.take_work.ensures.working c.commit_work.ensures.since in
    let there = committing s _ c.args.manager (ap is_begun_status c.requires.active) working in
    let away = still_marked c.take_work.new.session u (c.take_work.ensures.marked world.model serving.marked) c.commit_work.ensures.since in
    record {
      settled = c.refuse_commit.ensures.settled (machine_of s) there;
      marked = c.refuse_commit.ensures.marked world (machine_of s) serving.machine there away;
    }

pub returns-in-Err-clause-stores : goal.returns-in-Err-clause-stores
returns-in-Err-clause-stores g c = λ em named.
    let s = c.args.session.now in
    let m = c.args.manager in
    let rows = c.args.rows.now in
    let u = c.commit_work.new.work in
    let cause = c.in-Err.cause in
    let reply = c.refuse_commit.result in
    let M = machine_of s in
    let N = machine_of c.refuse_commit.new.session in
    let working = still_working c.take_work.new.session u c.take_work.ensures.working c.commit_work.ensures.since in
    let refuses = c.refuse_commit.ensures.refuses M (committing s _ m (ap is_begun_status c.requires.active) working) in
    left_alone (world_of_unit g.B.Behaviour.meaning c.args.unit.now) g.R.RowSource M N (Call.Commit em) reply rows (g.met.R.RowSource.still rows)
    (c.refuse_commit.ensures.untold (of_operation cause u.events _ c.in-Err.ensures.meets)) (λ commit. is_refused M N m u.events cause reply refuses)
    (refused_still m cause u.events reply refuses) (c.requires.over).holds

-- ---- a commit that was done

pub returns-in-Ok-clause-step : goal.returns-in-Ok-clause-step
returns-in-Ok-clause-step g c = λ em named.
    let s = c.args.session.now in
    let m = c.args.manager in
    let world = world_of_unit g.B.Behaviour.meaning c.args.unit.now in
    let u = c.commit_work.new.work in
    let working = still_working c.take_work.new.session u c.take_work.ensures.working c.commit_work.ensures.since in
    let taken = committing s c.take_work.new.session m (ap is_begun_status c.requires.active) c.take_work.ensures.working in
    let done = sym (same_work c.take_work.new.session taken world c.take_work.ensures.work) ∙ c.in-Ok.ensures.meets in
    stored_step world s c.store_commit.new.session em m named c.requires.active (now u) c.store_commit.result done
    (c.store_commit.ensures.ends (machine_of s) (committing s _ m (ap is_begun_status c.requires.active) working)).stores

pub returns-in-Ok-clause-rest : goal.returns-in-Ok-clause-rest
returns-in-Ok-clause-rest g c =
    let s = c.args.session.now in
    let world = world_of_unit g.B.Behaviour.meaning c.args.unit.now in
    let u = c.commit_work.new.work in
    let working = still_working c.take_work.new.session u c.take_work.ensures.working c.commit_work.ensures.since in
    let there = committing s _ c.args.manager (ap is_begun_status c.requires.active) working in
    let away = still_marked c.take_work.new.session u (c.take_work.ensures.marked world.model ((c.requires.over).serving).marked) c.commit_work.ensures.since in
    let ends = c.store_commit.ensures.ends (machine_of s) there in
    record {
      settled = ends.settled;
      marked = ends.marked away;
    }

pub returns-in-Ok-clause-stores : goal.returns-in-Ok-clause-stores
returns-in-Ok-clause-stores g c = λ em named.
    let s = c.args.session.now in
    let m = c.args.manager in
    let world = world_of_unit g.B.Behaviour.meaning c.args.unit.now in
    let u = c.commit_work.new.work in
    let stored = c.store_commit in
    let working = still_working c.take_work.new.session u c.take_work.ensures.working c.commit_work.ensures.since in
    let away = working.away in
    let taken = committing s c.take_work.new.session m (ap is_begun_status c.requires.active) c.take_work.ensures.working in
    let done = sym (same_work c.take_work.new.session taken world c.take_work.ensures.work) ∙ c.in-Ok.ensures.meets in
    goes_up world g.R.RowSource (machine_of s) (machine_of stored.new.session) em stored.result c.args.rows.now stored.new.rows _ _
    (λ i. rows_of world (away.committed i) (away.stored i)) (made_by world s em m named c.requires.active (now u) done) stored.ensures.commits stored.ensures.refused
    (c.requires.over).holds (stored.ensures.ends (machine_of s) (committing s _ m (ap is_begun_status c.requires.active) working)).holds
