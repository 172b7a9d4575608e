use Rattle.std.specs.Prelude.{◌≡◌, true}
use Rattle.std.specs.List.{AllByRecursion}
use Rattle.std.proofs.Common.{◌∙◌, ap, sym, subst, rules}
use Rattle.jpa_value.specs.Value.{same_identity}
use Rattle.jpa_behaviour.specs.Registered.{world_of}
use Rattle.jpa_stored.specs.objects.Sets.{StoredSet, all_distinct}
use Rattle.jpa_open.specs.Opened.{AreAllChanged}
use Rattle.jpa_object_rows.proofs.meaning.Bytes.Rounds.{held_storable}
use Rattle.jpa_object_rows.specs.meaning.Sets.{rows_of}
use Rattle.jpa_rows.specs.rows.Commits.{Commits}
use Rattle.jpa_rows.specs.rows.Faults.{faults_after}
use Rattle.jpa_rows.proofs.rows.Commits.{none_tried}
use Rattle.jpa_object_rows.specs.store.Written.{entries_in, is_storable_if_any, set_after}
use Rattle.jpa_object_rows.proofs.store.Written.{Entry}
use Rattle.jpa_object_rows.proofs.store.Seen.{seen_storable, rising_distinct, after_is_seen}
use Rattle.jpa_object_rows.proofs.store.commit.write.Goals as goal

-- ---- what is seen, as changes

pub write_changes-requires-clause-storable : goal.write_changes-requires-clause-storable
write_changes-requires-clause-storable g c =
    let world = world_of g.B.Behaviour.meaning c.args.metamodel.now c.args.registry.now in
    let view = c.args.view.now in
    let ids = c.args.ids.now in
    let puts = ap entries_in c.as_slice.ensures.value ∙ c.in_ok-objects.ensures.ok in
    subst (AllByRecursion (λ (e : Entry). is_storable_if_any world e.0 e.1 ≡ true)) (sym puts)
    (seen_storable world view.seen ids (held_storable world view.seen c.args.next.now c.requires.seen))

pub write_changes-requires-clause-distinct : goal.write_changes-requires-clause-distinct
write_changes-requires-clause-distinct g c =
    let view = c.args.view.now in
    let ids = c.args.ids.now in
    let puts = ap entries_in c.as_slice.ensures.value ∙ c.in_ok-objects.ensures.ok in
    ap (all_distinct (λ (a : Entry) (b : Entry). same_identity a.0 b.0)) puts ∙ rising_distinct ids view.seen c.requires.once

-- ---- the set that comes is the one that is seen

pub returns-clause-commits : goal.returns-clause-commits
returns-clause-commits g c =
    let world = world_of g.B.Behaviour.meaning c.args.metamodel.now c.args.registry.now in
    let view = c.args.view.now in
    let ids = c.args.ids.now in
    let puts = ap entries_in c.as_slice.ensures.value ∙ c.in_ok-objects.ensures.ok in
    let all : AreAllChanged view ids = c.requires.elsewhere in
    let same = ap (λ es. set_after es view.committed) puts ∙ after_is_seen view ids c.requires.committed.rising c.requires.seen.rising all in
    let r = c.write_changes.result in
    subst
    (λ (set : StoredSet). Commits g.R.RowSource (faults_after r) r (rows_of world view.committed c.args.before.now) (rows_of world set c.args.next.now) c.args.source.now c.write_changes.new.source)
    same c.write_changes.ensures.commits

-- ---- no memory

pub returns-in_err-objects-clause-commits : goal.returns-in_err-objects-clause-commits
returns-in_err-objects-clause-commits g c = none_tried g.R.RowSource _ _ _ c.from_residual.result c.args.source.now (search rules) (g.met.R.RowSource.still c.args.source.now) (search rules)
