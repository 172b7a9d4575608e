use Rattle.std.proofs.Common.{sym, subst, rules}
use Rattle.jpa_behaviour.specs.Registered.{world_of}
use Rattle.jpa_rows.specs.rows.Commits.{IsDifference}
use Rattle.jpa_rows.specs.rows.Rows.{Rows}
use Rattle.jpa_rows.proofs.rows.Commits.{none_tried, makes_difference}
use Rattle.jpa_object_rows.specs.meaning.Sets.{rows_of}
use Rattle.jpa_object_rows.specs.store.Written.{entries_in, set_after}
use Rattle.jpa_object_rows.proofs.store.Commits.{none_made}
use Rattle.jpa_object_rows.proofs.store.commit.write_changes.Goals as goal

pub returns-in_err-changes-clause-commits : goal.returns-in_err-changes-clause-commits
returns-in_err-changes-clause-commits g c = none_tried g.R.RowSource _ _ _ c.from_residual.result c.args.source.now (search rules) (g.met.R.RowSource.still c.args.source.now) (search rules)

pub returns-clause-commits : goal.returns-clause-commits
returns-clause-commits g c =
    let world = world_of g.B.Behaviour.meaning c.args.metamodel.now c.args.registry.now in
    let base = rows_of world c.args.view.now.committed c.args.before.now in
    let rows = rows_of world (set_after (entries_in c.args.objects.now) c.args.view.now.committed) c.args.next.now in
    let made = c.as_slice.result.now in
    let difference : IsDifference base rows made = subst (IsDifference base rows) (sym c.as_slice.ensures) c.in_ok-changes.ensures.ok in
    makes_difference g.R.RowSource _ base rows made c.args.source.now c.commit.new.self difference c.commit.result (c.commit.ensures.makes base) c.commit.ensures.counted
    (λ same. (c.commit.ensures.nothing (none_made base made (subst (λ (rows : Rows). IsDifference base rows made) (sym same) difference))).1)
