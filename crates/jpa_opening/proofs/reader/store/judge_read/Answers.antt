use Rattle.std.proofs.Common.{subst}
use Rattle.jpa_behaviour.specs.Registered.{world_of}
use Rattle.jpa_opening.specs.reader.Judged.{IsJudged}
use Rattle.jpa_opening.proofs.reader.Final.{told_first}
use Rattle.jpa_opening.proofs.reader.store.judge_read.Goals as goal

pub returns-in-Damaged-default-clause-err : goal.returns-in-Damaged-default-clause-err
returns-in-Damaged-default-clause-err g c =
    let world = world_of g.B.Behaviour.meaning c.args.metamodel.now c.args.registry.now in
    let rows = c.args.rows.now in
    told_first world c.args.schema.now rows c.in-Damaged-default.place c.index-rows-place.result c.args.end c.damaged.result
    (subst (IsJudged world rows) c.in-Damaged-default.is-0 c.in_ok-place.ensures.judged) c.index-rows-place.is c.damaged.ensures
