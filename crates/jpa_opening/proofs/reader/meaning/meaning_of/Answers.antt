use Rattle.std.proofs.Common.{subst}
use Rattle.jpa_behaviour.specs.Registered.{world_of}
use Rattle.jpa_opening.specs.reader.Read.{IsObjectOf}
use Rattle.jpa_opening.proofs.reader.Said.{none_of, nor}
use Rattle.jpa_opening.proofs.reader.meaning.meaning_of.Goals as goal

pub returns-in-None-clause-meaning : goal.returns-in-None-clause-meaning
returns-in-None-clause-meaning g c =
    let world = world_of g.B.Behaviour.meaning c.args.metamodel.now c.args.registry.now in
    nor c.is_revision_row.result c.is_revision_row.ensures c.if-is_revision_row.false
    (none_of c.is_number_row.result c.is_pair_row.result c.is_number_row.ensures c.is_pair_row.ensures c.if-is_number_row.false c.if-is_pair_row.false
    (subst (IsObjectOf world c.args.rows.now c.args.id.now c.args.row.now) c.in-None.is c.in_ok-object.ensures.object))
