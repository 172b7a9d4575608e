use Rattle.std.proofs.Common.{sym, subst, ◌∙◌}
use Rattle.jpa_behaviour.specs.Registered.{world_of}
use Rattle.jpa_rows.proofs.laws.Facts.{true_false}
use Rattle.jpa_object_rows.proofs.meaning.Bytes.Described.{described_mapped}
use Rattle.jpa_opening.specs.reader.Read.{AreRead}
use Rattle.jpa_opening.specs.reader.Together.{StandTogether}
use Rattle.jpa_opening.proofs.reader.Together.{of_classes, read_storable, held, of_none}
use Rattle.jpa_opening.proofs.reader.judge.judge.Goals as goal

pub stand_together-requires-clause-classes : goal.stand_together-requires-clause-classes
stand_together-requires-clause-classes g c =
    let rows = c.args.rows.now in
    let world = world_of g.B.Behaviour.meaning c.args.metamodel.now c.args.registry.now in
    let is = subst (AreRead world rows) c.in-Set.is c.in_ok-set.ensures.read in
    of_classes world c.in-Set.set (read_storable world rows c.in-Set.set is.same)

pub returns-then-branch-clause-judged : goal.returns-then-branch-clause-judged
returns-then-branch-clause-judged g c =
    let m = c.args.metamodel.now in
    let rows = c.args.rows.now in
    let set = c.in-Set.set in
    let world = world_of g.B.Behaviour.meaning m c.args.registry.now in
    let is = subst (AreRead world rows) c.in-Set.is c.in_ok-set.ensures.read in
    held world (described_mapped m c.unit.ensures.described) (c.laws.ensures.regular m) c.discriminator_law.ensures rows c.requires.named c.requires.whole c.requires.filled is.sound set is
    c.in_ok-numbers.numbers c.in_ok-numbers.ensures.ok
    (subst (StandTogether m rows set) c.as_slice.ensures (c.in_ok-stand_together.ensures.together.0 c.if-branch.true))

pub returns-else-branch-clause-judged : goal.returns-else-branch-clause-judged
returns-else-branch-clause-judged g c =
    let m = c.args.metamodel.now in
    let rows = c.args.rows.now in
    let set = c.in-Set.set in
    let world = world_of g.B.Behaviour.meaning m c.args.registry.now in
    let is = subst (AreRead world rows) c.in-Set.is c.in_ok-set.ensures.read in
    of_none world (described_mapped m c.unit.ensures.described) (c.laws.ensures.regular m) c.discriminator_law.ensures rows c.requires.named c.requires.whole c.requires.filled is.sound set is
    c.in_ok-numbers.numbers c.in_ok-numbers.ensures.ok
    (λ t. true_false (sym (c.in_ok-stand_together.ensures.together.1 (subst (StandTogether m rows set) (sym c.as_slice.ensures) t)) ∙ c.if-branch.false))
