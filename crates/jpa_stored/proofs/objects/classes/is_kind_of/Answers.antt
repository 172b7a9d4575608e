use Rattle.std.proofs.Common.{ap, length, arith}
use Rattle.jpa_model.specs.declared.unit.PersistenceUnit.{PersistenceUnit}
use Rattle.jpa_stored.proofs.objects.Bridge.{own_kind, no_kind}
use Rattle.jpa_stored.proofs.objects.classes.is_kind_of.Goals as goal

pub returns-then-class-classes : goal.returns-then-class-classes
returns-then-class-classes c =
    let classes = ap (λ (u : PersistenceUnit). length u.entities) c.unit.ensures.unit in
    own_kind c.args.metamodel.now c.args.class c.args.above (omega (arith, classes, c.len-classes.ensures, c.if-class-classes.true))

pub returns-else-above-classes : goal.returns-else-above-classes
returns-else-above-classes c =
    let classes = ap (λ (u : PersistenceUnit). length u.entities) c.unit.ensures.unit in
    no_kind c.args.metamodel.now c.unit.ensures.described c.len-classes.result c.args.class c.args.above (omega (arith, classes, c.len-classes.ensures)) c.if-class-classes.false c.if-above-classes.false
