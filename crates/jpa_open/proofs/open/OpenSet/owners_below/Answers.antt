use Rattle.std.proofs.Common.{◌∙◌, ap, length, arith, List}
use Rattle.jpa_model.specs.declared.unit.Entity.{Entity}
use Rattle.jpa_stored.specs.objects.Sets.{stored_at}
use Rattle.jpa_open.specs.Opened.{now, lent_ids}
use Rattle.jpa_open.specs.References.{leads_as_kind}
use Rattle.jpa_open.proofs.Led.{all_that}
use Rattle.jpa_open.proofs.Subclasses.{kinds_all}
use Rattle.jpa_open.proofs.open.OpenSet.owners_below.Goals as goal

pub returns : goal.returns
returns c =
    let m = c.args.metamodel.now in
    let seen = now c.args.self.now in
    let classes = ap (λ (es : List Entity). length es) c.entities-below-end.ensures in
    all_that (leads_as_kind m c.args.class c.args.place c.args.id.now) seen (lent_ids c.loop-below.found.items) (λ q t. c.loop-below.invariant q
    (kinds_all m c.args.class c.args.place c.args.id.now c.loop-below.below (omega (arith, classes, c.loop-below-test.false, c.loop-below.auto.below-end)) (omega (arith, classes, c.requires, c.loop-below-test.false, c.loop-below.auto.below-end)) q (stored_at seen q) ∙ t))
