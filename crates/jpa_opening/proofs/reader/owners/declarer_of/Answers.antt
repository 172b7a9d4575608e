use Rattle.std.specs.Prelude.{◌<◌, List, length}
use Rattle.std.proofs.Common.{sym, ap, subst, ◌∙◌}
use Rattle.jpa_model.specs.declared.unit.Entity.{Entity}
use Rattle.jpa_model.specs.Chains.{entity_at}
use Rattle.jpa_object_rows.specs.meaning.Identities.{declares}
use Rattle.jpa_opening.proofs.reader.Said.{find_later}
use Rattle.jpa_opening.proofs.reader.owners.declarer_of.Goals as goal

pub loop-class-preserved : goal.loop-class-preserved
loop-class-preserved c =
    let m = c.args.metamodel.now in
    find_later (λ class. declares c.args.table (entity_at m class)) c.loop-class.class (length m.entities)
    (subst (λ (es : List Entity). c.loop-class.class < length es) c.entities-class-end.ensures c.loop-class-test.true)
    (sym (ap (declares c.args.table) c.entity.ensures) ∙ sym c.declares.ensures ∙ c.if-declares.false)
    ∙ c.loop-class.invariant
