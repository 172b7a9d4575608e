use Rattle.std.proofs.Common.{◌<◌, ◌∙◌, List, sym, subst, length}
use Rattle.jpa_model.specs.declared.unit.Entity.{Entity}
use Rattle.jpa_object_rows.specs.mapper.Guess.{is_class_by}
use Rattle.jpa_object_rows.proofs.mapper.FirstClass.{find_next}
use Rattle.jpa_object_rows.proofs.mapper.guess.class_by.Goals as goal

pub loop-class-preserved : goal.loop-class-preserved
loop-class-preserved c =
    let m = c.args.metamodel.now in
    let Within : List Entity → Type 0 = λ entities. c.loop-class.class < length entities in
    let within = subst Within c.entities-class-end.ensures c.loop-class-test.true in
    sym (find_next (is_class_by m c.args.table c.args.text.now) c.loop-class.class (length m.entities) within (sym c.is_class_by.ensures ∙ c.if-is_class_by.false)) ∙ c.loop-class.invariant
