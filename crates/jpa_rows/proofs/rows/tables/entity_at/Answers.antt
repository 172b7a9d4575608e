use Rattle.std.specs.Prelude.{◌<◌, length, List}
use Rattle.std.proofs.Common.{ap, sym, subst, ◌∙◌, get_or}
use Rattle.std.proofs.lemmas.List.{get_or_read}
use Rattle.jpa_model.specs.Chains.{no_entity}
use Rattle.jpa_model.specs.declared.unit.Entity.{Entity}
use Rattle.jpa_model.specs.declared.unit.PersistenceUnit.{PersistenceUnit}
use Rattle.jpa_rows.specs.rows.Numbers.{IsNarrow}
use Rattle.jpa_rows.proofs.rows.Narrow.{entity_narrow}
use Rattle.jpa_rows.proofs.rows.tables.entity_at.Goals as goal

pub returns-clause-narrow : goal.returns-clause-narrow
returns-clause-narrow c =
    let m = c.args.metamodel.now in
    let entities = c.as_slice.ensures ∙ ap (λ (u : PersistenceUnit). u.entities) c.unit.ensures.unit in
    let within : c.args.class < length c.as_slice.result.now = subst (λ (es : List Entity). c.args.class < length es) (sym entities) c.requires in
    let is = get_or_read c.as_slice.result.now c.args.class c.index-as_slice-class.result within c.index-as_slice-class.is no_entity in
    subst (IsNarrow m) (sym (is ∙ ap (λ (es : List Entity). get_or es c.args.class no_entity) entities)) (entity_narrow m c.unit.ensures.described c.args.class c.requires)
