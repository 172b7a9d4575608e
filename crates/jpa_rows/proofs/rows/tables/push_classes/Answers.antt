use Rattle.std.specs.Prelude.{ℕ, ◌++◌}
use Rattle.std.proofs.Common.{ap, sym, ◌∙◌}
use Rattle.jpa_model.specs.declared.unit.Entity.{Entity}
use Rattle.jpa_model.specs.Chains.{entity_at, root_class}
use Rattle.jpa_rows.specs.rows.Tables.{rules_of_class}
use Rattle.jpa_rows.proofs.rows.Classes.{passed, taken}
use Rattle.jpa_rows.proofs.rows.tables.push_classes.Goals as goal
use Rattle.jpa_rows.proofs.rows.tables.push_classes.Goals.{then-root_class-root+in_ok-push_class, else-root_class-root}

pub loop-class-preserved : goal.loop-class-preserved
loop-class-preserved c =
    let m = c.args.metamodel.now in
    let rules = λ (n : ℕ). rules_of_class m (entity_at m n) in
    elim c.if-root_class-root.branch [
      | then-root_class-root+in_ok-push_class w ↦
          taken rules (root_class m) c.args.root c.loop-class.class c.args.rules.now c.loop-class.rules c.if-root_class-root.rules c.loop-class.invariant
          (sym c.root_class.ensures ∙ w.if-root_class-root.true)
          (w.rules-is ∙ w.in_ok-push_class.ensures.ok ∙ ap (λ (e : Entity). c.loop-class.rules ++ rules_of_class m e) w.entity_at.ensures.entity)
      | else-root_class-root w ↦
          w.rules-is
          ∙ passed rules (root_class m) c.args.root c.loop-class.class c.args.rules.now c.loop-class.rules c.loop-class.invariant
          (λ e. w.if-root_class-root.false (c.root_class.ensures ∙ e))
    ]
