use Rattle.std.specs.Prelude.{[], ◌∷◌, ◌++◌, cond}
use Rattle.std.proofs.Common.{sym, ap, ◌∙◌}
use Rattle.jpa_model.specs.declared.unit.Entity.{Entity}
use Rattle.jpa_opening.specs.migration.Changed.{change_at}
use Rattle.jpa_opening.specs.migration.Plans.{column_if_new}
use Rattle.std.specs.List.{flat_map}
use Rattle.jpa_opening.proofs.migration.Attributes.{one_more, no_more, joined_more, joined_less}
use Rattle.jpa_opening.proofs.migration.planning.push_taken.Goals as goal
use Rattle.jpa_opening.proofs.migration.planning.push_taken.Goals.{then-is_new_at+in_ok-push, else-is_new_at}

pub loop-i-preserved : goal.loop-i-preserved
loop-i-preserved c =
    let m = c.args.metamodel.now in
    let h = c.args.history.now in
    let a = c.index-attributes-i.result in
    let i = c.loop-i.i in
    let own = c.as_slice-attributes.ensures ∙ ap (λ (e : Entity). e.attributes) c.entity.ensures in
    let more = one_more m h c.args.class c.as_slice-attributes.result.now own i a c.loop-i-test.true c.index-attributes-i.is in
    elim c.if-is_new_at.branch [
      | then-is_new_at+in_ok-push w ↦
          joined_more column_if_new _ _ (a, change_at h c.args.class i) c.args.taken.now c.loop-i.taken _ more c.loop-i.invariant
          (w.taken-is ∙ w.in_ok-push.ensures.ok ∙ ap (λ b. c.loop-i.taken ++ cond b (a.column ∷ []) []) (sym w.if-is_new_at.true ∙ c.is_new_at.ensures))
      | else-is_new_at w ↦
          joined_less column_if_new _ _ (a, change_at h c.args.class i) c.args.taken.now c.loop-i.taken _ more c.loop-i.invariant w.taken-is
          (ap (λ b. cond b (a.column ∷ []) []) (sym c.is_new_at.ensures ∙ w.if-is_new_at.false))
    ]

pub returns-clause-ok : goal.returns-clause-ok
returns-clause-ok c =
    let own = c.as_slice-attributes.ensures ∙ ap (λ (e : Entity). e.attributes) c.entity.ensures in
    c.loop-i.invariant
    ∙ ap (λ xs. c.args.taken.now ++ flat_map column_if_new xs) (no_more c.args.metamodel.now c.args.history.now c.args.class c.as_slice-attributes.result.now own c.loop-i.i c.loop-i-test.false)
