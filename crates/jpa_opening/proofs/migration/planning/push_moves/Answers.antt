use Rattle.std.specs.Prelude.{[], ◌∷◌, ◌++◌}
use Rattle.std.proofs.Common.{sym, ap, ◌∙◌, rules, SFits, w64}
use Rattle.std.proofs.lemmas.Int.{to_z-of_z}
use Rattle.std.specs.List.{flat_map}
use Rattle.jpa_model.specs.declared.unit.Entity.{Entity}
use Rattle.jpa_opening.specs.migration.Changed.{change_at}
use Rattle.jpa_opening.specs.migration.Plans.{move_of}
use Rattle.jpa_opening.proofs.migration.OneChange.{moved_from, not_moved}
use Rattle.jpa_opening.proofs.migration.Attributes.{one_more, no_more, joined_more, joined_less}
use Rattle.jpa_opening.proofs.migration.planning.push_moves.Goals as goal
use Rattle.jpa_opening.proofs.migration.planning.push_moves.Goals.{in-Some+in_ok-push, in_default}

pub loop-i-preserved : goal.loop-i-preserved
loop-i-preserved c =
    let m = c.args.metamodel.now in
    let h = c.args.history.now in
    let a = c.index-attributes-i.result in
    let i = c.loop-i.i in
    let own = c.as_slice-attributes.ensures ∙ ap (λ (e : Entity). e.attributes) c.entity_at.ensures.entity in
    let more = one_more m h c.args.class c.as_slice-attributes.result.now own i a c.loop-i-test.true c.index-attributes-i.is in
    elim c.match-column_before.branch [
      | in-Some+in_ok-push w ↦
          let fits : SFits w64 w.column_of.result = search rules in
          joined_more move_of _ _ (a, change_at h c.args.class i) c.args.moves.now c.loop-i.moves _ more c.loop-i.invariant
          (w.moves-is ∙ w.in_ok-push.ensures.ok ∙ ap (λ column. c.loop-i.moves ++ record { was = w.in-Some.was; column = column } ∷ []) (to_z-of_z w64 w.column_of.result fits ∙ w.column_of.ensures)
          ∙ ap (λ more. c.loop-i.moves ++ more) (sym (moved_from a.column w.in-Some.was (change_at h c.args.class i) (sym c.column_before.ensures ∙ w.in-Some.is))))
      | in_default w ↦
          joined_less move_of _ _ (a, change_at h c.args.class i) c.args.moves.now c.loop-i.moves _ more c.loop-i.invariant w.moves-is
          (not_moved a.column (change_at h c.args.class i) (sym c.column_before.ensures ∙ w.in_default.is))
    ]

pub returns-clause-ok : goal.returns-clause-ok
returns-clause-ok c =
    let own = c.as_slice-attributes.ensures ∙ ap (λ (e : Entity). e.attributes) c.entity_at.ensures.entity in
    c.loop-i.invariant
    ∙ ap (λ xs. c.args.moves.now ++ flat_map move_of xs) (no_more c.args.metamodel.now c.args.history.now c.args.class c.as_slice-attributes.result.now own c.loop-i.i c.loop-i-test.false)
