use Rattle.std.proofs.Common.{◌≡◌, ◌∙◌, ap, sym, subst, List}
use Rattle.jpa_behaviour.specs.Served.{world_of_unit}
use Rattle.jpa_work.specs.context.Steps.{Meets}
use Rattle.jpa_work.specs.context.Undo.{now}
use Rattle.jpql_meaning.specs.declared.eval.datum.Datum.{Datum}
use Rattle.jpql_trees.specs.declared.typed.typed.Typed.{Typed}
use Rattle.jpql_trees.specs.declared.typed.typed.TypedAssignment.{TypedAssignment}
use Rattle.jpa_updates.specs.Updates.{settled, changed_by}
use Rattle.jpa_updates.proofs.updating.run.Goals as goal

pub returns-in-Update-clause-meets : goal.returns-in-Update-clause-meets
returns-in-Update-clause-meets g c =
    let m = c.args.unit.now.metamodel in
    let w = now c.args.work.now in
    let world = world_of_unit g.B.Behaviour.meaning c.args.unit.now in
    let of = λ (t : Typed) (ds : List Datum). Meets c.update.result (now c.update.new.work) (settled m (changed_by world t ds w.view) w) in
    let statement : Typed.Update c.in-Update.class c.as_slice.result.now c.in-Update.filter ≡ c.args.statement.now.typed =
    ap (λ (all : List TypedAssignment). Typed.Update c.in-Update.class all c.in-Update.filter) c.as_slice.ensures ∙ sym c.in-Update.is in
    subst (λ (t : Typed). of t c.args.statement.now.arguments) statement
    (subst (λ (ds : List Datum). of (Typed.Update c.in-Update.class c.as_slice.result.now c.in-Update.filter) ds) c.as_slice-arguments.ensures c.update.ensures.meets)

pub returns-in-Delete-clause-meets : goal.returns-in-Delete-clause-meets
returns-in-Delete-clause-meets g c =
    let m = c.args.unit.now.metamodel in
    let w = now c.args.work.now in
    let world = world_of_unit g.B.Behaviour.meaning c.args.unit.now in
    let of = λ (t : Typed) (ds : List Datum). Meets c.delete.result (now c.delete.new.work) (settled m (changed_by world t ds w.view) w) in
    subst (λ (t : Typed). of t c.args.statement.now.arguments) (sym c.in-Delete.is)
    (subst (λ (ds : List Datum). of (Typed.Delete c.in-Delete.class c.in-Delete.is_named c.in-Delete.filter) ds) c.as_slice-arguments.ensures c.delete.ensures.meets)
