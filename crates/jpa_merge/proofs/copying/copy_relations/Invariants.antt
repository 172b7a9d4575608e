use Rattle.std.proofs.Common.{◌≡◌, drop}
use Rattle.std.specs.List.{enumerate_from}
use Rattle.jpa_model.specs.Chains.{relations_of}
use Rattle.jpa_behaviour.specs.Served.{world_of_unit}
use Rattle.jpa_work.specs.context.Steps.{each}
use Rattle.jpa_work.specs.context.Undo.{now, since}
use Rattle.jpa_work.specs.context.Work.{object}
use Rattle.jpa_operations.specs.fetch.Grown.{HasGrown, IsReady}
use Rattle.jpa_merge.specs.Merge.{copy_relation}
use Rattle.jpa_merge.proofs.copying.copy_relations.Given as goal

abbrev pub invariant-loop-relation : goal.invariant-loop-relation
invariant-loop-relation g l =
    let w = now l.fn.work in
    let copy = copy_relation (world_of_unit g.B.Behaviour.meaning l.unit) l.images l.image in
    let relations = relations_of l.unit.metamodel (object w (l.image).node).class in
    record {
      rest : each copy (enumerate_from l.relation (drop l.relation relations)) (now l.work) ≡ each copy (enumerate_from 0 relations) w;
      ready : IsReady l.unit.metamodel (now l.work);
      grown : HasGrown w (now l.work);
      view : l.work.view ≡ l.fn.work.view;
      since : since l.work ≡ since l.fn.work;
    }
