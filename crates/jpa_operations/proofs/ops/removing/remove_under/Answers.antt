use Rattle.std.proofs.Common.{sym, rules}
use Rattle.std.proofs.lemmas.Result.{err_from_is_err_and}
use Rattle.jpa_behaviour.specs.Served.{world_of_unit}
use Rattle.jpa_work.specs.context.Undo.{now}
use Rattle.jpa_operations.proofs.ops.Refreshed.{removes_loaded, removes_refused}
use Rattle.jpa_operations.proofs.ops.removing.remove_under.Goals as goal

-- the row was loaded
pub returns-clause-carries : goal.returns-clause-carries
returns-clause-carries g c =
    let world = world_of_unit g.B.Behaviour.meaning c.args.unit.now in
    record {
      meets = removes_loaded world c.args.id.now c.in_ok-row.row c.in-Some-get.row.now c.in_ok-object.object (now c.args.work.now) (now c.load.new.work) (now c.remove_live-2.new.work) c.remove_live-2.result
          (sym c.in_default.ensures.instance) (sym c.in-Some-get.ensures) c.in_ok-row.ensures.equal c.in_ok-object.ensures.carries.meets c.remove_live-2.ensures.carries.meets;
      view = search rules;
      since = search rules;
    }

-- it was not
pub returns-in_err-object-clause-carries : goal.returns-in_err-object-clause-carries
returns-in_err-object-clause-carries g c =
    let world = world_of_unit g.B.Behaviour.meaning c.args.unit.now in
    let p = err_from_is_err_and c.from_residual-in_err-object.result c.from_residual-in_err-object.ensures.1 in
    record {
      meets = rw (p.1, p.2)
          (removes_refused world c.args.id.now c.in_ok-row.row c.in-Some-get.row.now (now c.args.work.now) (now c.load.new.work) c.in_err-object.field-0.0
          (sym c.in_default.ensures.instance) (sym c.in-Some-get.ensures) c.in_ok-row.ensures.equal c.in_err-object.ensures.carries.meets);
      view = search rules;
      since = search rules;
    }
