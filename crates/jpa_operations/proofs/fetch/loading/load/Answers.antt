use Rattle.std.proofs.Common.{rules}
use Rattle.std.proofs.lemmas.Result.{err_from_is_err_and}
use Rattle.jpa_behaviour.specs.Served.{world_of_unit}
use Rattle.jpa_work.specs.context.Undo.{now}
use Rattle.jpa_operations.proofs.fetch.Loaded.{row_class, IsEntered, entered_by, load_done, load_refused, entered_shape, load_placed, load_grown, load_within}
use Rattle.jpa_operations.proofs.fetch.loading.load.Goals as goal

pub object_of_row-requires : goal.object_of_row-requires
object_of_row-requires g c = record { class = row_class c.args.unit.now.metamodel (now c.args.work.now).view c.args.id.now c.args.row c.requires.placed.view c.requires.row }

-- the object that stands last is a row of a shaped set
pub callback-requires-clause-shape : goal.callback-requires-clause-shape
callback-requires-clause-shape g c =
    let m = c.args.unit.now.metamodel in
    let world = world_of_unit g.B.Behaviour.meaning c.args.unit.now in
    let w = now c.args.work.now in
    let id = c.args.id.now in
    let x = c.args.row in
    let n = c.len-place.result in
    let u = record w { objects = c.push.new.self.now; context = c.push-2.new.self.now } in
    let entered : IsEntered m id x w n u =
    entered_by m id x w n c.in_ok-object.object c.in_ok-key.key c.in_ok-object.base c.push.new.self.now c.push-2.new.self.now c.len-place.ensures c.if-place-ge-MOST_OBJECTS.false c.in_ok-key.ensures.equal
    c.in_ok-object.ensures.object c.in_ok-object.ensures.base c.in_ok-push.ensures.pushed c.in_ok-push-2.ensures.pushed in
    entered_shape world id x w n u c.requires.placed c.requires.row entered

-- who hears PostLoad refused
pub returns-in_err-callback-clause-carries : goal.returns-in_err-callback-clause-carries
returns-in_err-callback-clause-carries g c =
    let m = c.args.unit.now.metamodel in
    let world = world_of_unit g.B.Behaviour.meaning c.args.unit.now in
    let w = now c.args.work.now in
    let id = c.args.id.now in
    let x = c.args.row in
    let n = c.len-place.result in
    let u = record w { objects = c.push.new.self.now; context = c.push-2.new.self.now } in
    let entered : IsEntered m id x w n u =
    entered_by m id x w n c.in_ok-object.object c.in_ok-key.key c.in_ok-object.base c.push.new.self.now c.push-2.new.self.now c.len-place.ensures c.if-place-ge-MOST_OBJECTS.false c.in_ok-key.ensures.equal
    c.in_ok-object.ensures.object c.in_ok-object.ensures.base c.in_ok-push.ensures.pushed c.in_ok-push-2.ensures.pushed in
    let p = err_from_is_err_and c.from_residual-in_err-callback.result c.from_residual-in_err-callback.ensures.1 in
    record {
      meets = rw (p.1, p.2)
          (load_refused world id x w n u c.in_err-callback.field-0.0 (now c.callback.new.work).events c.requires.placed entered c.in_err-callback.ensures.meets);
      view = search rules;
      since = search rules;
    }

-- or it was told
pub returns-clause-carries : goal.returns-clause-carries
returns-clause-carries g c =
    let m = c.args.unit.now.metamodel in
    let world = world_of_unit g.B.Behaviour.meaning c.args.unit.now in
    let w = now c.args.work.now in
    let id = c.args.id.now in
    let x = c.args.row in
    let n = c.len-place.result in
    let u = record w { objects = c.push.new.self.now; context = c.push-2.new.self.now } in
    let entered : IsEntered m id x w n u =
    entered_by m id x w n c.in_ok-object.object c.in_ok-key.key c.in_ok-object.base c.push.new.self.now c.push-2.new.self.now c.len-place.ensures c.if-place-ge-MOST_OBJECTS.false c.in_ok-key.ensures.equal
    c.in_ok-object.ensures.object c.in_ok-object.ensures.base c.in_ok-push.ensures.pushed c.in_ok-push-2.ensures.pushed in
    record {
      meets = load_done world id x w n u (now c.callback.new.work) c.requires.placed entered c.in_ok-callback.ensures.meets;
      view = search rules;
      since = search rules;
    }

pub returns-clause-within : goal.returns-clause-within
returns-clause-within g c =
    let m = c.args.unit.now.metamodel in
    let world = world_of_unit g.B.Behaviour.meaning c.args.unit.now in
    let w = now c.args.work.now in
    let id = c.args.id.now in
    let x = c.args.row in
    let n = c.len-place.result in
    let u = record w { objects = c.push.new.self.now; context = c.push-2.new.self.now } in
    let entered : IsEntered m id x w n u =
    entered_by m id x w n c.in_ok-object.object c.in_ok-key.key c.in_ok-object.base c.push.new.self.now c.push-2.new.self.now c.len-place.ensures c.if-place-ge-MOST_OBJECTS.false c.in_ok-key.ensures.equal
    c.in_ok-object.ensures.object c.in_ok-object.ensures.base c.in_ok-push.ensures.pushed c.in_ok-push-2.ensures.pushed in
    load_within world id x w n u c.requires.placed c.requires.row entered (now c.callback.new.work) c.in_ok-callback.ensures.meets

pub returns-clause-placed : goal.returns-clause-placed
returns-clause-placed g c =
    let m = c.args.unit.now.metamodel in
    let world = world_of_unit g.B.Behaviour.meaning c.args.unit.now in
    let w = now c.args.work.now in
    let id = c.args.id.now in
    let x = c.args.row in
    let n = c.len-place.result in
    let u = record w { objects = c.push.new.self.now; context = c.push-2.new.self.now } in
    let entered : IsEntered m id x w n u =
    entered_by m id x w n c.in_ok-object.object c.in_ok-key.key c.in_ok-object.base c.push.new.self.now c.push-2.new.self.now c.len-place.ensures c.if-place-ge-MOST_OBJECTS.false c.in_ok-key.ensures.equal
    c.in_ok-object.ensures.object c.in_ok-object.ensures.base c.in_ok-push.ensures.pushed c.in_ok-push-2.ensures.pushed in
    load_placed world id x w n u c.requires.placed c.requires.row entered (now c.callback.new.work) c.in_ok-callback.ensures.meets

pub returns-clause-grown : goal.returns-clause-grown
returns-clause-grown g c =
    let m = c.args.unit.now.metamodel in
    let world = world_of_unit g.B.Behaviour.meaning c.args.unit.now in
    let w = now c.args.work.now in
    let id = c.args.id.now in
    let x = c.args.row in
    let n = c.len-place.result in
    let u = record w { objects = c.push.new.self.now; context = c.push-2.new.self.now } in
    let entered : IsEntered m id x w n u =
    entered_by m id x w n c.in_ok-object.object c.in_ok-key.key c.in_ok-object.base c.push.new.self.now c.push-2.new.self.now c.len-place.ensures c.if-place-ge-MOST_OBJECTS.false c.in_ok-key.ensures.equal
    c.in_ok-object.ensures.object c.in_ok-object.ensures.base c.in_ok-push.ensures.pushed c.in_ok-push-2.ensures.pushed in
    load_grown world id x w n u c.requires.placed c.requires.row entered (now c.callback.new.work) c.in_ok-callback.ensures.meets
