use Rattle.std.proofs.Common.{subst}
use Rattle.std.proofs.lemmas.List.{take_all}
use Rattle.jpa_behaviour.specs.Registered.{world_of}
use Rattle.jpa_object_rows.proofs.meaning.Bytes.Described.{unambiguous, described_mapped}
use Rattle.jpa_opening.specs.reader.Read.{SaysIfSound}
use Rattle.jpa_opening.proofs.reader.Built.{IsBuilt, first_unsound, step_built, all_built}
use Rattle.jpa_opening.proofs.reader.objects.objects_of.Goals as goal

pub returns-in-None-clause-read : goal.returns-in-None-clause-read
returns-in-None-clause-read g c =
    let world = world_of g.B.Behaviour.meaning c.args.metamodel.now c.args.registry.now in
    let e = c.index-rows-place.result in
    record {
      before = c.loop-place.invariant.sound;
      damaged = first_unsound world c.args.rows.now c.loop-place.place e c.loop-place-test.true c.index-rows-place.is
          (subst (SaysIfSound world c.args.rows.now e.0 e.1) c.in-None.is c.in_ok-meaning_of.ensures.meaning);
    }

pub loop-place-preserved : goal.loop-place-preserved
loop-place-preserved g c =
    let m = c.args.metamodel.now in
    let world = world_of g.B.Behaviour.meaning m c.args.registry.now in
    let e = c.index-rows-place.result in
    step_built world (unambiguous m c.unit.ensures.described) c.args.rows.now c.requires.named c.loop-place.place e c.in-Some.meaning c.loop-place.set c.put_meaning.new.set c.loop-place-test.true c.index-rows-place.is
    (subst (SaysIfSound world c.args.rows.now e.0 e.1) c.in-Some.is c.in_ok-meaning_of.ensures.meaning) c.loop-place.invariant c.in_ok-put_meaning-in-Some.ensures.ok

pub returns-clause-read : goal.returns-clause-read
returns-clause-read g c =
    let m = c.args.metamodel.now in
    let rows = c.args.rows.now in
    let world = world_of g.B.Behaviour.meaning m c.args.registry.now in
    all_built world (described_mapped m c.unit.ensures.described) (c.laws.ensures.regular m) c.discriminator_law.ensures rows c.requires.named c.requires.whole c.loop-place.set
    (subst (λ done. IsBuilt world rows done c.loop-place.set) (take_all c.loop-place.place rows c.loop-place-test.false) c.loop-place.invariant)
