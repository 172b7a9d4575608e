use Rattle.std.proofs.Common.{◌∙◌, sym, ap}
use Rattle.jpa_behaviour.specs.Registered.{world_of}
use Rattle.jpa_rows.proofs.laws.Facts.{true_false}
use Rattle.jpa_object_rows.proofs.meaning.Bytes.Described.{unambiguous}
use Rattle.jpa_object_rows.specs.mapper.Guess.{class_in, guessed}
use Rattle.jpa_object_rows.proofs.mapper.Found.{no_class, no_shape, no_main, found}
use Rattle.jpa_object_rows.proofs.mapper.main_object.main_object.Goals as goal

pub returns-in_default-clause-read : goal.returns-in_default-clause-read
returns-in_default-clause-read g c =
    let m = c.args.metamodel.now in
    let world = world_of g.B.Behaviour.meaning m c.args.registry.now in
    no_class world (unambiguous m c.unit-unit.ensures.described) (c.laws.ensures.regular m) c.args.id.now c.args.row.now
    (ap (class_in m (c.args.id.now).table) (sym c.as_slice.ensures) ∙ sym c.class_in.ensures.class ∙ c.in_default.is)

pub returns-then-not-is_sound-clause-read : goal.returns-then-not-is_sound-clause-read
returns-then-not-is_sound-clause-read g c =
    let m = c.args.metamodel.now in
    let world = world_of g.B.Behaviour.meaning m c.args.registry.now in
    no_shape world (unambiguous m c.unit-unit.ensures.described) (c.laws.ensures.regular m) c.args.id.now c.args.row.now c.in-Some.class
    (ap (class_in m (c.args.id.now).table) (sym c.as_slice.ensures) ∙ sym c.in-Some.ensures.class) c.in_ok-guess.guess
    (c.in_ok-guess.ensures.ok ∙ ap (λ r. guessed world r c.in-Some.class) c.as_slice-2.ensures) (sym c.is_sound.ensures ∙ c.if-not-is_sound.true)

pub returns-then-branch-clause-read : goal.returns-then-branch-clause-read
returns-then-branch-clause-read g c =
    let m = c.args.metamodel.now in
    let world = world_of g.B.Behaviour.meaning m c.args.registry.now in
    found world (unambiguous m c.unit-unit.ensures.described) (c.laws.ensures.regular m) c.args.id.now c.args.row.now c.in-Some.class
    (ap (class_in m (c.args.id.now).table) (sym c.as_slice.ensures) ∙ sym c.in-Some.ensures.class) c.in_ok-guess.guess
    (c.in_ok-guess.ensures.ok ∙ ap (λ r. guessed world r c.in-Some.class) c.as_slice-2.ensures) c.in-Some.ensures.within (sym c.is_sound.ensures ∙ c.if-not-is_sound.false)
    (c.in_ok-has_main_row.ensures.ok.0 c.if-branch.true)

pub returns-else-branch-clause-read : goal.returns-else-branch-clause-read
returns-else-branch-clause-read g c =
    let m = c.args.metamodel.now in
    let world = world_of g.B.Behaviour.meaning m c.args.registry.now in
    no_main world (unambiguous m c.unit-unit.ensures.described) (c.laws.ensures.regular m) c.args.id.now c.args.row.now c.in-Some.class
    (ap (class_in m (c.args.id.now).table) (sym c.as_slice.ensures) ∙ sym c.in-Some.ensures.class) c.in_ok-guess.guess
    (c.in_ok-guess.ensures.ok ∙ ap (λ r. guessed world r c.in-Some.class) c.as_slice-2.ensures)
    (λ h. true_false (sym (c.in_ok-has_main_row.ensures.ok.1 h) ∙ c.if-branch.false))
