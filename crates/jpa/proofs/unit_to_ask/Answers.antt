use Rattle.std.proofs.lemmas.Result.{err_from_is_err_and}
use Rattle.jpa.proofs.Held.{asked_unit}
use Rattle.jpa.proofs.Steps.{told_as_wanted}
use Rattle.jpa.proofs.unit_to_ask.Goals as goal

pub returns-in_err-unit-clause-refused : goal.returns-in_err-unit-clause-refused
returns-in_err-unit-clause-refused c cause is =
    let p = err_from_is_err_and c.from_residual.result c.from_residual.ensures.1 in
    rw (p.1, p.2) (told_as_wanted _ cause _ c.in_err-unit.ensures.unit is)

pub returns-clause-served : goal.returns-clause-served
returns-clause-served c = asked_unit _ _ c.in_ok-unit.unit c.in_ok-unit.history c.check_unit.result c.in_ok-unit.ensures.unit c.check_unit.ensures.unknown c.check_unit.ensures.thrown _ c.in_ok-check_unit.was
