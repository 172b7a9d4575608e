use Rattle.std.specs.Prelude.{◌≡◌, ◌⊎◌}
use Rattle.jpa_value.specs.declared.refusal.Cause.{Cause}
use Rattle.jpa_behaviour.specs.Registered.{world_of}
use Rattle.jpa_rows.specs.rows.Faults.{IsStoreCause}
use Rattle.jpa_stored.specs.objects.Sets.{StoredSet}
use Rattle.jpa_questions.specs.row_queries.Unread.{IsDamage}
use Rattle.jpa_questions.proofs.row_queries.Looks.{if_passed, match_err}
use Rattle.jpa_questions.proofs.row_queries.Whole.{refused_as, tells_damage}
use Rattle.jpa_questions.proofs.row_queries.gathering.set_of.Goals as goal

pub returns-in_err-set-clause-set : goal.returns-in_err-set-clause-set
returns-in_err-set-clause-set g c set numbers of =
    let world = world_of g.B.Behaviour.meaning c.args.metamodel.now c.args.registry.now in
    let e = c.in_err-set.field-0.0 in
    match_err IsStoreCause (λ (found : StoredSet). found ≡ set) c.from_residual.result e c.from_residual.ensures.1 (refused_as world c.args.rows.now set numbers of e c.in_err-set.ensures.err)

pub returns-in_err-set-clause-err : goal.returns-in_err-set-clause-err
returns-in_err-set-clause-err g c =
    let world = world_of g.B.Behaviour.meaning c.args.metamodel.now c.args.registry.now in
    let e = c.in_err-set.field-0.0 in if_passed (λ x. (x ≡ Cause.OutOfMemory) ⊎ IsDamage x) c.from_residual.result e c.from_residual.ensures.1 (tells_damage world c.args.rows.now e c.in_err-set.ensures.err)

pub returns-clause-set : goal.returns-clause-set
returns-clause-set g c set numbers of = (c.in_ok-set.ensures.same set numbers of).0

pub returns-clause-rising : goal.returns-clause-rising
returns-clause-rising g c = c.in_ok-set.ensures.held.held.rising

pub returns-clause-shaped : goal.returns-clause-shaped
returns-clause-shaped g c = c.in_ok-set.ensures.held.held.shaped

pub returns-clause-held : goal.returns-clause-held
returns-clause-held g c = let h = c.in_ok-set.ensures.held in (_, record { held = h.held; same = h.same })
