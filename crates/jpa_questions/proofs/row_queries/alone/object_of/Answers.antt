use Rattle.std.proofs.Common.{◌≡◌, Option, option_map, ◌∙◌, sym}
use Rattle.jpa_behaviour.specs.Registered.{world_of}
use Rattle.jpa_object_rows.proofs.meaning.Bytes.Described.{described_mapped}
use Rattle.jpa_rows.specs.rows.Faults.{IsStoreCause}
use Rattle.jpa_stored.specs.declared.objects.stored.Stored.{Stored}
use Rattle.jpa_stored.specs.objects.Sets.{stored_at}
use Rattle.jpa_questions.specs.by_key.ByKey.{pairless}
use Rattle.jpa_questions.proofs.row_queries.OneRow.{none_alone, refused_alone, some_alone}
use Rattle.jpa_questions.proofs.row_queries.Looks.{match_err}
use Rattle.jpa_questions.proofs.row_queries.alone.object_of.Goals as goal

pub returns-in-None-clause-object : goal.returns-in-None-clause-object
returns-in-None-clause-object g c alone rows row set numbers of =
    let m = c.args.metamodel.now in
    let world = world_of g.B.Behaviour.meaning m c.args.registry.now in
    sym (none_alone world (described_mapped m c.unit.ensures.described) (c.laws.ensures.regular m) c.discriminator_law.ensures rows set numbers of c.args.id.now alone (sym row ∙ c.in-None.is))

pub returns-in_err-object-in-Some-clause-object : goal.returns-in_err-object-in-Some-clause-object
returns-in_err-object-in-Some-clause-object g c alone rows row set numbers of =
    let m = c.args.metamodel.now in
    let world = world_of g.B.Behaviour.meaning m c.args.registry.now in
    let e = c.in_err-object-in-Some.field-0.0 in
    match_err IsStoreCause (λ (found : Option Stored). found ≡ option_map (pairless m) (stored_at set c.args.id.now)) c.from_residual.result e c.from_residual.ensures.1
    (refused_alone world (described_mapped m c.unit.ensures.described) (c.laws.ensures.regular m) c.discriminator_law.ensures rows set numbers of c.args.id.now alone c.in-Some.row e (sym row ∙ c.in-Some.is) c.in_err-object-in-Some.ensures.err)

pub returns-in_ok-object-in-Some-clause-object : goal.returns-in_ok-object-in-Some-clause-object
returns-in_ok-object-in-Some-clause-object g c alone rows row set numbers of =
    let m = c.args.metamodel.now in
    let world = world_of g.B.Behaviour.meaning m c.args.registry.now in
    some_alone world (described_mapped m c.unit.ensures.described) (c.laws.ensures.regular m) c.discriminator_law.ensures rows set numbers of c.args.id.now alone c.in-Some.row c.in_ok-object-in-Some.object (sym row ∙ c.in-Some.is) c.in_ok-object-in-Some.ensures.ok
