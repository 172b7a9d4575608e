use Rattle.std.proofs.Common.{◌≡◌, sym, subst, ◌∙◌, rules}
use Rattle.jpa_behaviour.specs.Served.{world_of_unit}
use Rattle.jpa_open.specs.Opened.{unwritten}
use Rattle.jpa_object_rows.specs.meaning.Sets.{rows_of}
use Rattle.jpa_machine.specs.machine.Machine.{Machine, opened}
use Rattle.jpa_provider.specs.Serving.{machine_of}
use Rattle.jpa_machine.proofs.machine.Units.{described_orderly}
use Rattle.jpql_bulk.proofs.kept.Inherited.{described_inherited}
use Rattle.jpa_provider.proofs.Serving.{opened_serving}
use Rattle.jpa_provider.proofs.provider.Provider.new.Goals as goal

pub invariant_of-result : goal.invariant_of-result
invariant_of-result g c =
    let m = c.args.unit.metamodel in
    let world = world_of_unit g.B.Behaviour.meaning c.args.unit in
    let s = c.opened-session.result in
    let numbers = c.in-Ok.ensures in
    let view : c.in-Ok-view_of.view ≡ unwritten c.args.committed = c.in-Ok-view_of.ensures.view in
    let e : machine_of s ≡ opened c.args.committed c.args.numbers = c.opened-session.ensures.machine c.args.committed view (numbers.0 ∙ c.as_slice.ensures) in
    record {
      serving = opened_serving world s c.args.committed c.args.numbers (described_orderly m c.unit.ensures.described) (c.laws.ensures.regular m) (described_inherited m c.unit.ensures.described) c.requires.held e (c.opened-session.ensures.settled c.args.committed view (numbers.1 ∙ sym numbers.0));
      schema = c.requires.schema;
      holds = λ clean. subst (λ (M : Machine). g.R.RowSource.holds c.args.rows (rows_of world M.committed M.stored_numbers)) (sym e) (c.requires.holds clean);
    }

pub returns-clause-ok : goal.returns-clause-ok
returns-clause-ok g c =
    let numbers = c.in-Ok.ensures in
    record {
      model = search rules;
      registry = search rules;
      machine = c.opened-session.ensures.machine c.args.committed c.in-Ok-view_of.ensures.view (numbers.0 ∙ c.as_slice.ensures);
      rows = search rules;
    }
