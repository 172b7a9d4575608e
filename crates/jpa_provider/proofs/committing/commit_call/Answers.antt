use Rattle.std.proofs.Common.{◌≡◌, true, refl, ap, sym, subst, ◌∙◌}
use Rattle.std.specs.Prelude.{IsErr, Some}
use Rattle.std.proofs.Math.Facts.{to_z-of_z}
use Rattle.jpa_behaviour.specs.Served.{world_of_unit}
use Rattle.jpa_machine.specs.machine.Faults.{tells_fault}
use Rattle.jpa_machine.specs.machine.Machine.{IsStoredAs}
use Rattle.jpa_protocol.specs.declared.call.Call.{Call}
use Rattle.jpa_protocol.specs.declared.reply.Reply.{Reply}
use Rattle.jpa_provider.specs.Serving.{machine_of, manager_in, named, is_begun_status}
use Rattle.jpa_provider.proofs.Serving.{entries_in}
use Rattle.jpa_provider.proofs.Stored.{left_alone}
use Rattle.jpa_provider.proofs.committing.commit_call.Goals as goal

pub release-requires : goal.release-requires
release-requires g c = record { within = c.in-Some.ensures.within; entries = entries_in c.args.session.now (c.requires.serving).machine c.in-Some.manager }

pub returns-in_default-clause-stores : goal.returns-in_default-clause-stores
returns-in_default-clause-stores g c =
    let M = machine_of c.args.session.now in
    let rows = c.args.rows.now in
    let reply = c.because in
    left_alone (world_of_unit g.B.Behaviour.meaning c.args.unit.now) g.R.RowSource M M (Call.Commit c.args.em) reply.result rows (g.met.R.RowSource.still rows)
    (ap tells_fault reply.ensures) (λ commit. subst (λ (r : Reply). IsErr r.answer) (sym reply.ensures) refl) (record { committed = refl; numbers = refl }) c.requires.holds

pub returns-in-RollbackOnly-clause-stores : goal.returns-in-RollbackOnly-clause-stores
returns-in-RollbackOnly-clause-stores g c =
    let s = c.args.session.now in
    let M = machine_of s in
    let N = machine_of c.release.new.session in
    let rows = c.args.rows.now in
    let begun : is_begun_status (manager_in s.managers.items c.in-Some.manager).status ≡ true = ap is_begun_status (sym c.status_of.ensures ∙ c.in-RollbackOnly.is) in
    let stored : IsStoredAs M N = subst (IsStoredAs M) (sym (c.release.ensures.released (c.requires.serving).settled begun)) (record { committed = refl; numbers = refl }) in
    left_alone (world_of_unit g.B.Behaviour.meaning c.args.unit.now) g.R.RowSource M N (Call.Commit c.args.em) _ rows (g.met.R.RowSource.still rows)
    refl (λ commit. refl) stored c.requires.holds

pub returns-in-RollbackOnly-clause-rest : goal.returns-in-RollbackOnly-clause-rest
returns-in-RollbackOnly-clause-rest g c =
    let s = c.args.session.now in
    let serving = c.requires.serving in
    let begun : is_begun_status (manager_in s.managers.items c.in-Some.manager).status ≡ true = ap is_begun_status (sym c.status_of.ensures ∙ c.in-RollbackOnly.is) in
    record {
      settled = c.release.ensures.settled serving.settled begun;
      marked = c.release.ensures.marked (world_of_unit g.B.Behaviour.meaning c.args.unit.now) serving.machine serving.marked;
    }

pub returns-in-Inactive-clause-stores : goal.returns-in-Inactive-clause-stores
returns-in-Inactive-clause-stores g c =
    let M = machine_of c.args.session.now in
    let rows = c.args.rows.now in
    let reply = c.because-in-Inactive in
    left_alone (world_of_unit g.B.Behaviour.meaning c.args.unit.now) g.R.RowSource M M (Call.Commit c.args.em) reply.result rows (g.met.R.RowSource.still rows)
    (ap tells_fault reply.ensures) (λ commit. subst (λ (r : Reply). IsErr r.answer) (sym reply.ensures) refl) (record { committed = refl; numbers = refl }) c.requires.holds

pub returns-in-Active-clause-stores : goal.returns-in-Active-clause-stores
returns-in-Active-clause-stores g c =
    let s = c.args.session.now in
    let is : named s c.args.em ≡ Some c.in-Some.manager = ap (named s) (sym (to_z-of_z c.ranges.em)) ∙ sym c.in-Some.ensures.named in
    c.commit_active.ensures.stores c.args.em is
