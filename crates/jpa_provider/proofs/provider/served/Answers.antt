use Rattle.std.proofs.Common.{◌≡◌, rules, w64, to_z, of_z, ap, sym, subst, ◌∙◌}
use Rattle.jpa_behaviour.specs.Served.{world_of_unit}
use Rattle.jpa_machine.specs.machine.Routes.{InTransaction, OfManager, OfObject, ToQuery, stands_numbered}
use Rattle.jpa_protocol.specs.declared.call.Call.{Call}
use Rattle.jpa_provider.specs.Operations.{at_object, by_key, by_query, on_numbered}
use Rattle.jpa_provider.specs.Provided.{StoresCall}
use Rattle.jpa_provider.specs.Serving.{machine_of, Serves}
use Rattle.jpa_provider.proofs.provider.served.Goals as goal

pub returns-in-Commit-clause-stores : goal.returns-in-Commit-clause-stores
returns-in-Commit-clause-stores g c = λ commit.
    let world = world_of_unit g.B.Behaviour.meaning c.args.unit.now in
    let M = machine_of c.args.session.now in
    let done = c.commit_call in
    let em = c.in-Commit.em in
    let same : to_z w64 (of_z w64 em) ≡ em = search rules in
    subst (λ (call : Call). StoresCall world g.R.RowSource M call done.result (machine_of done.new.session) c.args.rows.now done.new.rows) (ap Call.Commit same ∙ sym c.in-Commit.is)
    done.ensures.stores

pub returns-in-SetValue-clause-step : goal.returns-in-SetValue-clause-step
returns-in-SetValue-clause-step g c =
    let world = world_of_unit g.B.Behaviour.meaning c.args.unit.now in
    let done = c.held in
    let known = Call.SetValue c.in-SetValue.object c.in-SetValue.name c.in-SetValue.value in
    let object = c.in-SetValue.object in
    let same : to_z w64 (of_z w64 object) ≡ object = search rules in
    subst (λ (call : Call). Serves world c.args.session.now call done.result done.new.session) (sym c.in-SetValue.is)
    (done.ensures.step (ap (λ z. OfObject z (at_object known)) (sym same)))

pub returns-in-Get-clause-step : goal.returns-in-Get-clause-step
returns-in-Get-clause-step g c =
    let world = world_of_unit g.B.Behaviour.meaning c.args.unit.now in
    let done = c.held-in-Get in
    let known = Call.Get c.in-Get.object c.in-Get.name in
    let object = c.in-Get.object in
    let same : to_z w64 (of_z w64 object) ≡ object = search rules in
    subst (λ (call : Call). Serves world c.args.session.now call done.result done.new.session) (sym c.in-Get.is)
    (done.ensures.step (ap (λ z. OfObject z (at_object known)) (sym same)))

pub returns-in-Add-clause-step : goal.returns-in-Add-clause-step
returns-in-Add-clause-step g c =
    let world = world_of_unit g.B.Behaviour.meaning c.args.unit.now in
    let done = c.held-in-Add in
    let known = Call.Add c.in-Add.object c.in-Add.name c.in-Add.member in
    let object = c.in-Add.object in
    let same : to_z w64 (of_z w64 object) ≡ object = search rules in
    subst (λ (call : Call). Serves world c.args.session.now call done.result done.new.session) (sym c.in-Add.is)
    (done.ensures.step (ap (λ z. OfObject z (at_object known)) (sym same)))

pub returns-in-TakeOut-clause-step : goal.returns-in-TakeOut-clause-step
returns-in-TakeOut-clause-step g c =
    let world = world_of_unit g.B.Behaviour.meaning c.args.unit.now in
    let done = c.held-in-TakeOut in
    let known = Call.TakeOut c.in-TakeOut.object c.in-TakeOut.name c.in-TakeOut.member in
    let object = c.in-TakeOut.object in
    let same : to_z w64 (of_z w64 object) ≡ object = search rules in
    subst (λ (call : Call). Serves world c.args.session.now call done.result done.new.session) (sym c.in-TakeOut.is)
    (done.ensures.step (ap (λ z. OfObject z (at_object known)) (sym same)))

pub returns-in-Persist-clause-step : goal.returns-in-Persist-clause-step
returns-in-Persist-clause-step g c =
    let world = world_of_unit g.B.Behaviour.meaning c.args.unit.now in
    let done = c.worked in
    let known = Call.Persist c.in-Persist.em c.in-Persist.object in
    let em = c.in-Persist.em in
    let object = c.in-Persist.object in
    let same : to_z w64 (of_z w64 em) ≡ em = search rules in
    let named : to_z w64 (of_z w64 object) ≡ object = search rules in
    subst (λ (call : Call). Serves world c.args.session.now call done.result done.new.session) (sym c.in-Persist.is)
    (done.ensures.step (λ i. OfManager (sym same i) (on_numbered (sym named i) (at_object known))))

pub returns-in-Remove-clause-step : goal.returns-in-Remove-clause-step
returns-in-Remove-clause-step g c =
    let world = world_of_unit g.B.Behaviour.meaning c.args.unit.now in
    let done = c.worked-in-Remove in
    let known = Call.Remove c.in-Remove.em c.in-Remove.object in
    let em = c.in-Remove.em in
    let object = c.in-Remove.object in
    let same : to_z w64 (of_z w64 em) ≡ em = search rules in
    let named : to_z w64 (of_z w64 object) ≡ object = search rules in
    subst (λ (call : Call). Serves world c.args.session.now call done.result done.new.session) (sym c.in-Remove.is)
    (done.ensures.step (λ i. OfManager (sym same i) (on_numbered (sym named i) (at_object known))))

pub returns-in-Refresh-clause-step : goal.returns-in-Refresh-clause-step
returns-in-Refresh-clause-step g c =
    let world = world_of_unit g.B.Behaviour.meaning c.args.unit.now in
    let done = c.worked-in-Refresh in
    let known = Call.Refresh c.in-Refresh.em c.in-Refresh.object in
    let em = c.in-Refresh.em in
    let object = c.in-Refresh.object in
    let same : to_z w64 (of_z w64 em) ≡ em = search rules in
    let named : to_z w64 (of_z w64 object) ≡ object = search rules in
    subst (λ (call : Call). Serves world c.args.session.now call done.result done.new.session) (sym c.in-Refresh.is)
    (done.ensures.step (λ i. OfManager (sym same i) (on_numbered (sym named i) (at_object known))))

pub returns-in-Detach-clause-step : goal.returns-in-Detach-clause-step
returns-in-Detach-clause-step g c =
    let world = world_of_unit g.B.Behaviour.meaning c.args.unit.now in
    let done = c.worked-in-Detach in
    let known = Call.Detach c.in-Detach.em c.in-Detach.object in
    let em = c.in-Detach.em in
    let object = c.in-Detach.object in
    let same : to_z w64 (of_z w64 em) ≡ em = search rules in
    let named : to_z w64 (of_z w64 object) ≡ object = search rules in
    subst (λ (call : Call). Serves world c.args.session.now call done.result done.new.session) (sym c.in-Detach.is)
    (done.ensures.step (λ i. OfManager (sym same i) (on_numbered (sym named i) (at_object known))))

pub returns-in-Merge-clause-step : goal.returns-in-Merge-clause-step
returns-in-Merge-clause-step g c =
    let world = world_of_unit g.B.Behaviour.meaning c.args.unit.now in
    let done = c.worked-in-Merge in
    let known = Call.Merge c.in-Merge.em c.in-Merge.object in
    let em = c.in-Merge.em in
    let object = c.in-Merge.object in
    let same : to_z w64 (of_z w64 em) ≡ em = search rules in
    let named : to_z w64 (of_z w64 object) ≡ object = search rules in
    subst (λ (call : Call). Serves world c.args.session.now call done.result done.new.session) (sym c.in-Merge.is)
    (done.ensures.step (λ i. OfManager (sym same i) (on_numbered (sym named i) (at_object known))))

pub returns-in-Lock-clause-step : goal.returns-in-Lock-clause-step
returns-in-Lock-clause-step g c =
    let world = world_of_unit g.B.Behaviour.meaning c.args.unit.now in
    let done = c.in_transaction in
    let known = Call.Lock c.in-Lock.em c.in-Lock.object c.in-Lock.mode in
    let em = c.in-Lock.em in
    let object = c.in-Lock.object in
    let same : to_z w64 (of_z w64 em) ≡ em = search rules in
    let named : to_z w64 (of_z w64 object) ≡ object = search rules in
    subst (λ (call : Call). Serves world c.args.session.now call done.result done.new.session) (sym c.in-Lock.is)
    (done.ensures.step (λ i. InTransaction (sym same i) (stands_numbered (sym named i)) (on_numbered (sym named i) (at_object known))))

pub returns-in-Find-clause-step : goal.returns-in-Find-clause-step
returns-in-Find-clause-step g c =
    let world = world_of_unit g.B.Behaviour.meaning c.args.unit.now in
    let done = c.find_call in
    let known = Call.Find c.in-Find.em c.in-Find.entity c.in-Find.key in
    let em = c.in-Find.em in
    let same : to_z w64 (of_z w64 em) ≡ em = search rules in
    subst (λ (call : Call). Serves world c.args.session.now call done.result done.new.session) (sym c.in-Find.is)
    (done.ensures.step (ap (λ z. OfManager z (by_key known)) (sym same)))

pub returns-in-GetReference-clause-step : goal.returns-in-GetReference-clause-step
returns-in-GetReference-clause-step g c =
    let world = world_of_unit g.B.Behaviour.meaning c.args.unit.now in
    let done = c.find_call-in-GetReference in
    let known = Call.GetReference c.in-GetReference.em c.in-GetReference.entity c.in-GetReference.key in
    let em = c.in-GetReference.em in
    let same : to_z w64 (of_z w64 em) ≡ em = search rules in
    subst (λ (call : Call). Serves world c.args.session.now call done.result done.new.session) (sym c.in-GetReference.is)
    (done.ensures.step (ap (λ z. OfManager z (by_key known)) (sym same)))

pub returns-in-Query-clause-step : goal.returns-in-Query-clause-step
returns-in-Query-clause-step g c =
    let world = world_of_unit g.B.Behaviour.meaning c.args.unit.now in
    let done = c.query_call in
    let known = Call.Query c.in-Query.em c.in-Query.text c.in-Query.parameters c.in-Query.first c.in-Query.max in
    let em = c.in-Query.em in
    let same : to_z w64 (of_z w64 em) ≡ em = search rules in
    subst (λ (call : Call). Serves world c.args.session.now call done.result done.new.session) (sym c.in-Query.is)
    (done.ensures.step (ap (λ z. ToQuery z (by_query known)) (sym same)))

pub returns-in-QuerySingle-clause-step : goal.returns-in-QuerySingle-clause-step
returns-in-QuerySingle-clause-step g c =
    let world = world_of_unit g.B.Behaviour.meaning c.args.unit.now in
    let done = c.query_call-in-QuerySingle in
    let known = Call.QuerySingle c.in-QuerySingle.em c.in-QuerySingle.text c.in-QuerySingle.parameters c.in-QuerySingle.first c.in-QuerySingle.max in
    let em = c.in-QuerySingle.em in
    let same : to_z w64 (of_z w64 em) ≡ em = search rules in
    subst (λ (call : Call). Serves world c.args.session.now call done.result done.new.session) (sym c.in-QuerySingle.is)
    (done.ensures.step (ap (λ z. ToQuery z (by_query known)) (sym same)))
