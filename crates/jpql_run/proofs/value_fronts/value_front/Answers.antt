use Rattle.std.proofs.Common.{◌≡◌, ◌∙◌, ap, sym, subst, Bool, List, [], ◌∷◌}
use Rattle.std.specs.Prelude.{◌&&◌, Option, IfSome}
use Rattle.std.specs.Borrow.{Bor}
use Rattle.std.specs.Global.{Vec}
use Rattle.std.specs.List.{filter}
use Rattle.jpa_model.specs.Chains.{is_kind_of}
use Rattle.jpa_stored.specs.ordered.Values.{lies_in_any}
use Rattle.jpa_stored.specs.declared.ordered.cut.Span.{Span}
use Rattle.jpa_open.specs.Opened.{lent, now}
use Rattle.jpql_meaning.specs.plan.Paths.{Entry, Tuple}
use Rattle.jpql_run.specs.Ends.{EndsAt}
use Rattle.jpql_run.specs.Equations.{conditions}
use Rattle.jpql_run.specs.declared.ends.Edge.{Edge}
use Rattle.jpql_run.specs.ValueFronts.{front_within}
use Rattle.jpql_run.proofs.ByOrder.{front_by_value}
use Rattle.jpql_run.proofs.value_fronts.value_front.Goals as goal

pub returns : goal.returns
returns c =
    let run = c.args.run.now in
    let cs = conditions c.args.asked.now in
    let class = c.args.class in
    let o = c.args.order in
    let from = c.in_ok-from.from in
    let to = c.in_ok-to.to in
    let spans = c.in_ok-spans.spans.items in
    let low : EndsAt run cs [] Edge.Low o.member from = subst (λ (t : Tuple). EndsAt run cs t Edge.Low o.member from) c.new-start.ensures c.in_ok-from.ensures in
    let high : EndsAt run cs [] Edge.High o.member to = subst (λ (t : Tuple). EndsAt run cs t Edge.High o.member to) c.new-start.ensures c.in_ok-to.ensures in
    let ends : Span = record { from = c.cut_of.result; to = c.cut_of-2.result } in
    let inside : List Span → Entry → Bool = λ ss e. is_kind_of run.metamodel.now (e.1).class class && lies_in_any o.member ss e in
    let found = subst (λ (b : Option (Vec (Bor Entry))). IfSome b (λ es. lent es.items ≡ filter (inside c.deref.result.now) (now run.set.now))) c.in-Some-found.is c.in_ok-found.ensures in
    front_by_value run cs class o c.in-Some.value from to ends spans _ low high
    (λ i. record { from = c.cut_of.ensures i; to = c.cut_of-2.ensures i })
    (c.in_ok-spans.ensures ∙ ap (λ (s : Span). s ∷ []) c.front_within-front.ensures)
    (c.in_ok-objects.ensures ∙ ap lent c.deref-2.ensures.value ∙ found ∙ ap (λ (ss : List Span). filter (inside ss) (now run.set.now)) c.deref.ensures.value)
