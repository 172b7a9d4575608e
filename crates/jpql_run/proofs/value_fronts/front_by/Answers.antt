use Rattle.std.proofs.Common.{◌≡◌, ◌∙◌, ap, subst, map, List}
use Rattle.std.specs.Global.{Vec}
use Rattle.jpql_trees.specs.declared.typed.typed.TypedCondition.{TypedCondition}
use Rattle.jpql_run.specs.Equations.{conditions}
use Rattle.jpql_run.specs.Objects.{entry}
use Rattle.jpql_run.specs.Refused.{asked}
use Rattle.jpql_run.specs.ValueFronts.{IsFrontByFor, IsFrontByOf}
use Rattle.jpql_run.specs.declared.object.Object.{Object}
use Rattle.jpql_run.proofs.Keyed.{each_found}
use Rattle.jpql_run.proofs.value_fronts.front_by.Goals as goal

pub returns : goal.returns
returns c =
    let run = c.args.run.now in
    let x = c.args.source.now in
    let more = c.args.more.now in
    let f = c.args.filter.now in
    let o = c.args.order in
    let class = c.in-Entity.class in
    let cs = conditions c.as_slice-2.result.now in
    let asks : cs ≡ asked x more f = ap conditions c.as_slice-2.ensures.value ∙ c.in_ok-asked.ensures in
    each_found (λ (objects : Vec Object). IsFrontByOf run class cs o (map entry objects.items)) (λ (objects : Vec Object). IsFrontByFor run x more f o (map entry objects.items))
    (λ (objects : Vec Object) h. record {
      calm = c.requires.calm;
      class = class;
      over = c.in-Entity.is;
      front = subst (λ (ds : List TypedCondition). IsFrontByOf run class ds o (map entry objects.items)) asks h;
    })
    c.value_front.result c.value_front.ensures
