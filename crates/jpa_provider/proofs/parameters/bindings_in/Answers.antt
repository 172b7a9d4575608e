use Rattle.std.proofs.Common.{◌≡◌, ◌∷◌, ◌+◌, drop, length, rules, ap, sym, ◌∙◌}
use Rattle.std.specs.Prelude.{Some, None}
use Rattle.std.proofs.lemmas.List.{drop_more}
use Rattle.jpa_machine.specs.machine.Querying.{bindings_in, values_by_name, values_of}
use Rattle.jpa_provider.proofs.Bound.{behind, bound_next, bound_none}
use Rattle.jpa_provider.proofs.parameters.bindings_in.Goals as goal

pub returns-in-None-clause-ok : goal.returns-in-None-clause-ok
returns-in-None-clause-ok c =
    let n = length c.args.work.now.objects.now in
    let bs = c.loop-parameter.bindings in
    let ps = c.args.parameters.now in
    let i = c.loop-parameter.parameter-index in
    let p = c.parameter-item.result in
    let first : drop i ps ≡ p ∷ drop (i + 1) ps = drop_more ps i p c.loop-parameter-test.true ∙ ap (λ q. q ∷ drop (i + 1) ps) (sym c.parameter-item.is) in
    let none : None ≡ behind bs (bindings_in n (values_by_name p.name p.value)) = search rules in
    bound_none n bs (values_by_name p.name p.value) (values_of (drop (i + 1) ps)) none ∙ ap (λ qs. behind bs (bindings_in n (values_of qs))) (sym first) ∙ c.loop-parameter.invariant

pub loop-parameter-preserved : goal.loop-parameter-preserved
loop-parameter-preserved c =
    let n = length c.args.work.now.objects.now in
    let bs = c.loop-parameter.bindings in
    let ps = c.args.parameters.now in
    let i = c.loop-parameter.parameter-index in
    let p = c.parameter-item.result in
    let first : drop i ps ≡ p ∷ drop (i + 1) ps = drop_more ps i p c.loop-parameter-test.true ∙ ap (λ q. q ∷ drop (i + 1) ps) (sym c.parameter-item.is) in
    let bound : Some c.in-Some.more ≡ behind bs (bindings_in n (values_by_name p.name p.value)) = search rules in
    bound_next n bs c.in-Some.more (values_by_name p.name p.value) (values_of (drop (i + 1) ps)) bound ∙ ap (λ qs. behind bs (bindings_in n (values_of qs))) (sym first) ∙ c.loop-parameter.invariant
