use Rattle.std.proofs.Common.{◌≡◌, ◌∷◌, ◌+◌, ◌++◌, drop, ap, sym, ◌∙◌, append_assoc}
use Rattle.std.proofs.lemmas.List.{drop_more}
use Rattle.jpa_questions.specs.questions.Questions.{bound_by, bound_of}
use Rattle.jpa_questions.proofs.questions.bound.bound_of.Goals as goal

pub loop-parameter-preserved : goal.loop-parameter-preserved
loop-parameter-preserved c =
    let ps = c.args.parameters.now in
    let i = c.loop-parameter.parameter-index in
    let p = c.parameter-item.result in
    let first : drop i ps ≡ p ∷ drop (i + 1) ps = drop_more ps i p c.loop-parameter-test.true ∙ ap (λ q. q ∷ drop (i + 1) ps) (sym c.parameter-item.is) in
    ap (λ bs. bs ++ bound_of (drop (i + 1) ps)) c.in_ok-bound.ensures.ok
    ∙ append_assoc c.loop-parameter.bound (bound_by p.name p.value) (bound_of (drop (i + 1) ps))
    ∙ ap (λ qs. c.loop-parameter.bound ++ bound_of qs) (sym first)
    ∙ c.loop-parameter.invariant
