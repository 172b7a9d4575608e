use Rattle.std.proofs.Common.{◌≡◌, ◌∙◌, ◌++◌, List, ℕ, ap, sym, subst}
use Rattle.std.proofs.lemmas.List.{append-nil}
use Rattle.jpa_work.specs.context.Marks.{is_listed}
use Rattle.jpa_flush.specs.flush.Marked.{AreRising}
use Rattle.jpa_flush.proofs.flush.Below.{below, below_rise, below_has}
use Rattle.jpa_flush.proofs.flush.touched.in_order.Goals as goal

pub returns-clause-rising : goal.returns-clause-rising
returns-clause-rising c =
    let len = c.args.len in
    let all : c.loop-place.found ≡ below len c.args.places.now.keys = sym (append-nil c.loop-place.found) ∙ ap (λ (ks : List ℕ). c.loop-place.found ++ below len ks) (sym c.in-None.ensures.steps.0) ∙ c.loop-place.invariant in
    subst (AreRising len) (sym all) (below_rise len c.args.places.now.keys c.iter-place-items.ensures.ordered)

pub returns-clause-all : goal.returns-clause-all
returns-clause-all c = λ k l h.
    let len = c.args.len in
    let all : c.loop-place.found ≡ below len c.args.places.now.keys = sym (append-nil c.loop-place.found) ∙ ap (λ (ks : List ℕ). c.loop-place.found ++ below len ks) (sym c.in-None.ensures.steps.0) ∙ c.loop-place.invariant in
    ap (λ ks. is_listed ks k) all ∙ below_has len c.args.places.now.keys k l h
