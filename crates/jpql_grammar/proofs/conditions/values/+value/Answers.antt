use Rattle.std.proofs.Common.{rules, arith, append_assoc}
use Rattle.std.proofs.lemmas.Grind.{common_steps}
use Rattle.jpql_grammar.specs.grammar.Values.{times_at, sums_at, others_at, when_ands_at, when_ors_at, branches_at, value_at, when_at}
use Rattle.jpql_grammar.proofs.conditions.Turns.{one_more}
use Rattle.jpql_grammar.proofs.conditions.values.+value.Goals as goal

pub times-loop-turn-preserved : goal.times-loop-turn-preserved
unfolding times_at
times-loop-turn-preserved t c =
    let e = one_more (λ n. times_at (value_at c.args.depth) (when_at c.args.depth) n c.loop-turn.found c.loop-turn.rest.now) _ c.loop-turn._turn c.loop-turn-test.true c.loop-turn.invariant in
    first_of (search rules, grind (arith, common_steps))

pub sums-loop-turn-preserved : goal.sums-loop-turn-preserved
unfolding sums_at
sums-loop-turn-preserved t c =
    let e = one_more (λ n. sums_at (value_at c.args.depth) (when_at c.args.depth) n c.loop-turn.found c.loop-turn.rest.now) _ c.loop-turn._turn c.loop-turn-test.true c.loop-turn.invariant in
    first_of (search rules, grind (arith, common_steps))

pub others-loop-turn-preserved : goal.others-loop-turn-preserved
unfolding others_at
others-loop-turn-preserved t c =
    let e = one_more (λ n. others_at (value_at c.args.depth) n c.loop-turn.found c.loop-turn.rest.now) _ c.loop-turn._turn c.loop-turn-test.true c.loop-turn.invariant in
    first_of (search rules, grind (arith, common_steps))

pub when_ands-loop-turn-preserved : goal.when_ands-loop-turn-preserved
unfolding when_ands_at
when_ands-loop-turn-preserved t c =
    let e = one_more (λ n. when_ands_at (value_at c.args.depth) (when_at c.args.depth) n c.loop-turn.found c.loop-turn.rest.now) _ c.loop-turn._turn c.loop-turn-test.true c.loop-turn.invariant in
    first_of (search rules, grind (arith, common_steps))

pub when_ors-loop-turn-preserved : goal.when_ors-loop-turn-preserved
unfolding when_ors_at
when_ors-loop-turn-preserved t c =
    let e = one_more (λ n. when_ors_at (value_at c.args.depth) (when_at c.args.depth) n c.loop-turn.found c.loop-turn.rest.now) _ c.loop-turn._turn c.loop-turn-test.true c.loop-turn.invariant in
    first_of (search rules, grind (arith, common_steps))

pub branches-loop-turn-preserved : goal.branches-loop-turn-preserved
unfolding branches_at
branches-loop-turn-preserved t c =
    let e = one_more (λ n. branches_at (value_at c.args.depth) (when_at c.args.depth) n c.loop-turn.found c.loop-turn.rest.now) _ c.loop-turn._turn c.loop-turn-test.true c.loop-turn.invariant in
    first_of (search rules, grind (arith, common_steps, append_assoc))

pub value_branches-loop-turn-preserved : goal.value_branches-loop-turn-preserved
unfolding branches_at
value_branches-loop-turn-preserved t c =
    let e = one_more (λ n. branches_at (value_at c.args.depth) (value_at c.args.depth) n c.loop-turn.found c.loop-turn.rest.now) _ c.loop-turn._turn c.loop-turn-test.true c.loop-turn.invariant in
    first_of (search rules, grind (arith, common_steps, append_assoc))
