use Rattle.std.proofs.Common.{rules, arith}
use Rattle.std.proofs.lemmas.Grind.{common_steps}
use Rattle.jpql_grammar.specs.grammar.Values.{others_at}
use Rattle.jpql_grammar.specs.grammar.Conditions.{joins_at, source_at, ands_at, ors_at, cond_at}
use Rattle.jpql_grammar.proofs.conditions.Turns.{one_more}
use Rattle.jpql_grammar.proofs.conditions.conditions.+cond.Goals as goal

pub joins-loop-turn-preserved : goal.joins-loop-turn-preserved
unfolding joins_at
joins-loop-turn-preserved t c =
    let e = one_more (λ n. joins_at (cond_at c.args.depth) n c.loop-turn.found c.loop-turn.rest.now) _ c.loop-turn._turn c.loop-turn-test.true c.loop-turn.invariant in
    first_of (search rules, grind (arith, common_steps))

pub sources-loop-turn-preserved : goal.sources-loop-turn-preserved
unfolding others_at
sources-loop-turn-preserved t c =
    let e = one_more (λ n. others_at (source_at (cond_at c.args.depth) c.args.is_nested) n c.loop-turn.found c.loop-turn.rest.now) _ c.loop-turn._turn c.loop-turn-test.true c.loop-turn.invariant in
    first_of (search rules, grind (arith, common_steps))

pub ands-loop-turn-preserved : goal.ands-loop-turn-preserved
unfolding ands_at
ands-loop-turn-preserved t c =
    let e = one_more (λ n. ands_at c.args.depth (cond_at c.args.depth) n c.loop-turn.found c.loop-turn.rest.now) _ c.loop-turn._turn c.loop-turn-test.true c.loop-turn.invariant in
    first_of (search rules, grind (arith, common_steps))

pub ors-loop-turn-preserved : goal.ors-loop-turn-preserved
unfolding ors_at
ors-loop-turn-preserved t c =
    let e = one_more (λ n. ors_at c.args.depth (cond_at c.args.depth) n c.loop-turn.found c.loop-turn.rest.now) _ c.loop-turn._turn c.loop-turn-test.true c.loop-turn.invariant in
    first_of (search rules, grind (arith, common_steps))
