use Rattle.std.proofs.Common.{rules, arith}
use Rattle.std.proofs.lemmas.Grind.{common_steps}
use Rattle.jpql_grammar.specs.grammar.Values.{others_at}
use Rattle.jpql_grammar.specs.grammar.Statements.{key_at}
use Rattle.jpql_grammar.proofs.conditions.Turns.{one_more}
use Rattle.jpql_text.proofs.text.statements.keys.Goals as goal

pub loop-turn-preserved : goal.loop-turn-preserved
unfolding others_at
loop-turn-preserved c =
    let e = one_more (λ n. others_at (key_at c.args.depth) n c.loop-turn.found c.loop-turn.rest.now) _ c.loop-turn._turn c.loop-turn-test.true c.loop-turn.invariant in
    first_of (search rules, grind (arith, common_steps))
