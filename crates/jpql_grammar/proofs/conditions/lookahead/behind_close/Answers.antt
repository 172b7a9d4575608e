use Rattle.std.proofs.Common.{rules, arith, ◌∙◌, sym}
use Rattle.std.proofs.lemmas.Grind.{common_steps}
use Rattle.jpql_grammar.proofs.conditions.PastClose.{done, closes, opens, passes, none_left}
use Rattle.jpql_grammar.proofs.conditions.lookahead.behind_close.Goals as goal

pub returns-then-depth-eq0 : goal.returns-then-depth-eq0
returns-then-depth-eq0 c =
    let shut = done c.loop-turn.depth in
    first_of (search rules, grind (arith, common_steps, shut))

pub loop-turn-preserved : goal.loop-turn-preserved
loop-turn-preserved c =
    let one = closes c.loop-turn.depth in
    let two = opens c.loop-turn.depth in
    let three = passes c.loop-turn.depth in
    first_of (search rules, grind (arith, common_steps, one, two, three))

pub returns : goal.returns
returns c = sym (c.loop-turn.invariant.left ∙ none_left c.loop-turn.depth c.loop-turn.rest.now (omega (arith, c.loop-turn.invariant.long)))
