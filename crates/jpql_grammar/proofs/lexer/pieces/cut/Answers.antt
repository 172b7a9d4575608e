use Rattle.std.proofs.Common.{◌-◌, ◌+◌, length, rules, sym, ap, ◌∙◌}
use Rattle.jpql_grammar.specs.grammar.Lexing.{tokens_at}
use Rattle.jpql_grammar.specs.lexer.Classes.{one_if_any}
use Rattle.jpql_grammar.proofs.lexer.Runs.{one_turn, one_more}
use Rattle.jpql_grammar.proofs.lexer.pieces.cut.Goals as goal

pub loop-turn-preserved : goal.loop-turn-preserved
loop-turn-preserved c =
    let n = length c.args.text.now - (c.loop-turn._turn + 1) in
    let e = one_more (λ n. tokens_at c.args.language n c.loop-turn.found.items c.loop-turn.rest.now) _ c.loop-turn._turn c.loop-turn-test.true c.loop-turn.invariant.0 in
    let turn = one_turn c.args.language c.loop-turn.found.items n c.loop-turn.rest.now (one_if_any c.in_ok-token.token) c.in_ok-token.more.now c.in_ok-token.ensures in
    (e ∙ (turn ∙ ap (λ items. tokens_at c.args.language n items c.in_ok-token.more.now) (sym c.in_ok-add.ensures)), search rules)
