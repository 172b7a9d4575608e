use Rattle.std.proofs.Common.{sym, ◌∙◌}
use Rattle.std.proofs.lemmas.Bool.{ne_eqb}
use Rattle.jpql_grammar.specs.grammar.Lexing.{first}
use Rattle.jpql_grammar.proofs.lexer.Runs.{second_quote, second_shorter, no_second}
use Rattle.jpql_grammar.proofs.lexer.pieces.after_second.Goals as goal

pub returns-then-first-eq39 : goal.returns-then-first-eq39
returns-then-first-eq39 c =
    let quote = sym c.first.ensures ∙ c.if-first-eq39.true in
    (rw c.skip_one.ensures (second_shorter c.args.text.now quote), rw c.skip_one.ensures (second_quote c.args.text.now quote))

pub returns-else-first-eq39 : goal.returns-else-first-eq39
returns-else-first-eq39 c = no_second c.args.text.now (ne_eqb (first c.args.text.now) 39 (λ e. c.if-first-eq39.false (c.first.ensures ∙ e)))
