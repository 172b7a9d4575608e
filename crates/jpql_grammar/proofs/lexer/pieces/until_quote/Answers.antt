use Rattle.std.proofs.Common.{◌<◌, length, sym, ◌∙◌, arith}
use Rattle.std.proofs.lemmas.Bool.{eqb-true}
use Rattle.std.proofs.lemmas.Grind.{common_steps}
use Rattle.jpql_grammar.proofs.lexer.Runs.{quoted_none, quoted_some, rest_quote, quoted_shorter}
use Rattle.jpql_grammar.proofs.lexer.pieces.until_quote.Goals as goal

pub skip_one-requires-clause-ascii : goal.skip_one-requires-clause-ascii
skip_one-requires-clause-ascii c =
    let some : 0 < length c.split_run.result.1.now = grind (arith, common_steps) in
    let quote = rest_quote c.args.text.now c.split_run.result.0.now c.split_run.result.1.now c.split_run.ensures.value some in omega (arith, quote)

pub returns-then-is_empty : goal.returns-then-is_empty
returns-then-is_empty c =
    quoted_none c.args.text.now c.split_run.result.0.now c.split_run.result.1.now c.split_run.ensures.value (eqb-true _ _ (sym c.is_empty.ensures ∙ c.if-is_empty.true))

pub returns-else-is_empty : goal.returns-else-is_empty
returns-else-is_empty c =
    let some : 0 < length c.split_run.result.1.now = grind (arith, common_steps) in (
      rw c.skip_one.ensures (quoted_shorter c.args.text.now c.split_run.result.0.now c.split_run.result.1.now c.split_run.ensures.value some),
      rw c.skip_one.ensures (quoted_some c.args.text.now c.split_run.result.0.now c.split_run.result.1.now c.split_run.ensures.value some),
    )
