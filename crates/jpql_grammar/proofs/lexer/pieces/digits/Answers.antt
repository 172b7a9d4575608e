use Rattle.jpql_grammar.proofs.lexer.Runs.{digits_run, digits_all}
use Rattle.jpql_grammar.proofs.lexer.pieces.digits.Goals as goal

pub number-requires-clause-some : goal.number-requires-clause-some
number-requires-clause-some c = digits_run c.args.text.now c.split_run.result.0.now c.split_run.result.1.now c.split_run.ensures.value c.requires

pub number-requires-clause-all : goal.number-requires-clause-all
number-requires-clause-all c = digits_all c.args.text.now c.split_run.result.0.now c.split_run.result.1.now c.split_run.ensures.value
