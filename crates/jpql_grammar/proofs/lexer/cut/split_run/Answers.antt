use Rattle.std.proofs.Common.{rules, arith}
use Rattle.std.proofs.lemmas.Grind.{common_steps}
use Rattle.jpql_grammar.specs.lexer.Classes.{is_in}
use Rattle.jpql_grammar.proofs.lexer.Runs.{run_boundary, run_is}
use Rattle.jpql_grammar.proofs.lexer.cut.split_run.Goals as goal

pub split_at-requires : goal.split_at-requires
split_at-requires c =
    rw (c.run_length.ensures.value, c.as_bytes.ensures.value) (run_boundary c.args.class c.args.text.now c.utf8.text)

pub returns : goal.returns
returns c = let is = run_is (is_in c.args.class) c.args.text.now in first_of (search rules, grind (arith, common_steps))
