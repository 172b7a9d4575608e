use Rattle.jpql_grammar.proofs.lexer.Whole.{found, only, none}
use Rattle.jpql_grammar.proofs.lexer.pieces.tokens.Goals as goal

pub returns-clause-found : goal.returns-clause-found
returns-clause-found c = found c.args.language (λ v. v.items) c.cut.result c.args.text.now c.cut.ensures

pub returns-clause-only : goal.returns-clause-only
returns-clause-only c = only c.args.language (λ v. v.items) c.cut.result c.args.text.now c.cut.ensures

pub returns-clause-none : goal.returns-clause-none
returns-clause-none c = none c.args.language (λ v. v.items) c.cut.result c.args.text.now c.cut.ensures
