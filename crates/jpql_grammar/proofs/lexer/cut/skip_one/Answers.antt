use Rattle.std.proofs.Common.{◌<◌, subst}
use Rattle.std.proofs.lemmas.Str.{IsCharBoundary-after_ascii}
use Rattle.jpql_grammar.proofs.lexer.Runs.{first_byte}
use Rattle.jpql_grammar.proofs.lexer.cut.skip_one.Goals as goal

pub range_from-requires : goal.range_from-requires
range_from-requires c _ =
    IsCharBoundary-after_ascii c.args.text.now 0 c.utf8.text c.requires.some (subst (λ b. b < 128) (first_byte c.args.text.now) c.requires.ascii)
