use Rattle.std.proofs.Common.{◌≡◌, ◌∙◌, Vec, Global, Err, Some, ap, subst}
use Rattle.jpql_grammar.specs.declared.grammar.token.Token.{Token}
use Rattle.jpql_grammar.specs.grammar.Lists.{are_used}
use Rattle.jpql_grammar.specs.lexer.Gives.{Gives}
use Rattle.jpql_text.proofs.text.Whole.{used_in, used_in_none}
use Rattle.jpql_text.proofs.text.read.uses_lists.Goals as goal

pub returns-in-Ok-clause-uses : goal.returns-in-Ok-clause-uses
returns-in-Ok-clause-uses c =
    used_in c.args.language c.args.lists.now c.args.text.now c.in-Ok.written.items c.are_used.result c.in-Ok.ensures.found
    (c.are_used.ensures ∙ ap (are_used c.args.lists.now) c.as_slice.ensures.value)

pub returns-in-Err-Syntax-clause-uses : goal.returns-in-Err-Syntax-clause-uses
returns-in-Err-Syntax-clause-uses c =
    used_in_none {X = Vec Token Global} c.args.language c.args.lists.now (λ v. v.items) c.args.text.now
    (λ tokens t. subst (λ e. Gives {X = Vec Token Global} (λ v. v.items) (Err e) (Some tokens)) c.in-Err-Syntax.field-0-is (c.in-Err-Syntax.ensures.only tokens t))
