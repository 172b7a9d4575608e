use Rattle.std.proofs.Common.{Some, ap, ◌∙◌, rules}
use Rattle.std.proofs.lemmas.Int.{to_z-of_z}
use mir.Syntax.{w64}
use mir.Val.{SFits}
use Rattle.jpql_grammar.proofs.lexer.Runs.{parsed_ok, parsed_err}
use Rattle.jpql_grammar.proofs.lexer.pieces.number.Goals as goal

pub returns-in-Ok : goal.returns-in-Ok
returns-in-Ok c =
    let fits : SFits w64 c.in-Ok.number = search rules in
    ap Some (to_z-of_z w64 c.in-Ok.number fits) ∙ parsed_ok c.args.digits.now c.parse.result c.in-Ok.number c.parse.ensures.value.0 c.requires.some c.requires.all c.in-Ok.is

pub returns-in-Err : goal.returns-in-Err
returns-in-Err c = parsed_err c.args.digits.now c.parse.result c.in-Err.field-0 c.parse.ensures.value.0 c.requires.some c.requires.all c.in-Err.is
