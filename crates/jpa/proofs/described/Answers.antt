use Rattle.std.proofs.lemmas.Result.{err_from_is_err_and}
use Rattle.jpa.proofs.Steps.{functions_refused, mapping_refused}
use Rattle.jpa.proofs.described.Goals as goal

pub returns-in_err-metamodel-clause-refused : goal.returns-in_err-metamodel-clause-refused
returns-in_err-metamodel-clause-refused c =
    let p = err_from_is_err_and c.from_residual.result c.from_residual.ensures.1 in
    rw (p.1, p.2) (mapping_refused c.args.bytes.now _ c.in_err-metamodel.ensures.read)

pub returns-in_err-functions-clause-refused : goal.returns-in_err-functions-clause-refused
returns-in_err-functions-clause-refused c =
    let p = err_from_is_err_and c.from_residual-in_err-functions.result c.from_residual-in_err-functions.ensures.1 in
    rw (p.1, p.2) (functions_refused c.args.bytes.now _ c.in_err-functions.ensures.functions)
